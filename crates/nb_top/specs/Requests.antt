-- What the words of the command line ask for.
use Rattle.std.specs.Prelude.{◌≡◌, ℕ, ◌≤◌, true, false, List, [], ◌∷◌, replicate, None, Some, Result, Ok, Err}
use Rattle.nb_host.specs.Files.{File, Files}
use Rattle.nb_host.specs.declared.faults.Fault.{Fault}
use Rattle.nb_host.specs.declared.faults.Fault.TheVariants.{Refused as RefusedFault, Device, Memory}
use Rattle.nb_host.specs.declared.refusals.Refusal.{Refusal}
use Rattle.nb_host.specs.declared.refusals.Refusal.TheVariants.{Usage, NoFile}
use Rattle.nb_model.specs.declared.job.Ask.{Ask}
use Rattle.nb_model.specs.declared.job.Ask.TheVariants.{Backup, BackupSince}
use Rattle.nb_model.specs.declared.job.Deed.{Deed}
use Rattle.nb_model.specs.declared.job.Deed.TheVariants.{Plan as PlanFiles}
use Rattle.nb_model.specs.declared.job.Job.{Job}
use Rattle.nb_model.specs.declared.job.Job.TheVariants.{Run, Gen, Attach, Turn, Plan as PlanOf, Ship}
use Rattle.nb_model.specs.declared.statement.Statement.{Statement}
use Rattle.nb_model.specs.declared.statement.Statement.TheVariants.{OpenDb}
use Rattle.nb_model.specs.Jobs.{usual_cache, asks_of, asks_size}
use Rattle.nb_model.specs.Words.{job_of, is_database, is_file}
use Rattle.nb_catalog.specs.Turns.{names_in}
use Rattle.nb_script.specs.Scripts.{Plan, script_of}
use Rattle.nb_top.specs.declared.telling.Telling.{Telling}
use Rattle.nb_top.specs.declared.telling.Telling.TheVariants.{All, Quietly, WithSize}
use Rattle.nb_top.specs.OneTurn.{FitsDeed}

-- what is asked of a database names a level and a file that words may give
abbrev pub FitsAsk : Ask → Type 0
FitsAsk (Backup level file) = (level ≤ 9) × (is_file file ≡ true)
FitsAsk (BackupSince guid file) = is_file file ≡ true
FitsAsk other = Unit {0}

-- the names of a job are those that words may give
abbrev pub FitsJob : Job → Type 0
FitsJob (Run script) = Unit {0}
FitsJob (Gen number script) = is_file script ≡ true
FitsJob (Attach db ask) = (is_database db ≡ true) × FitsAsk ask
FitsJob (Turn deed) = FitsDeed deed
FitsJob (PlanOf keep list) = Unit {0}
FitsJob (Ship primary standby) = (is_database primary ≡ true) × (is_database standby ≡ true)

-- What a run is asked for.
pub data Request : Type 0 where
  -- the run of a script, and what is told of it
  ToRun : (plan : Plan) (telling : Telling) → Request
  -- the script of a number, which is written under a name and then run, and of which only refusals and the pages by kind are told
  ToGenerate : (number : ℕ) (name : List ℕ) → Request

-- What the words ask for: a run, or why there is none, or a job of one turn, or a ship, which is told by its parts.
pub data Asked : Type 0 where
  Runs : Result Request Refusal → Asked
  Does : Deed → Asked
  Ships : (primary standby : List ℕ) → Asked

-- the script that a file spells, or why there is none
abbrev pub script_in : (name : List ℕ) → File → Result Plan Refusal
script_in name None = Err (NoFile name)
script_in name (Some bytes) = script_of bytes

-- to run it
abbrev pub to_run : Result Plan Refusal → Result Request Refusal
to_run (Ok plan) = Ok (ToRun plan All)
to_run (Err refusal) = Err refusal

-- the script of a job that opens a database and asks it these things
abbrev pub plan_of : (db : List ℕ) → List Statement → Plan
plan_of db statements = record { first_session = 1; first = OpenDb db usual_cache; schedule = []; sessions = statements ∷ replicate 15 [] }

-- how much of it is told
abbrev pub telling_of : Ask → Telling
telling_of ask = elim (asks_size ask) [ true ↦ WithSize | false ↦ Quietly ]

-- the run of that script
abbrev pub attached : (db : List ℕ) → Ask → Request
attached db ask = ToRun (plan_of db (asks_of ask)) (telling_of ask)

-- to plan for the files of a list, or why there is none
abbrev pub to_plan : (keep : ℕ) → Result (List (List ℕ)) Refusal → Asked
to_plan keep (Ok names) = Does (PlanFiles keep names)
to_plan keep (Err refusal) = Runs (Err refusal)

-- what a job asks for
abbrev pub request_of : Files → Job → Asked
request_of files (Run script) = Runs (to_run (script_in script (files script)))
request_of files (Gen number script) = Runs (Ok (ToGenerate number script))
request_of files (Attach db ask) = Runs (Ok (attached db ask))
request_of files (Turn deed) = Does deed
request_of files (PlanOf keep list) = to_plan keep (names_in list (files list))
request_of files (Ship primary standby) = Ships primary standby

-- what the words ask for
abbrev pub request_asked : Files → (words : List (List ℕ)) → Asked
request_asked files words = elim (job_of words) [ None ↦ Runs (Err Usage) | Some job ↦ request_of files job ]

-- What was read of words: a job whose names they may give, or that they name none, or that memory was too short to read them.
abbrev pub IsReadJob : Result Job Fault → Type 0
IsReadJob (Ok job) = FitsJob job
IsReadJob (Err (RefusedFault refusal)) = Unit {0}
IsReadJob (Err Memory) = Unit {0}
IsReadJob (Err Device) = ⊥

-- they name none
abbrev pub NamesNone : Result Job Fault → Type 0
NamesNone (Err (RefusedFault refusal)) = Unit {0}
NamesNone (Ok job) = ⊥
NamesNone (Err Memory) = ⊥
NamesNone (Err Device) = ⊥

-- what they ask for, which isn't known where memory was too short
abbrev pub IsAskedBy : Result Job Fault → Files → Asked → Type 0
IsAskedBy (Ok job) files asked = asked ≡ request_of files job
IsAskedBy (Err (RefusedFault refusal)) files asked = asked ≡ Runs (Err Usage)
IsAskedBy (Err Memory) files asked = (words : List (List ℕ)) × (asked ≡ request_asked files words)
IsAskedBy (Err Device) files asked = ⊥
