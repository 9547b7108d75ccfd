-- What the words ask for can be asked.
use Rattle.std.proofs.Common.{◌≡◌, ◌⊎◌, ⊎_elim, ℕ, zero, suc, ◌-◌, ◌≤◌, List, [], ◌∷◌, ◌++◌, length, get_or, true, false, refl, sym, ap, subst, arith, Bool, ◌&&◌, not, nat_le, nat_lt, Option, Some, None, Result, Ok, Err, IfOk, IfErr, replicate, if◌then◌else◌}
use Rattle.nb_top.proofs.Common.{AllByRecursion, and_parts, le-leb, File, Files, is_name, is_delta, Fault, Refused, Device, Memory, Refusal, BadScript, ScriptLong, Usage, Ask, Stat, Backup, BackupSince, Job, Run, Gen, Attach, Turn, Ship, Statement, asks_of, name_short, Word, is_database, is_file, job_of, with_first, is_next, list_of, names_on, some_names_on, names_in, IsFurther, IsAskable, IsFile, left, lines_of, Plan, Numbered, script_of, answer_is_askable, FitsDeed, IsAskedBy, IsReadJob, Request, ToRun, ToGenerate, Asked, Runs, Does, Ships, FitsAsk, FitsJob, script_in, to_plan, to_run, plan_of, request_of, request_asked, device_memory, err_ok}
use Rattle.nb_model.specs.declared.job.Job.TheVariants.{Plan as PlanOf}
use Rattle.nb_script.specs.Fits.{IsBase}
use Rattle.nb_top.proofs.WordNames.{plain_file}
use Rattle.nb_top.proofs.WordsFit.{fits_words}

-- The statements of a script can be asked today. The name of a script that is written is none that a difference file may have.
abbrev pub CanBeAsked : Request → Type 0
CanBeAsked (ToRun plan telling) = IsAskable plan
CanBeAsked (ToGenerate number name) = is_delta name ≡ false

-- so it is of what is asked for; a deed fits, and a ship has the names of databases
abbrev pub CanBeMet : Asked → Type 0
CanBeMet (Runs (Err refusal)) = Unit {0}
CanBeMet (Runs (Ok r)) = CanBeAsked r
CanBeMet (Does deed) = FitsDeed deed
CanBeMet (Ships primary standby) = (is_database primary ≡ true) × (is_database standby ≡ true)

-- what the words ask for
pub asked_usage : (files : Files) (words : List Word) → job_of words ≡ None → request_asked files words ≡ Runs (Err Usage)
asked_usage files words is = ap (λ (j : Option Job). elim j as (λ z. Asked) [ None ↦ Runs (Err Usage) | Some job ↦ request_of files job ]) is

pub asked_job : (files : Files) (words : List Word) (job : Job) → job_of words ≡ Some job → request_asked files words ≡ request_of files job
asked_job files words job is = ap (λ (j : Option Job). elim j as (λ z. Asked) [ None ↦ Runs (Err Usage) | Some k ↦ request_of files k ]) is

-- The script of a job that asks a database these things.
none_further : (n i : ℕ) → AllByRecursion IsFurther (get_or (replicate n []) i [])
none_further zero i = tt
none_further (suc n) zero = tt
none_further (suc n) (suc i) = none_further n i

these_further : (statements : List Statement) → AllByRecursion IsFurther statements → (i : ℕ) → AllByRecursion IsFurther (get_or (statements ∷ replicate 15 []) i [])
these_further statements are zero = are
these_further statements are (suc i) = none_further 15 i

swapped : (a b d : Bool) → (a && d && b) ≡ true → (a && b && d) ≡ true
swapped true true true h = refl
swapped true true false h = h
swapped true false true h = h
swapped true false false h = h
swapped false b d h = h

base_given : (db : List ℕ) → is_database db ≡ true → IsBase db
base_given db is = swapped (is_name db) (nat_le (length db) 94) (not (is_delta db)) is

pub plan_askable : (db : List ℕ) (statements : List Statement) → is_database db ≡ true → AllByRecursion IsFurther statements → length statements ≤ 2 → IsAskable (plan_of db statements)
plan_askable db statements is further short = record {
  asker = (omega arith, omega arith);
  first = record { opens = refl; fits = (base_given db is, omega arith, omega arith) };
  order = record { few = omega arith; each = tt };
  sixteen = refl;
  few = omega arith;
  further = λ session. these_further statements further (session - 1);
}

-- a name of a file has 100 bytes at most
file_given : (name : List ℕ) → is_file name ≡ true → IsFile name
file_given name is =
    let parts = and_parts (is_name name) (not (is_delta name)) is in
    three (is_name name) (nat_le (length name) 100) (not (is_delta name)) parts.0 (le-leb (length name) 100 (name_short name parts.0)) parts.1
  where
    three : (a b d : Bool) → a ≡ true → b ≡ true → d ≡ true → (a && b && d) ≡ true
    three true true true h k l = refl
    three true true false h k l = l
    three true false d h k l = k
    three false b d h k l = h

-- what is asked of a database
further_asked : (ask : Ask) → FitsAsk ask → AllByRecursion IsFurther (asks_of ask)
further_asked (Backup level file) fits = (record { opens_none = refl; fits = (fits.0, file_given file fits.1) }, tt)
further_asked (BackupSince guid file) fits = (record { opens_none = refl; fits = file_given file fits }, tt)
further_asked Stat fits = (record { opens_none = refl; fits = tt }, (record { opens_none = refl; fits = tt }, tt))
further_asked other fits = (record { opens_none = refl; fits = tt }, tt)

few_asked : (ask : Ask) → length (asks_of ask) ≤ 2
few_asked Stat = omega arith
few_asked other = omega arith

pub attach_askable : (db : List ℕ) (ask : Ask) → is_database db ≡ true → FitsAsk ask → IsAskable (plan_of db (asks_of ask))
attach_askable db ask is fits = plan_askable db (asks_of ask) is (further_asked ask fits) (few_asked ask)

-- A script that a file spells can be asked.
pub askable_in : (name : List ℕ) (file : File) (plan : Plan) → script_in name file ≡ Ok plan → IsAskable plan
askable_in name None plan is = absurd (err_ok {E = Refusal} _ plan is)
askable_in name (Some bytes) plan is = answer_is_askable bytes (Ok plan) is

-- and so can one that some bytes spell
pub spelled_can : (bytes : List ℕ) (s : Result Plan Refusal) → script_of bytes ≡ s → CanBeMet (Runs (to_run s))
spelled_can bytes (Ok plan) is = answer_is_askable bytes (Ok plan) is
spelled_can bytes (Err refusal) is = tt

-- a list that some bytes spell has 1,000 names at most
abbrev HasFew : (most : ℕ) → Result (List (List ℕ)) Refusal → Type 0
HasFew most (Ok names) = length names ≤ most
HasFew most (Err refusal) = Unit {0}

first_few : (most : ℕ) (name : List ℕ) (rest : Result (List (List ℕ)) Refusal) → HasFew most rest → HasFew (suc most) (with_first name rest)
first_few most name (Ok names) few = omega (arith, few)
first_few most name (Err refusal) few = tt

names_few : (most : ℕ) (before : List (List ℕ)) (lines : List Numbered) → HasFew most (names_on most before lines)
unfolding names_on
names_few zero before [] = omega arith
names_few (suc most) before [] = omega arith
names_few zero before (line ∷ lines) = tt
names_few (suc most) before (line ∷ lines) = by (is_next before line.1) (names_few most (before ++ line.1 ∷ []) lines)
  where
    by : (b : Bool) → HasFew most (names_on most (before ++ line.1 ∷ []) lines) → HasFew (suc most) (if b then with_first line.1 (names_on most (before ++ line.1 ∷ []) lines) else Err (BadScript line.0))
    by true rest = first_few most line.1 (names_on most (before ++ line.1 ∷ []) lines) rest
    by false rest = tt

some_few : (count : ℕ) (lines : List Numbered) → HasFew 1000 (some_names_on count lines)
unfolding some_names_on
some_few count [] = tt
some_few count (line ∷ lines) = names_few 1000 [] (line ∷ lines)

list_few : (bytes : List ℕ) → HasFew 1000 (list_of bytes)
unfolding list_of
list_few bytes = by (nat_lt 1048576 (length bytes))
  where
    by : (b : Bool) → HasFew 1000 (if b then Err (ScriptLong (length bytes)) else some_names_on (length (lines_of bytes)) (left 0 bytes))
    by true = tt
    by false = some_few (length (lines_of bytes)) (left 0 bytes)

-- so they can be planned for
plan_can : (keep : ℕ) (names : Result (List (List ℕ)) Refusal) → HasFew 1000 names → CanBeMet (to_plan keep names)
plan_can keep (Ok names) few = few
plan_can keep (Err refusal) few = tt

pub list_can : (keep : ℕ) (bytes : List ℕ) → CanBeMet (to_plan keep (list_of bytes))
list_can keep bytes = plan_can keep (list_of bytes) (list_few bytes)

pub listed_can : (keep : ℕ) (list : List ℕ) (file : File) → CanBeMet (to_plan keep (names_in list file))
listed_can keep list None = tt
listed_can keep list (Some bytes) = list_can keep bytes

-- What the words ask for can be asked.
module _ (files : Files) where
  pub script_can : (name : List ℕ) (s : Result Plan Refusal) → script_in name (files name) ≡ s → CanBeMet (Runs (to_run s))
  script_can name (Ok plan) is = askable_in name (files name) plan is
  script_can name (Err refusal) is = tt

  pub job_can : (job : Job) → FitsJob job → CanBeMet (request_of files job)
  job_can (Run name) fits = script_can name (script_in name (files name)) refl
  job_can (Gen number name) fits = plain_file name fits
  job_can (Attach db ask) fits = attach_askable db ask fits.0 fits.1
  job_can (Turn deed) fits = fits
  job_can (PlanOf keep list) fits = listed_can keep list (files list)
  job_can (Ship primary standby) fits = fits

  pub can_be_asked : (words : List Word) → CanBeMet (request_asked files words)
  can_be_asked words = by (job_of words) refl
    where
      by : (job : Option Job) → job_of words ≡ job → CanBeMet (elim job as (λ z. Asked) [ None ↦ Runs (Err Usage) | Some k ↦ request_of files k ])
      by None is = tt
      by (Some job) is = job_can job (fits_words words job is)

pub unread_words : (words : List Word) (answer : Result Job Fault) (refusal : Refusal) → answer ≡ Err (Refused refusal) → IfErr answer (λ (fault : Fault). (fault ≡ Memory) ⊎ ((fault ≡ Refused Usage) × (job_of words ≡ None)))
    → job_of words ≡ None
unread_words words answer refusal is why =
    ⊎_elim (λ memory. absurd (refused_memory memory)) (λ usage. usage.1) (subst (λ (a : Result Job Fault). IfErr a (λ (fault : Fault). (fault ≡ Memory) ⊎ ((fault ≡ Refused Usage) × (job_of words ≡ None)))) is why)
  where
    refused_memory : Refused refusal ≡ Memory → ⊥
    refused_memory h = cc

-- What was read of words can be met.
pub read_can : (files : Files) (read : Result Job Fault) (asked : Asked) → IsReadJob read → IsAskedBy read files asked → CanBeMet asked
read_can files (Ok job) asked fits by = subst CanBeMet (sym by) (job_can files job fits)
read_can files (Err (Refused refusal)) asked fits by = subst CanBeMet (sym by) tt
read_can files (Err Memory) asked fits by = subst CanBeMet (sym by.1) (can_be_asked files by.0)
read_can files (Err Device) asked fits by = absurd fits

-- what was read is what the words name
pub read_fits : (words : List Word) (read : Result Job Fault) → IfOk read (λ (job : Job). job_of words ≡ Some job) → IfErr read (λ (fault : Fault). (fault ≡ Memory) ⊎ ((fault ≡ Refused Usage) × (job_of words ≡ None))) → IsReadJob read
read_fits words (Ok job) is none = fits_words words job is
read_fits words (Err (Refused refusal)) is none = tt
read_fits words (Err Memory) is none = tt
read_fits words (Err Device) is none = ⊎_elim (λ memory. device_memory memory) (λ usage. refused usage.0) none
  where
    refused : Device ≡ Refused Usage → ⊥
    refused h = cc

pub read_asks : (files : Files) (words : List Word) (read : Result Job Fault) → IfOk read (λ (job : Job). job_of words ≡ Some job) → IfErr read (λ (fault : Fault). (fault ≡ Memory) ⊎ ((fault ≡ Refused Usage) × (job_of words ≡ None)))
    → IsAskedBy read files (request_asked files words)
read_asks files words (Ok job) is none = asked_job files words job is
read_asks files words (Err (Refused refusal)) is none = asked_usage files words (unread_words words (Err (Refused refusal)) refusal refl none)
read_asks files words (Err Memory) is none = (words, refl)
read_asks files words (Err Device) is none = read_fits words (Err Device) is none
