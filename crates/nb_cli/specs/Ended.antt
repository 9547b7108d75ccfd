-- How the program ends.
use Rattle.std.specs.Prelude.{◌≡◌, ◌≢◌, ◌⊎◌, ℕ, Bool, IsTrue, IfOk, List, String, map, drop, string_bytes, Option, None, Some, Result, Ok, Err}
use Rattle.std.specs.Global.{Global, Vec}
use Rattle.std.specs.IoError.{error_kind}
use Rattle.std.specs.declared.io.Error.{Error}
use Rattle.std.specs.declared.io.ErrorKind.TheVariants.{OutOfMemory}
use Rattle.nb_host.specs.Calls.{IsSilent, IsStill}
use Rattle.nb_host.specs.Files.{Files}
use Rattle.nb_host.specs.Moments.{Passes}
use Rattle.nb_host.specs.World.{World}
use Rattle.nb_host.specs.declared.faults.Fault.{Fault}
use Rattle.nb_host.specs.declared.faults.Fault.TheVariants.{Refused, Memory}
use Rattle.nb_host.specs.declared.refusals.Refusal.TheVariants.{Usage}
use Rattle.nb_model.specs.declared.job.Job.{Job}
use Rattle.nb_model.specs.Words.{job_of}
use Rattle.nb_ended.specs.Numbers.{number_of}
use Rattle.nb_ended.specs.declared.status.Status.{Status}
use Rattle.nb_ended.specs.declared.status.Status.TheVariants.{Device}
use Rattle.nb_top.specs.Goes.{IsRun}
use Rattle.nb_top.specs.Requests.{Asked, Runs, request_asked}
use Rattle.nb_top.specs.Dangers.{IsDanger}
use Rattle.nb_top.specs.Shown.{IsShown}
use Rattle.nb_script.specs.Scripts.{Plan}
use Rattle.nb_beside.specs.Changed.{IsHeld, IsScriptOf, changed_by}
use Rattle.nb_beside.specs.declared.beside.End.{End}

-- What is asked for was done, and what still waited was then given to the system. The status is that of the run, or Device where what
-- waited couldn't be written.
pub record EndsRun {H : Type 0} (tells : Bool) (world : H → World) (status : Status) (old new : H) (asked : Asked) : Type 0 where
  pub ran : Status
  pub behind : H
  pub run : IsRun world tells ran old behind asked
  pub still : IsStill (world behind) (world new)
  pub silent : IsSilent (world behind) (world new)
  pub passes : Passes (world behind) (world new)
  pub ended : (status ≡ ran) ⊎ (status ≡ Device)

-- the words of the command line, or why they weren't read
abbrev pub Words : Type 0
Words = Result (Vec (String Global)) Error

-- What was read of the words: the job that they name, or that they name none, or that memory was too short to read them. A word that is no text
-- names none.
abbrev pub IsReadOf : Words → Result Job Fault → Type 0
IsReadOf (Ok words) (Ok job) = job_of (map string_bytes words.items) ≡ Some job
IsReadOf (Ok words) (Err fault) = (fault ≡ Memory) ⊎ ((fault ≡ Refused Usage) × (job_of (map string_bytes words.items) ≡ None))
IsReadOf (Err error) read = ((read ≡ Err Memory) × (error_kind error ≡ OutOfMemory)) ⊎ ((read ≡ Err (Refused Usage)) × (error_kind error ≢ OutOfMemory))

-- a job that isn't done for want of memory; what names none stays so
abbrev pub IsWithoutMemory : Result Job Fault → Result Job Fault → Type 0
IsWithoutMemory (Ok job) given = given ≡ Err Memory
IsWithoutMemory (Err fault) given = given ≡ Err fault

-- How the run begins: it is given the job that was read of the words, on a host that holds alone the databases which that job may write, of a ship
-- the primary and then the standby. The script
-- of a job that runs one was read to know it. Where memory was too short for that, the run is given no job.
pub record BeginsRun {H : Type 0} (tells : Bool) (world : H → World) (alone : H → List (List ℕ)) (words : Words) (job : Result Job Fault) (script : Option Plan) (old begun : H) : Type 0 where
  pub read : IsReadOf words job
  pub held : IfOk job (λ job. IsHeld (changed_by script job) (alone old) (alone begun))
  pub told : IsTrue tells → IfOk job (λ job. IsScriptOf (world old).files job script)
  pub still : IsStill (world old) (world begun)
  pub silent : IsSilent (world old) (world begun)
  pub passes : Passes (world old) (world begun)

-- So the program ends, with the number of such a status, and a reader was told how: of the line that is refused, if one is, and of the pages in danger of
-- a database that was checked.
pub record ExitsAs {H : Type 0} (tells : Bool) (world : H → World) (alone : H → List (List ℕ)) (told : H → End → Type 0) (words : Words) (code : ℕ) (old new : H) (asked : Asked) : Type 0 where
  pub job : Result Job Fault
  pub script : Option Plan
  pub begun : H
  pub begins : BeginsRun tells world alone words job script old begun
  pub status : Status
  pub ends : EndsRun tells world status begun new asked
  pub number : code ≡ number_of status
  pub end : End
  pub tells_end : told new end
  pub tells_status : end.status ≡ status
  pub shows : IsTrue tells → IsShown status end.broken asked
  pub danger : IsTrue tells → IsDanger status end.danger (world old).files job

-- what they ask for, which isn't known where memory was too short to have them
abbrev pub IsAskedOf : Words → Files → Asked → Type 0
IsAskedOf (Ok words) files asked = asked ≡ request_asked files (map string_bytes words.items)
IsAskedOf (Err error) files asked = (error_kind error ≢ OutOfMemory → asked ≡ Runs (Err Usage)) × (error_kind error ≡ OutOfMemory → (words : List (List ℕ)) × (asked ≡ request_asked files words))

-- the arguments of the program, of which the first is its own name, or why they weren't read
abbrev pub Arguments : Type 0
Arguments = Result (List (String Global)) Error

-- the arguments that are still to come, of whatever gives them
abbrev pub listed : {I : Type 0} → (I → List (String Global)) → Result I Error → Arguments
listed items (Ok args) = Ok (items args)
listed items (Err error) = Err error

-- the bytes of the words among them: all but the first
abbrev pub texts_of : List (String Global) → List (List ℕ)
texts_of args = map string_bytes (drop 1 args)

-- the words among them, or that memory was too short for them, or why they weren't read
abbrev pub AreWordsOf : Arguments → Words → Type 0
AreWordsOf (Ok args) (Ok words) = words.items ≡ drop 1 args
AreWordsOf (Ok args) (Err error) = error_kind error ≡ OutOfMemory
AreWordsOf (Err error) words = words ≡ Err error

-- what they ask for, which isn't known where memory was too short to read them
abbrev pub IsAskedIn : Arguments → Files → Asked → Type 0
IsAskedIn (Ok args) files asked = asked ≡ request_asked files (texts_of args)
IsAskedIn (Err error) files asked = (error_kind error ≢ OutOfMemory → asked ≡ Runs (Err Usage)) × (error_kind error ≡ OutOfMemory → (words : List (List ℕ)) × (asked ≡ request_asked files words))

-- So the program ends whose arguments these are.
pub record ExitsOn {H : Type 0} (tells : Bool) (world : H → World) (alone : H → List (List ℕ)) (told : H → End → Type 0) (args : Arguments) (code : ℕ) (old new : H) (asked : Asked) : Type 0 where
  pub words : Words
  pub read : AreWordsOf args words
  pub exits : ExitsAs tells world alone told words code old new asked
