-- The pages in danger that are found of a database.
use Rattle.std.specs.Prelude.{◌≡◌, ◌≢◌, ℕ, List, Option, None, Result, Ok, Err}
use Rattle.nb_host.specs.Files.{Files}
use Rattle.nb_host.specs.declared.faults.Fault.{Fault}
use Rattle.nb_host.specs.declared.faults.RunError.{RunError}
use Rattle.nb_ended.specs.declared.status.Status.{Status}
use Rattle.nb_ended.specs.declared.status.Status.TheVariants.{Device, Memory}
use Rattle.nb_model.specs.Account.{Base}
use Rattle.nb_model.specs.Trail.{ShowsIn}
use Rattle.nb_model.specs.declared.job.Ask.TheVariants.{Check as CheckAsk}
use Rattle.nb_model.specs.declared.job.Job.{Job}
use Rattle.nb_model.specs.declared.job.Job.TheVariants.{Attach}
use Rattle.nb_model.specs.declared.statement.Statement.{Statement}
use Rattle.nb_model.specs.declared.statement.Statement.TheVariants.{Check}
use Rattle.nb_session.specs.Dangers.{danger_after}

-- what one statement finds of the database of that name, as these files have it
abbrev pub FindsIn : Files → (name : List ℕ) → Statement → (found : Option (List ℕ)) → Type 0
FindsIn files name statement found = (base : Base) → ShowsIn name base files → found ≡ danger_after statement base.image None

-- what is found of the database that a job checks, within a run: all its pages in danger, or none where the check is refused
abbrev pub IsDangerOf : Result Status RunError → (found : Option (List ℕ)) → Files → Job → Type 0
IsDangerOf (Ok status) found files job = (db : List ℕ) → job ≡ Attach db CheckAsk → FindsIn files db Check found
IsDangerOf (Err stop) found files job = Unit {0}

-- and after one that ends so
abbrev pub IsDanger : (status : Status) → (found : Option (List ℕ)) → Files → Result Job Fault → Type 0
IsDanger status found files read = status ≢ Device → status ≢ Memory → (db : List ℕ) → read ≡ Ok (Attach db CheckAsk) → FindsIn files db Check found
