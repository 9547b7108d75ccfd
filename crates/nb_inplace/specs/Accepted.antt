-- A standby and a level file that is merged into it, as far as the file's head says.
use Rattle.std.specs.Prelude.{◌≡◌, ℕ, List, Some, None, Result, Ok, Err}
use Rattle.nb_host.specs.Files.{Files}
use Rattle.nb_host.specs.declared.faults.Fault.{Fault}
use Rattle.nb_host.specs.declared.faults.Fault.TheVariants.{Refused, Device, Memory}
use Rattle.nb_model.specs.Causes.{not_database}
use Rattle.nb_model.specs.InPlace.{not_standby, in_place}
use Rattle.nb_model.specs.Levels.{Contents, read_level}
use Rattle.nb_level.specs.Heads.{head_of}
use Rattle.nb_level.specs.Reading.{Reading, still_to_come}
use Rattle.nb_inplace.specs.Standby.{IsStandby}
use Rattle.nb_inplace.specs.Tests.{head_cause}
use Rattle.nb_inplace.specs.declared.standby.Standby.{Standby}

-- the reader is behind the head of a level file, which holds this
pub record IsReaderOf (files : Files) (name : List ℕ) (c : Contents) (reader : Reading) : Type 0 where
  pub bytes : List ℕ
  pub there : files name ≡ Some bytes
  pub read : read_level bytes ≡ Ok c
  pub named : reader.name ≡ name
  pub head : head_of reader.head ≡ c.head
  pub coming : still_to_come bytes reader ≡ Ok c.pages

-- these bytes stand there, and nothing speaks against the merge but the stamps
pub record IsFitFor (files : Files) (standby name : List ℕ) (s : Standby) (reader : Reading) : Type 0 where
  pub bytes : List ℕ
  pub there : files standby ≡ Some bytes
  pub formed : not_database bytes ≡ None
  pub stands : not_standby standby (Some bytes) ≡ None
  pub is : IsStandby bytes s
  pub contents : Contents
  pub level : IsReaderOf files name contents reader
  pub clear : head_cause s name contents ≡ None

abbrev pub AcceptSays : Files → (standby name : List ℕ) → Result (Standby × Reading) Fault → Type 0
AcceptSays files standby name (Ok found) = IsFitFor files standby name found.0 found.1
AcceptSays files standby name (Err (Refused refusal)) = in_place files standby name ≡ Err refusal
AcceptSays files standby name (Err Device) = Unit {0}
AcceptSays files standby name (Err Memory) = Unit {0}
