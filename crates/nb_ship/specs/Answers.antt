-- What is answered where the model has a value or a refusal.
use Rattle.std.specs.Prelude.{◌≡◌, ℕ, Option, Some, None, Result, Ok, Err}
use Rattle.nb_host.specs.declared.faults.Fault.{Fault}
use Rattle.nb_host.specs.declared.faults.Fault.TheVariants.{Refused, Device, Memory}
use Rattle.nb_host.specs.declared.refusals.Refusal.{Refusal}
use Rattle.nb_level.specs.Heads.{head_of}
use Rattle.nb_level.specs.declared.head.LevelHead.{LevelHead}
use Rattle.nb_model.specs.Levels.{Contents}

-- that value, or that refusal
abbrev pub Says : {T : Type 0} → Result T Refusal → Result T Fault → Type 0
Says told (Ok value) = told ≡ Ok value
Says told (Err (Refused refusal)) = told ≡ Err refusal
Says told (Err Device) = Unit {0}
Says told (Err Memory) = Unit {0}

-- it is a level file with this head
pub record HasHead (read : Result Contents ℕ) (head : LevelHead) : Type 0 where
  pub contents : Contents
  pub is : read ≡ Ok contents
  pub named : head_of head ≡ contents.head

-- The head of a level file, and none of bytes that are no level file. Nothing is refused.
abbrev pub HeadSays : Result Contents ℕ → Result (Option LevelHead) Fault → Type 0
HeadSays read (Ok (Some head)) = HasHead read head
HeadSays read (Ok None) = (at : ℕ) × (read ≡ Err at)
HeadSays read (Err (Refused refusal)) = ⊥
HeadSays read (Err Device) = Unit {0}
HeadSays read (Err Memory) = Unit {0}
