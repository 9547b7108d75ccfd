-- What a call makes of a database that is open.
use Rattle.std.specs.Prelude.{ℕ, List, Result, OnOk}
use Rattle.nb_host.specs.World.{World}
use Rattle.nb_host.specs.declared.faults.Fault.{Fault}
use Rattle.nb_host.specs.declared.faults.Fault.TheVariants.{Refused, Device, Memory}
use Rattle.nb_change.specs.Changes.{Changes, Names, Reached, after_all}
use Rattle.nb_model.specs.Trail.{Trail, StandsIn, after_stroke}
use Rattle.nb_model.specs.Strokes.{Stroke}
use Rattle.nb_base.specs.Firm.{StandsFirm}
use Rattle.nb_base.specs.Open.{OfFiles}
use Rattle.nb_base.specs.Touches.{WrittenIn}

-- Those files alone are touched. At each moment a crash leaves what may be left of what was seen after a prefix of these operations.
abbrev pub StrikesOn : (old new : World) → Names → (name : List ℕ) → Trail → List Stroke → Type 0
StrikesOn old new names name t strokes = Changes old new names (Reached after_stroke (StandsIn name) t strokes)

-- The files are those that the backup state has pages written to.
abbrev pub StrikesIn : (old new : World) (state : ℕ) (name : List ℕ) → Trail → List Stroke → Type 0
StrikesIn old new state name t strokes = StrikesOn old new (WrittenIn state name) name t strokes

-- They are the two files of the database.
abbrev pub Strikes : (old new : World) (name : List ℕ) → Trail → List Stroke → Type 0
Strikes old new name t strokes = StrikesOn old new (OfFiles name) name t strokes

-- what was seen after strokes
abbrev pub after_strokes : Trail → List Stroke → Trail
after_strokes t strokes = after_all after_stroke t strokes

-- The strokes are made in order, all of them at Ok, where `opened` is what is open then.
pub record TakesOn {T E : Type 0} (result : Result T E) (old new : World) (names : Names) (name : List ℕ) (opened : Trail → Type 0) (t : Trail) (strokes : List Stroke) : Type 0 where
  pub left : StrikesOn old new names name t strokes
  pub done : OnOk result (opened (after_strokes t strokes))

-- The same, where the two files of the database may be touched.
abbrev pub Takes : {T E : Type 0} (result : Result T E) (old new : World) (name : List ℕ) (opened : Trail → Type 0) (t : Trail) (strokes : List Stroke) → Type 0
Takes result old new name opened t strokes = TakesOn result old new (OfFiles name) name opened t strokes

-- The same while no SCN page waits for the files.
abbrev pub StrikesFirm : (old new : World) (name : List ℕ) → Trail → List Stroke → Type 0
StrikesFirm old new name t strokes = Changes old new (OfFiles name) (Reached after_stroke (StandsFirm name) t strokes)

pub record TakesFirm {T E : Type 0} (result : Result T E) (old new : World) (name : List ℕ) (opened : Trail → Type 0) (t : Trail) (strokes : List Stroke) : Type 0 where
  pub left : StrikesFirm old new name t strokes
  pub done : OnOk result (opened (after_strokes t strokes))

-- no refusal, so want of memory or a fault of the device
abbrev pub IsNoRefusal : Fault → Type 0
IsNoRefusal (Refused refusal) = ⊥
IsNoRefusal Device = Unit {0}
IsNoRefusal Memory = Unit {0}
