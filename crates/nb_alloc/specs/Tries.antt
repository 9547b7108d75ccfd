-- What a call does that may be refused before its strokes, and what it has done where memory ran out.
use Rattle.std.specs.Prelude.{◌≡◌, List, [], ◌∷◌, ◌++◌, Some, Result, Ok, Err}
use Rattle.nb_host.specs.World.{World}
use Rattle.nb_host.specs.declared.faults.Fault.{Fault}
use Rattle.nb_host.specs.declared.faults.Fault.TheVariants.{Refused, Device, Memory}
use Rattle.nb_host.specs.declared.refusals.Refusal.{Refusal}
use Rattle.nb_page.specs.Quiet.{Quiet}
use Rattle.nb_model.specs.Causes.{Cause, Tested}
use Rattle.nb_model.specs.Strokes.{Stroke}
use Rattle.nb_model.specs.Trail.{Trail}
use Rattle.nb_base.specs.Takes.{Strikes, after_strokes}
use Rattle.nb_state.specs.Open.{Held, IsOpen, name_of}
use Rattle.nb_state.specs.Does.{unless_by, Makes}

-- P holds where the call answered Memory
abbrev pub WhereMemory : {T : Type 0} → Result T Fault → Type 0 → Type 0
WhereMemory (Ok value) P = Unit {0}
WhereMemory (Err (Refused refusal)) P = Unit {0}
WhereMemory (Err Device) P = Unit {0}
WhereMemory (Err Memory) P = P

-- Memory ran out before the last of these strokes: a prefix of them that lacks the last was made and no other, and the database is open after it.
pub record StopsShort (old new : World) (before after : Held) (t : Trail) (strokes : List Stroke) : Type 0 where
  pub made : List Stroke
  pub next : Stroke
  pub rest : List Stroke
  pub whole : made ++ next ∷ rest ≡ strokes
  pub left : Strikes old new (name_of before) t made
  pub opened : IsOpen new after (after_strokes t made)

-- The call is refused where there is this cause, and changes nothing then, whatever is answered. Otherwise it makes these strokes. It answers
-- Memory only where it isn't refused, and before the last of them.
pub record Tries {T : Type 0} (result : Result T Fault) (old new : World) (before after : Held) (t : Trail) (cause : Cause) (strokes : List Stroke) : Type 0 where
  pub test : Tested result cause
  pub makes : Makes result old new before after t (unless_by cause strokes)
  pub idle : (r : Refusal) → cause ≡ Some r → Quiet old new
  pub stops : WhereMemory result (StopsShort old new before after t (unless_by cause strokes))

-- Memory ran out in a call that makes these strokes, if it makes any: a prefix of them was made and no other, which is all of them only where
-- there are none, and the database is open after it.
pub record StopsEarly (old new : World) (before after : Held) (t : Trail) (strokes : List Stroke) : Type 0 where
  pub made : List Stroke
  pub rest : List Stroke
  pub whole : made ++ rest ≡ strokes
  pub short : rest ≡ [] → strokes ≡ []
  pub left : Strikes old new (name_of before) t made
  pub opened : IsOpen new after (after_strokes t made)
