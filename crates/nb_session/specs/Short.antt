-- Where memory ran out in a turn.
use Rattle.std.specs.Prelude.{◌≡◌, List, [], ◌++◌, ℕ, Bool, true, Option, Some, None, Result, Ok, Err}
use Rattle.nb_host.specs.World.{World}
use Rattle.nb_host.specs.Moments.{AtEachMoment}
use Rattle.nb_host.specs.declared.faults.RunError.{RunError}
use Rattle.nb_host.specs.declared.faults.RunError.TheVariants.{Device, Memory}
use Rattle.nb_change.specs.Changes.{Reached}
use Rattle.nb_lines.specs.Brief.{is_brief}
use Rattle.nb_model.specs.declared.reply.Reply.{Reply}
use Rattle.nb_model.specs.Strokes.{Stroke}
use Rattle.nb_model.specs.Trail.{Trail, StandsIn, after_stroke}

-- memory ran out
abbrev pub RanOut : {T : Type 0} → Result T RunError → Type 0
RanOut (Ok value) = ⊥
RanOut (Err Device) = ⊥
RanOut (Err Memory) = Unit {0}

-- it was done to its end
abbrev pub CameToEnd : {T : Type 0} → Result T RunError → Type 0
CameToEnd (Ok value) = Unit {0}
CameToEnd (Err error) = ⊥

-- a reply, if there is one, that says what was done: of no other is it promised that its line needs no memory then
abbrev pub says_done : Option Reply → Bool
says_done None = true
says_done (Some reply) = is_brief reply

-- Of these operations a prefix was made and no other, all of them only where there are none: at each moment a crash leaves the database after a
-- prefix of that prefix.
pub record LacksLast (old new : World) (name : List ℕ) (t : Trail) (strokes : List Stroke) : Type 0 where
  pub few : List Stroke
  pub rest : List Stroke
  pub whole : few ++ rest ≡ strokes
  pub short : rest ≡ [] → strokes ≡ []
  pub left : AtEachMoment old new (λ files said. Reached after_stroke (StandsIn name) t few files)
