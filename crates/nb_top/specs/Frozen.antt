-- The main file while a backup is under way.
use Rattle.std.specs.Prelude.{◌≡◌, ℕ, ◌-◌, List, [], ◌∷◌, false}
use Rattle.std.specs.List.{slice_index_or}
use Rattle.nb_fields.specs.States.{stalled_state}
use Rattle.nb_host.specs.World.{World}
use Rattle.nb_model.specs.Image.{image_state}
use Rattle.nb_model.specs.Outcomes.{Turn}
use Rattle.nb_model.specs.Run.{Event, Now, one_turn, play}
use Rattle.nb_model.specs.Steps.{steps_of, after_steps}
use Rattle.nb_model.specs.Trail.{Trail}
use Rattle.nb_session.specs.ByTurns.{ByTurns}
use Rattle.nb_session.specs.Files.{IsUntouched, is_end}

-- the first of these turns is taken in the stalled state, and doesn't end it
abbrev pub IsDuring : List Turn → Trail → Type 0
IsDuring [] t = Unit {0}
IsDuring (turn ∷ rest) t = (image_state t.base.image ≡ stalled_state) × (is_end turn ≡ false)

-- so is each turn of this order
abbrev pub AreDuring : (order : List ℕ) → Trail → Now → Type 0
AreDuring [] t now = Unit {0}
AreDuring (session ∷ order) t now =
    IsDuring (slice_index_or now.todo (session - 1) []) t × AreDuring order (after_steps t (steps_of (one_turn session now).0)) (one_turn session now).1

-- Among turns, those of a stretch left the main file alone.
pub record StaysWithin {H : Type 0} (world : H → World) (told : List Event → List Event) (front stretch rest : List ℕ) (old new : H) (t : Trail) (now : Now) : Type 0 where
  pub entered : H
  pub left : H
  pub before : ByTurns world told front old entered t now
  pub untouched : IsUntouched (world entered) (world left) now.name
  pub after : ByTurns world told rest left new
      (after_steps (after_steps t (steps_of (play front now).0)) (steps_of (play stretch (play front now).1).0)) (play stretch (play front now).1).1
