-- What a turn leaves of the two files of its database that no image shows.
use Rattle.std.specs.Prelude.{◌≡◌, ℕ, List, Bool, true, false, None}
use Rattle.nb_fields.specs.States.{stalled_state}
use Rattle.nb_host.specs.Files.{File}
use Rattle.nb_host.specs.World.{World}
use Rattle.nb_host.specs.Crash.{Leaves}
use Rattle.nb_host.specs.Moments.{AtEachMoment}
use Rattle.nb_model.specs.declared.statement.Statement.TheVariants.{EndBackup, Activate}
use Rattle.nb_model.specs.Image.{image_size, image_state}
use Rattle.nb_model.specs.Outcomes.{Turn, Begins, Ends, Finishes}
use Rattle.nb_model.specs.Owner.{delta_name}
use Rattle.nb_model.specs.Strokes.{Stroke}
use Rattle.nb_model.specs.Trail.{Trail}
use Rattle.nb_base.specs.Stays.{GrowsWithin}

-- the turn ends the stalled state, unless it is refused
abbrev pub is_end : Turn → Bool
is_end (Begins EndBackup) = true
is_end (Begins Activate) = true
is_end (Ends reply) = true
is_end other = false

-- the turn is the last one of a merge
abbrev pub is_finish : Turn → Bool
is_finish (Finishes reply) = true
is_finish other = false

-- The file reads as before, byte for byte, and at each moment, and now, a crash leaves of it what it would have left before.
pub record IsUntouched (old new : World) (name : List ℕ) : Type 0 where
  pub moments : AtEachMoment old new (λ files said. Leaves old name (files name))
  pub left : (c : File) → Leaves new name c → Leaves old name c
  pub reads : new.files name ≡ old.files name

-- In the stalled state the main file is frozen, but for a turn that ends it. Once a merge has ended no difference file is there. And the main file
-- grows no longer than what is seen: past the image it has the zeros that it had, or those of a write that was to make it longer, and was stopped.
pub record LeavesFiles (ends : Bool) (merged : Type 0) (old new : World) (name : List ℕ) (t : Trail) (operations : List Stroke) : Type 0 where
  pub frozen : image_state t.base.image ≡ stalled_state → ends ≡ false → IsUntouched old new name
  pub gone : merged → new.files (delta_name name) ≡ None
  pub long : GrowsWithin old new name (image_size t.base.image) t operations

-- so a turn does, where it has come to its end or not
abbrev pub TurnLeaves : (ended : Type 0) (old new : World) (name : List ℕ) → Trail → Turn → List Stroke → Type 0
TurnLeaves ended old new name t turn operations = LeavesFiles (is_end turn) (ended × (is_finish turn ≡ true)) old new name t operations
