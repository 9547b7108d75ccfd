-- A copy of a stalled database becomes a database in the normal state, in place.
use Rattle.std.specs.Prelude.{◌≡◌, ◌≢◌, ◌⊎◌, ℕ, List, Some, None, Result, Ok, Err}
use Rattle.nb_fields.specs.Bytes.{bytes_of, with_part}
use Rattle.nb_host.specs.Files.{File, Files}
use Rattle.nb_host.specs.World.{World}
use Rattle.nb_host.specs.Crash.{Leaves, LeavesAll}
use Rattle.nb_host.specs.declared.faults.Fault.{Fault}
use Rattle.nb_host.specs.declared.faults.Fault.TheVariants.{Refused, Device, Memory}
use Rattle.nb_change.specs.Changes.{Changes, Only}
use Rattle.nb_change.specs.Gave.{GaveNothing}
use Rattle.nb_page.specs.Quiet.{Quiet}
use Rattle.nb_model.specs.Account.{base_of}
use Rattle.nb_model.specs.Causes.{Cause}
use Rattle.nb_model.specs.Image.{image_in}
use Rattle.nb_model.specs.Jobs.{not_fixable}
use Rattle.nb_model.specs.Owner.{delta_name}
use Rattle.nb_model.specs.Strokes.{fixed}
use Rattle.nb_model.specs.Trail.{ShowsIn}

-- why the file of that name isn't fixed
abbrev pub fixup_cause : Files → (name : List ℕ) → Cause
fixup_cause files name = not_fixable name (files name) (files (delta_name name))

-- the bytes in the normal state: zeros in place of the state, and nothing else changed
abbrev pub fixed_bytes : List ℕ → List ℕ
fixed_bytes bytes = with_part 22 (bytes_of 2 0) bytes

-- these bytes stand there, and can be fixed
pub record IsFixable (files : Files) (name bytes : List ℕ) : Type 0 where
  pub there : files name ≡ Some bytes
  pub fit : fixup_cause files name ≡ None

-- They are fixed: the file is the database of their image in the normal state.
pub record IsFixed (name bytes : List ℕ) (files : Files) : Type 0 where
  pub file : files name ≡ Some (fixed_bytes bytes)
  pub shows : ShowsIn name (base_of (fixed (image_in bytes))) files

-- what is left of the file while it is fixed: it is as it `was`, or fixed
abbrev pub FixLeft : (was : File → Type 0) (old : World) (name : List ℕ) → Files → Type 0
FixLeft was old name files = was (files name) ⊎ ((bytes : List ℕ) × IsFixable old.files name bytes × IsFixed name bytes files)

-- the file is fixed, as it reads and whatever a crash leaves of it
pub record IsKeptFixed (old new : World) (name : List ℕ) : Type 0 where
  pub bytes : List ℕ
  pub copy : IsFixable old.files name bytes
  pub left : (files : Files) → LeavesAll new files → IsFixed name bytes files
  pub now : IsFixed name bytes new.files

-- a refused call changes nothing, and none wants memory
abbrev pub FixAnswers : Result (Unit {0}) Fault → (old new : World) (name : List ℕ) → Type 0
FixAnswers (Ok value) old new name = IsKeptFixed old new name
FixAnswers (Err (Refused refusal)) old new name = Quiet old new × (fixup_cause old.files name ≡ Some refusal)
FixAnswers (Err Device) old new name = Unit {0}
FixAnswers (Err Memory) old new name = ⊥

pub record Fixes (result : Result (Unit {0}) Fault) (old new : World) (name : List ℕ) : Type 0 where
  pub answer : FixAnswers result old new name
  -- no other file is touched, and nothing is said
  pub left : Changes old new (Only name) (FixLeft (Leaves old name) old name)
  -- so the file reads, whatever is answered
  pub reads : FixLeft (λ file. file ≡ old.files name) old name new.files
  pub gave : GaveNothing old new
  -- where the file can't be fixed nothing changes, also where the device fails
  pub unfit : fixup_cause old.files name ≢ None → Quiet old new
