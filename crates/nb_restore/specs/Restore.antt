-- A chain of backup files is restored.
use Rattle.std.specs.Prelude.{◌≡◌, ◌≢◌, ◌⊎◌, ℕ, true, false, List, [], length, Some, Contains, Result, Ok, Err}
use Rattle.nb_fields.specs.Free.{is_free_file}
use Rattle.nb_host.specs.Files.{File, Files}
use Rattle.nb_host.specs.World.{World}
use Rattle.nb_host.specs.Crash.{Leaves, LeavesAll}
use Rattle.nb_host.specs.declared.faults.Fault.{Fault}
use Rattle.nb_host.specs.declared.faults.Fault.TheVariants.{Refused, Device, Memory}
use Rattle.nb_host.specs.declared.refusals.Refusal.{Refusal}
use Rattle.nb_host.specs.declared.refusals.Refusal.TheVariants.{FileExists}
use Rattle.nb_change.specs.Changes.{Changes, Only}
use Rattle.nb_change.specs.Gave.{GaveNothing}
use Rattle.nb_page.specs.Free.{is_free_name}
use Rattle.nb_page.specs.Quiet.{Quiet}
use Rattle.nb_model.specs.Account.{Base, base_of}
use Rattle.nb_model.specs.Levels.{joined}
use Rattle.nb_model.specs.Restoring.{Link, verdict, all_over, applied}
use Rattle.nb_model.specs.Strokes.{fixed}
use Rattle.nb_model.specs.Trail.{ShowsIn}

-- the database that the files of a chain give: their image in the normal state
abbrev pub base_from : List Link → Base
base_from links = base_of (fixed (applied links))

-- The database that the files of a chain give stands under that name. Its file is their pages in the normal state, as far as level 0 or
-- the last page of a level reaches, and nothing stands past them.
pub record IsRestoredTo (name : List ℕ) (links : List Link) (files : Files) : Type 0 where
  pub exact : files name ≡ Some (joined (fixed (all_over links [])))
  pub shows : ShowsIn name (base_from links) files

-- What is left of the target while these files are restored: it is as it `was`, or its name is free for another restore, or it is the
-- database that they give.
abbrev pub RestoreLeft : (was : File → Type 0) (old : World) (target : List ℕ) (names : List (List ℕ)) → Files → Type 0
RestoreLeft was old target names files =
    was (files target)
    ⊎ (is_free_file (files target) ≡ true)
    ⊎ ((links : List Link) × (verdict old.files names ≡ Ok links) × IsRestoredTo target links files)

-- The files are a chain, and the target is the database that they give, as it reads and whatever a crash leaves of it. None of the files is
-- the target, so all of them are as they were.
pub record IsRestored (old new : World) (target : List ℕ) (names : List (List ℕ)) (count : ℕ) : Type 0 where
  pub links : List Link
  pub accepted : verdict old.files names ≡ Ok links
  pub counted : count ≡ length (applied links)
  pub left : (files : Files) → LeavesAll new files → IsRestoredTo target links files
  pub now : IsRestoredTo target links new.files
  pub apart : (name : List ℕ) → Contains names name → name ≢ target

-- the target's name isn't free, or it is and the files are no chain
abbrev pub IsRefused : Files → (target : List ℕ) (names : List (List ℕ)) → Refusal → Type 0
IsRefused files target names refusal =
    ((is_free_name files target ≡ false) × (refusal ≡ FileExists target))
    ⊎ ((is_free_name files target ≡ true) × (verdict files names ≡ Err refusal))

-- a refused call, and one that wants memory, changes nothing
abbrev pub RestoreAnswers : Result ℕ Fault → (old new : World) (target : List ℕ) (names : List (List ℕ)) → Type 0
RestoreAnswers (Ok count) old new target names = (is_free_name old.files target ≡ true) × IsRestored old new target names count
RestoreAnswers (Err (Refused refusal)) old new target names = Quiet old new × IsRefused old.files target names refusal
RestoreAnswers (Err Device) old new target names = Unit {0}
RestoreAnswers (Err Memory) old new target names = Quiet old new

pub record Restores (result : Result ℕ Fault) (old new : World) (target : List ℕ) (names : List (List ℕ)) : Type 0 where
  pub answer : RestoreAnswers result old new target names
  -- no file but the target is touched, and nothing is said
  pub left : Changes old new (Only target) (RestoreLeft (Leaves old target) old target names)
  -- so the target reads, whatever is answered
  pub reads : RestoreLeft (λ file. file ≡ old.files target) old target names new.files
  pub gave : GaveNothing old new
  -- where the name isn't free, or the files are no chain, nothing changes, also where the device fails
  pub taken : is_free_name old.files target ≡ false → Quiet old new
  pub broken : (refusal : Refusal) → verdict old.files names ≡ Err refusal → Quiet old new
