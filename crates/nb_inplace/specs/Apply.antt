-- A level file is merged into a standby, in place.
use Rattle.std.specs.Prelude.{◌≡◌, ◌⊎◌, ℕ, List, length, Some, Result, Ok, Err}
use Rattle.nb_fields.specs.Header.{size_of}
use Rattle.nb_host.specs.Files.{File, Files}
use Rattle.nb_host.specs.World.{World}
use Rattle.nb_host.specs.Crash.{Leaves, LeavesAll}
use Rattle.nb_host.specs.declared.faults.Fault.{Fault}
use Rattle.nb_host.specs.declared.faults.Fault.TheVariants.{Refused, Device, Memory}
use Rattle.nb_host.specs.declared.refusals.Refusal.{Refusal}
use Rattle.nb_change.specs.Changes.{Changes, Only}
use Rattle.nb_change.specs.Gave.{GaveNothing}
use Rattle.nb_page.specs.Quiet.{Quiet}
use Rattle.nb_model.specs.Account.{Base, base_of}
use Rattle.nb_model.specs.Image.{Page, cut, image_in, overwritten}
use Rattle.nb_model.specs.InPlace.{in_place}
use Rattle.nb_model.specs.Levels.{Contents, joined}
use Rattle.nb_model.specs.Strokes.{as_standby, merged}
use Rattle.nb_model.specs.Trail.{ShowsIn}
use Rattle.nb_inplace.specs.Verdict.{IsMergeable}
use Rattle.nb_inplace.specs.Half.{IsHalf}

-- The database that a merge gives: the standby's image with the level file's pages written over, in the normal state, read-only, and with
-- nothing pending.
abbrev pub base_with : (bytes : List ℕ) → Contents → Base
base_with bytes c = base_of (merged c.pages (image_in bytes))

-- all pages of a file, pages of zeros at its end among them
abbrev pub pages_of : List ℕ → List Page
pages_of bytes = cut (size_of bytes) (length bytes) bytes

-- The standby is merged: its file is its pages with those of the level file written over, in the normal state, read-only, and with nothing
-- pending. It reaches as far as it did or as the last page of the level file does, and nothing stands past that.
pub record IsMergedTo (standby bytes : List ℕ) (c : Contents) (files : Files) : Type 0 where
  pub exact : files standby ≡ Some (joined (as_standby (overwritten (size_of bytes) c.pages (pages_of bytes))))
  pub shows : ShowsIn standby (base_with bytes c) files

-- the standby is half merged
pub record IsHalfIn (standby bytes : List ℕ) (c : Contents) (files : Files) : Type 0 where
  pub half : List ℕ
  pub there : files standby ≡ Some half
  pub is : IsHalf bytes c half

-- It is half merged, or merged.
abbrev pub IsPartIn : (old : World) (standby name : List ℕ) → Files → Type 0
IsPartIn old standby name files = (bytes : List ℕ) × (c : Contents) × IsMergeable old.files standby name bytes c × (IsHalfIn standby bytes c files ⊎ IsMergedTo standby bytes c files)

-- What stands of the standby while a level file is merged into it: it is as it was, or half merged, or merged.
abbrev pub ApplyLeft : (was : File → Type 0) (old : World) (standby name : List ℕ) → Files → Type 0
ApplyLeft was old standby name files = was (files standby) ⊎ IsPartIn old standby name files

-- the standby is merged, as it reads and whatever a crash leaves of it, and has so many pages
pub record IsMerged (old new : World) (standby name : List ℕ) (count : ℕ) : Type 0 where
  pub bytes : List ℕ
  pub contents : Contents
  pub mergeable : IsMergeable old.files standby name bytes contents
  pub counted : count ≡ length (merged contents.pages (image_in bytes))
  pub left : (files : Files) → LeavesAll new files → IsMergedTo standby bytes contents files
  pub now : IsMergedTo standby bytes contents new.files

-- a refused call, and one that wants memory, changes nothing
abbrev pub ApplyAnswers : Result ℕ Fault → (old new : World) (standby name : List ℕ) → Type 0
ApplyAnswers (Ok count) old new standby name = IsMerged old new standby name count
ApplyAnswers (Err (Refused refusal)) old new standby name = Quiet old new × (in_place old.files standby name ≡ Err refusal)
ApplyAnswers (Err Device) old new standby name = Unit {0}
ApplyAnswers (Err Memory) old new standby name = Quiet old new

pub record Applies (result : Result ℕ Fault) (old new : World) (standby name : List ℕ) : Type 0 where
  pub answer : ApplyAnswers result old new standby name
  -- At each moment a crash leaves the standby so. No other file is touched, and nothing is said.
  pub left : Changes old new (Only standby) (ApplyLeft (Leaves old standby) old standby name)
  -- so it reads after the call, whatever is answered
  pub reads : ApplyLeft (λ file. file ≡ old.files standby) old standby name new.files
  pub gave : GaveNothing old new
  -- where the merge is refused nothing changes, also where the device fails
  pub refused : (refusal : Refusal) → in_place old.files standby name ≡ Err refusal → Quiet old new
