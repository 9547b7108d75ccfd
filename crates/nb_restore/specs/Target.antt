-- The target of a restore, while it is made.
use Rattle.std.specs.Prelude.{◌≡◌, ◌⊎◌, ℕ, List, Some, true}
use Rattle.nb_fields.specs.Bytes.{is_zeros}
use Rattle.nb_fields.specs.Free.{is_free_file}
use Rattle.nb_fields.specs.Header.{is_header, state_of, pending_of}
use Rattle.nb_fields.specs.States.{applying_state}
use Rattle.nb_host.specs.Files.{File, Files}
use Rattle.nb_host.specs.World.{World}
use Rattle.nb_host.specs.Crash.{IsDurable}
use Rattle.nb_model.specs.Image.{Page, Image, first_page, trimmed}
use Rattle.nb_model.specs.Levels.{joined}
use Rattle.nb_model.specs.Main.{HoldsMain}
use Rattle.nb_model.specs.Restoring.{Link, all_over}
use Rattle.nb_model.specs.Strokes.{fixed}
use Rattle.nb_level.specs.Reading.{Reading}
use Rattle.nb_restore.specs.Sources.{IsLevel0, AreReady}

-- the file may be made anew
abbrev pub IsFree : File → Type 0
IsFree file = is_free_file file ≡ true

-- The file is these pages with their page 0 done with, and nothing stands past them. It holds their image.
pub record IsWhole (done : Image → Image) (pages : Image) (file : File) : Type 0 where
  pub exact : file ≡ Some (joined (done pages))
  pub holds : HoldsMain (done (trimmed pages)) file

-- it may be made anew, or is whole
abbrev pub IsFreeOr : (whole : File → Type 0) → File → Type 0
IsFreeOr whole file = IsFree file ⊎ whole file

-- a crash leaves this of the file and nothing else, and so it reads
pub record IsKept (w : World) (name : List ℕ) (file : File) : Type 0 where
  pub durable : IsDurable w name file
  pub reads : w.files name ≡ file

-- and it is whole
pub record KeepsWhole (w : World) (name : List ℕ) (whole : File → Type 0) : Type 0 where
  pub file : File
  pub kept : IsKept w name file
  pub is : whole file

-- it reads as it did, or as such a file
abbrev pub ReadsOr : (old new : World) (name : List ℕ) (made : File → Type 0) → Type 0
ReadsOr old new name made = (new.files name ≡ old.files name) ⊎ made (new.files name)

-- a page that stands for a restore that goes on: a header in state 3 with a nil pending GUID
pub record IsUnfinishedPage (page : Page) : Type 0 where
  pub header : is_header page ≡ true
  pub state : state_of page ≡ applying_state
  pub pending : is_zeros (pending_of page) ≡ true

-- All that a restore goes by: level 0, the readers of the level files after it, page 0, and the page that stands in its place.
pub record IsPlan (files : Files) (target level_0 : List ℕ) (size count : ℕ) (readers : List Reading) (first page : Page) (pages : List Page) (links : List Link) : Type 0 where
  pub whole : IsLevel0 files target level_0 size count pages
  pub ready : AreReady files target size links readers
  pub page_0 : first ≡ first_page pages
  pub stands : IsUnfinishedPage page

-- the file is level 0 with the pages of the files after it written over, in the normal state
abbrev pub restored : List Page → List Link → File → Type 0
restored pages links = IsWhole fixed (all_over links pages)
