-- Worlds in which a run may begin: one with plain files or none, one that starts again from what a crash left, and one to which files were
-- copied.
use Rattle.std.specs.Prelude.{◌≡◌, ℕ, List, [], Some, None, true, false, Contains}
use Rattle.nb_fields.specs.Header.{is_header}
use Rattle.nb_host.specs.Files.{File, Files}
use Rattle.nb_host.specs.Names.{is_name, is_delta}
use Rattle.nb_host.specs.World.{World}
use Rattle.nb_host.specs.Crash.{Leaves}
use Rattle.nb_model.specs.Account.{Kept, Missing, Account}
use Rattle.nb_model.specs.NewGuids.{IsUnnamed}
use Rattle.nb_model.specs.Owner.{entry_in}

-- The files read as these, and a crash leaves just them. A host that starts again from what a crash left begins so.
pub record StartsFrom (w : World) (files : Files) : Type 0 where
  pub reads : (name : List ℕ) → w.files name ≡ files name
  pub only : (name : List ℕ) (file : File) → Leaves w name file → file ≡ files name

-- each file has a name that a host may give it
abbrev pub HaveNames : Files → Type 0
HaveNames files = (name bytes : List ℕ) → files name ≡ Some bytes → is_name name ≡ true

-- so has each that a crash may leave
abbrev pub LeaveNames : World → Type 0
LeaveNames w = (name bytes : List ℕ) → Leaves w name (Some bytes) → is_name name ≡ true

-- no file names one of these GUIDs
abbrev pub NameNone : Files → (guids : List (List ℕ)) → Type 0
NameNone files guids = (guid name bytes : List ℕ) → Contains guids guid → is_delta name ≡ false → files name ≡ Some bytes → IsUnnamed bytes guid

-- no file under any name
abbrev pub no_files : Files
no_files name = None

-- No file is a difference file or has the header of a database: scripts that were placed, or nothing.
abbrev pub ArePlain : Files → Type 0
ArePlain files = (name bytes : List ℕ) → files name ≡ Some bytes → (is_delta name ≡ false) × (is_header bytes ≡ false)

-- the account without entries and records
abbrev pub empty : Account
empty = record { entry = λ name. Missing None; kept = [] }

-- the account that has under each name what the files hold, and these records
abbrev pub account_of : Files → List Kept → Account
account_of files kept = record { entry = entry_in files; kept = kept }

-- these bytes stand there, and not as a difference file
pub record IsCopied (files : Files) (bytes : List ℕ) : Type 0 where
  pub from : List ℕ
  pub plain : is_delta from ≡ false
  pub there : files from ≡ Some bytes

-- each of the files is a copy of one that stands there, under any name, and none is a difference file
abbrev pub AreCopies : (files copies : Files) → Type 0
AreCopies files copies = (name bytes : List ℕ) → copies name ≡ Some bytes → (is_delta name ≡ false) × IsCopied files bytes
