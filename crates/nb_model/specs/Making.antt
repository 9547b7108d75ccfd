-- The files that backups and copies make.
use Rattle.std.specs.Prelude.{◌≡◌, ℕ, ◌-◌, List, [], ◌∷◌, ◌++◌, Some, None, Ok, false, Contains}
use Rattle.std.specs.List.{slice_index_or}
use Rattle.nb_fields.specs.Header.{is_header}
use Rattle.nb_model.specs.Image.{Image}
use Rattle.nb_model.specs.Account.{Kept, Plain, Account, with_entry}
use Rattle.nb_model.specs.Levels.{Contents, read_level, file_of, joined}
use Rattle.nb_model.specs.Outcomes.{Turn, Begins, Copies, ClosesBackup, ClosesCopy, Ends, Merges, Finishes, Backing}
use Rattle.nb_model.specs.Run.{Now, base_now}

-- a file by its name, and the bytes that it has once it is whole
abbrev pub MadeFile : Type 0
MadeFile = List ℕ × List ℕ

-- what the begin of a backup has kept, where this is the frozen image
abbrev pub kept_of : Backing → Image → Kept
kept_of b frozen = record { guid = b.guid; scn = b.scn; ask = Some b.ask; image = frozen }

-- the files that these turns are still to make whole
unfoldable pub making : (frozen : Image) → List Turn → List MadeFile
making frozen [] = []
making frozen (Begins statement ∷ ts) = making frozen ts
making frozen (Copies ∷ ts) = making frozen ts
making frozen (ClosesBackup b ∷ ts) = (b.name, file_of 102 (kept_of b frozen)) ∷ making frozen ts
making frozen (ClosesCopy name ∷ ts) = (name, joined frozen) ∷ making frozen ts
making frozen (Ends reply ∷ ts) = making frozen ts
making frozen (Merges ∷ ts) = making frozen ts
making frozen (Finishes reply ∷ ts) = making frozen ts

-- those that one session is still to make
abbrev pub making_by : (session : ℕ) → Now → List MadeFile
making_by session now = making (base_now now).frozen (slice_index_or now.todo (session - 1) [])

unfoldable pub making_all : (frozen : Image) → List (List Turn) → List MadeFile
making_all frozen [] = []
making_all frozen (ts ∷ others) = making frozen ts ++ making_all frozen others

-- those that all sessions are still to make
abbrev pub under_way : Now → List MadeFile
under_way now = making_all (base_now now).frozen now.todo

-- all of these are among those
abbrev pub AreAmong : List MadeFile → List MadeFile → Type 0
AreAmong files others = (file : MadeFile) → Contains files file → Contains others file

-- the name is that of none of them
abbrev pub IsNoneOf : List MadeFile → List ℕ → Type 0
IsNoneOf files name = (bytes : List ℕ) → Contains files (name, bytes) → ⊥

-- no two of them have the same name
abbrev pub NamesOnce : List MadeFile → Type 0
NamesOnce files = (name bytes others : List ℕ) → Contains files (name, bytes) → Contains files (name, others) → bytes ≡ others

-- the account with these files, in order, with no difference file beside any of them
unfoldable pub with_files : List MadeFile → Account → Account
with_files [] account = account
with_files (file ∷ files) account = with_files files (with_entry file.0 (Plain file.1 None) account)

-- The bytes are the file of a kept record, or the pages of its image.
pub data IsOfKept (kept : List Kept) (bytes : List ℕ) : Type 0 where
  its_file : (r : Kept) → Contains kept r → bytes ≡ file_of 102 r → IsOfKept kept bytes
  its_pages : (r : Kept) → Contains kept r → bytes ≡ joined r.image → IsOfKept kept bytes

-- No job takes the bytes for a backup: they are no level file, and begin with no header.
pub record IsNoBackup (bytes : List ℕ) : Type 0 where
  pub no_level : (c : Contents) → read_level bytes ≡ Ok c → ⊥
  pub no_header : is_header bytes ≡ false
