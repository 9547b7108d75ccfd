-- What a crash leaves of a backup file that is made.
use Rattle.std.specs.Prelude.{◌≡◌, ◌⊎◌, ℕ, List, [], take, Some, Ok, true, false}
use Rattle.nb_fields.specs.Bytes.{is_zeros}
use Rattle.nb_fields.specs.Free.{is_free_file}
use Rattle.nb_fields.specs.Header.{is_header}
use Rattle.nb_host.specs.Files.{File, bytes_of}
use Rattle.nb_host.specs.World.{World}
use Rattle.nb_host.specs.Crash.{IsDurable}
use Rattle.nb_model.specs.Levels.{Contents, read_level}

-- it is there and empty, so its name is free
abbrev pub IsEmpty : File → Type 0
IsEmpty file = file ≡ Some []

-- its first 64 bytes, or all of a shorter one, are zeros, so its name is free
abbrev pub IsBlank : File → Type 0
IsBlank file = is_zeros (take 64 (bytes_of file)) ≡ true

-- its name is free, or it has these bytes
abbrev pub IsFreeOr : (whole : List ℕ) → File → Type 0
IsFreeOr whole file = (is_free_file file ≡ true) ⊎ (file ≡ Some whole)

-- it is no level file, and it begins with no header
pub record IsNoBackup (file : File) : Type 0 where
  pub no_level : (contents : Contents) → read_level (bytes_of file) ≡ Ok contents → ⊥
  pub no_header : is_header (bytes_of file) ≡ false

-- its name is free, or it is no backup, so that nothing takes it for one
abbrev pub IsUnfinished : File → Type 0
IsUnfinished file = (is_free_file file ≡ true) ⊎ IsNoBackup file

-- it is unfinished, or it has these bytes
abbrev pub IsUnfinishedOr : (whole : List ℕ) → File → Type 0
IsUnfinishedOr whole file = IsUnfinished file ⊎ (file ≡ Some whole)

-- the file was made: it reads as empty, and nothing else was made of it since
pub record IsMade (w : World) (name : List ℕ) : Type 0 where
  pub reads : IsEmpty (w.files name)
  pub only : (c : File) → w.now name c → IsEmpty c

-- a crash leaves these bytes of the file and nothing else, and so it reads
pub record IsKept (w : World) (name bytes : List ℕ) : Type 0 where
  pub durable : IsDurable w name (Some bytes)
  pub reads : w.files name ≡ Some bytes
