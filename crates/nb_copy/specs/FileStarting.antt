-- The file of a backup before its first turn.
use Rattle.std.specs.Prelude.{◌≡◌, ℕ, ◌≤◌, List}
use Rattle.nb_level.specs.declared.head.LevelHead.{LevelHead}
use Rattle.nb_copy.specs.declared.file_copy.FileCopy.{FileCopy}
use Rattle.nb_copy.specs.declared.file_copy.FileCopy.TheVariants.{Pages, Level}
use Rattle.nb_copy.specs.LevelCopying.{IsFresh}

-- it is the file of that name of a backup with that head, and was never dealt with
abbrev pub IsNewFile : (name : List ℕ) → LevelHead → FileCopy → Type 0
IsNewFile name head (Pages copy) = (copy.name ≡ name) × (copy.size ≡ head.page_size) × (copy.next ≡ 0) × (head.level ≡ 0)
IsNewFile name head (Level copy) = (copy.file.name ≡ name) × (copy.file.head ≡ head) × (copy.next ≡ 0) × IsFresh copy × (1 ≤ head.level)

-- it knows the GUID and the SCN, and how many pages are frozen
abbrev pub IsStartedFile : (before after : FileCopy) → LevelHead → (count : ℕ) → Type 0
IsStartedFile (Pages before) (Pages after) head count = after ≡ record before { count = count }
IsStartedFile (Level before) (Level after) head count = after ≡ record before { file = record before.file { head = record before.file.head { guid = head.guid; scn = head.scn } }; count = count }
IsStartedFile (Pages before) (Level after) head count = ⊥
IsStartedFile (Level before) (Pages after) head count = ⊥
