-- The file of a backup of any level, while it is made.
use Rattle.std.specs.Prelude.{◌≡◌, ◌+◌, ◌<◌, ℕ, List, length, Result, Ok, Err}
use Rattle.nb_host.specs.World.{World}
use Rattle.nb_host.specs.declared.faults.HostFault.{HostFault}
use Rattle.nb_state.specs.declared.turns.Progress.{Progress}
use Rattle.nb_state.specs.declared.turns.Progress.TheVariants.{More, Finished}
use Rattle.nb_model.specs.Image.{Image}
use Rattle.nb_model.specs.Levels.{joined, changed}
use Rattle.nb_copy.specs.declared.file_copy.FileCopy.{FileCopy}
use Rattle.nb_copy.specs.declared.file_copy.FileCopy.TheVariants.{Pages, Level}
use Rattle.nb_gather.specs.Making.{IsKept}
use Rattle.nb_copy.specs.Copying.{IsCopying}
use Rattle.nb_copy.specs.LevelCopying.{IsLevelCopying, whole_level}

-- the name of the file
abbrev pub file_name : FileCopy → List ℕ
file_name (Pages copy) = copy.name
file_name (Level copy) = copy.file.name

-- the size of each page
abbrev pub file_page_size : FileCopy → ℕ
file_page_size (Pages copy) = copy.size
file_page_size (Level copy) = copy.file.head.page_size

-- how many pages the frozen image has
abbrev pub file_count : FileCopy → ℕ
file_count (Pages copy) = copy.count
file_count (Level copy) = copy.count

-- how many of them were dealt with
abbrev pub file_next : FileCopy → ℕ
file_next (Pages copy) = copy.next
file_next (Level copy) = copy.next

-- how many of them were taken
abbrev pub file_written : FileCopy → ℕ
file_written (Pages copy) = copy.next
file_written (Level copy) = copy.file.written

-- the whole file
abbrev pub whole_file : FileCopy → Image → List ℕ
whole_file (Pages copy) frozen = joined frozen
whole_file (Level copy) frozen = whole_level copy frozen

-- how many pages it has then
abbrev pub whole_count : FileCopy → Image → ℕ
whole_count (Pages copy) frozen = length frozen
whole_count (Level copy) frozen = length (changed copy.file.head.previous_scn frozen)

-- a copy of this image goes on
abbrev pub IsFileCopying : World → FileCopy → Image → Type 0
IsFileCopying w (Pages copy) frozen = IsCopying w copy frozen
IsFileCopying w (Level copy) frozen = IsLevelCopying w copy frozen

-- what a turn answers: one page more was dealt with, or all were before and the file is whole and kept for good
abbrev pub FileTurn : Result Progress HostFault → (new : World) (before after : FileCopy) (frozen : Image) → Type 0
FileTurn (Ok More) new before after frozen = IsFileCopying new after frozen
FileTurn (Ok Finished) new before after frozen = IsKept new (file_name before) (whole_file before frozen)
FileTurn (Err fault) new before after frozen = Unit {0}

-- it is the copy of the same pages into the same file
pub record IsSameFile (before after : FileCopy) (frozen : Image) : Type 0 where
  pub name : file_name after ≡ file_name before
  pub page_size : file_page_size after ≡ file_page_size before
  pub count : file_count after ≡ file_count before
  pub whole : whole_file after frozen ≡ whole_file before frozen
  pub pages : whole_count after frozen ≡ whole_count before frozen

-- whether a page was left, and that the next one follows
abbrev pub FileCounts : Result Progress HostFault → (before after : FileCopy) → Type 0
FileCounts (Ok More) before after = (file_next before < file_count before) × (file_next after ≡ file_next before + 1) × (file_count after ≡ file_count before)
FileCounts (Ok Finished) before after = (file_next before ≡ file_count before) × (file_next after ≡ file_next before) × (file_written after ≡ file_written before)
FileCounts (Err fault) before after = Unit {0}
