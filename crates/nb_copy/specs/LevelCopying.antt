-- A level file of 1 to 9 that is made of a frozen image.
use Rattle.std.specs.Prelude.{◌≡◌, ℕ, ◌-◌, ◌≤◌, List, length, take, IsTrue}
use Rattle.nb_fields.specs.Places.{is_page_size, most_pages}
use Rattle.nb_host.specs.World.{World}
use Rattle.nb_level.specs.Heads.{head_of}
use Rattle.nb_model.specs.Image.{Page, Image, Numbered, page_at, image_size}
use Rattle.nb_model.specs.Forms.{scn_page_of}
use Rattle.nb_model.specs.Levels.{level_bytes, may_have_changed, changed_from, changed}
use Rattle.nb_model.specs.Sound.{IsOfSize}
use Rattle.nb_gather.specs.Gathering.{LevelWriting, IsHeaded, HasTaken}
use Rattle.nb_gather.specs.Making.{IsMade}

-- What a contract sees of such a copier: its file, how many pages the frozen image has, which one the next turn deals with, the SCN page
-- that was read last, and the page that was dealt with last.
pub record LevelCopying : Type 0 where
  pub file : LevelWriting
  pub count : ℕ
  pub next : ℕ
  pub scn_page : Page
  pub page : Page

-- the pages that the level takes of the first so many
abbrev pub taken_below : (turns : ℕ) → LevelCopying → Image → List Numbered
taken_below turns copy frozen = changed_from (may_have_changed frozen copy.file.head.previous_scn) 0 copy.file.head.previous_scn (take turns frozen)

-- the whole file
abbrev pub whole_level : LevelCopying → Image → List ℕ
whole_level copy frozen = level_bytes 102 (head_of copy.file.head) (changed copy.file.head.previous_scn frozen)

-- it copies this image, whatever its inventories hold
pub record IsLevelOf (copy : LevelCopying) (frozen : Image) : Type 0 where
  pub long : length frozen ≡ copy.count
  pub least : 5 ≤ length frozen
  pub most : length frozen ≤ most_pages
  pub sizes : IsOfSize (image_size frozen) frozen
  pub size : copy.file.head.page_size ≡ image_size frozen
  pub formed : IsHeaded (head_of copy.file.head)

-- the SCN page of the page before stands ready
abbrev pub HasEntriesOf : LevelCopying → Image → Type 0
HasEntriesOf copy frozen = 2 ≤ copy.next → copy.scn_page ≡ page_at frozen (scn_page_of frozen (copy.next - 1))

-- The head stands in its file, and of the pages that were dealt with it took those that may have changed and whose stamp is above the SCN of the
-- earlier backup.
pub record IsLevelBegun (w : World) (copy : LevelCopying) (frozen : Image) : Type 0 where
  pub has : HasTaken w copy.file (taken_below copy.next copy frozen)
  pub entries : HasEntriesOf copy frozen

-- it took no page, and no run waits
pub record IsFresh (copy : LevelCopying) : Type 0 where
  pub no_run : copy.file.run.count ≡ 0
  pub no_page : copy.file.written ≡ 0

-- A level of this image goes on. Before the first turn the file is empty.
pub record IsLevelCopying (w : World) (copy : LevelCopying) (frozen : Image) : Type 0 where
  pub of : IsLevelOf copy frozen
  pub fresh : copy.next ≡ 0 → IsFresh copy
  pub made : copy.next ≡ 0 → IsMade w copy.file.name
  pub begun : 1 ≤ copy.next → IsLevelBegun w copy frozen

-- what holds of the fields of every copier
pub record IsLevelCopier (file : LevelWriting) (count next scn_page page : ℕ) : Type 0 where
  pub is_size : IsTrue (is_page_size file.head.page_size)
  pub scn_room : scn_page ≡ file.head.page_size
  pub room : page ≡ file.head.page_size
  pub most : count ≤ most_pages
  pub within : next ≤ count
  pub fewer : file.written ≤ next
