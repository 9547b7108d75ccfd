-- The two files of a database that is open.
use Rattle.std.specs.Prelude.{◌≡◌, ◌⊎◌, ℕ, ◌<◌, ◌≤◌, List, length, take, drop, slice_index, Bool, true}
use Rattle.nb_fields.specs.Header.{is_header}
use Rattle.nb_fields.specs.Table.{page_in, slot_place}
use Rattle.nb_fields.specs.States.{stalled_state}
use Rattle.nb_host.specs.Files.{Files, bytes_of}
use Rattle.nb_host.specs.World.{World}
use Rattle.nb_host.specs.Crash.{LeavesAll}
use Rattle.nb_model.specs.Image.{Page, Image, page_at, first_page, image_size, image_state, is_forced, image_in}
use Rattle.nb_model.specs.Account.{Base}
use Rattle.nb_model.specs.Owner.{delta_name}
use Rattle.nb_model.specs.Trail.{Trail, ShowsIn}
use Rattle.nb_base.specs.Firm.{StandsFirm}

-- What a contract sees of the two files.
pub record Held : Type 0 where
  -- the database's name
  pub name : List ℕ
  -- in bytes
  pub page_size : ℕ
  -- 0 normal, 1 stalled, 2 merge
  pub state : ℕ
  -- whether writes are forced
  pub forced : Bool
  -- how many pages the database has
  pub count : ℕ
  -- how many pages the main file has
  pub main_count : ℕ
  -- the pages that the difference file holds, in the order of their slots; none in the normal state
  pub entries : List ℕ
  -- how many of the last of them are drafted: the file's table doesn't have them yet
  pub drafted : ℕ

-- one of the two files
abbrev pub OfFiles : List ℕ → List ℕ → Type 0
OfFiles name m = (m ≡ name) ⊎ (m ≡ delta_name name)

-- what is held agrees with the database
pub record Agrees (held : Held) (b : Base) : Type 0 where
  pub header : is_header (first_page b.image) ≡ true
  pub page_size : held.page_size ≡ image_size b.image
  pub state : held.state ≡ image_state b.image
  pub opened : held.state ≤ 2
  pub forced : held.forced ≡ is_forced b.image
  pub count : held.count ≡ length b.image
  -- in the stalled state the main file is frozen
  pub main_count : held.state ≡ stalled_state → held.main_count ≡ length b.frozen
  pub entries : held.entries ≡ b.diverted

-- Whatever a crash now leaves is what may be left of what was seen, what reads is what was seen last, and what is held agrees with it. No
-- entry is drafted.
pub record IsOpen (w : World) (held : Held) (t : Trail) : Type 0 where
  pub left : (files : Files) → LeavesAll w files → StandsFirm held.name t files
  pub shows : ShowsIn held.name t.base w.files
  pub agrees : Agrees held t.base
  pub drafted : held.drafted ≡ 0

-- a page that may be written there: at most at the length, and page 0 keeps its control block
pub record Fits (p : ℕ) (page : Page) (image : Image) : Type 0 where
  pub low : p ≤ length image
  pub front : p ≡ 0 → take 64 page ≡ take 64 (first_page image)

-- the main file has the page of entry k as its slot has it, of page 0 from byte 64 on
pub record IsMerged (held : Held) (files : Files) (k : ℕ) : Type 0 where
  pub later : slice_index held.entries k ≡ 0 → drop 64 (page_at (image_in (bytes_of (files held.name))) 0) ≡ drop 64 (page_in held.page_size (bytes_of (files (delta_name held.name))) (slot_place held.page_size k))
  pub same : 0 < slice_index held.entries k
      → page_in held.page_size (bytes_of (files held.name)) (slice_index held.entries k) ≡ page_in held.page_size (bytes_of (files (delta_name held.name))) (slot_place held.page_size k)

-- the first k entries are equal in both files
abbrev pub AreMerged : (w : World) (held : Held) (k : ℕ) → Type 0
AreMerged w held k = (j : ℕ) → j < k → j < length held.entries → IsMerged held w.files j
