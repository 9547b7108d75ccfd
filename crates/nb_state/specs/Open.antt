-- A database that is open.
use Rattle.std.specs.Prelude.{◌≡◌, ◌<◌, ◌≤◌, ℕ, List, [], length, Option, Bool}
use Rattle.nb_fields.specs.States.{merge_state}
use Rattle.nb_host.specs.World.{World}
use Rattle.nb_model.specs.Account.{Base}
use Rattle.nb_model.specs.Image.{Page, image_scn, image_guid, is_read_only}
use Rattle.nb_model.specs.Trail.{Trail}
use Rattle.nb_base.specs.Open.{AreMerged}
use Rattle.nb_cache.specs.Held.{NoneWaits}
use Rattle.nb_owner.specs.Open.{Pages, IsOpen as IsPairOpen, HasBlock as HasPairBlock, but_drafts}

-- What a contract sees of an open database.
pub record Held : Type 0 where
  -- the two files
  pub files : Rattle.nb_base.specs.Open.Held
  -- the current SCN, and the GUID of the last backup
  pub scn : ℕ
  pub guid : List ℕ
  -- no statement may change a page
  pub read_only : Bool
  -- the session whose copy or merge runs
  pub running : Option ℕ
  -- how many entries were merged since `end`
  pub merged : ℕ
  -- the pages in memory, the most recently used first, and how many there may be
  pub pages : Pages
  pub cap : ℕ

-- its name
abbrev pub name_of : Held → List ℕ
name_of held = held.files.name

-- its two files, and the pages in memory
abbrev pub pair_of : Held → Rattle.nb_owner.specs.Open.Held
pair_of held = record { files = held.files; pages = held.pages; cap = held.cap }

-- the page begins with the control block, as page 0 has it
abbrev pub HasBlock : World → Held → Page → Type 0
HasBlock w held page = HasPairBlock w (pair_of held) page

-- no page waits in memory to be written, and no entry is drafted
abbrev pub NoPageWaits : Held → Type 0
NoPageWaits held = NoneWaits held.pages × (held.files.drafted ≡ 0)

-- all but which pages are in memory, and what of them waits
abbrev pub but_pages : Held → Held
but_pages held = record held { files = but_drafts held.files; pages = [] }

-- its header says what is held of it
pub record AgreesWith (held : Held) (b : Base) : Type 0 where
  pub scn : held.scn ≡ image_scn b.image
  -- it has four bytes
  pub four : held.scn < 4294967296
  pub guid : held.guid ≡ image_guid b.image
  pub read_only : held.read_only ≡ is_read_only b.image

-- The database is open: this was seen of it since its last settled point. Its entries that were merged are equal in both files.
pub record IsOpen (w : World) (held : Held) (t : Trail) : Type 0 where
  pub files : IsPairOpen w (pair_of held) t
  pub agrees : AgreesWith held t.base
  pub merged : held.files.state ≡ merge_state → AreMerged w held.files held.merged
  pub most : held.files.state ≡ merge_state → held.merged ≤ length held.files.entries
