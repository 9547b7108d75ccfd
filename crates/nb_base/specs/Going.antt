-- Pages that waited go into their slots in the stalled state, and after them the drafted entries into the table of the difference file.
use Rattle.std.specs.Prelude.{◌≡◌, ◌≢◌, ◌⊎◌, ℕ, ◌+◌, ◌<◌, ◌≤◌, List, [], ◌∷◌, ◌++◌, length, Bool, false, Some, None}
use Rattle.nb_fields.specs.Bytes.{is_zeros}
use Rattle.nb_fields.specs.Places.{most_pages}
use Rattle.nb_fields.specs.States.{stalled_state}
use Rattle.nb_host.specs.Files.{File, Files}
use Rattle.nb_host.specs.World.{World}
use Rattle.nb_host.specs.Crash.{LeavesAll}
use Rattle.nb_delta.specs.Slots.{HasSlot, slot_page}
use Rattle.nb_model.specs.Image.{Page, page_at, first_page, image_size}
use Rattle.nb_model.specs.Account.{Base}
use Rattle.nb_model.specs.Owner.{delta_name, entry_for}
use Rattle.nb_model.specs.Trail.{Trail, ShowsIn}
use Rattle.nb_model.specs.Behind.{IsBehind, IsOnTheWay}
use Rattle.nb_base.specs.Open.{Held, Agrees}

-- whatever a crash now leaves stands for a database of which P holds
pub record StandsAs (name : List ℕ) (P : Base → Type 0) (files : Files) : Type 0 where
  pub base : Base
  pub opens : ShowsIn name base files
  pub is : P base

-- the slot of entry k is in the file whole, and holds this page
pub record HasPageIn (size k : ℕ) (page : Page) (file : File) : Type 0 where
  pub whole : HasSlot size file k
  pub same : slot_page size file k ≡ page

-- a page that has an entry, drafted or not, and goes into its slot as it is seen
pub record MaySlot (t : Trail) (p : ℕ) (bytes : Page) : Type 0 where
  pub some : 1 ≤ p
  pub low : p < length t.base.image
  pub below : p < most_pages
  pub long : length bytes ≡ image_size t.base.image
  pub other : is_zeros bytes ≡ false
  pub named : (k : ℕ) × (entry_for p t.base.diverted ≡ Some k)
  pub same : bytes ≡ page_at t.base.image p

-- What reads then: a page that an entry of the table names is as it is seen where it waits no longer, and a page that none names is as
-- the files had it.
pub record IsSlotted (f t : Trail) (waits : ℕ → Bool) (r : Base) : Type 0 where
  pub long : length r.image ≡ length t.base.image
  pub first : first_page r.image ≡ first_page t.base.image
  pub named : (p k : ℕ) → entry_for p f.base.diverted ≡ Some k → waits p ≡ false → page_at r.image p ≡ page_at t.base.image p
  pub others : (p : ℕ) → entry_for p f.base.diverted ≡ None → page_at r.image p ≡ page_at f.base.image p
  pub frozen : r.frozen ≡ f.base.frozen
  pub diverted : r.diverted ≡ f.base.diverted

-- The pages that wait are on their way into their slots. The files have seen `f`, and their table lacks the last entries that are held.
-- Each of these has its page in its slot where it waits no longer.
pub record GoesIn (w : World) (held : Held) (f t : Trail) (waits : ℕ → Bool) : Type 0 where
  pub left : (files : Files) → LeavesAll w files → StandsAs held.name (IsOnTheWay f t) files
  pub reads : StandsAs held.name (IsSlotted f t waits) w.files
  pub slots : (p k : ℕ) → entry_for p t.base.diverted ≡ Some k → length f.base.diverted ≤ k → waits p ≡ false → HasPageIn held.page_size k (page_at t.base.image p) (w.files (delta_name held.name))
  pub agrees : Agrees held t.base
  pub stalled : held.state ≡ stalled_state
  pub behind : IsBehind f t
  pub drafted : length t.base.diverted ≡ length f.base.diverted + held.drafted
  pub inside : (p k : ℕ) → entry_for p t.base.diverted ≡ Some k → length f.base.diverted ≤ k → (1 ≤ p) × (p < length t.base.image)
  pub plain : (p : ℕ) → entry_for p t.base.diverted ≡ None → page_at f.base.image p ≡ page_at t.base.image p
  pub unsettled : t.earlier ≢ []

-- a page gets an entry, which is drafted, unless it has one
abbrev pub Drafts : (p : ℕ) (before after : Held) → Type 0
Drafts p before after = (((k : ℕ) × (entry_for p before.entries ≡ Some k)) × (after ≡ before))
    ⊎ ((entry_for p before.entries ≡ None) × (after ≡ record before { entries = before.entries ++ p ∷ []; drafted = before.drafted + 1 }))
