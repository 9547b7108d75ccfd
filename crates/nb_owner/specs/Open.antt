-- A database that is open: its two files, the pages of it that are in memory, and which of them wait to be written.
use Rattle.std.specs.Prelude.{◌≡◌, ◌≢◌, ℕ, zero, suc, ◌-◌, ◌<◌, ◌≤◌, ◌==◌, ◌&&◌, not, nat_eq, nat_lt, List, [], ◌++◌, length, take, map, Some, Bool, true, false, is_some}
use Rattle.std.specs.List.{AllByRecursion, IsDistinct}
use Rattle.std.specs.Map.{keys_of, remove_entry}
use Rattle.lru.specs.LruCache.{lru_cache, put_entries}
use Rattle.nb_fields.specs.Bytes.{is_zeros}
use Rattle.nb_fields.specs.Places.{is_scn_place, most_pages}
use Rattle.nb_fields.specs.States.{normal_state, stalled_state}
use Rattle.nb_host.specs.Files.{Files}
use Rattle.nb_host.specs.World.{World}
use Rattle.nb_host.specs.Crash.{LeavesAll}
use Rattle.nb_model.specs.Image.{Page, Image, page_at, first_page, image_size, image_state, is_forced}
use Rattle.nb_model.specs.Account.{Base}
use Rattle.nb_model.specs.Trail.{Trail, StandsIn}
use Rattle.nb_model.specs.Behind.{IsBehind, IsRead}
use Rattle.nb_model.specs.Waiting.{rank_of as rank_for}
use Rattle.nb_model.specs.Owner.{entry_for}
use Rattle.nb_base.specs.Open.{Agrees}
use Rattle.nb_base.specs.Seen.{IsSeen}
use Rattle.nb_base.specs.Going.{StandsAs, GoesIn}
use Rattle.nb_cache.specs.Held.{Slot, rank_of, dropped}

-- the pages in memory by their numbers, the most recently used first
abbrev pub Pages : Type 0
Pages = List (ℕ × Slot)

-- What a contract sees of an open database.
pub record Held : Type 0 where
  -- the two files
  pub files : Rattle.nb_base.specs.Open.Held
  -- the pages in memory, and how many there may be
  pub pages : Pages
  pub cap : ℕ

-- each page in memory is that page of the image
abbrev pub AreOf : Image → Pages → Type 0
AreOf image pages = AllByRecursion (λ e. e.1.bytes ≡ page_at image e.0) pages

-- page p waits to be written
abbrev pub waits : Pages → (p : ℕ) → Bool
waits pages p = is_some (rank_of pages p)

-- each page that waits is one of the first so many
abbrev pub AreBelow : (most : ℕ) → Pages → Type 0
AreBelow most pages = (p rank : ℕ) → rank_of pages p ≡ Some rank → p < most

-- A page that waits: one below the length other than page 0, of the size of a page, with forced writes off, with the rank by which it goes
-- out. In the stalled state it has an entry. In the merge state none waits.
pub record IsWaiting (t : Trail) (p rank : ℕ) : Type 0 where
  pub some : 1 ≤ p
  pub low : p < length t.base.image
  pub below : p < most_pages
  pub early : image_state t.base.image ≤ 1
  pub named : image_state t.base.image ≡ stalled_state → (k : ℕ) × (entry_for p t.base.diverted ≡ Some k)
  pub loose : is_forced t.base.image ≡ false
  pub ranked : rank ≡ rank_for t.base.image p
  pub sized : length (page_at t.base.image p) ≡ image_size t.base.image
  pub other : is_zeros (page_at t.base.image p) ≡ false
  pub unsettled : t.earlier ≢ []

-- The table that the files have lacks the entries that are drafted, which are the last ones. The page of each of them waits.
pub record AreDrafted (pages : Pages) (drafted : ℕ) (f t : Trail) : Type 0 where
  pub drafts : List ℕ
  pub all : t.base.diverted ≡ f.base.diverted ++ drafts
  pub many : length drafts ≡ drafted
  pub wait : AllByRecursion (λ p. waits pages p ≡ true) drafts

-- The files have seen `f`, and lack the pages that wait.
pub record Waits (pages : Pages) (drafted : ℕ) (f t : Trail) : Type 0 where
  pub behind : IsBehind f t
  pub drafts : AreDrafted pages drafted f t
  pub stalled : image_state t.base.image ≢ stalled_state → drafted ≡ 0
  pub clean : (p : ℕ) → waits pages p ≡ false → page_at f.base.image p ≡ page_at t.base.image p
  pub each : (p rank : ℕ) → rank_of pages p ≡ Some rank → IsWaiting t p rank

-- what holds of the pages in memory at any time: they are of the size, none is there twice, and there are no more than may be
pub record IsValid (cache : Rattle.nb_cache.specs.Held.Held) (size : ℕ) : Type 0 where
  pub wide : cache.page_size ≡ size
  pub once : IsDistinct nat_eq (keys_of cache.pages)
  pub some : 0 < cache.cap
  pub most : length cache.pages ≤ cache.cap

-- the pages in memory, as the cache sees them
abbrev pub cache_of : Held → Rattle.nb_cache.specs.Held.Held
cache_of held = record { pages = held.pages; cap = held.cap; page_size = held.files.page_size }

-- A write of page p waits: writes aren't forced, the database is in the normal or the stalled state, the page is below the length and isn't
-- page 0, and to keep it drops no page that waits.
abbrev pub may_wait : Held → (p : ℕ) → Bool
may_wait held p = not held.files.forced && (nat_lt held.files.state 2 && (not (p == 0) && (nat_lt p held.files.count && not (is_some (dropped (cache_of held) p)))))

-- Whatever a crash now leaves is what may be left of what was seen, and what is held agrees with what was seen last, as does each page in
-- memory. The files read as they have seen it, and lack the pages that wait, and the entries that are drafted.
pub record IsOpen (w : World) (held : Held) (t : Trail) : Type 0 where
  pub left : (files : Files) → LeavesAll w files → StandsIn held.files.name t files
  pub agrees : Agrees held.files t.base
  pub pages : AreOf t.base.image held.pages
  pub sees : Trail
  pub files : IsSeen w held.files.name sees
  pub waits : Waits held.pages held.files.drafted sees t

-- The page begins with the control block, as page 0 has it: its first 64 bytes, whatever was seen.
abbrev pub HasBlock : World → Held → Page → Type 0
HasBlock w held page = (t : Trail) → IsOpen w held t → take 64 page ≡ take 64 (first_page t.base.image)

-- no SCN page waits
abbrev pub NoScnWaits : Trail → Pages → Type 0
NoScnWaits t pages = (p : ℕ) → is_scn_place (image_size t.base.image) p ≡ true → waits pages p ≡ false

-- The pages that wait are on their way into the files in the normal state: of what a crash leaves P holds, and what reads has the pages that
-- are out.
pub record GoesOut (w : World) (held : Held) (f t : Trail) (P : Base → Type 0) : Type 0 where
  pub left : (files : Files) → LeavesAll w files → StandsAs held.files.name P files
  pub reads : StandsAs held.files.name (IsRead f t (waits held.pages)) w.files
  pub agrees : Agrees held.files t.base
  pub pages : AreOf t.base.image held.pages
  pub behind : IsBehind f t
  pub each : (p rank : ℕ) → rank_of held.pages p ≡ Some rank → IsWaiting t p rank
  pub normal : image_state t.base.image ≡ normal_state
  pub drafted : held.files.drafted ≡ 0

-- The pages that wait are on their way into their slots, in the stalled state.
pub record GoesSlot (w : World) (held : Held) (f t : Trail) : Type 0 where
  pub goes : GoesIn w held.files f t (waits held.pages)
  pub pages : AreOf t.base.image held.pages
  pub each : (p rank : ℕ) → rank_of held.pages p ≡ Some rank → IsWaiting t p rank

-- what is held of the files, whether entries are drafted or not
abbrev pub but_drafts : Rattle.nb_base.specs.Open.Held → Rattle.nb_base.specs.Open.Held
but_drafts files = record files { drafted = 0 }

-- the rank of a page, by the state: 0 for its slot, 2 for an SCN page of the main file, 3 for another page of it
abbrev pub rank_in : (state size p : ℕ) → ℕ
rank_in state size p = elim (state == stalled_state) [ true ↦ 0 | false ↦ elim (is_scn_place size p) [ true ↦ 2 | false ↦ 3 ] ]

-- the pages in memory, whether they wait or not
abbrev pub bare : Pages → List (ℕ × List ℕ)
bare pages = map (λ e. (e.0, e.1.bytes)) pages

-- the pages in memory once this page was used: it goes first, and the last one goes where there would be too many
abbrev pub used : List (ℕ × List ℕ) → (cap page : ℕ) → (bytes : List ℕ) → List (ℕ × List ℕ)
used pages cap page bytes = put_entries nat_eq (lru_cache pages cap) page bytes

-- the pages in memory but for page 0
abbrev pub behind_first : Pages → Pages
behind_first pages = remove_entry (nat_eq 0) pages

-- the pages in memory but for those of so many numbers below that one
abbrev pub but_below : (count top : ℕ) → Pages → Pages
but_below zero top pages = pages
but_below (suc k) top pages = remove_entry (nat_eq (top - suc k)) (but_below k top pages)
