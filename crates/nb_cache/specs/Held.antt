-- What a contract sees of a cache.
use Rattle.std.specs.Prelude.{◌≡◌, ℕ, ◌-◌, ◌<◌, ◌≤◌, ◌⊎◌, nat_eq, List, [], ◌∷◌, Option, None, Some, is_some, if◌then◌else◌, slice_get, Contains, MatchOption}
use Rattle.std.specs.List.{AllByRecursion}
use Rattle.std.specs.Option.{option_and_then, option_map}
use Rattle.std.specs.Map.{lookup}

-- a page that is held: its bytes, and its rank while it waits
pub record Slot : Type 0 where
  pub bytes : List ℕ
  pub rank : Option ℕ

-- the pages that are held, by their numbers, the most recently used first; how many there may be; and the size of one
pub record Held : Type 0 where
  pub pages : List (ℕ × Slot)
  pub cap : ℕ
  pub page_size : ℕ

-- what is held of a page
abbrev pub slot_of : List (ℕ × Slot) → ℕ → Option Slot
slot_of pages page = lookup (nat_eq page) pages

-- the rank of a page that is held and waits
abbrev pub rank_of : List (ℕ × Slot) → ℕ → Option ℕ
rank_of pages page = option_and_then (λ slot. slot.rank) (slot_of pages page)

-- the page with that rank, and nothing else changed
abbrev pub with_rank : (page : ℕ) → Option ℕ → List (ℕ × Slot) → List (ℕ × Slot)
with_rank page rank [] = []
with_rank page rank (e ∷ es) = if nat_eq page e.0 then (e.0, record e.1 { rank = rank }) ∷ es else e ∷ with_rank page rank es

-- the waiting page that a keep of this page would drop: the last one, where the cache is full and lacks the page
abbrev pub dropped : Held → ℕ → Option ℕ
dropped held page =
    option_and_then (λ e. option_map (λ _. e.0) e.1.rank) (if is_some (slot_of held.pages page) then None else slice_get held.pages (held.cap - 1))

-- no page waits
abbrev pub NoneWaits : List (ℕ × Slot) → Type 0
NoneWaits pages = AllByRecursion (λ e. e.1.rank ≡ None) pages

-- this page goes out no later than another, if that one waits: the lower rank first, then the lower page
abbrev pub IsNoLater : (page rank : ℕ) → ℕ × Slot → Type 0
IsNoLater page rank e = (r : ℕ) → e.1.rank ≡ Some r → (rank < r) ⊎ ((rank ≡ r) × (page ≤ e.0))

-- this page waits with that rank, and goes out first
pub record GoesFirst (pages : List (ℕ × Slot)) (page rank : ℕ) : Type 0 where
  pub waits : (bytes : List ℕ) × Contains pages (page, record { bytes = bytes; rank = Some rank })
  pub first : AllByRecursion (IsNoLater page rank) pages

-- the page that goes out first, with its rank, or none where no page waits
abbrev pub IsNext : List (ℕ × Slot) → Option (ℕ × ℕ) → Type 0
IsNext pages next = MatchOption next (NoneWaits pages) (λ n. GoesFirst pages n.0 n.1)
