-- A set of pages, as its bytes hold it: one bit for each page.
use Rattle.std.specs.Prelude.{◌≡◌, ℕ, ◌*◌, ◌/◌, ◌%◌, List, length, slice_index, Bool, ◌&&◌, ◌==◌, not}
use Rattle.std.specs.Int.{bit_at}
use Rattle.std.specs.List.{filter, range_with_len}
use Rattle.nb_model.specs.Leaks.{is_among}

-- the set has page p
unfoldable pub has : List ℕ → (p : ℕ) → Bool
has set p = bit_at (slice_index set (p / 8)) (p % 8) == 1

-- so many pages have a bit
abbrev pub room_of : List ℕ → ℕ
room_of set = 8 * length set

-- the pages of the set, rising
unfoldable pub pages_in : List ℕ → List ℕ
pages_in set = filter (has set) (range_with_len 0 (room_of set))

-- the set without these pages
abbrev pub IsWithout : (before : List ℕ) (ps : List ℕ) (after : List ℕ) → Type 0
IsWithout before ps after = (p : ℕ) → has after p ≡ (has before p && not (is_among p ps))
