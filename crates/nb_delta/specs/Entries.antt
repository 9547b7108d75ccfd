-- The entries of a difference file: the numbers of the pages that it holds, in the order of their slots.
use Rattle.std.specs.Prelude.{◌≡◌, ℕ, ◌<◌, List, Option, true, nat_eq}
use Rattle.std.specs.List.{list_any, position_from, IsDistinct}
use Rattle.std.specs.Ordering.{nat_cmp}
use Rattle.std.specs.BTreeMap.{BTreeMap, get}
use Rattle.nb_fields.specs.Places.{most_pages}

-- the place of the entry that names a page
abbrev pub place_of : List ℕ → ℕ → Option ℕ
place_of entries page = position_from (nat_eq page) 0 entries

-- each entry is the number of a page, and no page is named twice
pub record AreEntries (entries : List ℕ) : Type 0 where
  pub below : (page : ℕ) → list_any (nat_eq page) entries ≡ true → page < most_pages
  pub once : IsDistinct nat_eq entries

-- the index gives the place of each entry
abbrev pub IsIndex : List ℕ → BTreeMap ℕ ℕ → Type 0
IsIndex entries places = (page : ℕ) → get nat_cmp places page ≡ place_of entries page
