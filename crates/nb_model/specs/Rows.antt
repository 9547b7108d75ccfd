-- The rows of a table, as a finite map from keys to texts.
use Rattle.std.specs.Prelude.{◌≡◌, ◌≢◌, ℕ, ◌<◌, List, [], ◌∷◌, ◌++◌, Some, None, Ok, true, false, nat_lt, nat_eq, Option}
use Rattle.std.specs.List.{AllByRecursion}
use Rattle.nb_model.specs.Image.{Image}
use Rattle.nb_model.specs.Forms.{is_free_page}
use Rattle.nb_model.specs.Chains.{Chain, Catalogue, History, RowsFrom, Spot, spots, pages_of, found_pages, is_used, table_spot, table_of, key_of, text_in, first_in}

-- a finite map: key and text of each row, keys rising
abbrev pub RowMap : Type 0
RowMap = List (ℕ × List ℕ)

-- each key is above the one before it
abbrev pub IsRising : RowMap → Type 0
IsRising [] = Unit {0}
IsRising (r ∷ rs) = AllByRecursion (λ (s : ℕ × List ℕ). r.0 < s.0) rs × IsRising rs

-- the map with that text under the key
unfoldable pub with_row : (key : ℕ) (text : List ℕ) → RowMap → RowMap
with_row key text [] = (key, text) ∷ []
with_row key text (r ∷ rs) = elim (nat_lt key r.0) [
  | true ↦ (key, text) ∷ r ∷ rs
  | false ↦ elim (nat_eq key r.0) [ true ↦ (key, text) ∷ rs | false ↦ r ∷ with_row key text rs ]
]

-- the map without the key
unfoldable pub without_row : (key : ℕ) → RowMap → RowMap
without_row key [] = []
without_row key (r ∷ rs) = elim (nat_eq key r.0) [ true ↦ without_row key rs | false ↦ r ∷ without_row key rs ]

-- the text under the key
unfoldable pub row_at : (key : ℕ) → RowMap → Option (List ℕ)
row_at key [] = None
row_at key (r ∷ rs) = elim (nat_eq key r.0) [ true ↦ Some r.1 | false ↦ row_at key rs ]

-- the rows in used slots: of two with one key the first counts
unfoldable pub rows_in : List Spot → RowMap
rows_in [] = []
rows_in (s ∷ ss) = elim (is_used s.bytes) [ true ↦ with_row (key_of s.bytes) (text_in s.bytes) (rows_in ss) | false ↦ rows_in ss ]

-- the rows of a table, none where the catalogue lacks it
unfoldable pub rows : Image → (table : List ℕ) → RowMap
rows image table = elim (table_spot table image) [
  | None ↦ []
  | Some spot ↦ rows_in (spots (RowsFrom (first_in spot.bytes)) image)
]

-- the used slots
unfoldable pub used : List Spot → List Spot
used [] = []
used (s ∷ ss) = elim (is_used s.bytes) [ true ↦ s ∷ used ss | false ↦ used ss ]

-- the chains of the tables that the catalogue names
unfoldable pub table_chains : List Spot → List Chain
table_chains [] = []
table_chains (s ∷ ss) = RowsFrom (first_in s.bytes) ∷ table_chains ss

-- all chains
unfoldable pub chains : Image → List Chain
chains image = Catalogue ∷ History ∷ table_chains (used (spots Catalogue image))

-- the pages of chains
unfoldable pub pages_of_all : Image → List Chain → List ℕ
pages_of_all image [] = []
pages_of_all image (c ∷ cs) = found_pages c image ++ pages_of_all image cs

-- no two of these are the same
abbrev pub AreDistinct : {X : Type 0} → List X → Type 0
AreDistinct [] = Unit {0}
AreDistinct (x ∷ xs) = AllByRecursion (λ y. x ≢ y) xs × AreDistinct xs

-- the keys of used slots
unfoldable pub keys_of : List Spot → List ℕ
keys_of [] = []
keys_of (s ∷ ss) = key_of s.bytes ∷ keys_of ss

-- the names in used slots of the catalogue
unfoldable pub names_of : List Spot → List (List ℕ)
names_of [] = []
names_of (s ∷ ss) = table_of s.bytes ∷ names_of ss

-- The chains are of the form, share no page and are taken, and no table name and no key of a table stands twice.
pub record IsNeat (image : Image) : Type 0 where
  pub formed : AllByRecursion (λ c. (ps : List ℕ) × (pages_of c image ≡ Ok ps)) (chains image)
  pub apart : AreDistinct (pages_of_all image (chains image))
  pub taken : AllByRecursion (λ p. is_free_page image p ≡ false) (pages_of_all image (chains image))
  pub names : AreDistinct (names_of (used (spots Catalogue image)))
  pub keys : AllByRecursion (λ c. AreDistinct (keys_of (used (spots c image)))) (table_chains (used (spots Catalogue image)))
