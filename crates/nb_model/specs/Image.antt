-- The image of a database: the list of its pages. The place of a page in the list is its number.
use Rattle.std.specs.Prelude.{ℕ, zero, suc, ◌-◌, List, [], ◌∷◌, ◌++◌, length, take, drop, replicate, slice_set, Bool, true, false, nat_le, nat_lt, not, ◌==◌}
use Rattle.std.specs.List.{slice_index_or}
use Rattle.nb_fields.specs.Bytes.{is_zeros, number_in}
use Rattle.nb_fields.specs.Header.{state_of, size_of, scn_of, guid_of}

abbrev pub Page : Type 0
Page = List ℕ

abbrev pub Image : Type 0
Image = List Page

-- page p, and nothing where there is none
abbrev pub page_at : Image → ℕ → Page
page_at image p = slice_index_or image p []

-- page 0, whose fields are those of the image
abbrev pub first_page : Image → Page
first_page image = page_at image 0

-- the page size
abbrev pub image_size : Image → ℕ
image_size image = size_of (first_page image)

-- the backup state: 0 normal, 1 stalled, 2 merge, 3 applying
abbrev pub image_state : Image → ℕ
image_state image = state_of (first_page image)

-- the current SCN
abbrev pub image_scn : Image → ℕ
image_scn image = scn_of (first_page image)

-- the GUID of the last backup
abbrev pub image_guid : Image → List ℕ
image_guid image = guid_of (first_page image)

-- forced writes are on
abbrev pub is_forced : Image → Bool
is_forced image = not (number_in 64 1 (first_page image) == 0)

-- no statement may change a page
abbrev pub is_read_only : Image → Bool
is_read_only image = not (number_in 65 1 (first_page image) == 0)

-- the whole pages of bytes, of which there are no more than `most`
unfoldable pub cut : (size most : ℕ) → List ℕ → List Page
cut size zero bytes = []
cut size (suc most) bytes = elim (nat_le size (length bytes)) [ true ↦ take size bytes ∷ cut size most (drop size bytes) | false ↦ [] ]

-- without the pages of zeros at the end
unfoldable pub trimmed : List Page → Image
trimmed [] = []
trimmed (p ∷ ps) = elim (trimmed ps) [
  | [] ↦ elim (is_zeros p) [ true ↦ [] | false ↦ p ∷ [] ]
  | q ∷ qs ↦ p ∷ q ∷ qs
]

-- The image that a file's bytes hold by the page size in its header. A page of zeros at the end isn't counted: no page of a
-- database is all zeros, so it is what a crash left of a growth.
unfoldable pub image_in : List ℕ → Image
image_in bytes = trimmed (cut (size_of bytes) (length bytes) bytes)

-- the image with page p, which is at most the length, replaced
unfoldable pub with_page : ℕ → Page → Image → Image
with_page p page image = elim (nat_lt p (length image)) [ true ↦ slice_set image p page | false ↦ image ++ page ∷ [] ]

-- a page and its number, as a level file gives it
abbrev pub Numbered : Type 0
Numbered = ℕ × Page

-- the image with that page written over its place, and zeros between where it lies past the end
unfoldable pub written_at : (size : ℕ) → Numbered → Image → Image
written_at size r image = elim (nat_lt r.0 (length image)) [
  | true ↦ slice_set image r.0 r.1
  | false ↦ image ++ (replicate (r.0 - length image) (replicate size 0) ++ r.1 ∷ [])
]

-- with each of these pages written over, in order
unfoldable pub overwritten : (size : ℕ) → List Numbered → Image → Image
overwritten size [] image = image
overwritten size (r ∷ rs) image = overwritten size rs (written_at size r image)
