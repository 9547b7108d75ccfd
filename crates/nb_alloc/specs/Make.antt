-- What making a new page does of an open database.
use Rattle.std.specs.Prelude.{◌≡◌, ◌<◌, ◌≤◌, ℕ, ◌+◌, ◌-◌, ◌*◌, ◌/◌, List, [], ◌∷◌, ◌++◌, length, Bool, true, false, None, IsTrue}
use Rattle.nb_fields.specs.Bytes.{bytes_of, with_part}
use Rattle.nb_fields.specs.Places.{is_page_size, bits_in, inventory_place, most_pages}
use Rattle.nb_fields.specs.Page.{stamped}
use Rattle.nb_fields.specs.Payloads.{text_payload}
use Rattle.nb_model.specs.Image.{Page, Image, image_size, image_scn}
use Rattle.nb_model.specs.Strokes.{Stroke, page}
use Rattle.nb_model.specs.Forms.{Draft, drafted, old_page, is_kind, system_kind, system_payload, take_page, system_page, free_from, lowest_free, new_page}
use Rattle.nb_model.specs.Causes.{Cause}
use Rattle.nb_model.specs.Sound.{IsSoundImage}
use Rattle.nb_model.proofs.StepLaws.{IsShaped, IsReady}
use Rattle.nb_alloc.specs.Put.{entry_cause, raise_strokes}
use Rattle.nb_alloc.specs.Find.{HoldsMap}

-- its inventories agree with its pages, and its page size and SCN are those of a header
pub record IsWell (image : Image) : Type 0 where
  pub sound : IsSoundImage image
  pub size : IsTrue (is_page_size (image_size image))
  pub scn : image_scn image < 4294967296

-- page p, also where it is added, gets that kind and that payload: its SCN entry first
abbrev pub page_strokes : Image → (p kind : ℕ) → (payload : List ℕ) → List Stroke
page_strokes image p kind payload = raise_strokes image p ++ page p (stamped (old_page p image) kind payload (image_scn image) p) ∷ []

-- the system page of that place is put there, unless a page of its kind stands there; and why it is refused
abbrev pub system_strokes : Image → (p : ℕ) → List Stroke
system_strokes image p = elim (is_kind image (system_kind image p) p) [ true ↦ [] | false ↦ page_strokes image p (system_kind image p) (system_payload image p) ]

abbrev pub system_cause : Image → (p : ℕ) → Cause
system_cause image p = elim (is_kind image (system_kind image p) p) [ true ↦ None | false ↦ entry_cause image p ]

-- what page p has after its head: these bytes, of which, where it owns itself, four are its number
abbrev pub content : (own : Bool) (bytes : List ℕ) → (p : ℕ) → List ℕ
content own bytes p = elim own [ true ↦ with_part 4 (bytes_of 4 p) bytes | false ↦ bytes ]

-- a new page of that kind with what it has by its number, and the number
abbrev pub new_of : (kind : ℕ) (payload : ℕ → List ℕ) → Image → Draft × ℕ
new_of kind payload image = new_page kind payload (drafted image)

-- a raw page with the empty text
abbrev pub new_raw : Image → Draft × ℕ
new_raw image = new_of 8 (λ p. text_payload []) image

-- a round of the search for it at a system place: the system page is there, and is taken
abbrev pub round : Image → (place : ℕ) → Draft
round image place = take_page place (system_page place (drafted image))

-- the lowest free page after that place then, or the length
abbrev pub behind : Image → (place : ℕ) → ℕ
behind image place = let after : Image = (round image place).image in free_from (length after - (place + 1)) (place + 1) after

-- all that a new page needs of page p is of its kind
pub record IsSupplied (image : Image) (p : ℕ) : Type 0 where
  pub shaped : IsShaped image
  pub ready : IsReady image p

-- After a system page that is made at page p the search goes on to a page that is left, by inventory pages of their kind.
pub record GoesOn (image : Image) (p : ℕ) : Type 0 where
  pub below : behind image p < most_pages
  pub maps : (k : ℕ) → k ≤ behind image p / bits_in (image_size (round image p).image) → is_kind (round image p).image 2 (inventory_place (image_size (round image p).image) k) ≡ true

-- The search goes on after that place to the lowest free page, or the length. The map is the inventory page of that page, unless a system
-- page stands there.
pub record IsOnward (image : Image) (place next : ℕ) (map : Page) : Type 0 where
  pub found : next ≡ free_from (length image - (place + 1)) (place + 1) image
  pub holds : HoldsMap image next map

-- How many reads a new page makes at most where the search for it ends at that page: the inventory pages up to that of the lowest free
-- page, six pages for the new one, and eleven for each page between that the search went past.
abbrev pub new_reads : (image : Image) (number : ℕ) → ℕ
new_reads image number = lowest_free image / bits_in (image_size image) + 1 + 6 + 11 * (number - lowest_free image)
