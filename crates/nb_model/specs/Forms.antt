-- The short forms of changes: a page with its SCN entry first, a bit of an inventory, a new page.
--
-- Each form goes on from a draft to a draft, and writes by `written` alone. So what one write keeps, every form keeps, and it
-- holds after each of their strokes: at each moment at which the program may stop.
use Rattle.std.specs.Prelude.{◌≡◌, ℕ, zero, suc, ◌+◌, ◌-◌, ◌*◌, ◌/◌, ◌%◌, ◌^◌, List, [], ◌∷◌, ◌++◌, length, drop, replicate, slice_set, slice_index, Option, Some, None, Bool, true, false, ◌&&◌, ◌||◌, ◌==◌, nat_lt}
use Rattle.std.specs.Int.{bit_at}
use Rattle.nb_fields.specs.Bytes.{bytes_of, with_part}
use Rattle.nb_fields.specs.Places.{entries_in, bits_in, inventory_place, scn_place, is_inventory_place, is_scn_place, is_system_place, most_pages}
use Rattle.nb_fields.specs.Page.{kind_of, stamped}
use Rattle.nb_fields.specs.Payloads.{bit_of, entry_of, inventory_payload, scn_payload}
use Rattle.nb_fields.specs.Kinds.{inventory_kind, scn_kind}
use Rattle.nb_model.specs.Image.{Page, Image, page_at, image_size, image_scn, with_page}
use Rattle.nb_model.specs.Strokes.{Stroke, page, merged_page}

-- Strokes that are about to be made: the image after them, the strokes in order, the inventory pages of either kind that were
-- read and aren't of the form, and whether no page was left for a new one.
pub record Draft : Type 0 where
  pub image : Image
  pub strokes : List Stroke
  pub broken : List ℕ
  pub full : Bool

-- no stroke yet
abbrev pub drafted : Image → Draft
drafted image = record { image = image; strokes = []; broken = []; full = false }

-- page p with its old bytes, and zeros where it is about to be added
unfoldable pub old_page : ℕ → Image → Page
old_page p image = elim (nat_lt p (length image)) [ true ↦ page_at image p | false ↦ replicate (image_size image) 0 ]

-- one page stroke more
unfoldable pub wrote : ℕ → Page → Draft → Draft
wrote p bytes d = record d { image = with_page p (merged_page p bytes d.image) d.image; strokes = d.strokes ++ page p bytes ∷ [] }

-- Page p gets that kind and that payload, with the current SCN as its stamp. No other form writes.
unfoldable pub written : (p kind : ℕ) (payload : List ℕ) → Draft → Draft
written p kind payload d = wrote p (stamped (old_page p d.image) kind payload (image_scn d.image) p) d

-- the page is below the length and is of that kind
unfoldable pub is_kind : Image → (kind p : ℕ) → Bool
is_kind image kind p = nat_lt p (length image) && kind_of (page_at image p) == kind

-- an inventory page of that kind is read
unfoldable pub needs : (kind p : ℕ) → Draft → Draft
needs kind p d = elim (is_kind d.image kind p) [ true ↦ d | false ↦ record d { broken = p ∷ d.broken } ]

-- page p is noted where it isn't of that kind in an image
unfoldable pub other_kind : Image → (kind p : ℕ) → List ℕ
other_kind image kind p = elim (is_kind image kind p) [ true ↦ [] | false ↦ p ∷ [] ]

abbrev pub wants : Image → (kind p : ℕ) → Draft → Draft
wants image kind p d = record d { broken = other_kind image kind p ++ d.broken }

-- the page inventory page and the SCN inventory page that have page p
abbrev pub inventory_of : Image → ℕ → ℕ
inventory_of image p = inventory_place (image_size image) (p / bits_in (image_size image))

abbrev pub scn_page_of : Image → ℕ → ℕ
scn_page_of image p = scn_place (image_size image) (p / entries_in (image_size image))

-- the number of page p's bit and of its entry there
abbrev pub bit_number : Image → ℕ → ℕ
bit_number image p = p % bits_in (image_size image)

abbrev pub entry_number : Image → ℕ → ℕ
entry_number image p = p % entries_in (image_size image)

-- the SCN entry of page p
unfoldable pub scn_entry : Image → ℕ → ℕ
scn_entry image p = entry_of (page_at image (scn_page_of image p)) (entry_number image p)

-- the bit of page p says free
unfoldable pub is_free_page : Image → ℕ → Bool
is_free_page image p = bit_of (page_at image (inventory_of image p)) (bit_number image p) == 1

-- Page 0 and the SCN pages go by their own stamp: their entries aren't used.
unfoldable pub has_entry : Image → ℕ → Bool
has_entry image p = elim (p == 0 || is_scn_place (image_size image) p) [ true ↦ false | false ↦ true ]

-- the SCN page that has the entry of page p is there, if it has one
abbrev pub HasItsEntry : Image → ℕ → Type 0
HasItsEntry image p = has_entry image p ≡ true → is_kind image scn_kind (scn_page_of image p) ≡ true

-- the SCN page of page p with the current SCN as that entry
unfoldable pub entry_written : ℕ → Draft → Draft
entry_written p d =
    written (scn_page_of d.image p) 10
    (drop 16 (with_part (32 + 4 * entry_number d.image p) (bytes_of 4 (image_scn d.image)) (page_at d.image (scn_page_of d.image p)))) d

-- its entry is raised where it is below the current SCN
unfoldable pub entry_raised : ℕ → Draft → Draft
entry_raised p d = elim (nat_lt (scn_entry d.image p) (image_scn d.image)) [ true ↦ entry_written p d | false ↦ d ]

-- the SCN entry of page p is raised, if page p has one
unfoldable pub raised : ℕ → Draft → Draft
raised p d = elim (has_entry d.image p) [ true ↦ entry_raised p (needs 10 (scn_page_of d.image p) d) | false ↦ d ]

-- page p of that kind with that payload, its SCN entry first
unfoldable pub put : (p kind : ℕ) (payload : List ℕ) → Draft → Draft
put p kind payload d = written p kind payload (raised p d)

-- the inventory page with bit i so
unfoldable pub with_bit : (i bit : ℕ) → Page → Page
with_bit i bit inventory =
    let byte : ℕ = slice_index inventory (32 + i / 8) in
    slice_set inventory (32 + i / 8) (byte - bit_at byte (i % 8) * 2 ^ (i % 8) + bit * 2 ^ (i % 8))

-- the bit of page p is set: 0 for taken, 1 for free
unfoldable pub set_bit : (bit p : ℕ) → Draft → Draft
set_bit bit p d =
    put (inventory_of d.image p) inventory_kind (drop 16 (with_bit (bit_number d.image p) bit (page_at d.image (inventory_of d.image p))))
    (needs 2 (inventory_of d.image p) d)

-- page p is taken, or given back
abbrev pub take_page : ℕ → Draft → Draft
take_page p d = set_bit 0 p d

abbrev pub give_page : ℕ → Draft → Draft
give_page p d = set_bit 1 p d

-- the lowest free page from p on, of which `left` pages are left to look at, or the one after them
unfoldable pub free_from : (left p : ℕ) → Image → ℕ
free_from zero p image = p
free_from (suc left) p image = elim (is_free_page image p) [ true ↦ p | false ↦ free_from left (p + 1) image ]

-- the lowest free page from 5 on, or the length
unfoldable pub lowest_free : Image → ℕ
lowest_free image = free_from (length image - 5) 5 image

-- so many inventory pages from the k-th on are read
unfoldable pub needs_inventories : (count k : ℕ) → Draft → Draft
needs_inventories zero k d = d
needs_inventories (suc count) k d = needs_inventories count (k + 1) (needs 2 (inventory_place (image_size d.image) k) d)

-- what a system place holds: its kind, and a page inventory page of free bits or an SCN inventory page of the current SCN
abbrev pub system_kind : Image → ℕ → ℕ
system_kind image p = elim (is_inventory_place (image_size image) p) [ true ↦ 2 | false ↦ 10 ]

unfoldable pub system_payload : Image → ℕ → List ℕ
system_payload image p = elim (is_inventory_place (image_size image) p) [
  | true ↦ inventory_payload (image_size image) ((p + 1) / bits_in (image_size image)) 0
  | false ↦ scn_payload (image_size image) (p / entries_in (image_size image)) (image_scn image)
]

-- the system page of that place is there
unfoldable pub system_page : ℕ → Draft → Draft
system_page p d = elim (is_kind d.image (system_kind d.image p) p) [
  | true ↦ d
  | false ↦ put p (system_kind d.image p) (system_payload d.image p) d
]

-- no page is left
abbrev pub no_page : Draft → Draft
no_page d = record d { full = true }

-- a page, and the kind that it has to be of
pub record Need : Type 0 where
  pub kind : ℕ
  pub page : ℕ

-- the first of these pages that isn't of its kind
unfoldable pub first_not : Image → List Need → Option ℕ
first_not image [] = None
first_not image (n ∷ ns) = elim (is_kind image n.kind n.page) [ true ↦ first_not image ns | false ↦ Some n.page ]

-- so many inventory pages from the k-th on
unfoldable pub maps_from : (size count k : ℕ) → List Need
maps_from size zero k = []
maps_from size (suc count) k = record { kind = inventory_kind; page = inventory_place size k } ∷ maps_from size count (k + 1)

-- the SCN page with the entry of page p, if it has one
unfoldable pub entry_page : Image → ℕ → List Need
entry_page image p = elim (has_entry image p) [ true ↦ record { kind = scn_kind; page = scn_page_of image p } ∷ [] | false ↦ [] ]

-- page p is the system page of its place already
unfoldable pub is_kept : Image → ℕ → Bool
is_kept image p = is_system_place (image_size image) p && is_kind image (system_kind image p) p

-- What a new page needs of page p: the inventory pages up to its own, and, where page p may be given, the SCN pages of that inventory page,
-- and of page p if it is written.
unfoldable pub needed_at : Image → ℕ → List Need
needed_at image p = maps_from (image_size image) (p / bits_in (image_size image) + 1) 0 ++ elim (p == most_pages) [
  | true ↦ []
  | false ↦ entry_page image (inventory_of image p) ++ elim (is_kept image p) [ true ↦ [] | false ↦ entry_page image p ]
]

-- A new page and its number. A system place that the search comes to becomes its system page, is taken, and the search begins
-- again. It ends at the first page that it needs and that isn't of its kind. The payload is told the page's number. So many places are
-- tried at most.
unfoldable pub new_within : (tries kind : ℕ) (payload : ℕ → List ℕ) → Draft → Draft × ℕ
new_within zero kind payload d = (no_page d, 0)
new_within (suc tries) kind payload d =
    let p : ℕ = lowest_free d.image in
    elim (first_not d.image (needed_at d.image p)) [
      | Some q ↦ (record d { broken = q ∷ d.broken }, 0)
      | None ↦ elim (p == most_pages) [
        | true ↦ (no_page d, p)
        | false ↦ elim (is_system_place (image_size d.image) p) [
          | true ↦ new_within tries kind payload (take_page p (system_page p d))
          | false ↦ (take_page p (put p kind (payload p) d), p)
        ]
      ]
    ]

-- each system place is tried once at most
abbrev pub new_page : (kind : ℕ) (payload : ℕ → List ℕ) → Draft → Draft × ℕ
new_page kind payload d = new_within (length d.image + 4) kind payload d
