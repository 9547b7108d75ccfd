-- Chains of data pages and their slots: the catalogue, the history, and the rows of each table.
use Rattle.std.specs.Prelude.{ℕ, zero, suc, ◌+◌, ◌-◌, ◌*◌, ◌/◌, List, [], ◌∷◌, ◌++◌, drop, length, replicate, Option, Some, None, Result, Ok, Err, Bool, true, false, ◌&&◌, ◌||◌, ◌==◌, nat_le, nat_lt, nat_eq, slice_index}
use Rattle.std.specs.List.{list_all}
use Rattle.nb_fields.specs.Bytes.{bytes_of, with_part, part, number_in, padded}
use Rattle.nb_fields.specs.Page.{kind_of}
use Rattle.nb_fields.specs.Payloads.{data_payload}
use Rattle.nb_fields.specs.Kinds.{data_kind}
use Rattle.nb_host.specs.Names.{is_name, same_name}
use Rattle.nb_model.specs.TableNames.{is_table_name}
use Rattle.nb_model.specs.Image.{Page, Image, page_at}
use Rattle.nb_model.specs.Forms.{Draft, wants, put, new_page}

-- a chain: of the tables' names, of the backups, or of the rows of the table that begins with that page
pub data Chain : Type 0 where
  Catalogue : Chain
  History : Chain
  RowsFrom : ℕ → Chain

abbrev pub first_of : Chain → ℕ
first_of Catalogue = 3
first_of History = 4
first_of (RowsFrom first) = first

-- what stands in the owner field of each of its pages
abbrev pub owner_of : Chain → ℕ
owner_of Catalogue = 0
owner_of History = 1
owner_of (RowsFrom first) = first

-- the fields of a data page
abbrev pub next_in : Page → ℕ
next_in page = number_in 16 4 page

abbrev pub owner_in : Page → ℕ
owner_in page = number_in 20 4 page

-- the fields of a slot; the length is that of the text or of the name
abbrev pub Slot : Type 0
Slot = List ℕ

abbrev pub is_used : Slot → Bool
is_used slot = slice_index slot 0 == 1

abbrev pub length_in : Slot → ℕ
length_in slot = number_in 2 2 slot

abbrev pub key_of : Slot → ℕ
key_of slot = number_in 8 8 slot

abbrev pub text_in : Slot → List ℕ
text_in slot = part 16 (length_in slot) slot

abbrev pub table_of : Slot → List ℕ
table_of slot = part 16 (length_in slot) slot

abbrev pub first_in : Slot → ℕ
first_in slot = number_in 4 4 slot

abbrev pub level_in : Slot → ℕ
level_in slot = slice_index slot 1

abbrev pub scn_in : Slot → ℕ
scn_in slot = number_in 4 4 slot

abbrev pub guid_in : Slot → List ℕ
guid_in slot = part 16 16 slot

abbrev pub file_in : Slot → List ℕ
file_in slot = part 32 (length_in slot) slot

-- the slots of a row, of a table and of a backup, and a free one
unfoldable pub row_slot : (key : ℕ) (text : List ℕ) → Slot
row_slot key text = padded 256 (1 ∷ 0 ∷ (bytes_of 2 (length text) ++ (replicate 4 0 ++ (bytes_of 8 key ++ text))))

unfoldable pub table_slot : (name : List ℕ) (first : ℕ) → Slot
table_slot name first = padded 256 (1 ∷ 0 ∷ (bytes_of 2 (length name) ++ (bytes_of 4 first ++ (replicate 8 0 ++ name))))

unfoldable pub backup_slot : (level scn time : ℕ) (guid name : List ℕ) → Slot
backup_slot level scn time guid name = padded 256 (1 ∷ level ∷ (bytes_of 2 (length name) ++ (bytes_of 4 scn ++ (bytes_of 8 time ++ (guid ++ name)))))

abbrev pub free_slot : Slot
free_slot = replicate 256 0

-- what a used slot of the chain holds is of the form
abbrev pub is_filled : Chain → Slot → Bool
is_filled Catalogue slot = nat_le (length_in slot) 30 && is_table_name (table_of slot)
is_filled History slot = nat_le (length_in slot) 100 && is_name (file_in slot)
is_filled (RowsFrom first) slot = nat_le (length_in slot) 200

-- a slot is free, or used and of the form
unfoldable pub is_slot : Chain → Slot → Bool
is_slot chain slot = slice_index slot 0 == 0 || (is_used slot && is_filled chain slot)

-- so many slots of 256 bytes from that place on
unfoldable pub slots_from : (count at : ℕ) → Page → List Slot
slots_from zero at page = []
slots_from (suc count) at page = part at 256 page ∷ slots_from count (at + 256) page

-- the slots of a data page
unfoldable pub slots_in : Page → List Slot
slots_in page = slots_from ((length page - 32) / 256) 32 page

-- page p is below the length and is a page of the chain
unfoldable pub is_in_chain : Chain → Image → ℕ → Bool
is_in_chain chain image p =
    nat_lt p (length image) && (kind_of (page_at image p) == data_kind && (owner_in (page_at image p) == owner_of chain && list_all (is_slot chain) (slots_in (page_at image p))))

-- one page before the others, if they are a chain
abbrev pub linked : ℕ → Result (List ℕ) ℕ → Result (List ℕ) ℕ
linked p (Ok ps) = Ok (p ∷ ps)
linked p (Err q) = Err q

-- the chain from page p on, which has no more pages than `left`, or its first page that breaks the form
unfoldable pub walk : (left : ℕ) → Chain → Image → ℕ → Result (List ℕ) ℕ
walk zero chain image p = Err p
walk (suc left) chain image p = elim (is_in_chain chain image p) [
  | false ↦ Err p
  | true ↦ elim (next_in (page_at image p) == 0) [
    | true ↦ Ok (p ∷ [])
    | false ↦ linked p (walk left chain image (next_in (page_at image p)))
  ]
]

-- the pages of a chain, or its first page that breaks the form: one that leads back into itself has more pages than the image
unfoldable pub pages_of : Chain → Image → Result (List ℕ) ℕ
pages_of chain image = walk (length image) chain image (first_of chain)

-- the pages, none where the chain is broken
unfoldable pub found_pages : Chain → Image → List ℕ
found_pages chain image = elim (pages_of chain image) [ Ok ps ↦ ps | Err p ↦ [] ]

-- a slot, and where it stands
pub record Spot : Type 0 where
  pub page : ℕ
  pub slot : ℕ
  pub bytes : Slot

unfoldable pub spots_on : (page slot : ℕ) → List Slot → List Spot
spots_on page slot [] = []
spots_on page slot (s ∷ ss) = record { page = page; slot = slot; bytes = s } ∷ spots_on page (slot + 1) ss

-- the slots of pages, in order
unfoldable pub spots_of : Image → List ℕ → List Spot
spots_of image [] = []
spots_of image (p ∷ ps) = spots_on p 0 (slots_in (page_at image p)) ++ spots_of image ps

-- the slots of a chain
unfoldable pub spots : Chain → Image → List Spot
spots chain image = spots_of image (found_pages chain image)

-- the first that passes a test, and the last
unfoldable pub first_such : {X : Type 0} → (X → Bool) → List X → Option X
first_such test [] = None
first_such test (x ∷ xs) = elim (test x) [ true ↦ Some x | false ↦ first_such test xs ]

unfoldable pub last_such : {X : Type 0} → (X → Bool) → List X → Option X
last_such test [] = None
last_such test (x ∷ xs) = elim (last_such test xs) [ Some y ↦ Some y | None ↦ elim (test x) [ true ↦ Some x | false ↦ None ] ]

-- the first free slot of a chain
unfoldable pub free_spot : List Spot → Option Spot
free_spot ss = first_such (λ s. nat_eq (slice_index s.bytes 0) 0) ss

-- the slot of the table of that name: of two the first in the chain's order counts
unfoldable pub table_spot : (name : List ℕ) → Image → Option Spot
table_spot name image = first_such (λ s. is_used s.bytes && same_name (table_of s.bytes) name) (spots Catalogue image)

-- the slot of the row with that key, likewise
unfoldable pub row_spot : (key : ℕ) → List Spot → Option Spot
row_spot key ss = first_such (λ s. is_used s.bytes && key_of s.bytes == key) ss

-- the latest backup that passes a test
unfoldable pub backup_spot : (Slot → Bool) → Image → Option Spot
backup_spot test image = last_such (λ s. is_used s.bytes && test s.bytes) (spots History image)

-- the slot of page p is written
unfoldable pub put_slot : (p slot : ℕ) → Slot → Draft → Draft
put_slot p slot bytes d = put p data_kind (drop 16 (with_part (32 + 256 * slot) bytes (page_at d.image p))) d

abbrev pub last_of : List ℕ → ℕ
last_of [] = 0
last_of (p ∷ []) = p
last_of (p ∷ q ∷ qs) = last_of (q ∷ qs)

-- The chain of these pages gets one page more, with these slots, and its number. Its last page has to be a data page after the search too.
unfoldable pub grown : Chain → (pages : List ℕ) (slots : List ℕ) → Draft → Draft × ℕ
grown chain pages slots d =
    let made : Draft × ℕ = new_page 5 (λ p. data_payload 0 (owner_of chain) slots) d in
    (wants made.0.image 5 (last_of pages) (put (last_of pages) data_kind (drop 16 (with_part 16 (bytes_of 4 made.1) (page_at made.0.image (last_of pages)))) made.0), made.1)

-- The slot is written at that place of the chain. Where there is none, a new page holds it before the last page is linked to it:
-- the link is the moment at which it is there. The page of the slot has to be a data page then.
abbrev pub place_at : Chain → (room : Option Spot) (pages : List ℕ) → Slot → Draft → Draft
place_at chain room pages bytes d = elim room [
  | Some s ↦ wants d.image 5 s.page (put_slot s.page s.slot bytes d)
  | None ↦ (grown chain pages bytes d).0
]

-- it is written into the first free slot of the chain
unfoldable pub place_slot : Chain → (pages : List ℕ) → Slot → Draft → Draft
place_slot chain pages bytes d = place_at chain (free_spot (spots_of d.image pages)) pages bytes d
