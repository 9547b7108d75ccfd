-- The slot that is kept for a row of the history.
use Rattle.std.specs.Prelude.{◌≡◌, ◌<◌, ℕ, List, [], ◌∷◌, drop, length, nat_le, None}
use Rattle.nb_fields.specs.Bytes.{bytes_of, with_part}
use Rattle.nb_fields.specs.Payloads.{data_payload}
use Rattle.nb_host.specs.declared.refusals.Refusal.TheVariants.{NotDatabase}
use Rattle.nb_model.specs.Image.{Page, Image, page_at}
use Rattle.nb_model.specs.Forms.{Draft, drafted, needs, inventory_of, scn_page_of, lowest_free}
use Rattle.nb_model.specs.Causes.{Cause, first_cause, when, broken_at, not_of_form, no_room, no_scn, short_for}
use Rattle.nb_model.specs.Chains.{Chain, History, pages_of, spots, free_spot, owner_of, grown}
use Rattle.nb_model.specs.Backups.{room_in, needs_taken}
use Rattle.nb_engine.specs.declared.walk.Room.{Room}
use Rattle.nb_alloc.specs.Put.{entry_cause}
use Rattle.nb_alloc.specs.Find.{HoldsMap}
use Rattle.nb_alloc.specs.Search.{IsSearchable}
use Rattle.nb_alloc.specs.Behind.{behind_cause}
use Rattle.nb_alloc.specs.Data.{new_behind}

-- why no slot is kept
abbrev pub room_cause : Image → Cause
room_cause image = first_cause (broken_at (pages_of History image) ∷ short_for (free_spot (spots History image)) image ∷ not_of_form (room_in image).draft ∷ no_room (room_in image).draft ∷ no_scn image ∷ [])

-- it is the slot of the definition
pub record IsRoomIn (image : Image) (room : Room) : Type 0 where
  pub page : room.page ≡ (room_in image).page
  pub slot : room.slot ≡ (room_in image).slot

-- why a free slot of page p isn't kept
abbrev pub taken_draft : Image → ℕ → Draft
taken_draft image p = needs_taken p (needs 10 (scn_page_of image p) (needs 2 (inventory_of image p) (drafted image)))

-- what stands after the head of a page of the history without a row
abbrev pub no_rows : List ℕ
no_rows = data_payload 0 1 []

-- what stands after the head of page p when that is linked to the next
abbrev pub linked_payload : Image → (p next : ℕ) → List ℕ
linked_payload image p next = drop 16 (with_part 16 (bytes_of 4 next) (page_at image p))

-- why page p, which may be past the end, isn't written
abbrev pub write_cause : Image → (p : ℕ) → Cause
write_cause image p = first_cause (when (nat_le (length image) p) (NotDatabase p) ∷ entry_cause image p ∷ [])

-- A page with these slots may be made after page `last` of the chain: the search for its place comes to page `first` at first, whose
-- inventory page is that map, and all that the page and the link to it change is of its kind. The payload is what it has after its head.
pub record IsGrowable (image : Image) (chain : Chain) (slots : List ℕ) (first last : ℕ) (map : Page) (payload : List ℕ) : Type 0 where
  pub at : first ≡ lowest_free image
  pub holds : HoldsMap image first map
  pub searchable : IsSearchable image
  pub free : behind_cause (new_behind chain slots image).0 last ≡ None
  pub bytes : payload ≡ data_payload 0 (owner_of chain) slots

-- it is the number of the page by which the chain of these pages grows
pub record IsGrown (image : Image) (chain : Chain) (pages slots : List ℕ) (number : ℕ) : Type 0 where
  pub is : number ≡ (grown chain pages slots (drafted image)).1
  pub below : number < length (grown chain pages slots (drafted image)).0.image

-- why the history of these pages doesn't grow
abbrev pub grow_cause : Image → (pages : List ℕ) → Cause
grow_cause image pages = first_cause (not_of_form (grown History pages [] (drafted image)).0 ∷ no_room (grown History pages [] (drafted image)).0 ∷ no_scn image ∷ [])
