-- Why a table isn't dropped: the lowest of the pages that change and that aren't of their kind in the database as it stood.
use Rattle.std.proofs.Common.{◌≡◌, inl, inr, ℕ, ◌+◌, ◌*◌, ◌<◌, ◌≤◌, List, [], ◌∷◌, ◌++◌, length, drop, refl, ap, subst, ◌∙◌, arith, length-drop, Bool, true, None}
use Rattle.nb_table.proofs.Common.{AllByRecursion, append-nil, with_part, length-with_part, most_pages, inventory_kind, data_kind, Full, lowest_broken, not_of_form, no_room, when, RowsFrom, Slot, Spot, first_in, found_pages, free_slot, put_slot, Draft, drafted, is_kind, needs, inventory_of, scn_page_of, bit_number, with_bit, set_bit, give_page, Image, image_size, page_at, all_given, all_at, scn_place_before, IsShaped, kind_parts, entry_broken, give_broken, Notes, notes_none, notes_raised, notes_put, notes_given, kept_raised, lowest_same, dropped, drop_broken}
use Rattle.nb_fields.proofs.SizeLaws.{SizeFacts, size_facts}
use Rattle.nb_alloc.proofs.FullLaws.{needs_full, put_full}

-- pages that may be given back: below the length, and not the header
abbrev pub AreBelow : Image → List ℕ → Type 0
AreBelow x = AllByRecursion (λ q. (1 ≤ q) × (q < length x))

module _ (x : Image) (shaped : IsShaped x) where
  -- a slot of a data page becomes another
  module _ (p slot : ℕ) (bytes : Slot) (some : 1 ≤ p) (kind : is_kind x data_kind p ≡ true) (inside : 32 + 256 * slot + length bytes ≤ image_size x) where
    low : p < length x
    low = (kind_parts x data_kind p kind).0

    entry_low : scn_page_of x p < length x
    entry_low = let least = shaped.least in elim (scn_place_before (image_size x) p shaped.size) [ inl two ↦ omega (arith, two, least) | inr le ↦ omega (arith, le, low) ]

    pub slot_room : 16 + length (drop 16 (with_part (32 + 256 * slot) bytes (page_at x p))) ≤ image_size x
    slot_room =
        let facts : SizeFacts (image_size x) = size_facts (image_size x) shaped.size in
        let page : length (page_at x p) ≡ image_size x = all_at (λ page. length page ≡ image_size x) x shaped.sizes p low in
        let long : length (with_part (32 + 256 * slot) bytes (page_at x p)) ≡ image_size x = length-with_part (32 + 256 * slot) bytes (page_at x p) (omega (arith, page, inside)) ∙ page in
        omega (arith, facts.at_least, long, length-drop 16 (with_part (32 + 256 * slot) bytes (page_at x p)))

    pub slot_noted : Notes x (put_slot p slot bytes (drafted x)) (entry_broken x p)
    unfolding put_slot
    slot_noted =
        let none : Notes x (drafted x) [] = notes_none x shaped in
        subst (Notes x (put_slot p slot bytes (drafted x))) (append-nil (entry_broken x p))
        (notes_put x p entry_low (drafted x) [] 5 (drop 16 (with_part (32 + 256 * slot) bytes (page_at x p))) none some low slot_room
        (kept_raised p data_kind p (drafted x) x [] none (notes_raised x p entry_low (drafted x) [] none) (inl kind)))

  -- pages are given back one after the other
  pub given_noted : (pages : List ℕ) (d : Draft) (noted : List ℕ) → AreBelow x pages → Notes x d noted → Notes x (all_given pages d) (drop_broken x pages noted)
  unfolding all_given
  given_noted [] d noted below h = h
  given_noted (q ∷ qs) d noted below h = given_noted qs (give_page q d) (give_broken x q ++ noted) below.1 (notes_given x shaped q below.0.0 below.0.1 d noted h)

-- so it is refused for the lowest of them
pub noted_lowest : (x : Image) (d : Draft) (noted : List ℕ) → Notes x d noted → not_of_form d ≡ lowest_broken noted
noted_lowest x d noted h = lowest_same d.broken noted h.to h.back

-- it asks for no page
give_full : (p : ℕ) (d : Draft) → (give_page p d).full ≡ d.full
unfolding set_bit
give_full p d =
    put_full (inventory_of d.image p) inventory_kind (drop 16 (with_bit (bit_number d.image p) 1 (page_at d.image (inventory_of d.image p)))) (needs 2 (inventory_of d.image p) d)
    ∙ needs_full 2 (inventory_of d.image p) d

pub given_full : (pages : List ℕ) (d : Draft) → (all_given pages d).full ≡ d.full
unfolding all_given
given_full [] d = refl
given_full (p ∷ ps) d = given_full ps (give_page p d) ∙ give_full p d

pub dropped_full : (image : Image) (spot : Spot) → no_room (dropped image spot) ≡ None
unfolding put_slot
dropped_full image spot =
    ap (λ (t : Bool). when t (Full most_pages))
    (given_full (found_pages (RowsFrom (first_in spot.bytes)) image) (put_slot spot.page spot.slot free_slot (drafted image))
    ∙ put_full spot.page data_kind (drop 16 (with_part (32 + 256 * spot.slot) free_slot (page_at image spot.page))) (drafted image))
