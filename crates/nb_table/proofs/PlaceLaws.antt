-- A slot of a chain is written, or its chain grows: what that does of a turn.
use Rattle.std.proofs.Common.{◌≡◌, ℕ, ◌+◌, ◌*◌, List, [], ◌∷◌, ◌++◌, refl, sym, ap, ◌∙◌, Bool, true, false, Option, Some, None, Result, is_some, Err, Ok}
use Rattle.nb_table.proofs.Common.{with_part, data_kind, World, Fault, NotDatabase, Image, page_at, Trail, Draft, drafted, is_kind, other_kind, wants, first_cause, not_kind, not_of_form, no_room, broken_at, too_short, short_for, Cause, Chain, Slot, Spot, pages_of, found_pages, spots, free_spot, put_slot, grown, place_slot, last_of, draft_cause, Held, data_cause, put_data, unmade, entry_cause, Tries, by_entry, tries_named, slot_alone, Place, Found, place_cause, place_of, found_of, place_at, found_at, free_kind, last_kind, Stroke, tries_other, tries_valued, first_next, is_so}

-- nothing is noted of it
pub wants_met : (image : Image) (kind p : ℕ) (d : Draft) → not_kind image kind p ≡ None → wants image kind p d ≡ d
unfolding other_kind
wants_met image kind p d none = ap (λ (t : Bool). record d { broken = (elim t as (λ z. List ℕ) [ true ↦ [] | false ↦ p ∷ [] ]) ++ d.broken }) (is_so (is_kind image kind p) (NotDatabase p) none)

-- A slot of a data page is written as its page is, with these bytes there.
pub slot_tries : {T : Type 0} (result : Result T Fault) (old new : World) (a b : Held) (t : Trail) (p slot : ℕ) (bytes : Slot) → not_kind t.base.image data_kind p ≡ None
    → Tries result old new a b t (data_cause t.base.image p) (put_data p (with_part (32 + 256 * slot) bytes (page_at t.base.image p)) t.base.image).strokes
    → Tries result old new a b t (entry_cause t.base.image p) (put_slot p slot bytes (drafted t.base.image)).strokes
unfolding put_slot
slot_tries result old new a b t p slot bytes kind tries =
    tries_named result old new a b t (data_cause t.base.image p) (entry_cause t.base.image p) _ _ (sym (by_entry t.base.image p kind)) refl tries

-- the last page of a chain that is of the form is a data page
pub last_is_data : (chain : Chain) (image : Image) → broken_at (pages_of chain image) ≡ None → (last : ℕ) → last ≡ last_of (found_pages chain image) → is_kind image data_kind last ≡ true
last_is_data chain image formed last is =
    let end : ℕ = last_of (found_pages chain image) in
    ap (is_kind image data_kind) is ∙ is_so (is_kind image data_kind end) (NotDatabase end) (last_kind chain image formed)

-- what a call answers that makes a page, without the page's number
abbrev pub unnumbered : Result ℕ Fault → Result (Unit {0}) Fault
unnumbered (Ok number) = Ok tt
unnumbered (Err fault) = Err fault

pub unnumbered_tries : (result : Result ℕ Fault) (old new : World) (a b : Held) (t : Trail) (cause : Cause) (xs : List Stroke) → Tries result old new a b t cause xs → Tries (unnumbered result) old new a b t cause xs
unnumbered_tries (Ok number) old new a b t cause xs tries = tries_valued number tt old new a b t cause xs tries
unnumbered_tries (Err fault) old new a b t cause xs tries = tries_other ℕ (Unit {0}) fault old new a b t cause xs tries

-- A slot is written at its place in a chain.
module _ (chain : Chain) (image : Image) (bytes : Slot) where
  abbrev pages : List ℕ
  pages = found_pages chain image

  abbrev placed : Draft
  placed = place_slot chain pages bytes (drafted image)

  abbrev placed_by : Option Spot → Draft
  placed_by o = elim o [ Some s ↦ wants image 5 s.page (put_slot s.page s.slot bytes (drafted image)) | None ↦ (grown chain pages bytes (drafted image)).0 ]

  placed_is : placed ≡ placed_by (free_spot (spots chain image))
  unfolding place_slot spots
  placed_is = refl

  -- into a free slot, or into the first of a new page
  pub placed_there : (s : Spot) → free_spot (spots chain image) ≡ Some s → not_kind image data_kind s.page ≡ None → placed ≡ put_slot s.page s.slot bytes (drafted image)
  placed_there s found kind = placed_is ∙ ap placed_by found ∙ wants_met image 5 s.page (put_slot s.page s.slot bytes (drafted image)) kind

  pub placed_behind : free_spot (spots chain image) ≡ None → placed ≡ (grown chain pages bytes (drafted image)).0
  placed_behind none = placed_is ∙ ap placed_by none

-- The slot of a place.
pub record IsPlaceOf (o : Option Spot) (place : Place) : Type 0 where
  pub spot : Spot
  pub is : o ≡ Some spot
  pub page : place.page ≡ spot.page
  pub slot : place.slot ≡ spot.slot

pub place_some : (o : Option Spot) (place : Place) → Some place ≡ place_at o → IsPlaceOf o place
place_some None place e = cc
place_some (Some s) place e =
    let same : place ≡ place_of s = cc in
    record { spot = s; is = refl; page = ap (λ (x : Place). x.page) same; slot = ap (λ (x : Place). x.slot) same }

pub place_none : (o : Option Spot) → None ≡ place_at o → o ≡ None
place_none None e = refl
place_none (Some s) e = cc

pub found_some : (o : Option Spot) (f : Found) → Some f ≡ found_at o → IsPlaceOf o f.place
found_some None f e = cc
found_some (Some s) f e =
    let same : f ≡ found_of s = cc in
    record { spot = s; is = refl; page = ap (λ (x : Found). x.place.page) same; slot = ap (λ (x : Found). x.place.slot) same }

pub found_there : (o : Option Spot) → is_some (found_at o) ≡ is_some o
found_there None = refl
found_there (Some s) = refl

-- What is placed in a chain that is of the form.
module _ (z : Image) (chain : Chain) (formed : broken_at (pages_of chain z) ≡ None) (bytes : Slot) where
  abbrev into : Draft
  into = place_slot chain (found_pages chain z) bytes (drafted z)

  -- into a free slot
  module _ (place : Place) (free : Some place ≡ place_at (free_spot (spots chain z))) where
    at_place : IsPlaceOf (free_spot (spots chain z)) place
    at_place = place_some (free_spot (spots chain z)) place free

    pub place_kind : not_kind z data_kind place.page ≡ None
    place_kind = ap (λ (n : ℕ). not_kind z data_kind n) at_place.page ∙ free_kind chain z formed at_place.spot at_place.is

    there_is : put_slot place.page place.slot bytes (drafted z) ≡ into
    there_is =
        ap (λ (n : ℕ). put_slot n place.slot bytes (drafted z)) at_place.page ∙ ap (λ (n : ℕ). put_slot at_place.spot.page n bytes (drafted z)) at_place.slot
        ∙ sym (placed_there chain z bytes at_place.spot at_place.is (free_kind chain z formed at_place.spot at_place.is))

    there_cause : entry_cause z place.page ≡ place_cause chain z bytes
    there_cause =
        sym (slot_alone z place.page place.slot bytes) ∙ ap draft_cause there_is ∙ sym (first_next (short_for (free_spot (spots chain z)) z) (not_of_form into ∷ no_room into ∷ []) (ap (λ (o : Option Spot). short_for o z) at_place.is))

    pub there_tries : {T : Type 0} (result : Result T Fault) (old new : World) (a e : Held) (t : Trail) → Tries result old new a e t (entry_cause z place.page) (put_slot place.page place.slot bytes (drafted z)).strokes
        → Tries result old new a e t (place_cause chain z bytes) into.strokes
    there_tries result old new a e t tries = tries_named result old new a e t (entry_cause z place.page) (place_cause chain z bytes) _ _ there_cause (ap (λ (d : Draft). d.strokes) there_is) tries

  -- or into a new page
  module _ (none : None ≡ place_at (free_spot (spots chain z))) where
    abbrev grows : Draft
    grows = (grown chain (found_pages chain z) bytes (drafted z)).0

    no_spot : free_spot (spots chain z) ≡ None
    no_spot = place_none (free_spot (spots chain z)) none

    behind_is : grows ≡ into
    behind_is = sym (placed_behind chain z bytes no_spot)

    behind_by : unmade z grows ≡ place_cause chain z bytes
    behind_by =
        ap (λ (d : Draft). first_cause (too_short z ∷ not_of_form d ∷ no_room d ∷ [])) behind_is
        ∙ ap (λ (o : Option Spot). first_cause (short_for o z ∷ not_of_form into ∷ no_room into ∷ [])) (sym no_spot)

    pub behind_tries : (result : Result ℕ Fault) (old new : World) (a e : Held) (t : Trail) → Tries result old new a e t (unmade z grows) grows.strokes → Tries (unnumbered result) old new a e t (place_cause chain z bytes) into.strokes
    behind_tries result old new a e t tries =
        tries_named (unnumbered result) old new a e t (unmade z grows) (place_cause chain z bytes) _ _ behind_by (ap (λ (d : Draft). d.strokes) behind_is) (unnumbered_tries result old new a e t (unmade z grows) grows.strokes tries)
