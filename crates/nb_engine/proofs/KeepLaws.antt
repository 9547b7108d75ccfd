-- Where a slot is kept for a row of the history, and why none is.
use Rattle.std.proofs.Common.{◌≡◌, ℕ, ◌<◌, List, [], ◌∷◌, length, refl, sym, ap, ◌∙◌, arith, Bool, true, false, Option, Some, None}
use Rattle.nb_engine.proofs.Common.{most_pages, Full, lt_no, Image, Draft, drafted, needs, is_kind, is_free_page, inventory_of, scn_page_of, Cause, first_cause, when, broken_at, not_of_form, no_room, no_scn, too_short, short_for, History, Spot, pages_of, found_pages, spots, free_spot, grown, room_in, needs_taken, needs_image, Room, room_at, room_cause, IsRoomIn, taken_draft, grow_cause, first_next, when_false, none_some}
use Rattle.nb_model.specs.Backups.{Room as Kept}
use Rattle.nb_engine.proofs.WalkLaws.{IsData, history_least}
use Rattle.nb_model.proofs.HeldRoom.{needs_image_same}

-- what a test of inventories leaves
needs_leaves : (kind p : ℕ) (d : Draft) → ((needs kind p d).strokes ≡ d.strokes) × ((needs kind p d).full ≡ d.full)
unfolding needs
needs_leaves kind p d = by (is_kind d.image kind p)
  where
    of : Bool → Draft
    of t = elim t [ true ↦ d | false ↦ record d { broken = p ∷ d.broken } ]

    by : (t : Bool) → ((of t).strokes ≡ d.strokes) × ((of t).full ≡ d.full)
    by true = (refl, refl)
    by false = (refl, refl)

taken_leaves : (p : ℕ) (d : Draft) → ((needs_taken p d).strokes ≡ d.strokes) × ((needs_taken p d).full ≡ d.full)
unfolding needs_taken
taken_leaves p d = by (is_free_page d.image p)
  where
    of : Bool → Draft
    of t = elim t [ true ↦ record d { broken = p ∷ d.broken } | false ↦ d ]

    by : (t : Bool) → ((of t).strokes ≡ d.strokes) × ((of t).full ≡ d.full)
    by true = (refl, refl)
    by false = (refl, refl)

module _ (image : Image) (p : ℕ) where
  abbrev first : Draft
  first = needs 2 (inventory_of image p) (drafted image)

  abbrev second : Draft
  second = needs 10 (scn_page_of image p) first

  pub kept_strokes : (taken_draft image p).strokes ≡ []
  kept_strokes = (taken_leaves p second).0 ∙ (needs_leaves 10 (scn_page_of image p) first).0 ∙ (needs_leaves 2 (inventory_of image p) (drafted image)).0

  kept_full : (taken_draft image p).full ≡ false
  kept_full = (taken_leaves p second).1 ∙ (needs_leaves 10 (scn_page_of image p) first).1 ∙ (needs_leaves 2 (inventory_of image p) (drafted image)).1

kept_image : (image : Image) (p : ℕ) → (taken_draft image p).image ≡ image
kept_image image p =
    needs_image_same p (needs 10 (scn_page_of image p) (needs 2 (inventory_of image p) (drafted image))) ∙ needs_image 10 (scn_page_of image p) (needs 2 (inventory_of image p) (drafted image)) ∙ needs_image 2 (inventory_of image p) (drafted image)

-- a cause that doesn't apply
skip : (a b : Cause) (cs : List Cause) → b ≡ None → first_cause (a ∷ b ∷ cs) ≡ first_cause (a ∷ cs)
unfolding first_cause
skip None b cs e = ap (λ (x : Cause). first_cause (x ∷ cs)) e
skip (Some r) b cs e = refl

no_room_of : (d : Draft) → d.full ≡ false → no_room d ≡ None
no_room_of d e = ap (λ (t : Bool). when t (Full most_pages)) e

module _ (image : Image) where
  abbrev grows : Draft × ℕ
  grows = grown History (found_pages History image) [] (drafted image)

  -- the slot, by the first that is free
  abbrev room_by : Option Spot → Kept
  room_by o = elim o [
    | Some s ↦ record { draft = taken_draft image s.page; page = s.page; slot = s.slot }
    | None ↦ record { draft = grows.0; page = grows.1; slot = 0 }
  ]

  room_is : room_in image ≡ room_by (free_spot (spots History image))
  unfolding room_in
  room_is = refl

  -- one is free
  module _ (s : Spot) (e : free_spot (spots History image) ≡ Some s) where
    kept_is : room_in image ≡ room_by (Some s)
    kept_is = room_is ∙ ap room_by e

    pub kept_room : (room : Room) → room.page ≡ s.page → room.slot ≡ s.slot → IsRoomIn image room
    kept_room room f h = record { page = f ∙ sym (ap (λ (k : Kept). k.page) kept_is); slot = h ∙ sym (ap (λ (k : Kept). k.slot) kept_is) }

    pub kept_below : (room : Room) → room.page ≡ s.page → IsData image s.page → room.page < length (room_in image).draft.image
    kept_below room f is = let low = is.low in omega (arith, low, f, ap (λ (k : Kept). length k.draft.image) kept_is, ap length (kept_image image s.page))

    pub kept_none : (room_in image).draft.strokes ≡ []
    kept_none = ap (λ (k : Kept). k.draft.strokes) kept_is ∙ kept_strokes image s.page

    pub kept_cause : broken_at (pages_of History image) ≡ None → first_cause (not_of_form (taken_draft image s.page) ∷ no_scn image ∷ []) ≡ room_cause image
    kept_cause linked =
        sym (first_next (broken_at (pages_of History image)) _ linked
        ∙ first_next (short_for (free_spot (spots History image)) image) _ (ap (λ (o : Option Spot). short_for o image) e)
        ∙ ap (λ (k : Kept). first_cause (not_of_form k.draft ∷ no_room k.draft ∷ no_scn image ∷ [])) kept_is
        ∙ skip (not_of_form (taken_draft image s.page)) (no_room (taken_draft image s.page)) (no_scn image ∷ []) (no_room_of (taken_draft image s.page) (kept_full image s.page)))

  -- none is free
  module _ (e : free_spot (spots History image) ≡ None) where
    grows_is : room_in image ≡ room_by None
    grows_is = room_is ∙ ap room_by e

    pub grown_room : (number : ℕ) → number ≡ grows.1 → IsRoomIn image (record { page = number; slot = 0 })
    grown_room number f = record { page = f ∙ sym (ap (λ (k : Kept). k.page) grows_is); slot = sym (ap (λ (k : Kept). k.slot) grows_is) }

    pub grown_low : (number : ℕ) → number < length grows.0.image → number < length (room_in image).draft.image
    grown_low number low = omega (arith, low, ap (λ (k : Kept). length k.draft.image) grows_is)

    pub grown_draft : (room_in image).draft.strokes ≡ grows.0.strokes
    grown_draft = ap (λ (k : Kept). k.draft.strokes) grows_is

    pub grown_cause : broken_at (pages_of History image) ≡ None → grow_cause image (found_pages History image) ≡ room_cause image
    grown_cause linked =
        let least = history_least image linked in
        let long : too_short image ≡ None = when_false _ _ (lt_no (length image) 5 least) in
        sym (first_next (broken_at (pages_of History image)) _ linked
        ∙ first_next (short_for (free_spot (spots History image)) image) _ (ap (λ (o : Option Spot). short_for o image) e ∙ long)
        ∙ ap (λ (k : Kept). first_cause (not_of_form k.draft ∷ no_room k.draft ∷ no_scn image ∷ [])) grows_is)

-- the spot of a place
pub record IsSpot (o : Option Spot) (room : Room) : Type 0 where
  pub spot : Spot
  pub is : o ≡ Some spot
  pub page : room.page ≡ spot.page
  pub slot : room.slot ≡ spot.slot

pub room_some : (o : Option Spot) (room : Room) → room_at o ≡ Some room → IsSpot o room
room_some None room e = absurd (none_some room e)
room_some (Some s) room e =
    let same : room ≡ record { page = s.page; slot = s.slot } = sym (ap (λ (x : Option Room). elim x as (λ z. Room) [ Some r ↦ r | None ↦ room ]) e) in
    record { spot = s; is = refl; page = ap (λ (r : Room). r.page) same; slot = ap (λ (r : Room). r.slot) same }

pub room_none : (o : Option Spot) → room_at o ≡ None → o ≡ None
room_none None e = refl
room_none (Some s) e = absurd (some_none e)
  where
    some_none : room_at (Some s) ≡ None → ⊥
    some_none d = cc
