-- The turn of a table that is made, by its causes.
use Rattle.std.proofs.Common.{◌≡◌, ℕ, ◌<◌, ◌≤◌, List, [], ◌∷◌, ◌++◌, length, refl, sym, ap, ◌∙◌, arith, Bool, true, false, Option, Some, None, is_some, nat_le, min}
use Rattle.nb_table.proofs.Common.{data_kind, Refusal, TableExists, TooManyTables, Done, Refused, Cause, first_cause, broken_at, read_only, not_kind, not_of_form, no_room, when, too_short, Catalogue, Spot, found_pages, free_spot, pages_of, spots, table_spot, table_slot, Draft, Image, Seen, says, unless, changes, used, create_turn, unmade, no_first, le_no, data_there, first_front, first_rest, refused_by, Place, first_made, created_in, created_behind, new_cause, Table, Walked, gathered, place_of, free_kind, first_here, first_next, le_yes, some_same, one_cause}
use Rattle.nb_model.specs.Chains.{place_at}
use Rattle.nb_table.specs.Walks.{place_at as places}
use Rattle.nb_table.proofs.PlaceLaws.{IsPlaceOf, place_some, found_there}

module _ (image : Image) (table : List ℕ) where
  abbrev broken : Cause
  broken = broken_at (pages_of Catalogue image)

  abbrev there : Cause
  there = when (is_some (table_spot table image)) TableExists

  abbrev many : Cause
  many = when (nat_le 12 (length (used (spots Catalogue image)))) TooManyTables

  -- the tests in their order
  pub not_whole : (r : Refusal) → broken ≡ Some r → new_cause image table ≡ Some r
  not_whole r e = first_here broken (there ∷ many ∷ []) r e

  module _ (formed : broken ≡ None) where
    pub exists : is_some (table_spot table image) ≡ true → new_cause image table ≡ Some TableExists
    exists e = first_next broken (there ∷ many ∷ []) formed ∙ first_here there (many ∷ []) TableExists (ap (λ (t : Bool). when t TableExists) e)

    module _ (new : is_some (table_spot table image) ≡ false) where
      to_many : new_cause image table ≡ many
      to_many = first_next broken (there ∷ many ∷ []) formed ∙ first_next there (many ∷ []) (ap (λ (t : Bool). when t TableExists) new) ∙ one_cause many

      pub too_many : nat_le 12 (length (used (spots Catalogue image))) ≡ true → new_cause image table ≡ Some TooManyTables
      too_many e = to_many ∙ ap (λ (t : Bool). when t TooManyTables) e

      pub may : nat_le 12 (length (used (spots Catalogue image))) ≡ false → new_cause image table ≡ None
      may e = to_many ∙ ap (λ (t : Bool). when t TooManyTables) e

module _ (s : Seen) (table : List ℕ) where
  abbrev image_now : Image
  image_now = s.base.image

  abbrev causes : List Cause
  causes = read_only image_now ∷ broken image_now table ∷ there image_now table ∷ many image_now table ∷ too_short image_now ∷ []

  abbrev draft : Option Spot → Draft
  draft o = place_at Catalogue o (found_pages Catalogue image_now) (table_slot table (first_made image_now).1) (first_made image_now).0

  abbrev here : Option Spot
  here = free_spot (spots Catalogue image_now)

  pub create_denied : (r : Refusal) → read_only image_now ≡ Some r → create_turn s table ≡ says s (Refused r) []
  unfolding create_turn
  create_denied r e = refused_by s causes (draft here) Done r (first_here (read_only image_now) _ r e)

  module _ (free : read_only image_now ≡ None) where
    pub create_refused : (r : Refusal) → new_cause image_now table ≡ Some r → create_turn s table ≡ says s (Refused r) []
    unfolding create_turn
    create_refused r e = refused_by s causes (draft here) Done r (first_next (read_only image_now) _ free ∙ first_front (broken image_now table ∷ there image_now table ∷ many image_now table ∷ []) (too_short image_now ∷ []) r e)

    module _ (new : new_cause image_now table ≡ None) where
      create_by : (d : Draft) → draft here ≡ d → create_turn s table ≡ unless s (unmade image_now d) (says s Done d.strokes)
      unfolding create_turn changes
      create_by d same =
          ap (λ (e : Draft). unless s (first_cause (causes ++ not_of_form e ∷ no_room e ∷ [])) (says s Done e.strokes)) same
          ∙ ap (λ (c : Cause). unless s c (says s Done d.strokes)) (first_next (read_only image_now) _ free
          ∙ first_rest (broken image_now table ∷ there image_now table ∷ many image_now table ∷ []) (too_short image_now ∷ not_of_form d ∷ no_room d ∷ []) new)

      -- the slot is at a place
      pub create_at : (place : Place) → Some place ≡ places here → create_turn s table ≡ unless s (unmade image_now (created_in image_now table place)) (says s Done (created_in image_now table place).strokes)
      create_at place e = create_by (created_in image_now table place) (by here e)
        where
          by : (o : Option Spot) → Some place ≡ places o → draft o ≡ created_in image_now table place
          by None f = cc
          by (Some f) g = ap (λ (p : Place). created_in image_now table p) (sym (some_same place (place_of f) g))

      -- or in a new page
      pub create_last : None ≡ places here → create_turn s table ≡ unless s (unmade image_now (created_behind image_now table)) (says s Done (created_behind image_now table).strokes)
      create_last e = create_by (created_behind image_now table) (by here e)
        where
          by : (o : Option Spot) → None ≡ places o → draft o ≡ created_behind image_now table
          by None f = refl
          by (Some f) g = cc

-- What a walk for the name came by.
module _ (image : Image) (name : List ℕ) (walked : Walked) (is : walked ≡ gathered (Table name) (spots Catalogue image)) where
  pub table_there : is_some walked.found ≡ is_some (table_spot name image)
  unfolding table_spot
  table_there = ap (λ (w : Walked). is_some w.found) is ∙ found_there (table_spot name image)

  used_there : walked.used ≡ min 12 (length (used (spots Catalogue image)))
  used_there = ap (λ (w : Walked). w.used) is

  pub many_used : 12 ≤ walked.used → nat_le 12 (length (used (spots Catalogue image))) ≡ true
  many_used most = le_yes 12 (length (used (spots Catalogue image))) (omega (arith, most, used_there))

  pub few_used : walked.used < 12 → nat_le 12 (length (used (spots Catalogue image))) ≡ false
  few_used less = le_no 12 (length (used (spots Catalogue image))) (omega (arith, less, used_there))

-- where a table may be made, the catalogue is of the form, and a free place is in one of its pages
module _ (image : Image) where
  pub new_formed : (table : List ℕ) → new_cause image table ≡ None → broken_at (pages_of Catalogue image) ≡ None
  new_formed table none = (no_first (broken_at (pages_of Catalogue image)) _ none).0

  pub place_data : broken_at (pages_of Catalogue image) ≡ None → (place : Place) → Some place ≡ places (free_spot (spots Catalogue image)) → (place.page < length image) × (not_kind image data_kind place.page ≡ None)
  place_data formed place e =
      let at : IsPlaceOf (free_spot (spots Catalogue image)) place = place_some (free_spot (spots Catalogue image)) place e in
      let kind : not_kind image data_kind place.page ≡ None = ap (λ (n : ℕ). not_kind image data_kind n) at.page ∙ free_kind Catalogue image formed at.spot at.is in
      (data_there image place.page kind, kind)
