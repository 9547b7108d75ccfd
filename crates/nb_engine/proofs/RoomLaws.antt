-- Why a free slot of the history is not kept: the lowest of the pages that aren't of the form.
use Rattle.std.proofs.Common.{◌≡◌, ◌≢◌, ℕ, zero, suc, ◌*◌, ◌/◌, ◌<◌, ◌≤◌, List, [], ◌∷◌, refl, sym, ap, ◌∙◌, arith, mul-le-mul_right, Bool, true, false, not, Some, None, min, IsTrue}
use Rattle.nb_engine.proofs.Common.{kind_of, is_page_size, entries_in, bits_in, inventory_place, scn_place, entries-least, scn_place-some, inventory_kind, data_kind, scn_kind, Refusal, NotDatabase, Image, page_at, image_size, Draft, drafted, needs, is_kind, inventory_of, scn_page_of, is_free_page, Cause, first_cause, when, not_kind, lowest_broken, not_of_form, no_scn, needs_taken, inventory_place_some, needs_image, kind_parts, taken_draft, inventory_most, page_alone, none_broken, first_here, first_next, is_so, none_some, one_cause}
use Rattle.std.proofs.Math.Nat.{div-mul-le_self, le-div_iff_mul-le}

-- the inventory page of a page stands before its SCN page
before_scn : (size p : ℕ) → IsTrue (is_page_size size) → inventory_place size (p / bits_in size) < scn_place size (p / entries_in size)
before_scn size p is = by (p / bits_in size) (p / entries_in size) refl refl
  where
    a : ℕ
    a = entries_in size

    least : 248 ≤ entries_in size
    least = entries-least size is

    by : (k j : ℕ) → p / bits_in size ≡ k → p / entries_in size ≡ j → inventory_place size k < scn_place size j
    by zero j e f = let two = scn_place-some size j is in omega (arith, two)
    by (suc k) j e f =
        let under : suc k * bits_in size ≤ p = omega (arith, div-mul-le_self p (bits_in size), ap (λ (n : ℕ). n * bits_in size) e) in
        let as_entries : 32 * suc k * entries_in size ≤ p = omega (arith, under) in
        let many : 32 * suc k ≤ j = omega (arith, (le-div_iff_mul-le {k = entries_in size} {x = 32 * suc k} {y = p} (omega (arith, least))).1 as_entries, f) in
        by_scn j many
      where
        by_scn : (j : ℕ) → 32 * suc k ≤ j → inventory_place size (suc k) < scn_place size j
        by_scn zero many = absurd (omega (arith, many))
        by_scn (suc j) many =
            let more : 32 * suc k * entries_in size ≤ suc j * entries_in size = mul-le-mul_right (entries_in size) many in
            let same : suc k * bits_in size ≡ 32 * suc k * entries_in size = omega arith in
            let some : 1 ≤ suc k * bits_in size = omega (arith, least, same) in
            omega (arith, more, same, some)

-- the SCN page of a page stands before it, or is that page
scn_most : (size p : ℕ) → 2 ≤ p → scn_place size (p / entries_in size) ≤ p
scn_most size p two = by (p / entries_in size) refl
  where
    by : (k : ℕ) → p / entries_in size ≡ k → scn_place size k ≤ p
    by zero e = two
    by (suc k) e = omega (arith, div-mul-le_self p (entries_in size), ap (λ (n : ℕ). n * entries_in size) e)

-- the lowest of some pages
two_of : (p i : ℕ) → i ≤ p → lowest_broken (p ∷ i ∷ []) ≡ Some (NotDatabase i)
unfolding lowest_broken
two_of p i low = let same : min p i ≡ i = omega (arith, low) in ap (λ (n : ℕ). Some (NotDatabase n)) same

three_of : (p s i : ℕ) → i ≤ p → i ≤ s → lowest_broken (p ∷ s ∷ i ∷ []) ≡ Some (NotDatabase i)
unfolding lowest_broken
three_of p s i low less = let same : min (min p s) i ≡ i = omega (arith, low, less) in ap (λ (n : ℕ). Some (NotDatabase n)) same

module _ (image : Image) (p : ℕ) where
  abbrev i : ℕ
  i = inventory_of image p

  abbrev s : ℕ
  s = scn_page_of image p

  -- the pages that aren't of the form, by the tests
  abbrev with_inventory : Bool → List ℕ
  with_inventory t = elim t [ true ↦ [] | false ↦ i ∷ [] ]

  abbrev with_scn : Bool → List ℕ → List ℕ
  with_scn t ps = elim t [ true ↦ ps | false ↦ s ∷ ps ]

  abbrev with_page : Bool → List ℕ → List ℕ
  with_page t ps = elim t [ true ↦ p ∷ ps | false ↦ ps ]

  abbrev first : Draft
  first = needs 2 i (drafted image)

  abbrev second : Draft
  second = needs 10 s first

  first_is : first.broken ≡ with_inventory (is_kind image inventory_kind i)
  unfolding needs
  first_is = by (is_kind image inventory_kind i)
    where
      by : (t : Bool) → (elim t as (λ z. Draft) [ true ↦ drafted image | false ↦ record { image = image; strokes = []; broken = i ∷ []; full = false } ]).broken ≡ with_inventory t
      by true = refl
      by false = refl

  needed : (d : Draft) → (needs 10 s d).broken ≡ with_scn (is_kind d.image scn_kind s) d.broken
  unfolding needs
  needed d = by (is_kind d.image scn_kind s)
    where
      by : (t : Bool) → (elim t as (λ z. Draft) [ true ↦ d | false ↦ record d { broken = s ∷ d.broken } ]).broken ≡ with_scn t d.broken
      by true = refl
      by false = refl

  taken : (d : Draft) → (needs_taken p d).broken ≡ with_page (is_free_page d.image p) d.broken
  unfolding needs_taken
  taken d = by (is_free_page d.image p)
    where
      by : (t : Bool) → (elim t as (λ z. Draft) [ true ↦ record d { broken = p ∷ d.broken } | false ↦ d ]).broken ≡ with_page t d.broken
      by true = refl
      by false = refl

  broken_is : (taken_draft image p).broken ≡ with_page (is_free_page image p) (with_scn (is_kind image scn_kind s) (with_inventory (is_kind image inventory_kind i)))
  broken_is =
      taken second ∙ ap (λ (x : Image). with_page (is_free_page x p) second.broken) (needs_image 10 s first ∙ needs_image 2 i (drafted image))
      ∙ ap (with_page (is_free_page image p)) (needed first ∙ ap (λ (x : Image). with_scn (is_kind x scn_kind s) first.broken) (needs_image 2 i (drafted image)) ∙ ap (with_scn (is_kind image scn_kind s)) first_is)

  form_is : (a b c : Bool) → is_kind image inventory_kind i ≡ a → is_kind image scn_kind s ≡ b → is_free_page image p ≡ c → not_of_form (taken_draft image p) ≡ lowest_broken (with_page c (with_scn b (with_inventory a)))
  form_is a b c e f g =
      ap lowest_broken
      (broken_is ∙ ap (λ (t : Bool). with_page t (with_scn (is_kind image scn_kind s) (with_inventory (is_kind image inventory_kind i)))) g
      ∙ ap (λ (t : Bool). with_page c (with_scn t (with_inventory (is_kind image inventory_kind i)))) f ∙ ap (λ (t : Bool). with_page c (with_scn b (with_inventory t))) e)

  abbrev cause : Cause
  cause = first_cause (not_of_form (taken_draft image p) ∷ no_scn image ∷ [])

  refused : (r : Refusal) → not_of_form (taken_draft image p) ≡ Some r → cause ≡ Some r
  refused r e = first_here (not_of_form (taken_draft image p)) (no_scn image ∷ []) r e

  not_none : (t : Bool) (q : ℕ) (r : Refusal) → when (not t) (NotDatabase q) ≡ Some r → (t ≡ false) × (Some (NotDatabase q) ≡ Some r)
  not_none true q r e = absurd (none_some r e)
  not_none false q r e = (refl, e)

  module _ (size : IsTrue (is_page_size (image_size image))) (some : 1 ≤ p) (kind : kind_of (page_at image p) ≡ data_kind) where
    -- the inventory page
    pub inventory_refused : (r : Refusal) → not_kind image inventory_kind i ≡ Some r → cause ≡ Some r
    inventory_refused r e =
        let both = not_none (is_kind image inventory_kind i) i r e in
        refused r (form_is false (is_kind image scn_kind s) (is_free_page image p) both.0 refl refl ∙ by (is_kind image scn_kind s) (is_free_page image p) ∙ both.1)
      where
        low : i ≤ p
        low = inventory_most (image_size image) p some

        less : i < s
        less = before_scn (image_size image) p size

        by : (b c : Bool) → lowest_broken (with_page c (with_scn b (i ∷ []))) ≡ Some (NotDatabase i)
        by true true = two_of p i low
        by true false = page_alone i
        by false true = three_of p s i low (omega (arith, less))
        by false false = two_of s i (omega (arith, less))

    module _ (inventory : not_kind image inventory_kind i ≡ None) where
      is_inventory : is_kind image inventory_kind i ≡ true
      is_inventory = is_so (is_kind image inventory_kind i) (NotDatabase i) inventory

      two : 2 ≤ p
      two =
          let low = inventory_most (image_size image) p some in
          let least = inventory_place_some (image_size image) (p / bits_in (image_size image)) size in
          let other : i ≢ p = λ e. two_five (sym (kind_parts image inventory_kind i is_inventory).1 ∙ ap (λ (n : ℕ). kind_of (page_at image n)) e ∙ kind) in
          omega (arith, low, least, other)
        where
          two_five : ◌≡◌ {A = ℕ} 2 5 → ⊥
          two_five e = absurd (omega (arith, e))

      -- the SCN page
      pub scn_refused : (r : Refusal) → not_kind image scn_kind s ≡ Some r → cause ≡ Some r
      scn_refused r e =
          let both = not_none (is_kind image scn_kind s) s r e in
          refused r (form_is true false (is_free_page image p) is_inventory both.0 refl ∙ by (is_free_page image p) ∙ both.1)
        where
          by : (c : Bool) → lowest_broken (with_page c (s ∷ [])) ≡ Some (NotDatabase s)
          by true = two_of p s (scn_most (image_size image) p two)
          by false = page_alone s

      module _ (scn_page : not_kind image scn_kind s ≡ None) where
        is_scn_page : is_kind image scn_kind s ≡ true
        is_scn_page = is_so (is_kind image scn_kind s) (NotDatabase s) scn_page

        -- the page itself
        pub free_refused : is_free_page image p ≡ true → cause ≡ Some (NotDatabase p)
        free_refused e = refused (NotDatabase p) (form_is true true true is_inventory is_scn_page e ∙ page_alone p)

        pub form_none : is_free_page image p ≡ false → not_of_form (taken_draft image p) ≡ None
        form_none e = form_is true true false is_inventory is_scn_page e ∙ none_broken

        -- the SCN
        pub room_cause : is_free_page image p ≡ false → cause ≡ no_scn image
        room_cause e = first_next (not_of_form (taken_draft image p)) (no_scn image ∷ []) (form_none e) ∙ one_cause (no_scn image)
