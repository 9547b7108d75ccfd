-- A slot is written on a page: its other slots stay, and so do those of all other pages.
use Rattle.std.proofs.Common.{◌≡◌, ◌≢◌, ◌⊎◌, inl, inr, ℕ, zero, suc, ◌+◌, ◌-◌, ◌*◌, ◌/◌, ◌<◌, List, [], ◌∷◌, ◌++◌, map, refl, sym, ap, subst, ◌∙◌, arith, Bool, true, false, ◌&&◌, ◌==◌}
use Rattle.nb_model.proofs.Common.{AllByRecursion, and_left, and_right, and_from, eq-eqb, ne_eqb, eqb_tells, map-append, part, Slot, Spot, slots_from, slots_in, spots_on, spots_of, Page, Image, page_at, AreDistinct, all_go}
use Rattle.nb_model.proofs.SlotLaws.{IsSlotWritten}
use Rattle.nb_model.proofs.SpotKeys.{ChangesOnce}
use Rattle.nb_model.proofs.SpotLaws.{IsSpotOn, slot_count, all_on}
use Rattle.nb_model.proofs.SpotMaps.{ChangesOne}

-- the slot at that place with these bytes, and another as it is
abbrev pub put_at : (page slot : ℕ) → Slot → Spot → Spot
put_at page slot bytes u = elim (u.page == page && u.slot == slot) as (λ z. Spot) [ true ↦ record { page = u.page; slot = u.slot; bytes = bytes } | false ↦ u ]

module _ (p slot : ℕ) (bytes : Slot) where
  abbrev f : Spot → Spot
  f = put_at p slot bytes

  put_here : (old : Slot) → f (record { page = p; slot = slot; bytes = old }) ≡ record { page = p; slot = slot; bytes = bytes }
  put_here old = ap (λ (t : Bool). elim t as (λ z. Spot) [ true ↦ record { page = p; slot = slot; bytes = bytes } | false ↦ record { page = p; slot = slot; bytes = old } ]) (and_from (p == p) (slot == slot) (eq-eqb p p refl) (eq-eqb slot slot refl))

  off_page : (u : Spot) → u.page ≢ p → f u ≡ u
  off_page u other = ap (λ (t : Bool). elim t as (λ z. Spot) [ true ↦ record { page = u.page; slot = u.slot; bytes = bytes } | false ↦ u ]) (and_left (u.page == p) _ (ne_eqb u.page p other))

  off_slot : (u : Spot) → u.slot ≢ slot → f u ≡ u
  off_slot u other = ap (λ (t : Bool). elim t as (λ z. Spot) [ true ↦ record { page = u.page; slot = u.slot; bytes = bytes } | false ↦ u ]) (and_right (u.page == p) _ (ne_eqb u.slot slot other))

  pub put_it : (s : Spot) → s.page ≡ p → s.slot ≡ slot → f s ≡ record { page = p; slot = slot; bytes = bytes }
  put_it s a b = ap (λ (n : ℕ). f (record { page = n; slot = s.slot; bytes = s.bytes })) a ∙ ap (λ (n : ℕ). f (record { page = p; slot = n; bytes = s.bytes })) b ∙ put_here s.bytes

  -- The spots of a page.
  other_page : (q j : ℕ) (ss : List Slot) → q ≢ p → map f (spots_on q j ss) ≡ spots_on q j ss
  unfolding spots_on
  other_page q j [] other = refl
  other_page q j (s ∷ ss) other = ap (λ (u : Spot). u ∷ map f (spots_on q (j + 1) ss)) (off_page (record { page = q; slot = j; bytes = s }) other) ∙ ap (λ (us : List Spot). record { page = q; slot = j; bytes = s } ∷ us) (other_page q (j + 1) ss other)

  module _ (old new : Page) (written : IsSlotWritten slot bytes old new) where
    this_page : (count at j : ℕ) → at ≡ 32 + 256 * j → spots_on p j (slots_from count at new) ≡ map f (spots_on p j (slots_from count at old))
    unfolding spots_on slots_from
    this_page zero at j e = refl
    this_page (suc count) at j e =
        ap (λ (u : Spot). u ∷ spots_on p (j + 1) (slots_from count (at + 256) new)) one
        ∙ ap (λ (us : List Spot). f (record { page = p; slot = j; bytes = part at 256 old }) ∷ us) (this_page count (at + 256) (j + 1) (omega (arith, e)))
      where
        one : record { page = p; slot = j; bytes = part at 256 new } ≡ f (record { page = p; slot = j; bytes = part at 256 old })
        one = elim (eqb_tells j slot) [
          | inl w ↦
              let there : at ≡ 32 + 256 * slot = omega (arith, e, w.1) in
              ap (λ (k : ℕ). record { page = p; slot = j; bytes = part k 256 new }) there ∙ ap (λ (b : Slot). record { page = p; slot = j; bytes = b }) written.here
              ∙ ap (λ (n : ℕ). record { page = p; slot = n; bytes = bytes }) w.1 ∙ sym (put_it (record { page = p; slot = j; bytes = part at 256 old }) refl w.1)
          | inr w ↦
              ap (λ (k : ℕ). record { page = p; slot = j; bytes = part k 256 new }) e ∙ ap (λ (b : Slot). record { page = p; slot = j; bytes = b }) (written.others j w.1)
              ∙ ap (λ (k : ℕ). record { page = p; slot = j; bytes = part k 256 old }) (sym e) ∙ sym (off_slot (record { page = p; slot = j; bytes = part at 256 old }) w.1)
        ]

    page_spots : spots_on p 0 (slots_in new) ≡ map f (spots_on p 0 (slots_in old))
    unfolding slots_in
    page_spots = ap (λ (n : ℕ). spots_on p 0 (slots_from ((n - 32) / 256) 32 new)) written.long ∙ this_page (slot_count old) 32 0 (omega arith)

  -- The spots of all pages.
  pub spots_written : (x y : Image) (ps : List ℕ) → IsSlotWritten slot bytes (page_at x p) (page_at y p) → AllByRecursion (λ (q : ℕ). q ≢ p → page_at y q ≡ page_at x q) ps → spots_of y ps ≡ map f (spots_of x ps)
  unfolding spots_of
  spots_written x y [] written others = refl
  spots_written x y (q ∷ ps) written others =
      ap (λ (us : List Spot). us ++ spots_of y ps) one ∙ ap (λ (us : List Spot). map f (spots_on q 0 (slots_in (page_at x q))) ++ us) (spots_written x y ps written others.1)
      ∙ sym (map-append f (spots_on q 0 (slots_in (page_at x q))) (spots_of x ps))
    where
      one : spots_on q 0 (slots_in (page_at y q)) ≡ map f (spots_on q 0 (slots_in (page_at x q)))
      one = elim (eqb_tells q p) [
        | inl w ↦ subst (λ (n : ℕ). spots_on n 0 (slots_in (page_at y n)) ≡ map f (spots_on n 0 (slots_in (page_at x n)))) (sym w.1) (page_spots (page_at x p) (page_at y p) written)
        | inr w ↦ ap (λ (page : Page). spots_on q 0 (slots_in page)) (others.0 w.1) ∙ sym (other_page q 0 (slots_in (page_at x q)) w.1)
      ]

  -- Each of them stays, or is the one that is written.
  module _ (P : ℕ → Type 0) (x : Image) (s : Spot) (on : IsSpotOn P x s) (page_is : s.page ≡ p) (slot_is : s.slot ≡ slot) where
    one_changes : (u : Spot) → IsSpotOn P x u → ChangesOne f s u
    one_changes u there = elim (eqb_tells u.page p) [
      | inr w ↦ inl (off_page u w.1)
      | inl w ↦ elim (eqb_tells u.slot slot) [
        | inr v ↦ inl (off_slot u v.1)
        | inl v ↦ inr (same (w.1 ∙ sym page_is) (v.1 ∙ sym slot_is))
      ]
    ]
      where
        same : u.page ≡ s.page → u.slot ≡ s.slot → u ≡ s
        same a b =
            let bytes_are : u.bytes ≡ s.bytes = there.there ∙ ap (λ (n : ℕ). part (32 + 256 * n) 256 (page_at x u.page)) b ∙ ap (λ (n : ℕ). part (32 + 256 * s.slot) 256 (page_at x n)) a ∙ sym on.there in
            ap (λ (n : ℕ). record { page = n; slot = u.slot; bytes = u.bytes }) a ∙ ap (λ (n : ℕ). record { page = s.page; slot = n; bytes = u.bytes }) b ∙ ap (λ (b : Slot). record { page = s.page; slot = s.slot; bytes = b }) bytes_are

    pub all_change : (ps : List ℕ) → AllByRecursion P ps → AllByRecursion (ChangesOne f s) (spots_of x ps)
    all_change ps each = all_go {X = Spot} (IsSpotOn P x) (ChangesOne f s) (spots_of x ps) one_changes (all_on P x ps each)

  -- No page stands twice: so it is one slot that changes.
  still_page : (q j : ℕ) (ss : List Slot) → q ≢ p → AllByRecursion (λ u. f u ≡ u) (spots_on q j ss)
  unfolding spots_on
  still_page q j [] other = tt
  still_page q j (s ∷ ss) other = (off_page (record { page = q; slot = j; bytes = s }) other, still_page q (j + 1) ss other)

  still_behind : (j : ℕ) (ss : List Slot) → slot < j → AllByRecursion (λ u. f u ≡ u) (spots_on p j ss)
  unfolding spots_on
  still_behind j [] less = tt
  still_behind j (s ∷ ss) less = (off_slot (record { page = p; slot = j; bytes = s }) (λ e. absurd (omega (arith, e, less))), still_behind (j + 1) ss (omega (arith, less)))

  still_both : (xs ys : List Spot) → AllByRecursion (λ u. f u ≡ u) xs → AllByRecursion (λ u. f u ≡ u) ys → AllByRecursion (λ u. f u ≡ u) (xs ++ ys)
  still_both [] ys a b = b
  still_both (x ∷ xs) ys a b = (a.0, still_both xs ys a.1 b)

  still_pages : (x : Image) (ps : List ℕ) → AllByRecursion (λ (q : ℕ). p ≢ q) ps → AllByRecursion (λ u. f u ≡ u) (spots_of x ps)
  unfolding spots_of
  still_pages x [] others = tt
  still_pages x (q ∷ ps) others = still_both (spots_on q 0 (slots_in (page_at x q))) (spots_of x ps) (still_page q 0 (slots_in (page_at x q)) (λ e. others.0 (sym e))) (still_pages x ps others.1)

  module _ (s : Spot) where
    once_still : (xs ys : List Spot) → AllByRecursion (λ u. f u ≡ u) xs → ChangesOnce f s ys → ChangesOnce f s (xs ++ ys)
    once_still [] ys still once = once
    once_still (x ∷ xs) ys still once = inl (still.0, once_still xs ys still.1 once)

    once_none : (xs : List Spot) → AllByRecursion (λ u. f u ≡ u) xs → ChangesOnce f s xs
    once_none [] still = tt
    once_none (x ∷ xs) still = inl (still.0, once_none xs still.1)

    once_page : (j : ℕ) (ss : List Slot) (rest : List Spot) → AllByRecursion (ChangesOne f s) (spots_on p j ss ++ rest) → AllByRecursion (λ u. f u ≡ u) rest → ChangesOnce f s (spots_on p j ss ++ rest)
    unfolding spots_on
    once_page j [] rest changes still = once_none rest still
    once_page j (x ∷ ss) rest changes still = by (once_page (j + 1) ss rest changes.1 still) (eqb_tells j slot) changes.0
      where
        u : Spot
        u = record { page = p; slot = j; bytes = x }

        by : ChangesOnce f s (spots_on p (j + 1) ss ++ rest) → ((j == slot) ≡ true) × (j ≡ slot) ⊎ ((j == slot) ≡ false) × (j ≢ slot) → ChangesOne f s u → ChangesOnce f s (u ∷ (spots_on p (j + 1) ss ++ rest))
        by once (inr w) change = inl (off_slot u w.1, once)
        by once (inl w) (inl same) = inl (same, once)
        by once (inl w) (inr is) = inr (is, still_both (spots_on p (j + 1) ss) rest (still_behind (j + 1) ss (omega (arith, w.1))) still)

    behind : (xs ys : List Spot) → AllByRecursion (ChangesOne f s) (xs ++ ys) → AllByRecursion (ChangesOne f s) ys
    behind [] ys all = all
    behind (x ∷ xs) ys all = behind xs ys all.1

    pub changes_once : (x : Image) (ps : List ℕ) → AreDistinct ps → AllByRecursion (ChangesOne f s) (spots_of x ps) → ChangesOnce f s (spots_of x ps)
    unfolding spots_of
    changes_once x [] distinct changes = tt
    changes_once x (q ∷ ps) distinct changes = by (λ all. changes_once x ps distinct.1 all) (eqb_tells q p)
      where
        by : (AllByRecursion (ChangesOne f s) (spots_of x ps) → ChangesOnce f s (spots_of x ps)) → ((q == p) ≡ true) × (q ≡ p) ⊎ ((q == p) ≡ false) × (q ≢ p) → ChangesOnce f s (spots_on q 0 (slots_in (page_at x q)) ++ spots_of x ps)
        by rest (inr w) = once_still (spots_on q 0 (slots_in (page_at x q))) (spots_of x ps) (still_page q 0 (slots_in (page_at x q)) w.1) (rest (behind (spots_on q 0 (slots_in (page_at x q))) (spots_of x ps) changes))
        by rest (inl w) = subst (λ (n : ℕ). ChangesOnce f s (spots_on n 0 (slots_in (page_at x q)) ++ spots_of x ps)) (sym w.1)
            (once_page 0 (slots_in (page_at x q)) (spots_of x ps) (subst (λ (n : ℕ). AllByRecursion (ChangesOne f s) (spots_on n 0 (slots_in (page_at x q)) ++ spots_of x ps)) w.1 changes)
            (still_pages x ps (subst (λ (n : ℕ). AllByRecursion (λ (r : ℕ). n ≢ r) ps) w.1 distinct.0)))
