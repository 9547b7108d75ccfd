-- Laws of the stalled state: a page write and a crash keep it that what is diverted is raised.
use Rattle.std.proofs.Common.{◌≡◌, ◌≢◌, inl, inr, ℕ, zero, suc, ◌+◌, ◌<◌, ◌≤◌, List, length, refl, sym, ap, subst, ◌∙◌, arith, true, false, ◌==◌, Option, Some, None, max}
use Rattle.nb_model.proofs.Common.{true≢false, eqb_tells, stalled_state, Page, Image, page_at, first_page, image_size, image_state, image_scn, with_page, Base, page, merged_page, noted, on_base, scn_page_of, scn_entry, has_entry, entry_for, HasOldEntries, IsStalled, Trail, bases_of, IsLeft, AreInStep, IsOverFrozen}
use Rattle.nb_model.proofs.FitLaws.{IsWhole}
use Rattle.nb_model.proofs.HeaderLaws.{same-number}
use Rattle.nb_model.proofs.EntryLaws.{for_below, noted_front, noted_last, noted_none}
use Rattle.nb_model.proofs.SoundLaws.{with_page_length, FitsAt, scn_stays, head_stays, written_other, entry_here, entry_other, has_stays, scn_page_stays, not_itself}
use Rattle.nb_model.proofs.PutSound.{scn_page_below}
use Rattle.nb_model.proofs.MixtureLaws.{has_same, scn_page_same, entry_same}

-- page 0 has no entry
pub behind_first : (image : Image) (p : ℕ) → has_entry image p ≡ true → 1 ≤ p
unfolding has_entry
behind_first image zero has = absurd (true≢false (sym has))
behind_first image (suc p) has = omega arith

-- An entry that is current stands on a page that is diverted: in the frozen image it was older.
module _ (b : Base) (is : IsStalled b) (over : IsOverFrozen b) where
  frozen_size : image_size b.image ≡ image_size b.frozen
  frozen_size = same-number (first_page b.image) (first_page b.frozen) over.front 24 4 (omega arith)

  frozen_scn : image_scn b.image ≡ image_scn b.frozen
  frozen_scn = same-number (first_page b.image) (first_page b.frozen) over.front 28 4 (omega arith)

  pub current_diverted : (p : ℕ) → has_entry b.image p ≡ true → scn_page_of b.image p < length b.image → scn_entry b.image p ≡ image_scn b.image → (j : ℕ) × (entry_for (scn_page_of b.image p) b.diverted ≡ Some j)
  current_diverted p has low current = by (entry_for (scn_page_of b.image p) b.diverted) refl
    where
      place : scn_page_of b.image p ≡ scn_page_of b.frozen p
      place = scn_page_same b.image b.frozen frozen_size p

      by : (x : Option ℕ) → entry_for (scn_page_of b.image p) b.diverted ≡ x → (j : ℕ) × (entry_for (scn_page_of b.image p) b.diverted ≡ Some j)
      by (Some j) e = (j, e)
      by None e =
          let same = over.rest (scn_page_of b.image p) low e in
          let entry : scn_entry b.image p ≡ scn_entry b.frozen p = entry_same b.image b.frozen frozen_size p (subst (λ (n : ℕ). page_at b.image n ≡ page_at b.frozen n) place same.1) in
          let older : scn_entry b.frozen p < image_scn b.frozen = is.old p (sym (has_same b.image b.frozen frozen_size p) ∙ has) (omega (arith, place, same.0)) in
          absurd (omega (arith, entry, older, frozen_scn, current))

-- A page that fits is written in the stalled state.
module _ (b : Base) (p : ℕ) (bytes : Page) (whole : IsWhole b.image) (stalled : image_state b.image ≡ stalled_state) (is : IsStalled b) (over : IsOverFrozen b)
    (fits : FitsAt b.image p (merged_page p bytes b.image)) where
  abbrev kept : Page
  kept = merged_page p bytes b.image

  abbrev new : Image
  new = with_page p kept b.image

  abbrev later : Base
  later = record { image = new; frozen = b.frozen; diverted = noted p b.diverted }

  later_is : later ≡ on_base (page p bytes) b
  unfolding on_base
  later_is = ap (λ (n : ℕ). record { image = new; frozen = b.frozen; diverted = elim (n == 1) as (λ z. List ℕ) [ true ↦ noted p b.diverted | false ↦ b.diverted ] }) (sym stalled)

  longer : length new ≡ max (length b.image) (p + 1)
  longer = with_page_length p kept b.image fits.there

  scn_is : image_scn new ≡ image_scn b.image
  scn_is = scn_stays b.image p kept whole.fields whole.sound fits

  has_before : (q : ℕ) → has_entry new q ≡ true → has_entry b.image q ≡ true
  has_before q has = sym (has_stays b.image p kept whole.fields whole.sound fits q) ∙ has

  -- the SCN page of the page stands before it
  raised_first : has_entry b.image p ≡ true → (j : ℕ) × (entry_for (scn_page_of b.image p) b.diverted ≡ Some j)
  raised_first has =
      current_diverted b is over p has (scn_page_below b.image p whole.fields whole.sound.least (record { behind = behind_first b.image p has; there = fits.there; most = fits.most }) has) (fits.current has)

  behind_after : (q k : ℕ) → entry_for q (noted p b.diverted) ≡ Some k → has_entry new q ≡ true → (j : ℕ) × (entry_for (scn_page_of new q) (noted p b.diverted) ≡ Some j) × (j < k)
  behind_after q k e has = elim (noted_last p b.diverted q k e) [
    | inl before ↦
        let old = is.raised.behind q k before (has_before q has) in
        (old.0, there old.0 old.1, old.2)
    | inr last ↦
        let first = raised_first (subst (λ (n : ℕ). has_entry b.image n ≡ true) last.0 (has_before q has)) in
        let at : entry_for (scn_page_of b.image q) b.diverted ≡ Some first.0 = subst (λ (n : ℕ). entry_for (scn_page_of b.image n) b.diverted ≡ Some first.0) (sym last.0) first.1 in
        (first.0, there first.0 at, omega (arith, last.1, for_below (scn_page_of b.image q) first.0 b.diverted at))
  ]
    where
      there : (j : ℕ) → entry_for (scn_page_of b.image q) b.diverted ≡ Some j → entry_for (scn_page_of new q) (noted p b.diverted) ≡ Some j
      there j at = ap (λ (n : ℕ). entry_for n (noted p b.diverted)) (scn_page_stays b.image p kept whole.fields whole.sound fits q) ∙ noted_front p b.diverted (scn_page_of b.image q) j at

  current_after : (q k : ℕ) → entry_for q (noted p b.diverted) ≡ Some k → has_entry new q ≡ true → scn_entry new q ≡ image_scn new
  current_after q k e has = elim (noted_last p b.diverted q k e) [
    | inl before ↦
        let now : scn_entry b.image q ≡ image_scn b.image = is.raised.current q k before (has_before q has) in
        elim (eqb_tells (scn_page_of b.image q) p) [
          | inl w ↦
              omega (arith, entry_here b.image p kept whole.fields whole.sound fits q w.1, fits.no_lower q w.1 (has_before q has) (over.below q k before), fits.no_later q w.1 (has_before q has), now, scn_is)
          | inr w ↦ entry_other b.image p kept whole.fields whole.sound fits q w.1 ∙ now ∙ sym scn_is
        ]
    | inr last ↦
        let has_p : has_entry b.image p ≡ true = subst (λ (n : ℕ). has_entry b.image n ≡ true) last.0 (has_before q has) in
        entry_other b.image p kept whole.fields whole.sound fits q (λ at. not_itself b.image p kept whole.fields whole.sound fits q at (has_before q has) last.0)
        ∙ ap (scn_entry b.image) last.0 ∙ fits.current has_p ∙ sym scn_is
  ]

  -- What is diverted stays raised,
  pub stroke_stalled : IsStalled (on_base (page p bytes) b)
  stroke_stalled = subst IsStalled later_is (record { raised = record { behind = behind_after; current = current_after }; old = is.old })

  -- and the rest stays the frozen image's.
  pub stroke_over : IsOverFrozen (on_base (page p bytes) b)
  stroke_over = subst IsOverFrozen later_is (record {
    front = head_stays b.image p kept whole.fields whole.sound fits ∙ over.front;
    rest = λ q low none.
        let other = noted_none p b.diverted q none in
        let ne : q ≢ p = other.0 in
        let old = over.rest q (omega (arith, low, longer, ne)) other.1 in
        (old.0, written_other b.image p kept whole.fields whole.sound fits q ne ∙ old.1);
    below = λ q k e. elim (noted_last p b.diverted q k e) [
      | inl before ↦ omega (arith, over.below q k before, longer)
      | inr last ↦ omega (arith, last.0, longer)
    ];
  })

-- So does a crash keep it, for the entries that it leaves.
pub left_stalled : (t : Trail) (b : Base) → IsLeft t b → AreInStep (bases_of t) → image_state b.image ≡ stalled_state → IsStalled t.base → IsStalled b
left_stalled t b left steps stalled is = record { raised = (left.covered steps).raised stalled; old = subst HasOldEntries (sym left.rest.frozen) is.old }
