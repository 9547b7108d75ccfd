-- A level takes what was stamped since its SCN, where no SCN entry is below the stamp of its page.
use Rattle.std.proofs.Common.{◌≡◌, ℕ, suc, ◌+◌, ◌<◌, ◌≤◌, List, [], ◌∷◌, length, refl, ap, subst, ◌∙◌, arith, Bool, true, false, not, ◌&&◌, ◌||◌, nat_lt}
use Rattle.nb_model.proofs.Common.{lt-ltb, ltb-true, stamp_of, has_entry, scn_entry, Image, Numbered, page_at, taken_from, taken, may_have_changed, changed_from, changed, IsSoundImage}

both : (a b : Bool) → (b ≡ true → a ≡ true) → (a && b) ≡ b
both true b h = refl
both false true h = h refl
both false false h = refl

-- where each of these pages that was stamped since may have changed
changed_all : (may : ℕ → Bool) (n s : ℕ) (ps : Image) → ((k : ℕ) → k < length ps → s < stamp_of (page_at ps k) → may (n + k) ≡ true) → changed_from may n s ps ≡ taken_from n s ps
unfolding changed_from taken_from
changed_all may n s [] h = refl
changed_all may n s (p ∷ ps) h =
    let next : (k : ℕ) → n + suc k ≡ n + 1 + k = λ k. omega arith in
    let none : n + 0 ≡ n = omega arith in
    let here : (may n && nat_lt s (stamp_of p)) ≡ nat_lt s (stamp_of p) = both (may n) (nat_lt s (stamp_of p)) (λ late. subst (λ (m : ℕ). may m ≡ true) none (h 0 (omega arith) (ltb-true s (stamp_of p) late))) in
    let rest : changed_from may (n + 1) s ps ≡ taken_from (n + 1) s ps = changed_all may (n + 1) s ps (λ k low late. subst (λ (m : ℕ). may m ≡ true) (next k) (h (suc k) (omega (arith, low)) late)) in
    ap (λ (t : Bool). elim t as (λ z. List Numbered) [ true ↦ (n, p) ∷ changed_from may (n + 1) s ps | false ↦ changed_from may (n + 1) s ps ]) here
    ∙ ap (λ (rs : List Numbered). elim (nat_lt s (stamp_of p)) as (λ z. List Numbered) [ true ↦ (n, p) ∷ rs | false ↦ rs ]) rest

-- a page with a stamp above the SCN may have changed, where its entry isn't below the stamp
may_late : (s p : ℕ) (image : Image) → (has_entry image p ≡ true → stamp_of (page_at image p) ≤ scn_entry image p) → s < stamp_of (page_at image p) → may_have_changed image s p ≡ true
unfolding may_have_changed
may_late s p image no_lower late = by (has_entry image p) no_lower
  where
    by : (has : Bool) → (has ≡ true → stamp_of (page_at image p) ≤ scn_entry image p) → (not has || nat_lt s (scn_entry image p)) ≡ true
    by false entry = refl
    by true entry = lt-ltb s (scn_entry image p) (omega (arith, entry refl, late))

pub changed_is_taken : (s : ℕ) (image : Image) → ((p : ℕ) → p < length image → has_entry image p ≡ true → stamp_of (page_at image p) ≤ scn_entry image p) → changed s image ≡ taken s image
changed_is_taken s image no_lower = changed_all (may_have_changed image s) 0 s image (λ k low late.
    let same : k ≡ 0 + k = omega arith in
    subst (λ (p : ℕ). may_have_changed image s p ≡ true) same (may_late s k image (no_lower k low) late))

-- so of an image whose inventories agree with its pages
pub sound_changed : (s : ℕ) (image : Image) → IsSoundImage image → changed s image ≡ taken s image
sound_changed s image is = changed_is_taken s image is.sound.entries.no_lower
