-- Which numbers are among those of a range that pass a test.
use Rattle.std.proofs.Common.{◌≡◌, inl, inr, ℕ, zero, suc, ◌+◌, ◌<◌, ◌≤◌, List, ◌∷◌, refl, sym, ap, ◌∙◌, arith, Bool, true, false, cond, ◌||◌, nat_eq, length}
use Rattle.nb_check.proofs.Common.{filter, range_with_len, list_any, cases_lt, eq_no, eq_yes, Image, is_among, is_leaked, leaked}

module _ (test : ℕ → Bool) (p : ℕ) where
  abbrev among : List ℕ → Bool
  among xs = list_any (nat_eq p) xs

  -- the first of them
  abbrev by_test : (a n : ℕ) → Bool → List ℕ
  by_test a n t = cond t (a ∷ filter test (range_with_len (a + 1) n)) (filter test (range_with_len (a + 1) n))

  among_other : (a n : ℕ) (t : Bool) → nat_eq p a ≡ false → among (by_test a n t) ≡ among (filter test (range_with_len (a + 1) n))
  among_other a n true other = ap (λ (u : Bool). u || among (filter test (range_with_len (a + 1) n))) other
  among_other a n false other = refl

  among_before : (n a : ℕ) → p < a → among (filter test (range_with_len a n)) ≡ false
  among_before zero a low = refl
  among_before (suc n) a low = among_other a n (test a) (eq_no p a (λ e. omega (arith, e, low))) ∙ among_before n (a + 1) (omega (arith, low))

  pub among_behind : (n a : ℕ) → a + n ≤ p → among (filter test (range_with_len a n)) ≡ false
  among_behind zero a far = refl
  among_behind (suc n) a far = among_other a n (test a) (eq_no p a (λ e. omega (arith, e, far))) ∙ among_behind n (a + 1) (omega (arith, far))

  among_here : (n : ℕ) (t : Bool) → nat_eq p p ≡ true → among (by_test p n t) ≡ t
  among_here n true same = ap (λ (u : Bool). u || among (filter test (range_with_len (p + 1) n))) same
  among_here n false same = among_before n (p + 1) (omega arith)

  pub among_range : (n a : ℕ) → a ≤ p → p < a + n → among (filter test (range_with_len a n)) ≡ test p
  among_range zero a low high = absurd (omega (arith, low, high))
  among_range (suc n) a low high = elim (cases_lt a p) [
    | inl less ↦ among_other a n (test a) (eq_no p a (λ e. omega (arith, e, less))) ∙ among_range n (a + 1) (omega (arith, less)) (omega (arith, high))
    | inr other ↦
        (let same : p ≡ a = omega (arith, low, other) in
        ap (λ (m : ℕ). among (by_test m n (test m))) (sym same) ∙ among_here n (test p) (eq_yes p p refl))
  ]

-- a page below the length is among the leaked ones where it is leaked
pub leaked_each : (image : Image) (p : ℕ) → p < length image → is_among p (leaked image) ≡ is_leaked image p
unfolding leaked
leaked_each image p low = among_range (is_leaked image) p (length image) 0 (omega arith) (omega (arith, low))
