-- The lowest page that passes a test.
use Rattle.std.proofs.Common.{◌≡◌, inl, inr, ℕ, zero, suc, ◌+◌, ◌<◌, ◌≤◌, refl, sym, ap, subst, ◌∙◌, arith, Bool, true, false, Option, Some, None}
use Rattle.nb_check.proofs.Common.{cases_lt, first_from, some_none}

-- by the test of the first page
abbrev by_first : (left p : ℕ) (test : ℕ → Bool) → Bool → Option ℕ
by_first left p test t = elim t as (λ z. Option ℕ) [ true ↦ Some p | false ↦ first_from left (p + 1) test ]

first_is : (left p : ℕ) (test : ℕ → Bool) (t : Bool) → test p ≡ t → first_from (suc left) p test ≡ by_first left p test t
unfolding first_from
first_is left p test t e = ap (by_first left p test) e

-- none passes
pub first_none : (left p : ℕ) (test : ℕ → Bool) → first_from left p test ≡ None → (q : ℕ) → p ≤ q → q < p + left → test q ≡ false
first_none zero p test none q low high = absurd (omega (arith, low, high))
first_none (suc left) p test none q low high = by (test p) refl (λ rest less. first_none left (p + 1) test rest q (omega (arith, less)) (omega (arith, high)))
  where
    by : (t : Bool) → test p ≡ t → (first_from left (p + 1) test ≡ None → p < q → test q ≡ false) → test q ≡ false
    by true e later = absurd (some_none p (sym (first_is left p test true e) ∙ none))
    by false e later = elim (cases_lt p q) [
      | inl less ↦ later (sym (first_is left p test false e) ∙ none) less
      | inr other ↦ (let same : p ≡ q = omega (arith, low, other) in subst (λ (n : ℕ). test n ≡ false) same e)
    ]

pub first_all : (left p : ℕ) (test : ℕ → Bool) → ((q : ℕ) → p ≤ q → q < p + left → test q ≡ false) → first_from left p test ≡ None
unfolding first_from
first_all zero p test none = refl
first_all (suc left) p test none =
    first_is left p test false (none p (omega arith) (omega arith)) ∙ first_all left (p + 1) test (λ q low high. none q (omega (arith, low)) (omega (arith, high)))

-- this one passes, and none before it
pub first_found : (left p : ℕ) (test : ℕ → Bool) (q : ℕ) → p ≤ q → q < p + left → test q ≡ true → ((r : ℕ) → p ≤ r → r < q → test r ≡ false) → first_from left p test ≡ Some q
first_found zero p test q low high holds before = absurd (omega (arith, low, high))
first_found (suc left) p test q low high holds before = elim (cases_lt p q) [
  | inl less ↦ first_is left p test false (before p (omega arith) less) ∙ first_found left (p + 1) test q (omega (arith, less)) (omega (arith, high)) holds (λ r from to. before r (omega (arith, from)) to)
  | inr other ↦
      (let same : p ≡ q = omega (arith, low, other) in
      first_is left p test true (subst (λ (n : ℕ). test n ≡ true) (sym same) holds) ∙ ap Some same)
]
