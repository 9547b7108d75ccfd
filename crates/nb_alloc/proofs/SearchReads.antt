-- How many reads the search for a new page makes.
use Rattle.std.proofs.Common.{◌≡◌, inl, inr, ℕ, zero, suc, ◌+◌, ◌-◌, ◌*◌, ◌/◌, ◌<◌, ◌≤◌, refl, ap, subst, arith, mul-le-mul_right, IsTrue, Option, Some, IfSome}
use Rattle.nb_alloc.proofs.Common.{div-zero, div-mul-le_self, lt-div-mul-add, leb_tells, is_page_size, inventory_place, scn_place, entries_in, bits_in, entries-least}

pub scn_place_some : (size k : ℕ) → IsTrue (is_page_size size) → 0 < scn_place size k
scn_place_some size zero is = omega arith
scn_place_some size (suc k) is =
    let least = entries-least size is in
    let more : entries_in size ≤ suc k * entries_in size = omega arith in
    omega arith

-- the inventory page of a page stands before it, or is that page
pub inventory_most : (size p : ℕ) → 1 ≤ p → inventory_place size (p / bits_in size) ≤ p
inventory_most size p some = by (p / bits_in size) refl
  where
    by : (k : ℕ) → p / bits_in size ≡ k → inventory_place size k ≤ p
    by zero e = some
    by (suc k) e = let under : suc k * bits_in size ≤ p = omega (arith, div-mul-le_self p (bits_in size), ap (λ (n : ℕ). n * bits_in size) e) in omega (arith, under)

-- a page that is no lower has an inventory page that is no lower
pub no_lower : (b a n : ℕ) → a ≤ n → a / b ≤ n / b
no_lower zero a n le = let x = div-zero a in let y = div-zero n in omega (arith, x, y)
no_lower (suc k) a n le = elim (leb_tells (suc (n / suc k)) (a / suc k)) [
  | inl w ↦
      let more : suc (n / suc k) * suc k ≤ a / suc k * suc k = mul-le-mul_right (suc k) w.1 in
      let low : a / suc k * suc k ≤ a = div-mul-le_self a (suc k) in
      let high : n < n / suc k * suc k + suc k = lt-div-mul-add (omega arith) in
      let next : suc (n / suc k) * suc k ≡ n / suc k * suc k + suc k = omega arith in
      absurd (omega (arith, more, low, high, next, le))
  | inr w ↦ omega (arith, w.1)
]

-- so many pages later it is at most so many later
later : (b a d : ℕ) → (a + d) / b ≤ a / b + d
later zero a d = let x = div-zero (a + d) in omega (arith, x)
later (suc k) a d = elim (leb_tells (suc (a / suc k + d)) ((a + d) / suc k)) [
  | inl w ↦
      let more : suc (a / suc k + d) * suc k ≤ (a + d) / suc k * suc k = mul-le-mul_right (suc k) w.1 in
      let low : (a + d) / suc k * suc k ≤ a + d = div-mul-le_self (a + d) (suc k) in
      let high : a < a / suc k * suc k + suc k = lt-div-mul-add (omega arith) in
      let wide : d ≤ d * suc k = omega arith in
      let next : suc (a / suc k + d) * suc k ≡ a / suc k * suc k + d * suc k + suc k = omega arith in
      absurd (omega (arith, more, low, high, next, wide))
  | inr w ↦ omega (arith, w.1)
]

-- what was found is no lower
pub found_later : (found : Option ℕ) (from free : ℕ) → found ≡ Some free → IfSome found (λ p. from ≤ p) → from ≤ free
found_later found from free is low = subst (λ (o : Option ℕ). IfSome o (λ p. from ≤ p)) is low

-- From that of page `a` up to that of page `n` there are no more inventory pages than pages.
pub maps_few : (b a n : ℕ) → a ≤ n → n / b + 1 - a / b ≤ n - a + 1
maps_few b a n le =
    let all : a + (n - a) ≡ n = omega arith in
    let most : n / b ≤ a / b + (n - a) = subst (λ (m : ℕ). m / b ≤ a / b + (n - a)) all (later b a (n - a)) in
    omega (arith, most)
