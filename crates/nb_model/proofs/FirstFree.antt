-- The lowest free page from one on.
use Rattle.std.proofs.Common.{◌≡◌, inl, inr, ℕ, zero, suc, ◌+◌, ◌-◌, ◌<◌, ◌≤◌, length, refl, sym, ap, subst, ◌∙◌, arith, Bool, true, false}
use Rattle.nb_model.proofs.Common.{true≢false, eqb_tells, leb_tells, Image, is_free_page, free_from, lowest_free}

-- p is the lowest free page from one on and below another, or that one where none is free
pub record IsLowestFree (x : Image) (from end p : ℕ) : Type 0 where
  pub low : from ≤ p
  pub high : p ≤ end
  pub before : (q : ℕ) → from ≤ q → q < p → is_free_page x q ≡ false
  pub free : p < end → is_free_page x p ≡ true

pub free_from_is : (left p : ℕ) (x : Image) → IsLowestFree x p (p + left) (free_from left p x)
unfolding free_from
free_from_is zero p x = record { low = omega arith; high = omega arith; before = λ q l h. absurd (omega (arith, l, h)); free = λ h. absurd (omega (arith, h)) }
free_from_is (suc left) p x = by (free_from_is left (p + 1) x) (is_free_page x p) refl
  where
    by : IsLowestFree x (p + 1) (p + 1 + left) (free_from left (p + 1) x) → (t : Bool) → is_free_page x p ≡ t → IsLowestFree x p (p + suc left) (elim t as (λ z. ℕ) [ true ↦ p | false ↦ free_from left (p + 1) x ])
    by rest true e = record { low = omega arith; high = omega arith; before = λ q l h. absurd (omega (arith, l, h)); free = λ h. e }
    by rest false e = let low = rest.low in let high = rest.high in record {
      low = omega (arith, low);
      high = omega (arith, high);
      before = λ q l h. elim (eqb_tells q p) [ inl w ↦ ap (is_free_page x) w.1 ∙ e | inr w ↦ rest.before q (omega (arith, l, w.1)) h ];
      free = λ h. rest.free (omega (arith, h));
    }

-- there is one such page
pub lowest_one : (x : Image) (from end p q : ℕ) → IsLowestFree x from end p → IsLowestFree x from end q → p ≡ q
lowest_one x from end p q a b = elim (leb_tells (suc p) q) [
  | inl w ↦ absurd (true≢false (sym (a.free (let h = b.high in omega (arith, w.1, h))) ∙ b.before p a.low w.1))
  | inr w ↦ elim (leb_tells (suc q) p) [
    | inl v ↦ absurd (true≢false (sym (b.free (let h = a.high in omega (arith, v.1, h))) ∙ a.before q b.low v.1))
    | inr v ↦ omega (arith, w.1, v.1)
  ]
]

pub lowest_is : (x : Image) → 5 ≤ length x → IsLowestFree x 5 (length x) (lowest_free x)
unfolding lowest_free
lowest_is x least =
    let end : 5 + (length x - 5) ≡ length x = omega (arith, least) in
    subst (λ (n : ℕ). IsLowestFree x 5 n (free_from (length x - 5) 5 x)) end (free_from_is (length x - 5) 5 x)
