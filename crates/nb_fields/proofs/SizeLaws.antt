-- What all page sizes have in common.
use Rattle.std.proofs.Common.{◌≡◌, ℕ, ◌%◌, ◌≤◌, ⊎_elim, true, refl, sym, subst, arith, IsTrue, ◌==◌}
use Rattle.nb_fields.proofs.Common.{eqb-true, or_cases, is_page_size}

pub record SizeFacts (size : ℕ) : Type 0 where
  pub at_least : 1024 ≤ size
  pub at_most : size ≤ 32768
  pub in_fours : size % 4 ≡ 0

size_is : (size n : ℕ) → SizeFacts n → (size == n) ≡ true → SizeFacts size
size_is size n facts is = subst (λ (m : ℕ). SizeFacts m) (sym (eqb-true size n is)) facts

pub size_facts : (size : ℕ) → IsTrue (is_page_size size) → SizeFacts size
size_facts size is =
    ⊎_elim (λ is5. ⊎_elim (λ is4. ⊎_elim (λ is3. ⊎_elim (λ is2. ⊎_elim
    (size_is size 1024 (record { at_least = omega arith; at_most = omega arith; in_fours = refl }))
    (size_is size 2048 (record { at_least = omega arith; at_most = omega arith; in_fours = refl })) (or_cases _ _ is2))
    (size_is size 4096 (record { at_least = omega arith; at_most = omega arith; in_fours = refl })) (or_cases _ _ is3))
    (size_is size 8192 (record { at_least = omega arith; at_most = omega arith; in_fours = refl })) (or_cases _ _ is4))
    (size_is size 16384 (record { at_least = omega arith; at_most = omega arith; in_fours = refl })) (or_cases _ _ is5))
    (size_is size 32768 (record { at_least = omega arith; at_most = omega arith; in_fours = refl })) (or_cases _ _ is)
