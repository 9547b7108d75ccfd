-- The test of a place finds the places of all inventory pages.
use Rattle.std.proofs.Common.{◌≡◌, ℕ, zero, suc, ◌+◌, ◌*◌, ◌/◌, ◌%◌, ◌<◌, ◌≤◌, ◌==◌, ⊎_elim, sym, ap, ◌∙◌, arith, IsTrue}
use Rattle.nb_pip.proofs.Common.{mul-mod_left, le-mul_of_pos_right, eqb-true, eq-eqb, or_cases, or_left, or_right, bits_in, inventory_place, is_inventory_place}

place_at : (size page k : ℕ) → k * bits_in size ≡ page + 1 → (j : ℕ) × (inventory_place size j ≡ page)
place_at size page zero e = absurd (omega arith)
place_at size page (suc k) e = (suc k, omega arith)

-- the page before a multiple of the number of bits is a place, and so is page 1
pub place_found : (size page : ℕ) → 0 < bits_in size → IsTrue (is_inventory_place size page) → (k : ℕ) × (inventory_place size k ≡ page)
unfolding is_inventory_place
place_found size page some is = ⊎_elim
    (λ first. (0, sym (eqb-true page 1 first)))
    (λ whole. let e : (page + 1) % bits_in size ≡ 0 = eqb-true ((page + 1) % bits_in size) 0 whole in place_at size page ((page + 1) / bits_in size) (omega arith))
    (or_cases (page == 1) ((page + 1) % bits_in size == 0) is)

-- each place is such a page
pub found_place : (size page k : ℕ) → 0 < bits_in size → inventory_place size k ≡ page → IsTrue (is_inventory_place size page)
unfolding is_inventory_place
found_place size page zero some is = or_left (page == 1) ((page + 1) % bits_in size == 0) (eq-eqb page 1 (sym is))
found_place size page (suc k) some is =
    let more : suc k ≤ suc k * bits_in size = le-mul_of_pos_right (suc k) some in
    let whole : page + 1 ≡ suc k * bits_in size = omega arith in
    or_right (page == 1) ((page + 1) % bits_in size == 0)
    (eq-eqb ((page + 1) % bits_in size) 0 (ap (λ n. n % bits_in size) whole ∙ mul-mod_left (suc k) (bits_in size)))
