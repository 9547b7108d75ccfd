-- The test of a place finds the places of all SCN inventory pages.
use Rattle.std.proofs.Common.{◌≡◌, ℕ, zero, suc, ◌*◌, ◌/◌, ◌%◌, ◌<◌, ◌≤◌, ◌==◌, ◌&&◌, ⊎_elim, sym, ap, ◌∙◌, arith, nat_lt, IsTrue}
use Rattle.nb_scn.proofs.Common.{eqb-true, eq-eqb, ltb-true, lt-ltb, or_cases, or_left, or_right, and_parts, and_from, entries_in, scn_place, is_scn_place}
use Rattle.std.proofs.Math.Nat.{mul-mod_left, le-mul_of_pos_right}

place_at : (size page k : ℕ) → 0 < page → k * entries_in size ≡ page → (j : ℕ) × (scn_place size j ≡ page)
place_at size page zero some e = absurd (omega arith)
place_at size page (suc k) some e = (suc k, e)

-- a multiple of the number of entries is a place, if it isn't 0, and so is page 2
pub place_found : (size page : ℕ) → 0 < entries_in size → IsTrue (is_scn_place size page) → (k : ℕ) × (scn_place size k ≡ page)
unfolding is_scn_place
place_found size page entries is = ⊎_elim
    (λ first. (0, sym (eqb-true page 2 first)))
    (λ both.
    let some : 0 < page = ltb-true 0 page (and_parts (nat_lt 0 page) (page % entries_in size == 0) both).0 in
    let whole : page % entries_in size ≡ 0 = eqb-true (page % entries_in size) 0 (and_parts (nat_lt 0 page) (page % entries_in size == 0) both).1 in
    place_at size page (page / entries_in size) some (omega arith))
    (or_cases (page == 2) (nat_lt 0 page && (page % entries_in size == 0)) is)

-- each place is such a page
pub found_place : (size page k : ℕ) → 0 < entries_in size → scn_place size k ≡ page → IsTrue (is_scn_place size page)
unfolding is_scn_place
found_place size page zero entries is = or_left (page == 2) (nat_lt 0 page && (page % entries_in size == 0)) (eq-eqb page 2 (sym is))
found_place size page (suc k) entries is =
    let more : suc k ≤ suc k * entries_in size = le-mul_of_pos_right (suc k) entries in
    let some : 0 < page = omega arith in
    or_right (page == 2) (nat_lt 0 page && (page % entries_in size == 0))
    (and_from _ _ (lt-ltb 0 page some) (eq-eqb (page % entries_in size) 0 (ap (λ n. n % entries_in size) (sym is) ∙ mul-mod_left (suc k) (entries_in size))))
