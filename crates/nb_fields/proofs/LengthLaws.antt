-- The length of a new database, one raw page after another.
use Rattle.std.proofs.Common.{◌≡◌, ℕ, zero, suc, ◌+◌, ◌*◌, ◌≤◌, ap, arith, if◌then◌else◌}
use Rattle.nb_fields.proofs.Common.{cond_both, is_system_place, next_plain, length_after, fresh_count}

-- no raw page more
pub length_after-none : (size n p : ℕ) → n ≡ 0 → length_after size n p ≡ p
unfolding length_after
length_after-none size n p none = ap (λ m. length_after size m p) none

-- one raw page, and then the others
pub length_after-more : (size n m p : ℕ) → n ≡ suc m → length_after size n p ≡ length_after size m (next_plain size p + 1)
unfolding length_after
length_after-more size n m p more = ap (λ k. length_after size k p) more

pub fresh_count-is : (size raw n : ℕ) → n ≡ raw → length_after size n 5 ≡ fresh_count size raw
unfolding fresh_count
fresh_count-is size raw n same = ap (λ m. length_after size m 5) same

-- the next plain place is not far
pub next_plain-most : (size p : ℕ) → next_plain size p ≤ p + 2
unfolding next_plain
next_plain-most size p =
    cond_both (is_system_place size p) (if is_system_place size (p + 1) then p + 2 else p + 1) p (λ n. n ≤ p + 2)
    (λ at_p. cond_both (is_system_place size (p + 1)) (p + 2) (p + 1) (λ n. n ≤ p + 2) (λ at_next. omega arith) (λ plain. omega arith)) (λ plain. omega arith)

-- so neither is the end
pub length_after-most : (size raw p : ℕ) → length_after size raw p ≤ p + 3 * raw
unfolding length_after
length_after-most size zero p = omega arith
length_after-most size (suc raw) p =
    let rest = length_after-most size raw (next_plain size p + 1) in
    let next = next_plain-most size p in
    omega arith

pub fresh_count-most : (size raw : ℕ) → fresh_count size raw ≤ 5 + 3 * raw
unfolding fresh_count
fresh_count-most size raw = length_after-most size raw 5
