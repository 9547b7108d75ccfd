-- How many reads were made.
use Rattle.std.proofs.Common.{ℕ, zero, suc, ◌+◌, ◌-◌, ◌<◌, ◌≤◌, arith, min}

-- Page 0 may have taken two.
pub page_read : (old loop new number bit : ℕ) → (0 < number → new ≤ loop + 1) → new ≤ loop + 2 → bit ≤ number → loop ≤ old + bit + min bit 1 → new ≤ old + (bit + 1) + min (bit + 1) 1
page_read old loop new zero bit once twice low so_far = omega (arith, twice, low, so_far)
page_read old loop new (suc n) bit once twice low so_far = let one : new ≤ loop + 1 = once (omega arith) in omega (arith, one, so_far)

-- an inventory page, and the pages from `first` to `end`
pub pages_read : (old loop new first end k : ℕ) → (0 < first → new ≤ loop + 1 + (end - first)) → new ≤ loop + 2 + (end - first) → k ≤ first → first ≤ end → loop ≤ old + first + k + min k 1
    → new ≤ old + end + (k + 1) + min (k + 1) 1
pages_read old loop new zero end k once front few rises so_far = omega (arith, front, few, so_far)
pages_read old loop new (suc n) end k once front few rises so_far = let one : new ≤ loop + 1 + (end - suc n) = once (omega arith) in omega (arith, one, rises, so_far)
