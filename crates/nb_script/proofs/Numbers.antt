-- The number of some digits, one digit after the other.
use Rattle.std.proofs.Common.{◌≡◌, ℕ, ◌+◌, ◌*◌, ◌-◌, ◌^◌, ◌<◌, ◌≤◌, true, nat_le, nat_lt, List, [], ◌∷◌, length, drop, get_or, Some, None, ap, ◌∙◌, arith}
use Rattle.nb_script.proofs.Common.{digits_value, digits_value_after, digit_value, and_parts, leb-true, le-ltb, lt-ltb, cond-false, cond-true, drop_more, is_digit, value_of}

-- what a digit is worth
pub worth : (b : ℕ) → is_digit b ≡ true → (digit_value b ≡ b - 48) × (48 ≤ b) × (b < 58)
worth b h =
    let parts = and_parts (nat_le 48 b) (nat_le b 57) h in
    let low : 48 ≤ b = leb-true 48 b parts.0 in
    let high : b ≤ 57 = leb-true b 57 parts.1 in
    (cond-false (nat_lt b 48) _ _ (le-ltb b 48 low) ∙ cond-true (nat_lt b 58) _ _ (lt-ltb b 58 (omega arith)), low, omega arith)

-- more digits make a number no smaller
pub more_digits : (n : ℕ) (ds : List ℕ) → n ≤ digits_value_after 10 n ds
more_digits n [] = omega arith
more_digits n (d ∷ ds) = omega (arith, more_digits (n * 10 + digit_value d) ds)

-- one digit is read
pub next_digit : (n i : ℕ) (ds : List ℕ) → i < length ds → digits_value_after 10 n (drop i ds) ≡ digits_value_after 10 (n * 10 + digit_value (get_or ds i 0)) (drop (i + 1) ds)
next_digit n i ds h = ap (digits_value_after 10 n) (drop_more ds i 0 h)

pub fitting : (ds : List ℕ) → digits_value 10 ds < 2 ^ 64 → value_of ds ≡ Some (digits_value 10 ds)
fitting ds h = cond-true (nat_lt (digits_value 10 ds) (2 ^ 64)) _ _ (lt-ltb _ _ h)

pub too_large : (ds : List ℕ) → 2 ^ 64 ≤ digits_value 10 ds → value_of ds ≡ None
too_large ds h = cond-false (nat_lt (digits_value 10 ds) (2 ^ 64)) _ _ (le-ltb _ _ h)
