-- The ones of a byte.
use Rattle.std.specs.Prelude.{◌≡◌, ℕ, ◌<◌, ◌≤◌}
use Rattle.std.specs.Int.{bit_at}

-- a byte has no 1 from one bit on and below another
abbrev pub AreZeros : (byte from below : ℕ) → Type 0
AreZeros byte from below = (i : ℕ) → from ≤ i → i < below → bit_at byte i ≡ 0

-- bit n is the lowest 1 of a byte from a bit on
pub record IsLowestOne (byte from n : ℕ) : Type 0 where
  pub not_before : from ≤ n
  pub in_byte : n < 8
  pub one : bit_at byte n ≡ 1
  pub zeros_before : AreZeros byte from n
