-- The lowest free bit, searched byte by byte.
use Rattle.std.proofs.Common.{◌≡◌, ℕ, ◌+◌, ◌-◌, ◌*◌, ◌/◌, ◌%◌, ◌^◌, ◌<◌, ◌≤◌, inl, inr, sym, ap, ◌∙◌, arith, List, length, get_or, w8}
use Rattle.nb_pip.proofs.Common.{bit_at, trailing_zeros, div-div-eq-div-mul, div-le_self, cases_lt, pow-add, bit_at-zero, bit_at_above, bit_at-trailing_zeros, bits_in, bit_of, byte_of, bits, AreUsed, IsLowestFree}
use Rattle.nb_pip.specs.Ones.{AreZeros, IsLowestOne}
use Rattle.nb_pip.proofs.BitLaws.{get_or-bits}

module _ (byte from : ℕ) where
  abbrev rest : ℕ
  rest = byte / 2 ^ from

  -- `byte >> from` has the bits from there on
  bit_at-rest : (i : ℕ) → bit_at rest i ≡ bit_at byte (from + i)
  bit_at-rest i = ap (λ n. n % 2) (div-div-eq-div-mul byte (2 ^ from) (2 ^ i) ∙ ap (λ n. byte / n) (sym (pow-add 2 from i)))

  bit_at-from : (i : ℕ) → from ≤ i → bit_at byte i ≡ bit_at rest (i - from)
  bit_at-from i h = let e : i ≡ from + (i - from) = omega arith in ap (bit_at byte) e ∙ sym (bit_at-rest (i - from))

  pub AreZeros-rest : rest ≡ 0 → AreZeros byte from 8
  AreZeros-rest none i low high = bit_at-from i low ∙ ap (λ n. bit_at n (i - from)) none ∙ bit_at-zero (i - from)

  pub IsLowestOne-rest : byte < 256 → (rest ≡ 0 → ⊥) → IsLowestOne byte from (from + trailing_zeros w8 rest)
  IsLowestOne-rest fits some =
      let n : ℕ = from + trailing_zeros w8 rest in
      let lowest = bit_at-trailing_zeros w8 rest (omega arith) (omega (arith, div-le_self byte (2 ^ from))) in
      let one : bit_at byte n ≡ 1 = sym (bit_at-rest (trailing_zeros w8 rest)) ∙ lowest.1 in record {
        not_before = omega arith;
        in_byte = elim (cases_lt n 8) [ inl lt ↦ lt | inr ge ↦ absurd (let zero : bit_at byte n ≡ 0 = bit_at_above byte 8 n fits ge in omega arith) ];
        one = one;
        zeros_before = λ i low high. bit_at-from i low ∙ lowest.2 (i - from) (omega arith);
      }

-- no bit of a page from one on and below another is 1
abbrev pub HasNone : (page : List ℕ) (from below : ℕ) → Type 0
HasNone page from below = (k : ℕ) → from ≤ k → k < below → bit_of page k ≡ 0

pub AreUsed-none : (page : List ℕ) (from below : ℕ) → below ≤ bits_in (length page) → HasNone page from below → AreUsed (bits page) from below
AreUsed-none page from below inside none k d low high = get_or-bits page k d (omega arith) ∙ none k low high

-- one byte more, the byte of a bit, is read
module _ (page : List ℕ) (from bit : ℕ) (before : HasNone page from bit) where
  abbrev byte : ℕ
  byte = get_or page (byte_of bit) 0

  bit_of-in_byte : (k : ℕ) → bit ≤ k → k < bit / 8 * 8 + 8 → bit_of page k ≡ bit_at byte (k % 8)
  bit_of-in_byte k low high = let e : byte_of k ≡ byte_of bit = omega arith in ap (λ i. bit_at (get_or page i 0) (k % 8)) e

  pub HasNone-more : (i : ℕ) → i ≤ 8 → AreZeros byte (bit % 8) i → HasNone page from (bit / 8 * 8 + i)
  HasNone-more i few zeros k low high = elim (cases_lt k bit) [
    | inl lt ↦ before k low lt
    | inr ge ↦ bit_of-in_byte k ge (omega arith) ∙ zeros (k % 8) (omega arith) (omega arith)
  ]

  module _ (below i : ℕ) (inside : below ≤ bits_in (length page)) (lowest : IsLowestOne byte (bit % 8) i) where
    abbrev free : ℕ
    free = bit / 8 * 8 + i

    none_before : HasNone page from free
    none_before = let few : i < 8 = lowest.in_byte in HasNone-more i (omega arith) lowest.zeros_before

    -- the lowest 1 of the byte is below the end, or not
    pub IsLowestFree-in_byte : from ≤ bit → free < below → IsLowestFree (bits page) from below free
    IsLowestFree-in_byte low high =
        let place : free % 8 ≡ i = omega (arith, lowest.in_byte) in record {
          not_before = omega (arith, lowest.not_before);
          inside = high;
          free = get_or-bits page free 0 (omega arith) ∙ bit_of-in_byte free (omega (arith, lowest.not_before)) (omega (arith, lowest.in_byte)) ∙ ap (bit_at byte) place ∙ lowest.one;
          used_before = AreUsed-none page from free (omega arith) none_before;
        }

    pub AreUsed-in_byte : below ≤ free → AreUsed (bits page) from below
    AreUsed-in_byte past = AreUsed-none page from below inside (λ k low high. none_before k low (omega arith))
