-- An inventory page as a list of bits.
use Rattle.std.specs.Prelude.{◌≡◌, ℕ, ◌+◌, ◌-◌, ◌*◌, ◌/◌, ◌%◌, ◌^◌, ◌<◌, ◌≤◌, List, length, map, slice_index, slice_set}
use Rattle.std.specs.Int.{bit_at}
use Rattle.std.specs.List.{range_with_len, AllWithin}
use Rattle.nb_fields.specs.Places.{bits_in}
use Rattle.nb_fields.specs.Payloads.{bit_of}

-- the bits of an inventory page, of which 1 means free
unfoldable pub bits : List ℕ → List ℕ
bits page = map (bit_of page) (range_with_len 0 (bits_in (length page)))

-- the byte of an inventory page that holds a bit
abbrev pub byte_of : ℕ → ℕ
byte_of bit = 32 + bit / 8

-- no byte of the page changed but that of this bit
abbrev pub KeepsOtherBytes : (old new : List ℕ) (bit : ℕ) → Type 0
KeepsOtherBytes old new bit = new ≡ slice_set old (byte_of bit) (slice_index new (byte_of bit))

-- the page with that value at a bit, and nothing else changed
abbrev pub with_bit : (bit value : ℕ) → List ℕ → List ℕ
with_bit bit value page =
    let byte : ℕ = slice_index page (byte_of bit) in
    slice_set page (byte_of bit) (byte - bit_at byte (bit % 8) * 2 ^ (bit % 8) + value * 2 ^ (bit % 8))

-- no bit from one on and below another is free
abbrev pub AreUsed : (bits : List ℕ) (from below : ℕ) → Type 0
AreUsed bits from below = AllWithin (λ b. b ≡ 0) bits from below

-- the lowest free bit from one on and below another
pub record IsLowestFree (bits : List ℕ) (from below bit : ℕ) : Type 0 where
  pub not_before : from ≤ bit
  pub inside : bit < below
  pub free : slice_index bits bit ≡ 1
  pub used_before : AreUsed bits from bit
