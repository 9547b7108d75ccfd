-- One bit of an inventory page is changed by changing its byte.
use Rattle.std.proofs.Common.{◌≡◌, ◌≢◌, ℕ, zero, suc, ◌+◌, ◌-◌, ◌*◌, ◌/◌, ◌%◌, ◌^◌, ◌<◌, inl, inr, List, length, get_or, sym, ap, ◌∙◌, arith, bit_and, bit_or, w8}
use Rattle.nb_pip.proofs.Common.{bit_at, set, pow-suc, cases_eq, length-set, get_or-set_same, get_or-set_other, shr_and_one, bit_at_lowest, bit_at-suc, same_from_bits_below, bit_at_set_same, bit_at_set_other, bit_at_clear_same, bit_at_clear_other, bits_in, bit_of, byte_of, bits, bit_at-most}
use Rattle.std.proofs.lemmas.Grind.{same_number_lists, get_or-set_at}
use Rattle.std.proofs.lemmas.List.FromFn.{length-map-range_with_len, get_or-map-range_with_len}

-- a byte has the value v at one bit, and at the others what it had
pub record SetsBit (old new bit v : ℕ) : Type 0 where
  pub here : bit_at new bit ≡ v
  pub others : (i : ℕ) → i < 8 → i ≢ bit → bit_at new i ≡ bit_at old i

-- `byte & !(1 << bit)`
pub SetsBit-clear : (byte bit : ℕ) → bit < 8 → SetsBit byte (bit_and byte (255 - 1 * 2 ^ bit % 256)) bit 0
SetsBit-clear byte bit h = record {
  here = bit_at_clear_same w8 byte bit h;
  others = λ i lt ne. bit_at_clear_other w8 byte bit h i lt ne;
}

-- `byte | 1 << bit`
pub SetsBit-or : (byte bit : ℕ) → bit < 8 → SetsBit byte (bit_or byte (1 * 2 ^ bit % 256)) bit 1
SetsBit-or byte bit h = record {
  here = bit_at_set_same w8 byte bit h;
  others = λ i lt ne. bit_at_set_other w8 byte bit h i ne;
}

pub length-bits : (page : List ℕ) → length (bits page) ≡ bits_in (length page)
unfolding bits
length-bits page = length-map-range_with_len (bit_of page) 0 (bits_in (length page))

-- the list of bits, read at one place
pub get_or-bits : (page : List ℕ) (k d : ℕ) → k < bits_in (length page) → get_or (bits page) k d ≡ bit_of page k
unfolding bits
get_or-bits page k d h = get_or-map-range_with_len (bit_of page) 0 (bits_in (length page)) k k d h (omega arith)

-- `byte >> bit & 1`
pub shr_and_one-bits : (page : List ℕ) (bit : ℕ) → bit < bits_in (length page) → bit_and (get_or page (byte_of bit) 0 / 2 ^ (bit % 8)) 1 ≡ get_or (bits page) bit 0
shr_and_one-bits page bit h = shr_and_one (get_or page (byte_of bit) 0) (bit % 8) ∙ sym (get_or-bits page bit 0 h)

module _ (page : List ℕ) (bit byte v : ℕ) (inside : bit < bits_in (length page)) (sets : SetsBit (get_or page (byte_of bit) 0) byte (bit % 8) v) where
  abbrev changed : List ℕ
  changed = set page (byte_of bit) byte

  bit_of-same : bit_of changed bit ≡ v
  bit_of-same = ap (λ b. bit_at b (bit % 8)) (get_or-set_same page (byte_of bit) byte 0 (omega arith)) ∙ sets.here

  bit_of-other : (k : ℕ) → k ≢ bit → bit_of changed k ≡ bit_of page k
  bit_of-other k ne = elim (cases_eq (byte_of k) (byte_of bit)) [
    | inl same ↦
        ap (λ b. bit_at b (k % 8)) (get_or-set_at page (byte_of bit) (byte_of k) byte 0 same (omega arith))
        ∙ sets.others (k % 8) (omega arith) (λ e. ne (omega arith))
        ∙ ap (λ i. bit_at (get_or page i 0) (k % 8)) (sym same)
    | inr apart ↦ ap (λ b. bit_at b (k % 8)) (get_or-set_other page (byte_of bit) (byte_of k) byte 0 apart)
  ]

  -- the list of bits is changed at one place
  pub bits-set : bits changed ≡ set (bits page) bit v
  bits-set =
      let size : length changed ≡ length page = length-set page (byte_of bit) byte in
      let count : length (bits changed) ≡ bits_in (length page) = length-bits changed ∙ ap bits_in size in
      same_number_lists (bits changed) (set (bits page) bit v)
      (count ∙ sym (length-set (bits page) bit v ∙ length-bits page))
      (λ k h. get_or-bits changed k 0 (omega arith) ∙ elim (cases_eq k bit) [
        | inl e ↦ ap (bit_of changed) e ∙ bit_of-same ∙ sym (get_or-set_at (bits page) bit k v 0 e (omega (arith, length-bits page)))
        | inr ne ↦ bit_of-other k ne ∙ sym (get_or-set_other (bits page) bit k v 0 ne ∙ get_or-bits page k 0 (omega arith))
      ])

-- one number has the value v at a bit, and at the others what the other has
exchanged : (w old new bit v : ℕ) → old < 2 ^ w → new < 2 ^ w → bit < w → bit_at new bit ≡ v → ((i : ℕ) → i < w → i ≢ bit → bit_at new i ≡ bit_at old i)
    → new + bit_at old bit * 2 ^ bit ≡ old + v * 2 ^ bit
exchanged zero old new bit v low high inside here others = absurd (omega (arith, inside))
exchanged (suc w) old new zero v low high inside here others =
    let double = pow-suc 2 w in
    let rest : new / 2 ≡ old / 2 = same_from_bits_below w (new / 2) (old / 2) (omega (arith, double, high)) (omega (arith, double, low))
    (λ i h. sym (bit_at-suc new i) ∙ others (suc i) (omega (arith, h)) (λ e. absurd (omega (arith, e))) ∙ bit_at-suc old i) in
    let now : new % 2 ≡ v = sym (bit_at_lowest new) ∙ here in
    omega (arith, rest, now, bit_at_lowest old)
exchanged (suc w) old new (suc m) v low high inside here others =
    let double = pow-suc 2 w in
    let rest = exchanged w (old / 2) (new / 2) m v (omega (arith, double, low)) (omega (arith, double, high)) (omega (arith, inside)) (sym (bit_at-suc new m) ∙ here)
    (λ i h ne. sym (bit_at-suc new i) ∙ others (suc i) (omega (arith, h)) (λ e. ne (omega (arith, e))) ∙ bit_at-suc old i) in
    let lowest : new % 2 ≡ old % 2 = sym (bit_at_lowest new) ∙ others 0 (omega arith) (λ e. absurd (omega (arith, e))) ∙ bit_at_lowest old in
    let was : bit_at old (suc m) * 2 ^ suc m ≡ 2 * (bit_at (old / 2) m * 2 ^ m) = ap (λ (t : ℕ). t * 2 ^ suc m) (bit_at-suc old m) ∙ ap (λ (x : ℕ). bit_at (old / 2) m * x) (pow-suc 2 m) ∙ omega arith in
    let is : v * 2 ^ suc m ≡ 2 * (v * 2 ^ m) = ap (λ (x : ℕ). v * x) (pow-suc 2 m) ∙ omega arith in
    omega (arith, rest, lowest, was, is)

-- so the byte of a bit that was set is known
pub set_byte : (old new bit v : ℕ) → old < 256 → new < 256 → bit < 8 → SetsBit old new bit v → new ≡ old - bit_at old bit * 2 ^ bit + v * 2 ^ bit
set_byte old new bit v low high inside sets =
    let sum = exchanged 8 old new bit v low high inside sets.here sets.others in
    let most = bit_at-most old bit in
    omega (arith, sum, most)
