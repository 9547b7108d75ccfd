-- One bit of an inventory page is written: the page fits, and what is kept.
use Rattle.std.proofs.Common.{◌≡◌, ◌≢◌, inl, inr, ℕ, zero, suc, ◌+◌, ◌-◌, ◌*◌, ◌/◌, ◌%◌, ◌^◌, ◌<◌, ◌≤◌, List, ◌++◌, length, get_or, drop, refl, sym, ap, ◌∙◌, arith, length-drop, set, length-set, get_or-set_same, get_or-set_other, IsTrue, slice_index}
use Rattle.nb_model.proofs.Common.{pow-suc, eqb_tells, get_or-append_right, get_or-drop, padded, is_page_size, bits_in, inventory_place, head_of, page_of, generation_of, stamped, bit_of, length-head_of, padded_whole, bits-least, inventory_index, Page, with_bit, bit_at-most}
use Rattle.std.specs.Int.{bit_at}
use Rattle.std.proofs.lemmas.Nat.Bits.{bit_at_lowest, bit_at-suc}

-- a number with bit m so
abbrev with_number_bit : (n m b : ℕ) → ℕ
with_number_bit n m b = n - bit_at n m * 2 ^ m + b * 2 ^ m

-- its half has the bit before so, and its lowest bit stays
half : (n m b : ℕ) → with_number_bit n (suc m) b ≡ 2 * with_number_bit (n / 2) m b + n % 2
half n m b =
    let most = bit_at-most (n / 2) m in
    let old : bit_at n (suc m) * 2 ^ suc m ≡ 2 * (bit_at (n / 2) m * 2 ^ m) = ap (λ (t : ℕ). t * 2 ^ suc m) (bit_at-suc n m) ∙ ap (λ (x : ℕ). bit_at (n / 2) m * x) (pow-suc 2 m) ∙ omega arith in
    let new : b * 2 ^ suc m ≡ 2 * (b * 2 ^ m) = ap (λ (x : ℕ). b * x) (pow-suc 2 m) ∙ omega arith in
    omega arith

-- no other bit changes
other_bit : (n m i b : ℕ) → b ≤ 1 → i ≢ m → bit_at (with_number_bit n m b) i ≡ bit_at n i
other_bit n zero zero b small other = absurd (other refl)
other_bit n zero (suc i) b small other =
    let whole : with_number_bit n 0 b / 2 ≡ n / 2 = omega (arith, bit_at_lowest n) in
    bit_at-suc (with_number_bit n 0 b) i ∙ ap (λ (x : ℕ). bit_at x i) whole ∙ sym (bit_at-suc n i)
other_bit n (suc m) zero b small other =
    let e = half n m b in
    let low : with_number_bit n (suc m) b % 2 ≡ n % 2 = omega arith in
    bit_at_lowest (with_number_bit n (suc m) b) ∙ low ∙ sym (bit_at_lowest n)
other_bit n (suc m) (suc i) b small other =
    let e = half n m b in
    let rest : with_number_bit n (suc m) b / 2 ≡ with_number_bit (n / 2) m b = omega arith in
    bit_at-suc (with_number_bit n (suc m) b) i ∙ ap (λ (x : ℕ). bit_at x i) rest ∙ other_bit (n / 2) m i b small (λ same. other (ap suc same)) ∙ sym (bit_at-suc n i)

-- the bit itself
this_bit : (n m b : ℕ) → b ≤ 1 → bit_at (with_number_bit n m b) m ≡ b
this_bit n zero b small = bit_at_lowest (with_number_bit n 0 b) ∙ omega (arith, bit_at_lowest n)
this_bit n (suc m) b small =
    let e = half n m b in
    let rest : with_number_bit n (suc m) b / 2 ≡ with_number_bit (n / 2) m b = omega arith in
    bit_at-suc (with_number_bit n (suc m) b) m ∙ ap (λ (x : ℕ). bit_at x m) rest ∙ this_bit (n / 2) m b small

pub bit_here : (k bit : ℕ) (inventory : Page) → bit ≤ 1 → 32 + k / 8 < length inventory → bit_of (with_bit k bit inventory) k ≡ bit
unfolding with_bit
bit_here k bit inventory small inside =
    let byte : ℕ = slice_index inventory (32 + k / 8) in
    ap (λ (n : ℕ). bit_at n (k % 8)) (get_or-set_same inventory (32 + k / 8) (with_number_bit byte (k % 8) bit) 0 inside) ∙ this_bit byte (k % 8) bit small

-- the other bits of a page with one bit written
pub bit_else : (k j bit : ℕ) (inventory : Page) → bit ≤ 1 → 32 + k / 8 < length inventory → j ≢ k → bit_of (with_bit k bit inventory) j ≡ bit_of inventory j
unfolding with_bit
bit_else k j bit inventory small inside other =
    let byte : ℕ = slice_index inventory (32 + k / 8) in
    let new : ℕ = with_number_bit byte (k % 8) bit in
    elim (eqb_tells (j / 8) (k / 8)) [
      | inl w ↦
          let place : 32 + j / 8 ≡ 32 + k / 8 = ap (λ (n : ℕ). 32 + n) w.1 in
          let bits : j % 8 ≢ k % 8 = λ e. other (omega (arith, w.1)) in
          ap (λ (n : ℕ). bit_at (get_or (set inventory (32 + k / 8) new) n 0) (j % 8)) place
          ∙ ap (λ (n : ℕ). bit_at n (j % 8)) (get_or-set_same inventory (32 + k / 8) new 0 inside)
          ∙ other_bit byte (k % 8) (j % 8) bit small bits
          ∙ ap (λ (n : ℕ). bit_at (get_or inventory n 0) (j % 8)) (sym place)
      | inr w ↦ ap (λ (n : ℕ). bit_at n (j % 8)) (get_or-set_other inventory (32 + k / 8) (32 + j / 8) new 0 (λ e. w.1 (omega arith)))
    ]

pub with_bit_length : (k bit : ℕ) (inventory : Page) → length (with_bit k bit inventory) ≡ length inventory
unfolding with_bit
with_bit_length k bit inventory = length-set inventory (32 + k / 8) _

-- a bit after the head of a page that is stamped
pub bit_behind : (old : Page) (kind scn number j : ℕ) (whole : Page) → length whole ≡ length old → 16 ≤ length old → bit_of (stamped old kind (drop 16 whole) scn number) j ≡ bit_of whole j
unfolding stamped page_of
bit_behind old kind scn number j whole len long =
    let g : ℕ = (generation_of old + 1) % 2 ^ 32 in
    let head : List ℕ = head_of kind g scn number in
    let rest : padded (length old - 16) (drop 16 whole) ≡ drop 16 whole = padded_whole (length old - 16) (drop 16 whole) (omega (arith, length-drop 16 whole)) in
    let place : 16 + (32 + j / 8 - 16) ≡ 32 + j / 8 = omega arith in
    ap (λ (xs : List ℕ). bit_at (get_or (head ++ xs) (32 + j / 8) 0) (j % 8)) rest
    ∙ ap (λ (byte : ℕ). bit_at byte (j % 8)) (get_or-append_right head (drop 16 whole) 16 (32 + j / 8) 0 (length-head_of kind g scn number) (omega arith) ∙ get_or-drop 16 whole (32 + j / 8 - 16) 0 ∙ ap (λ (n : ℕ). get_or whole n 0) place)

-- an inventory page and a bit of it belong to one page
pub one_bit : (size p q : ℕ) → IsTrue (is_page_size size) → inventory_place size (q / bits_in size) ≡ inventory_place size (p / bits_in size) → q % bits_in size ≡ p % bits_in size → q ≡ p
one_bit size p q is same_page same_bit =
    let least = bits-least size is in
    let i : ℕ = inventory_place size (p / bits_in size) in
    let group : q / bits_in size ≡ p / bits_in size = sym (inventory_index size (q / bits_in size) i is same_page) ∙ inventory_index size (p / bits_in size) i is refl in
    let of_q : bits_in size * (q / bits_in size) + q % bits_in size ≡ q = omega arith in
    let of_p : bits_in size * (p / bits_in size) + p % bits_in size ≡ p = omega arith in
    sym of_q ∙ ap (λ (n : ℕ). bits_in size * n + q % bits_in size) group ∙ ap (λ (r : ℕ). bits_in size * (p / bits_in size) + r) same_bit ∙ of_p
