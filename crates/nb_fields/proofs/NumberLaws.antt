-- Numbers as bytes, the lowest first.
use Rattle.std.proofs.Common.{◌≡◌, ℕ, zero, suc, ◌+◌, ◌-◌, ◌*◌, ◌/◌, ◌%◌, ◌^◌, ◌<◌, ◌≤◌, List, [], ◌∷◌, ◌++◌, length, get_or, take, drop, replicate, refl, ap, ◌∙◌, arith}
use Rattle.nb_fields.proofs.Common.{div-div-eq-div-mul, pow-suc, drop_all, drop-replicate, from_le_bytes, to_le_bytes, w64, number_of, bytes_of, bit_at}
use Rattle.std.proofs.lemmas.Nat.Bits.{bit_at_lowest, bit_at-suc}

-- no bytes spell 0
pub number_of-none : number_of [] ≡ 0
unfolding number_of
number_of-none = refl

-- the number from a place on is the byte there and 256 times the rest
pub number_of-drop : (bs : List ℕ) (n : ℕ) → number_of (drop n bs) ≡ get_or bs n 0 + 256 * number_of (drop (suc n) bs)
unfolding number_of
number_of-drop [] zero = refl
number_of-drop [] (suc n) = refl
number_of-drop (b ∷ bs) zero = refl
number_of-drop (b ∷ bs) (suc n) = number_of-drop bs n

-- what std reads of eight bytes is the number that they spell
pub from_eight_bytes : (bs : List ℕ) → length bs ≡ 8 → from_le_bytes w64 bs ≡ number_of bs
from_eight_bytes bs h =
    let rest : number_of (drop 8 bs) ≡ 0 = ap number_of (drop_all 8 bs (omega arith)) ∙ number_of-none in
    let at_0 = number_of-drop bs 0 in
    let at_1 = number_of-drop bs 1 in
    let at_2 = number_of-drop bs 2 in
    let at_3 = number_of-drop bs 3 in
    let at_4 = number_of-drop bs 4 in
    let at_5 = number_of-drop bs 5 in
    let at_6 = number_of-drop bs 6 in
    let at_7 = number_of-drop bs 7 in
    omega arith

-- what std writes of a number in eight bytes spells it
pub to_eight_bytes : (v : ℕ) → to_le_bytes w64 v ≡ bytes_of 8 v
unfolding bytes_of
to_eight_bytes v =
    let twice = div-div-eq-div-mul v in
    let by_2 : v / 256 / 256 ≡ v / 65536 = twice 256 256 in
    let by_3 : v / 256 / 256 / 256 ≡ v / 16777216 = ap (λ n. n / 256) by_2 ∙ twice 65536 256 in
    let by_4 : v / 256 / 256 / 256 / 256 ≡ v / 4294967296 = ap (λ n. n / 256) by_3 ∙ twice 16777216 256 in
    let by_5 : v / 256 / 256 / 256 / 256 / 256 ≡ v / 1099511627776 = ap (λ n. n / 256) by_4 ∙ twice 4294967296 256 in
    let by_6 : v / 256 / 256 / 256 / 256 / 256 / 256 ≡ v / 281474976710656 = ap (λ n. n / 256) by_5 ∙ twice 1099511627776 256 in
    let by_7 : v / 256 / 256 / 256 / 256 / 256 / 256 / 256 ≡ v / 72057594037927936 = ap (λ n. n / 256) by_6 ∙ twice 281474976710656 256 in
    cc

-- bytes of zeros after change nothing
pub number_of-append : (xs ys : List ℕ) → number_of ys ≡ 0 → number_of (xs ++ ys) ≡ number_of xs
unfolding number_of
number_of-append [] ys none = none
number_of-append (x ∷ xs) ys none = ap (λ n. x + 256 * n) (number_of-append xs ys none)

pub number_of-zeros : (n : ℕ) → number_of (replicate n 0) ≡ 0
unfolding number_of
number_of-zeros zero = refl
number_of-zeros (suc n) = let rest = number_of-zeros n in omega arith

pub number_of-drop_zeros : (k n : ℕ) → number_of (drop k (replicate n 0)) ≡ 0
number_of-drop_zeros k n = ap number_of (drop-replicate k n 0) ∙ number_of-zeros (n - k)

-- so many bytes spell no greater number
pub number_of-lt : (bs : List ℕ) → ((i : ℕ) → get_or bs i 0 < 256) → number_of bs < 256 ^ length bs
unfolding number_of
number_of-lt [] small = omega arith
number_of-lt (b ∷ bs) small =
    let here : b < 256 = small 0 in
    let rest : number_of bs < 256 ^ length bs = number_of-lt bs (λ i. small (suc i)) in
    let power = pow-suc 256 (length bs) in
    omega arith

pub length-bytes_of : (w v : ℕ) → length (bytes_of w v) ≡ w
unfolding bytes_of
length-bytes_of zero v = refl
length-bytes_of (suc w) v = ap suc (length-bytes_of w (v / 256))

-- the lowest bytes of more of them
pub take-bytes_of : (w k v : ℕ) → w ≤ k → take w (bytes_of k v) ≡ bytes_of w v
unfolding bytes_of
take-bytes_of zero k v h = refl
take-bytes_of (suc w) zero v h = absurd (omega arith)
take-bytes_of (suc w) (suc k) v h = ap (λ xs. v % 256 ∷ xs) (take-bytes_of w k (v / 256) (omega arith))

-- a number that fits its bytes is read back
pub number_of-bytes_of : (w v : ℕ) → v < 256 ^ w → number_of (bytes_of w v) ≡ v
unfolding number_of bytes_of
number_of-bytes_of zero v h = omega arith
number_of-bytes_of (suc w) v h =
    let power = pow-suc 256 w in
    let below : v / 256 < 256 ^ w = omega arith in
    let rest = number_of-bytes_of w (v / 256) below in
    omega arith

-- a bit counts as much as that power of two, and no more than the number
pub bit_at-most : (n m : ℕ) → bit_at n m * 2 ^ m ≤ n
bit_at-most n zero = omega (arith, bit_at_lowest n)
bit_at-most n (suc m) =
    let rest = bit_at-most (n / 2) m in
    let same : bit_at n (suc m) * 2 ^ suc m ≡ 2 * (bit_at (n / 2) m * 2 ^ m) = ap (λ (t : ℕ). t * 2 ^ suc m) (bit_at-suc n m) ∙ ap (λ (x : ℕ). bit_at (n / 2) m * x) (pow-suc 2 m) ∙ omega arith in
    omega arith
