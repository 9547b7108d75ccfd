-- A page inventory page of free bits, filled from the front.
use Rattle.std.proofs.Common.{◌≡◌, ℕ, suc, ◌+◌, ◌-◌, ◌≤◌, List, ◌++◌, length, take, replicate, sym, ap, ◌∙◌, arith, append_assoc, length-append}
use Rattle.nb_pip.proofs.Common.{append-nil, drop_all, length-replicate, take-replicate, bytes_of, with_part, taken_bits, inventory_payload}
use Rattle.nb_fields.proofs.NumberLaws.{length-bytes_of}
use Rattle.nb_fields.proofs.PageLaws.{written_next}

-- bits of which none is taken
pub free_bits : (n : ℕ) → taken_bits n 0 ≡ replicate n 255
unfolding taken_bits
free_bits n = take-replicate n (suc n) 255 (omega arith)

-- its number, zeros, and free bits
pub filled : (old numbered blank page : List ℕ) (k : ℕ) → 32 ≤ length old → numbered ≡ with_part 16 (bytes_of 4 k) old → blank ≡ with_part 20 (replicate 12 0) numbered
    → page ≡ with_part 32 (replicate (length old - 32) 255) blank → page ≡ take 16 old ++ inventory_payload (length old) k 0
unfolding inventory_payload
filled old numbered blank page k long one two three =
    let n : ℕ = length old in
    let number : List ℕ = bytes_of 4 k in
    let zeros : List ℕ = replicate 12 0 in
    let bits : List ℕ = replicate (n - 32) 255 in
    let four : length number ≡ 4 = length-bytes_of 4 k in
    let twelve : length zeros ≡ 12 = length-replicate {A = ℕ} 12 0 in
    let rest : length bits ≡ n - 32 = length-replicate {A = ℕ} (n - 32) 255 in
    let front : length (number ++ zeros) ≡ 16 = omega (arith, length-append number zeros, four, twelve) in
    let whole : length ((number ++ zeros) ++ bits) ≡ n - 16 = omega (arith, length-append (number ++ zeros) bits, front, rest, long) in
    let to_blank : blank ≡ with_part 16 (number ++ zeros) old = written_next 16 20 number zeros old numbered blank one two (omega (arith, four)) (omega (arith, four, long)) in
    written_next 16 32 (number ++ zeros) bits old blank page to_blank three (omega (arith, front)) (omega (arith, front, long))
    ∙ ap (λ (xs : List ℕ). take 16 old ++ (((number ++ zeros) ++ bits) ++ xs)) (drop_all (16 + length ((number ++ zeros) ++ bits)) old (omega (arith, whole, long)))
    ∙ ap (λ (xs : List ℕ). take 16 old ++ xs) (append-nil ((number ++ zeros) ++ bits) ∙ append_assoc number zeros bits ∙ ap (λ (xs : List ℕ). number ++ (zeros ++ xs)) (sym (free_bits (n - 32))))
