-- How many reads a new page makes.
use Rattle.std.proofs.Common.{◌≡◌, ℕ, ◌+◌, ◌-◌, ◌*◌, ◌/◌, ◌≤◌, List, subst, arith, Result, Ok, Err, IfOk}
use Rattle.nb_alloc.proofs.Common.{Fault, bits_in, Image, image_size, lowest_free, Behind, new_of, new_reads, IsShort, EndsBy}

-- The reads of the tests, which end where the page is made, and those of making it.
pub new_read : (result : Result ℕ Fault) (image : Image) (first made r0 r1 r2 : ℕ) → first ≡ lowest_free image → IfOk result (λ number. number ≡ made) → r1 ≤ r0 + first / bits_in (image_size image) + 4 + 5 * (made - first)
    → IfOk result (λ number. r2 ≤ r1 + 3 + 6 * (number - first)) → IfOk result (λ number. r2 ≤ r0 + new_reads image number)
new_read (Ok number) image first made r0 r1 r2 is same tests makes =
    subst (λ (p : ℕ). r2 ≤ r0 + (p / bits_in (image_size image) + 1 + 6 + 11 * (number - p))) is (omega (arith, tests, makes, same))
new_read (Err fault) image first made r0 r1 r2 is same tests makes = tt

-- The reads of the tests, by where their search ended.
pub few_tested : (result : Result ℕ Fault) (image : Image) (from made fresh : ℕ) (before after : Behind) (kind : ℕ) (payload : ℕ → List ℕ) (size start r0 r1 : ℕ) → IsShort payload → EndsBy result image image from made fresh before after → size ≡ image_size image
    → IfOk result (λ first. r1 ≤ r0 + (first / bits_in size + 1 - start / bits_in size) + 3 + 5 * (from - (first + 1)))
    → IfOk result (λ first. r1 ≤ r0 + first / bits_in (image_size image) + 4 + 5 * ((new_of kind payload image).1 - first))
few_tested (Ok first) image from made fresh before after kind payload size start r0 r1 short ends same few =
    let number = ends.number kind payload short in
    subst (λ (s : ℕ). r1 ≤ r0 + first / bits_in s + 4 + 5 * ((new_of kind payload image).1 - first)) same (omega (arith, few, number))
few_tested (Err fault) image from made fresh before after kind payload size start r0 r1 short ends same few = tt
