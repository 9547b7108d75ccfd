-- Parts of a file.
use Rattle.std.proofs.Common.{◌≡◌, ℕ, ◌+◌, ◌-◌, ◌≤◌, List, length, take, drop, refl, subst, sym, ◌∙◌, ap, arith, length-take}
use Rattle.nb_file.proofs.Common.{drop-take, drop-drop, take-take}
use Rattle.nb_file.specs.Fetched.{IsPart}

-- what is read of a part is what is read of the file
pub part_within : (from : ℕ) (part file : List ℕ) (at count : ℕ) → IsPart from part file → from ≤ at → at - from + count ≤ length part → take count (drop (at - from) part) ≡ take count (drop at file)
part_within from part file at count is low within =
    ap (λ (l : List ℕ). take count (drop k l)) (is ∙ ap (λ (n : ℕ). take n (drop from file)) (let e : length part ≡ k + m = omega arith in e))
    ∙ ap (take count) (drop-take k m (drop from file) ∙ ap (take m) (drop-drop k from file ∙ ap (λ (n : ℕ). drop n file) (let e : from + k ≡ at = omega arith in e)))
    ∙ take-take count m (drop at file) (omega arith)
  where
    k : ℕ
    k = at - from

    m : ℕ
    m = length part - (at - from)

-- the same, of the first so many bytes of a buffer
pub given_within : (from k : ℕ) (buffer file : List ℕ) (at count : ℕ) → IsPart from (take k buffer) file → k ≤ length buffer → from ≤ at → at - from + count ≤ k → take count (drop (at - from) (take k buffer)) ≡ take count (drop at file)
given_within from k buffer file at count is room low within = part_within from (take k buffer) file at count is low (omega (arith, within, room, length-take k buffer))

-- no bytes stand anywhere
pub empty_part : (at k : ℕ) (buffer file : List ℕ) → k ≡ 0 → IsPart at (take k buffer) file
empty_part at k buffer file none = let P : ℕ → Type 0 = λ n. IsPart at (take n buffer) file in subst P (sym none) refl
