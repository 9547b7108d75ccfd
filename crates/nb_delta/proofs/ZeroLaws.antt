-- Zeros after the numbers of an allocation page.
use Rattle.std.proofs.Common.{◌≡◌, inl, ℕ, ◌+◌, ◌-◌, ◌*◌, ◌≤◌, List, length, drop, replicate, sym, ap, ◌∙◌, arith, length-drop}
use Rattle.nb_delta.proofs.Common.{drop-drop, drop-replicate, drop_all, take_all, File, bytes_of, part, AreApart, slots_in, page_in, alloc_place, HasZeros}

-- a page of zeros
pub zeros_all : (size k : ℕ) (page : List ℕ) → page ≡ replicate size 0 → drop k page ≡ replicate (size - k) 0
zeros_all size k page is = ap (λ (p : List ℕ). drop k p) is ∙ drop-replicate k size 0

-- after a full page there is nothing
pub zeros_none : (size k : ℕ) (page : List ℕ) → length page ≡ size → size ≤ k → drop k page ≡ replicate (size - k) 0
zeros_none size k page long past =
    drop_all k page (omega arith) ∙ sym (ap (λ (n : ℕ). replicate n 0) (let none : size - k ≡ 0 = omega arith in none))

-- from a later place on
pub zeros_later : (size at k : ℕ) (page : List ℕ) → drop at page ≡ replicate (size - at) 0 → drop (at + k) page ≡ replicate (size - (at + k)) 0
zeros_later size at k page is =
    sym (drop-drop k at page) ∙ ap (λ (p : List ℕ). drop k p) is ∙ drop-replicate k (size - at) 0 ∙ ap (λ (n : ℕ). replicate n 0) (let less : size - at - k ≡ size - (at + k) = omega arith in less)

-- a number was put before them
pub zeros_kept : (at width : ℕ) (page new : List ℕ) → length new ≡ length page → ((by v : ℕ) → AreApart at width by v → part by v new ≡ part by v page) → drop (at + width) new ≡ drop (at + width) page
zeros_kept at width page new long parts =
    let v : ℕ = length page - (at + width) in
    sym (take_all v (drop (at + width) new) (omega (arith, length-drop (at + width) new, long)))
    ∙ parts (at + width) v (inl (omega arith))
    ∙ take_all v (drop (at + width) page) (omega (arith, length-drop (at + width) page))

-- one number more
pub zeros_more : (size i : ℕ) (page new : List ℕ) → length new ≡ length page → ((by v : ℕ) → AreApart (4 + 4 * i) 4 by v → part by v new ≡ part by v page) → drop (4 + 4 * i) page ≡ replicate (size - (4 + 4 * i)) 0
    → drop (4 + 4 * (i + 1)) new ≡ replicate (size - (4 + 4 * (i + 1))) 0
zeros_more size i page new long parts is =
    let next : 4 + 4 * (i + 1) ≡ 4 + 4 * i + 4 = omega arith in
    ap (λ (n : ℕ). drop n new) next ∙ zeros_kept (4 + 4 * i) 4 page new long parts ∙ zeros_later size (4 + 4 * i) 4 page is ∙ ap (λ (n : ℕ). replicate (size - n) 0) (sym next)

-- where the allocation page of n entries is as it was, its zeros are
pub zeros_same : (size n : ℕ) (before after : File) → ((g : ℕ) → g * slots_in size ≤ n → page_in size (bytes_of after) (alloc_place size g) ≡ page_in size (bytes_of before) (alloc_place size g)) → HasZeros size before n → HasZeros size after n
zeros_same size n before after same zeros g i low at = ap (λ (p : List ℕ). drop (4 + 4 * i) p) (same g (omega arith)) ∙ zeros g i low at
