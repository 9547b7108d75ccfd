-- Parts of a page, read and written.
use Rattle.std.proofs.Common.{◌≡◌, ℕ, zero, suc, ◌+◌, ◌-◌, ◌^◌, ◌<◌, ◌≤◌, ⊎_elim, List, [], ◌∷◌, ◌++◌, length, get_or, take, drop, refl, sym, ap, ◌∙◌, subst, arith, length-drop, length-append, append_assoc}
use Rattle.nb_fields.proofs.Common.{length-take-le, drop_at, take_at, drop-drop, drop-append-le, take-append-le, drop-take, take-take, put_mid, number_of, bytes_of, part, number_in, with_part, AreApart}
use Rattle.nb_fields.proofs.NumberLaws.{length-bytes_of, number_of-bytes_of, number_of-lt}

pub length-part : (at w : ℕ) (page : List ℕ) → at + w ≤ length page → length (part at w page) ≡ w
length-part at w page h = length-take-le w (drop at page) (omega (arith, length-drop at page))

pub length-with_part : (at : ℕ) (bytes page : List ℕ) → at + length bytes ≤ length page → length (with_part at bytes page) ≡ length page
length-with_part at bytes page h =
    omega (arith, length-append (take at page) (bytes ++ drop (at + length bytes) page), length-append bytes (drop (at + length bytes) page), length-drop (at + length bytes) page, length-take-le at page (omega arith))

-- what a write to a slice of a page leaves
pub put_mid-with_part : (at k : ℕ) (bytes page : List ℕ) → length bytes ≡ k → put_mid at k page bytes ≡ with_part at bytes page
put_mid-with_part at k bytes page len =
    ap (λ xs. take at page ++ (bytes ++ xs)) (drop-drop k at page ∙ ap (λ n. drop n page) (let e : at + k ≡ at + length bytes = omega arith in e))

-- each byte of a front, or of what is left, is a byte
bytes-drop : (k : ℕ) (xs : List ℕ) → ((i : ℕ) → get_or xs i 0 < 256) → (i : ℕ) → get_or (drop k xs) i 0 < 256
bytes-drop zero xs h i = h i
bytes-drop (suc k) [] h i = h i
bytes-drop (suc k) (x ∷ xs) h i = bytes-drop k xs (λ j. h (suc j)) i

bytes-take : (k : ℕ) (xs : List ℕ) → ((i : ℕ) → get_or xs i 0 < 256) → (i : ℕ) → get_or (take k xs) i 0 < 256
bytes-take zero xs h i = omega arith
bytes-take (suc k) [] h i = h i
bytes-take (suc k) (x ∷ xs) h zero = h zero
bytes-take (suc k) (x ∷ xs) h (suc i) = bytes-take k xs (λ j. h (suc j)) i

-- a number in a page fits its bytes
pub number_in-lt : (at w : ℕ) (page : List ℕ) → ((i : ℕ) → get_or page i 0 < 256) → at + w ≤ length page → number_in at w page < 256 ^ w
unfolding number_in
number_in-lt at w page bytes h =
    subst (λ (n : ℕ). number_of (part at w page) < 256 ^ n) (length-part at w page h) (number_of-lt (part at w page) (bytes-take w (drop at page) (bytes-drop at page bytes)))

-- the page up to the end of what was written
pub take-with_part : (at end : ℕ) (bytes page : List ℕ) → at ≤ length page → end ≡ at + length bytes → take end (with_part at bytes page) ≡ take at page ++ bytes
take-with_part at end bytes page h place =
    let len = length-take-le at page h in
    ap (take end) (sym (append_assoc (take at page) bytes (drop (at + length bytes) page)))
    ∙ take_at (take at page ++ bytes) (drop (at + length bytes) page) end (omega (arith, length-append (take at page) bytes))

-- the part that was written is what was written
pub part-with_part : (at w : ℕ) (bytes page : List ℕ) → length bytes ≡ w → at ≤ length page → part at w (with_part at bytes page) ≡ bytes
part-with_part at w bytes page len h =
    let rest : List ℕ = drop (at + length bytes) page in
    ap (take w) (drop_at (take at page) (bytes ++ rest) at (length-take-le at page h)) ∙ take_at bytes rest w len

-- a part before it stays
pub part-with_part_before : (at by v : ℕ) (bytes page : List ℕ) → at ≤ length page → by + v ≤ at → part by v (with_part at bytes page) ≡ part by v page
part-with_part_before at by v bytes page h before =
    let rest : List ℕ = bytes ++ drop (at + length bytes) page in
    let front : length (take at page) ≡ at = length-take-le at page h in
    let whole : drop by (take (by + (at - by)) page) ≡ take (at - by) (drop by page) = drop-take by (at - by) page in
    let same : by + (at - by) ≡ at = omega arith in
    ap (take v) (drop-append-le by (take at page) rest (omega arith))
    ∙ take-append-le v (drop by (take at page)) rest (omega (arith, length-drop by (take at page)))
    ∙ ap (take v) (ap (λ n. drop by (take n page)) (sym same) ∙ whole)
    ∙ take-take v (at - by) (drop by page) (omega arith)

-- what lies after it stays
pub drop-with_part : (at by : ℕ) (bytes page : List ℕ) → at ≤ length page → at + length bytes ≤ by → drop by (with_part at bytes page) ≡ drop by page
drop-with_part at by bytes page h after =
    let w : ℕ = length bytes in
    let rest : List ℕ = drop (at + w) page in
    let j : ℕ = by - (at + w) in
    let there : at + (w + j) ≡ by = omega arith in
    let here : drop at (with_part at bytes page) ≡ bytes ++ rest = drop_at (take at page) (bytes ++ rest) at (length-take-le at page h) in
    ap (λ n. drop n (with_part at bytes page)) (sym there)
    ∙ sym (drop-drop (w + j) at (with_part at bytes page))
    ∙ ap (drop (w + j)) here
    ∙ sym (drop-drop j w (bytes ++ rest))
    ∙ ap (drop j) (drop_at bytes rest w refl)
    ∙ drop-drop j (at + w) page
    ∙ ap (λ n. drop n page) (omega arith)

-- a part that shares no byte with it stays
pub part-with_part_other : (at w by v : ℕ) (bytes page : List ℕ) → length bytes ≡ w → at + w ≤ length page → AreApart at w by v → part by v (with_part at bytes page) ≡ part by v page
part-with_part_other at w by v bytes page len h apart =
    ⊎_elim (λ after. ap (take v) (drop-with_part at by bytes page (omega arith) (omega arith))) (λ before. part-with_part_before at by v bytes page (omega arith) before) apart

-- the number that was written is read back
pub number_in-with_part : (at w v : ℕ) (page : List ℕ) → v < 256 ^ w → at ≤ length page → number_in at w (with_part at (bytes_of w v) page) ≡ v
unfolding number_in
number_in-with_part at w v page fits h =
    ap number_of (part-with_part at w (bytes_of w v) page (length-bytes_of w v) h) ∙ number_of-bytes_of w v fits

-- a number that shares no byte with it stays
pub number_in-with_part_other : (at w by v : ℕ) (bytes page : List ℕ) → length bytes ≡ w → at + w ≤ length page → AreApart at w by v → number_in by v (with_part at bytes page) ≡ number_in by v page
unfolding number_in
number_in-with_part_other at w by v bytes page len h apart = ap number_of (part-with_part_other at w by v bytes page len h apart)

-- a front of the page has the parts that lie in it
pub part-take : (n at w : ℕ) (page : List ℕ) → at + w ≤ n → part at w (take n page) ≡ part at w page
part-take n at w page h =
    let m : ℕ = n - at in
    let split : at + m ≡ n = omega arith in
    ap (λ k. take w (drop at (take k page))) (sym split) ∙ ap (take w) (drop-take at m page) ∙ take-take w m (drop at page) (omega arith)

pub number_in-take : (n at w : ℕ) (page : List ℕ) → at + w ≤ n → number_in at w (take n page) ≡ number_in at w page
unfolding number_in
number_in-take n at w page h = ap number_of (part-take n at w page h)
