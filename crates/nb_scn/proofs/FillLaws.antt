-- A page filled from the front.
use Rattle.std.proofs.Common.{◌≡◌, ℕ, zero, suc, ◌+◌, ◌≤◌, List, ◌++◌, length, take, replicate, sym, ap, ◌∙◌, arith, append_assoc, add-one, refl}
use Rattle.nb_scn.proofs.Common.{append-nil, bytes_of, with_part, same_entries, length-with_part, take-with_part, entry_place}
use Rattle.nb_fields.proofs.NumberLaws.{length-bytes_of}

-- one entry more, after the others
pub same_entries-more : (scn n : ℕ) → same_entries scn (suc n) ≡ same_entries scn n ++ bytes_of 4 scn
unfolding same_entries
same_entries-more scn zero = append-nil (bytes_of 4 scn)
same_entries-more scn (suc n) = ap (λ xs. bytes_of 4 scn ++ xs) (same_entries-more scn n) ∙ sym (append_assoc (bytes_of 4 scn) (same_entries scn n) (bytes_of 4 scn))

-- the head of an old page, and SCN inventory page k after it up to its first entries
abbrev pub front : (old : List ℕ) (k scn count : ℕ) → List ℕ
front old k scn count = take 16 old ++ (bytes_of 4 k ++ (replicate 12 0 ++ same_entries scn count))

pub front_begun : (old : List ℕ) (k scn : ℕ) → 32 ≤ length old → take 32 (with_part 20 (replicate 12 0) (with_part 16 (bytes_of 4 k) old)) ≡ front old k scn 0
unfolding same_entries
front_begun old k scn h =
    let four : length (bytes_of 4 k) ≡ 4 = length-bytes_of 4 k in
    let numbered : List ℕ = with_part 16 (bytes_of 4 k) old in
    let size : length numbered ≡ length old = length-with_part 16 (bytes_of 4 k) old (omega arith) in
    take-with_part 20 32 (replicate 12 0) numbered (omega arith) refl
    ∙ ap (λ xs. xs ++ replicate 12 0) (take-with_part 16 20 (bytes_of 4 k) old (omega arith) (omega arith))
    ∙ append_assoc (take 16 old) (bytes_of 4 k) (replicate 12 0)

pub front_more : (old page : List ℕ) (k scn index : ℕ) → entry_place index ≤ length page → take (entry_place index) page ≡ front old k scn index → take (entry_place (index + 1)) (with_part (entry_place index) (bytes_of 4 scn) page) ≡ front old k scn (index + 1)
front_more old page k scn index h so_far =
    let four : length (bytes_of 4 scn) ≡ 4 = length-bytes_of 4 scn in
    let more : same_entries scn (index + 1) ≡ same_entries scn index ++ bytes_of 4 scn = rw add-one (same_entries-more scn index) in
    take-with_part (entry_place index) (entry_place (index + 1)) (bytes_of 4 scn) page h (omega arith)
    ∙ ap (λ xs. xs ++ bytes_of 4 scn) so_far
    ∙ append_assoc (take 16 old) (bytes_of 4 k ++ (replicate 12 0 ++ same_entries scn index)) (bytes_of 4 scn)
    ∙ ap (λ xs. take 16 old ++ xs) (append_assoc (bytes_of 4 k) (replicate 12 0 ++ same_entries scn index) (bytes_of 4 scn)
    ∙ ap (λ xs. bytes_of 4 k ++ (replicate 12 0 ++ xs)) (sym more))
