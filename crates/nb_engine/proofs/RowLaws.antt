-- A row is written into a slot, field by field.
use Rattle.std.proofs.Common.{◌≡◌, ℕ, ◌%◌, ◌<◌, ◌≤◌, List, [], ◌∷◌, ◌++◌, length, replicate, refl, ap, ◌∙◌, arith, append_assoc, length-append, IsTrue, ◌&&◌, nat_lt, nat_le}
use Rattle.nb_engine.proofs.Common.{list_all, and_parts, leb-true, bytes_of, with_part, padded, length-bytes_of, with_part-padded_next, backup_slot}
use Rattle.nb_host.specs.Names.{is_name, is_name_byte}

-- a used slot and its level
used_level : (level : ℕ) → level < 256 → bytes_of 1 1 ++ bytes_of 1 level ≡ 1 ∷ level ∷ []
unfolding bytes_of
used_level level low = let same : level % 256 ≡ level = omega (arith, low) in ap (λ (n : ℕ). 1 ∷ n ∷ []) same

pub zeros_are : replicate 256 0 ≡ padded 256 []
unfolding padded
zeros_are = refl

pub row_written : (level scn time : ℕ) (guid name : List ℕ) → level < 256 → length guid ≡ 16 → length name ≤ 100
    → with_part 32 name (with_part 16 guid (with_part 8 (bytes_of 8 time) (with_part 4 (bytes_of 4 scn) (with_part 2 (bytes_of 2 (length name)) (with_part 1 (bytes_of 1 level) (with_part 0 (bytes_of 1 1) (replicate 256 0)))))))
    ≡ backup_slot level scn time guid name
unfolding backup_slot
row_written level scn time guid name low gs ns =
    let b : List ℕ = bytes_of 1 1 in
    let c : List ℕ = bytes_of 1 level in
    let d : List ℕ = bytes_of 2 (length name) in
    let e : List ℕ = bytes_of 4 scn in
    let f : List ℕ = bytes_of 8 time in
    let bl : length b ≡ 1 = length-bytes_of 1 1 in
    let cl : length c ≡ 1 = length-bytes_of 1 level in
    let dl : length d ≡ 2 = length-bytes_of 2 (length name) in
    let el : length e ≡ 4 = length-bytes_of 4 scn in
    let fl : length f ≡ 8 = length-bytes_of 8 time in
    let x2 : List ℕ = b ++ c in
    let l2 : length x2 ≡ 2 = omega (arith, length-append b c, bl, cl) in
    let x4 : List ℕ = x2 ++ d in
    let l4 : length x4 ≡ 4 = omega (arith, length-append x2 d, l2, dl) in
    let x8 : List ℕ = x4 ++ e in
    let l8 : length x8 ≡ 8 = omega (arith, length-append x4 e, l4, el) in
    let x16 : List ℕ = x8 ++ f in
    let l16 : length x16 ≡ 16 = omega (arith, length-append x8 f, l8, fl) in
    let x32 : List ℕ = x16 ++ guid in
    let l32 : length x32 ≡ 32 = omega (arith, length-append x16 guid, l16, gs) in
    let to1 : with_part 0 b (replicate 256 0) ≡ padded 256 b = ap (with_part 0 b) zeros_are ∙ with_part-padded_next 256 0 b [] refl (omega (arith, bl)) in
    let to2 : with_part 1 c (padded 256 b) ≡ padded 256 x2 = with_part-padded_next 256 1 c b bl (omega (arith, cl)) in
    let to4 : with_part 2 d (padded 256 x2) ≡ padded 256 x4 = with_part-padded_next 256 2 d x2 l2 (omega (arith, dl)) in
    let to8 : with_part 4 e (padded 256 x4) ≡ padded 256 x8 = with_part-padded_next 256 4 e x4 l4 (omega (arith, el)) in
    let to16 : with_part 8 f (padded 256 x8) ≡ padded 256 x16 = with_part-padded_next 256 8 f x8 l8 (omega (arith, fl)) in
    let to32 : with_part 16 guid (padded 256 x16) ≡ padded 256 x32 = with_part-padded_next 256 16 guid x16 l16 (omega (arith, gs)) in
    let to_end : with_part 32 name (padded 256 x32) ≡ padded 256 (x32 ++ name) = with_part-padded_next 256 32 name x32 l32 (omega (arith, ns)) in
    let grouped : x32 ++ name ≡ x2 ++ (d ++ (e ++ (f ++ (guid ++ name)))) = append_assoc x16 guid name ∙ append_assoc x8 f (guid ++ name) ∙ append_assoc x4 e _ ∙ append_assoc x2 d _ in
    let front : x2 ++ (d ++ (e ++ (f ++ (guid ++ name)))) ≡ 1 ∷ level ∷ (d ++ (e ++ (f ++ (guid ++ name)))) = ap (λ (xs : List ℕ). xs ++ (d ++ (e ++ (f ++ (guid ++ name))))) (used_level level low) in
    ap (λ (x : List ℕ). with_part 32 name (with_part 16 guid (with_part 8 f (with_part 4 e (with_part 2 d (with_part 1 c x)))))) to1
    ∙ ap (λ (x : List ℕ). with_part 32 name (with_part 16 guid (with_part 8 f (with_part 4 e (with_part 2 d x))))) to2
    ∙ ap (λ (x : List ℕ). with_part 32 name (with_part 16 guid (with_part 8 f (with_part 4 e x)))) to4
    ∙ ap (λ (x : List ℕ). with_part 32 name (with_part 16 guid (with_part 8 f x))) to8
    ∙ ap (λ (x : List ℕ). with_part 32 name (with_part 16 guid x)) to16 ∙ ap (with_part 32 name) to32 ∙ to_end ∙ ap (padded 256) (grouped ∙ front)

-- a name has at most 100 bytes
pub name_short : (name : List ℕ) → IsTrue (is_name name) → length name ≤ 100
name_short name is =
    let front = (and_parts (nat_lt 0 (length name) && nat_le (length name) 100) (list_all is_name_byte name) is).0 in
    leb-true (length name) 100 (and_parts (nat_lt 0 (length name)) (nat_le (length name) 100) front).1
