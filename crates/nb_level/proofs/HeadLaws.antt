-- The bytes of a head, field by field.
use Rattle.std.proofs.Common.{◌≡◌, ℕ, ◌+◌, ◌≤◌, List, [], ◌++◌, length, take, refl, sym, ap, ◌∙◌, arith, append_assoc}
use Rattle.nb_level.proofs.Common.{append-nil, take_all, with_part, take-with_part, head_then}
use Rattle.nb_fields.specs.Bytes.{bytes_of}

-- the front is written up to the end of a field
front : (at end : ℕ) (bytes page new : List ℕ) → at ≤ length page → end ≡ at + length bytes → new ≡ with_part at bytes page → take end new ≡ take at page ++ bytes
front at end bytes page new inside e is = ap (take end) is ∙ take-with_part at end bytes page inside e

-- eight fields, one after the other
pub head_written : (p0 p1 p2 p3 p4 p5 p6 p7 p8 : List ℕ) (version level : ℕ) (guid previous : List ℕ) (size scn previous_scn : ℕ) → length guid ≡ 16 → length previous ≡ 16
    → (4 ≤ length p0) × (52 ≤ length p1) × (52 ≤ length p2) × (52 ≤ length p3) × (52 ≤ length p4) × (52 ≤ length p5) × (52 ≤ length p6) × (52 ≤ length p7) × (length p8 ≡ 52)
    → p1 ≡ with_part 0 (bytes_of 4 1262568014) p0 → p2 ≡ with_part 4 (bytes_of 2 version) p1 → p3 ≡ with_part 6 (bytes_of 2 level) p2 → p4 ≡ with_part 8 guid p3 → p5 ≡ with_part 24 previous p4
    → p6 ≡ with_part 40 (bytes_of 4 size) p5 → p7 ≡ with_part 44 (bytes_of 4 scn) p6 → p8 ≡ with_part 48 (bytes_of 4 previous_scn) p7
    → p8 ≡ head_then version (record { level = level; guid = guid; previous = previous; size = size; scn = scn; previous_scn = previous_scn }) []
unfolding head_then bytes_of
head_written p0 p1 p2 p3 p4 p5 p6 p7 p8 version level guid previous size scn previous_scn g p n e1 e2 e3 e4 e5 e6 e7 e8 =
    let s : List ℕ = bytes_of 4 1262568014 in
    let a : List ℕ = s ++ bytes_of 2 version in
    let b : List ℕ = a ++ bytes_of 2 level in
    let c : List ℕ = b ++ guid in
    let d : List ℕ = c ++ previous in
    let e : List ℕ = d ++ bytes_of 4 size in
    let f : List ℕ = e ++ bytes_of 4 scn in
    let t1 : take 4 p1 ≡ s = front 0 4 s p0 p1 (omega (arith, n.0)) refl e1 in
    let t2 : take 6 p2 ≡ a = front 4 6 (bytes_of 2 version) p1 p2 (omega (arith, n.1)) refl e2 ∙ ap (λ l. l ++ bytes_of 2 version) t1 in
    let t3 : take 8 p3 ≡ b = front 6 8 (bytes_of 2 level) p2 p3 (omega (arith, n.2)) refl e3 ∙ ap (λ l. l ++ bytes_of 2 level) t2 in
    let t4 : take 24 p4 ≡ c = front 8 24 guid p3 p4 (omega (arith, n.3)) (omega (arith, g)) e4 ∙ ap (λ l. l ++ guid) t3 in
    let t5 : take 40 p5 ≡ d = front 24 40 previous p4 p5 (omega (arith, n.4)) (omega (arith, p)) e5 ∙ ap (λ l. l ++ previous) t4 in
    let t6 : take 44 p6 ≡ e = front 40 44 (bytes_of 4 size) p5 p6 (omega (arith, n.5)) refl e6 ∙ ap (λ l. l ++ bytes_of 4 size) t5 in
    let t7 : take 48 p7 ≡ f = front 44 48 (bytes_of 4 scn) p6 p7 (omega (arith, n.6)) refl e7 ∙ ap (λ l. l ++ bytes_of 4 scn) t6 in
    let t8 : take 52 p8 ≡ f ++ bytes_of 4 previous_scn = front 48 52 (bytes_of 4 previous_scn) p7 p8 (omega (arith, n.7)) refl e8 ∙ ap (λ l. l ++ bytes_of 4 previous_scn) t7 in
    let r8 : List ℕ = bytes_of 4 previous_scn ++ [] in
    let r7 : List ℕ = bytes_of 4 scn ++ r8 in
    let r6 : List ℕ = bytes_of 4 size ++ r7 in
    let r5 : List ℕ = previous ++ r6 in
    let r4 : List ℕ = guid ++ r5 in
    let r3 : List ℕ = bytes_of 2 level ++ r4 in
    sym (take_all 52 p8 (omega (arith, n.8))) ∙ t8 ∙ sym (append-nil (f ++ bytes_of 4 previous_scn))
    ∙ append_assoc f (bytes_of 4 previous_scn) [] ∙ append_assoc e (bytes_of 4 scn) r8 ∙ append_assoc d (bytes_of 4 size) r7 ∙ append_assoc c previous r6
    ∙ append_assoc b guid r5 ∙ append_assoc a (bytes_of 2 level) r4 ∙ append_assoc s (bytes_of 2 version) r3
