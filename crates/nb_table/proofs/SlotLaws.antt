-- Slots are written field by field, and read.
use Rattle.std.proofs.Common.{◌≡◌, ℕ, ◌+◌, ◌≤◌, ◌-◌, List, [], ◌∷◌, ◌++◌, length, replicate, refl, ap, ◌∙◌, arith, append_assoc, length-append, IsTrue, nat_lt, nat_le, slice_index}
use Rattle.nb_table.proofs.Common.{list_all, and_parts, leb-true, bytes_of, with_part, padded, row_slot, table_slot}
use Rattle.nb_fields.proofs.NumberLaws.{length-bytes_of}
use Rattle.nb_fields.proofs.PageLaws.{with_part-padded, with_part-padded_next}
use Rattle.nb_model.specs.TableNames.{is_table_name, is_table_byte, is_letter}
use Rattle.nb_engine.proofs.RowLaws.{zeros_are}

-- bytes are written after a gap
with_gap : (at gap : ℕ) (bytes front : List ℕ) → length front + gap ≡ at → at + length bytes ≤ 256 → with_part at bytes (padded 256 front) ≡ padded 256 (front ++ (replicate gap 0 ++ bytes))
with_gap at gap bytes front place room =
    with_part-padded 256 at bytes front (omega (arith, place)) room ∙ ap (λ (n : ℕ). padded 256 (front ++ (replicate n 0 ++ bytes))) (let e : at - length front ≡ gap = omega (arith, place) in e)

-- a used slot, and the length of its text
used_part : (d rest : List ℕ) → (bytes_of 1 1 ++ (replicate 1 0 ++ d)) ++ rest ≡ 1 ∷ 0 ∷ (d ++ rest)
unfolding bytes_of
used_part d rest = refl

module _ (d : List ℕ) (dl : length d ≡ 2) where
  abbrev x4 : List ℕ
  x4 = bytes_of 1 1 ++ (replicate 1 0 ++ d)

  l4 : length x4 ≡ 4
  l4 = omega (arith, length-append (bytes_of 1 1) (replicate 1 0 ++ d), length-bytes_of 1 1, length-append (replicate 1 0) d, dl)

  front : with_part 2 d (with_part 0 (bytes_of 1 1) (replicate 256 0)) ≡ padded 256 x4
  front =
      let one : length (bytes_of 1 1) ≡ 1 = length-bytes_of 1 1 in
      ap (λ (x : List ℕ). with_part 2 d (with_part 0 (bytes_of 1 1) x)) zeros_are ∙ ap (with_part 2 d) (with_part-padded_next 256 0 (bytes_of 1 1) [] refl (omega (arith, one))) ∙ with_gap 2 1 d (bytes_of 1 1) (omega (arith, one)) (omega (arith, dl))

-- the slot of a row
pub row_written : (key : ℕ) (text : List ℕ) → length text ≤ 200
    → with_part 16 text (with_part 8 (bytes_of 8 key) (with_part 2 (bytes_of 2 (length text)) (with_part 0 (bytes_of 1 1) (replicate 256 0)))) ≡ row_slot key text
unfolding row_slot
row_written key text short =
    let d : List ℕ = bytes_of 2 (length text) in
    let f : List ℕ = bytes_of 8 key in
    let dl : length d ≡ 2 = length-bytes_of 2 (length text) in
    let fl : length f ≡ 8 = length-bytes_of 8 key in
    let gap : List ℕ = replicate 4 0 in
    let y4 : List ℕ = x4 d dl in
    let l : length y4 ≡ 4 = l4 d dl in
    let y16 : List ℕ = y4 ++ (gap ++ f) in
    let l16 : length y16 ≡ 16 = omega (arith, length-append y4 (gap ++ f), l, length-append gap f, fl) in
    let grouped : y16 ++ text ≡ y4 ++ (gap ++ (f ++ text)) = append_assoc y4 (gap ++ f) text ∙ ap (λ (xs : List ℕ). y4 ++ xs) (append_assoc gap f text) in
    ap (λ (x : List ℕ). with_part 16 text (with_part 8 f x)) (front d dl) ∙ ap (with_part 16 text) (with_gap 8 4 f y4 (omega (arith, l)) (omega (arith, fl)))
    ∙ with_part-padded_next 256 16 text y16 l16 (omega (arith, short)) ∙ ap (padded 256) (grouped ∙ used_part d (gap ++ (f ++ text)))

-- the slot of a table
pub table_written : (name : List ℕ) (first : ℕ) → length name ≤ 30
    → with_part 16 name (with_part 4 (bytes_of 4 first) (with_part 2 (bytes_of 2 (length name)) (with_part 0 (bytes_of 1 1) (replicate 256 0)))) ≡ table_slot name first
unfolding table_slot
table_written name first short =
    let d : List ℕ = bytes_of 2 (length name) in
    let f : List ℕ = bytes_of 4 first in
    let dl : length d ≡ 2 = length-bytes_of 2 (length name) in
    let fl : length f ≡ 4 = length-bytes_of 4 first in
    let gap : List ℕ = replicate 8 0 in
    let y4 : List ℕ = x4 d dl in
    let l : length y4 ≡ 4 = l4 d dl in
    let y8 : List ℕ = y4 ++ f in
    let l8 : length y8 ≡ 8 = omega (arith, length-append y4 f, l, fl) in
    let grouped : y8 ++ (gap ++ name) ≡ y4 ++ (f ++ (gap ++ name)) = append_assoc y4 f (gap ++ name) in
    ap (λ (x : List ℕ). with_part 16 name (with_part 4 f x)) (front d dl) ∙ ap (with_part 16 name) (with_part-padded_next 256 4 f y4 l (omega (arith, fl)))
    ∙ with_gap 16 8 name y8 (omega (arith, l8)) (omega (arith, short)) ∙ ap (padded 256) (grouped ∙ used_part d (f ++ (gap ++ name)))

-- a name of a table has at most 30 bytes
pub name_short : (name : List ℕ) → IsTrue (is_table_name name) → length name ≤ 30
name_short name is =
    let a = (and_parts _ (list_all is_table_byte name) is).0 in
    let b = (and_parts _ (is_letter (slice_index name 0)) a).0 in
    leb-true (length name) 30 (and_parts (nat_lt 0 (length name)) (nat_le (length name) 30) b).1
