-- Lines that numbers choose, one after the other.
use Rattle.std.proofs.Common.{◌≡◌, ℕ, suc, ◌+◌, ◌-◌, ◌/◌, ◌^◌, ◌<◌, ◌≤◌, List, [], ◌∷◌, ◌++◌, ap, sym, ◌∙◌, append_assoc, arith}
use Rattle.nb_gen.proofs.Common.{ended, line_of, backup_line, lines_from}
use Rattle.std.proofs.lemmas.List.{append-nil}
use Rattle.nb_model.specs.Seeds.{stepped}

-- line i + 1 and its backup stand, and then the lines after them
pub next_line : (out : List ℕ) (i x : ℕ) → i < 1000
    → (out ++ (ended (line_of (i + 1) (stepped x / 2 ^ 33)) ++ backup_line (i + 1))) ++ lines_from (1000 - (i + 1)) (i + 1 + 1) (stepped x) ≡ out ++ lines_from (1000 - i) (i + 1) x
unfolding lines_from
next_line out i x low =
    let more : 1000 - i ≡ suc (1000 - (i + 1)) = omega (arith, low) in
    let line : List ℕ = ended (line_of (i + 1) (stepped x / 2 ^ 33)) in
    let rest : List ℕ = lines_from (1000 - (i + 1)) (i + 1 + 1) (stepped x) in
    append_assoc out (line ++ backup_line (i + 1)) rest ∙ ap (λ (l : List ℕ). out ++ l) (append_assoc line (backup_line (i + 1)) rest) ∙ sym (ap (λ n. out ++ lines_from n (i + 1) x) more)

-- all of them stand
pub all_lines : (out : List ℕ) (i x : ℕ) → 1000 ≤ i → out ≡ out ++ lines_from (1000 - i) (i + 1) x
unfolding lines_from
all_lines out i x past =
    let none : 1000 - i ≡ 0 = omega (arith, past) in
    sym (ap (λ n. out ++ lines_from n (i + 1) x) none ∙ append-nil out)

-- two lines and the front of a third, a number, and what ends it
pub with_number : (out first front number rest : List ℕ) → (out ++ (first ++ front) ++ number) ++ 10 ∷ rest ≡ out ++ (first ++ ((front ++ number ++ 10 ∷ []) ++ rest))
with_number out first front number rest = simp append_assoc

-- the lines of a head, those after it, and the last
pub all_parts : (a b c lines last : List ℕ) → (a ++ (b ++ c) ++ lines) ++ last ≡ a ++ (b ++ (c ++ (lines ++ last)))
all_parts a b c lines last = simp append_assoc
