-- Statements are added to a script line by line.
use Rattle.std.proofs.Common.{◌≡◌, ℕ, ◌+◌, ◌≤◌, nat_lt, List, [], ◌∷◌, length, Some, None, Ok, Err, refl, ap, sym, ◌∙◌, if◌then◌else◌}
use Rattle.nb_script.proofs.Common.{BadScript, Statement, Bytes, cond-false, le-ltb, left, lines_of, first_at, statement_at, or_bad, script_of, of_lines, with_order, order_in, started, Plan, Numbered, with_lines, with_statement}

-- no line is left
pub no_more : (taken : ℕ) (plan : Plan) (lines : List Numbered) → lines ≡ [] → with_lines taken plan lines ≡ Ok plan
unfolding with_lines
no_more taken plan lines none = rw none refl

-- the next line is a statement
pub one_line : (taken : ℕ) (plan : Plan) (lines behind : List Numbered) (line : Numbered) (read : ℕ × Statement) → lines ≡ line ∷ behind
    → Some read ≡ (if nat_lt taken 10000 then statement_at line.1 else None) → with_lines (taken + 1) (with_statement plan read) behind ≡ with_lines taken plan lines
unfolding with_lines
one_line taken plan lines behind line read is spelled = sym (ap (with_lines taken plan) is ∙ ap (λ o. or_bad line o (λ x. with_lines (taken + 1) (with_statement plan x) behind)) (sym spelled))

-- the next line is none
pub bad_line : (taken : ℕ) (plan : Plan) (lines behind : List Numbered) (line : Numbered) → lines ≡ line ∷ behind
    → None ≡ (if nat_lt taken 10000 then statement_at line.1 else None) → with_lines taken plan lines ≡ Err (BadScript line.0)
unfolding with_lines
bad_line taken plan lines behind line is spelled = ap (with_lines taken plan) is ∙ ap (λ o. or_bad line o (λ x. with_lines (taken + 1) (with_statement plan x) behind)) (sym spelled)

-- the script of some bytes, from its lines
pub script_meant : (bytes : Bytes) (line : Numbered) (behind : List Numbered) (first : ℕ × Statement) (order : List ℕ × List Numbered) → length bytes ≤ 1048576
    → left 0 bytes ≡ line ∷ behind → Some first ≡ first_at line.1 → order ≡ order_in behind → script_of bytes ≡ with_lines 1 (started first.0 first.1 order.0) order.1
unfolding script_of of_lines with_order
script_meant bytes line behind first order few is spelled ordered =
    cond-false (nat_lt 1048576 (length bytes)) _ _ (le-ltb 1048576 (length bytes) few) ∙ ap (of_lines (length (lines_of bytes))) is
    ∙ ap (λ o. or_bad line o (λ x. with_order x behind)) (sym spelled) ∙ ap (λ (o : List ℕ × List Numbered). with_lines 1 (started first.0 first.1 o.0) o.1) (sym ordered)
