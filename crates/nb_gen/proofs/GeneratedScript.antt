-- The script of a number creates its database, where it is one that can be asked.
use Rattle.std.proofs.Common.{◌≡◌, ℕ, ◌+◌, List, [], ◌∷◌, ◌++◌, length, refl, sym, ap, ◌∙◌, codes, Bool, true, false, nat_lt, Option, Some, None, Ok, Err, if◌then◌else◌}
use Rattle.nb_gen.proofs.Common.{decimal, ended, generated, lines_from, IsScriptText, generated_first, err_ok, ok_equal}
use Rattle.nb_host.specs.declared.refusals.Refusal.{Refusal}
use Rattle.nb_host.specs.declared.refusals.Refusal.TheVariants.{BadScript, ScriptLong}
use Rattle.nb_model.specs.declared.statement.Statement.{Statement}
use Rattle.nb_script.specs.Words.{Bytes, after, number_at, within, named, name_at}
use Rattle.nb_script.specs.Lines.{lines_of, numbered, left}
use Rattle.nb_script.specs.FirstLine.{cache_at, page_size_at, sizes_at, create_at, database_at, first_at}
use Rattle.nb_script.specs.Statements.{session_line, statement_at}
use Rattle.nb_script.specs.Scripts.{Plan, Numbered, started, with_statement, or_bad, with_lines, order_in, with_order, of_lines, script_of}

abbrev first_line : Bytes
first_line = codes "1: create database 'gen.db' page_size 4096 raw 100"

-- what stands after it
abbrev behind : ℕ → Bytes
behind n = ended (codes "seed " ++ decimal n) ++ (ended (codes "1: create table t") ++ (lines_from 1000 1 n ++ ended (codes "1: show pages")))

generated_is : (n : ℕ) → generated n ≡ ended first_line ++ behind n
unfolding generated
generated_is n = refl

-- it is a text that no job takes for a backup
pub generated_text : (n : ℕ) → IsScriptText (generated n)
generated_text n = record { behind = codes ": create database 'gen.db' page_size 4096 raw 100" ++ (10 ∷ behind n); is = generated_is n }

first_left : (rest : Bytes) → left 0 (ended first_line ++ rest) ≡ (1, first_line) ∷ numbered 1 (lines_of rest)
unfolding lines_of numbered
first_left rest = refl

first_read : first_at first_line ≡ Some (1, generated_first)
unfolding first_at session_line database_at create_at sizes_at page_size_at cache_at name_at named after within number_at
first_read = refl

-- further lines leave the first statement
same_first : (taken : ℕ) (plan q : Plan) (lines : List Numbered) → with_lines taken plan lines ≡ Ok q → q.first ≡ plan.first
unfolding with_lines
same_first taken plan q [] is = ap (λ (p : Plan). p.first) (sym (ok_equal {T = Plan} {E = Refusal} plan q is))
same_first taken plan q (line ∷ lines) is = by (λ (p : Plan). same_first (taken + 1) p q lines) (if nat_lt taken 10000 then statement_at line.1 else None) is
  where
    by : ((p : Plan) → with_lines (taken + 1) p lines ≡ Ok q → q.first ≡ p.first) → (read : Option (ℕ × Statement)) → or_bad line read (λ r. with_lines (taken + 1) (with_statement plan r) lines) ≡ Ok q → q.first ≡ plan.first
    by more None e = absurd (err_ok (BadScript line.0) q e)
    by more (Some read) e = more (with_statement plan read) e

order_first : (first : ℕ × Statement) (lines : List Numbered) (q : Plan) → with_order first lines ≡ Ok q → q.first ≡ first.1
unfolding with_order
order_first first lines q is = same_first 1 (started first.0 first.1 (order_in lines).0) q (order_in lines).1 is

of_first : (count : ℕ) (line : Numbered) (lines : List Numbered) (first : ℕ × Statement) (q : Plan) → first_at line.1 ≡ Some first → of_lines count (line ∷ lines) ≡ Ok q → q.first ≡ first.1
unfolding of_lines
of_first count line lines first q read is =
    order_first first lines q (sym (ap (λ (r : Option (ℕ × Statement)). or_bad line r (λ f. with_order f lines)) read) ∙ is)

pub creates_its_own : (n : ℕ) (plan : Plan) → script_of (generated n) ≡ Ok plan → plan.first ≡ generated_first
unfolding script_of
creates_its_own n plan is = by (nat_lt 1048576 (length (generated n))) is
  where
    bytes : Bytes
    bytes = generated n

    read : left 0 bytes ≡ (1, first_line) ∷ numbered 1 (lines_of (behind n))
    read = ap (left 0) (generated_is n) ∙ first_left (behind n)

    by : (long : Bool) → (if long then Err (ScriptLong (length bytes)) else of_lines (length (lines_of bytes)) (left 0 bytes)) ≡ Ok plan → plan.first ≡ generated_first
    by true e = absurd (err_ok (ScriptLong (length bytes)) plan e)
    by false e = of_first (length (lines_of bytes)) (1, first_line) (numbered 1 (lines_of (behind n))) (1, generated_first) plan first_read (sym (ap (of_lines (length (lines_of bytes))) read) ∙ e)
