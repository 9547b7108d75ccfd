-- A script that bytes spell asks only what the program can do, and names its database in the first statement alone.
use Rattle.std.proofs.Common.{◌≡◌, ℕ, zero, suc, ◌+◌, ◌-◌, ◌<◌, ◌≤◌, Bool, true, false, not, List, [], ◌∷◌, ◌++◌, length, get_or, set, refl, ◌∙◌, subst, arith, Option, Some, None, Result, Ok, Err, IsTrue, IfOk, if◌then◌else◌, replicate, codes, nat_lt}
use Rattle.nb_script.proofs.Common.{AllByRecursion, ltb-true, length-set, ScriptLong, Statement, CreateDb, OpenDb, BackupSince, Activate, Bytes, after, session_at, statement_at, session_line, command_at, first_at, database_at, Plan, Numbered, started, statements_of, with_statement, or_bad, with_lines, order_in, with_order, of_lines, script_of, IsAnswer, lines_of, left, Fits, FitsAsked, FitsFirst, FitsOrder, IsSession, opens, IsFirst, IsFurther, IsFurtherLine, IsAskable, IsSpelled, statement_count, order_at, length_push}
use Rattle.nb_host.specs.declared.faults.Fault.{Fault}
use Rattle.nb_host.specs.declared.refusals.Refusal.{Refusal}
use Rattle.nb_script.proofs.FitLaws.{If, nothing, just, tested, follows, any, within_fits, command_fits, database_fits, order_fits}

-- a line of a session 1 to 16 whose statement has P
abbrev IsLine : (Statement → Type 0) → ℕ × Statement → Type 0
IsLine P line = (1 ≤ line.0) × (line.0 ≤ 16) × P line.1

session_fits : (line : Bytes) → If (λ (x : ℕ × Bytes). (1 ≤ x.0) × (x.0 ≤ 16)) (session_line line)
unfolding session_line
session_fits line = follows (session_at line) _ (within_fits 1 16 line) (λ session range. follows (after (codes ": ") session.1) _ (any _) (λ rest _. just _ range))

statement_fits : (line : Bytes) → If (IsLine Fits) (statement_at line)
unfolding statement_at
statement_fits line = follows (session_line line) _ (session_fits line) (λ session range. follows (command_at session.1) _ (command_fits session.1) (λ statement fits. just _ (range.0, range.1, fits)))

first_fits : (line : Bytes) → If (IsLine FitsFirst) (first_at line)
unfolding first_at
first_fits line = follows (session_line line) _ (session_fits line) (λ session range. follows (database_at session.1) _ (database_fits session.1) (λ statement fits. just _ (range.0, range.1, fits)))

-- no further statement names a database
opens_none : (s : Statement) → Fits s → IsTrue (not (opens s))
opens_none (CreateDb name page_size raw cache) fits = absurd fits
opens_none (OpenDb name cache) fits = absurd fits
opens_none other fits = refl

-- and the first always does
opens_one : (s : Statement) → FitsFirst s → IsTrue (opens s)
opens_one (CreateDb name page_size raw cache) fits = refl
opens_one (OpenDb name cache) fits = refl
opens_one other fits = absurd fits

-- what is said of the statement of a line, said otherwise
line_is : (P Q : Statement → Type 0) (o : Option (ℕ × Statement)) → If (IsLine P) o → ((s : Statement) → P s → Q s) → If (IsLine Q) o
line_is P Q None has next = nothing
line_is P Q (Some line) has next = let is = has.holds line refl in just line (is.0, is.1, next line.1 is.2)

further_line : (line : Bytes) → If (IsLine IsFurtherLine) (statement_at line)
further_line line = line_is Fits IsFurtherLine (statement_at line) (statement_fits line) (λ s fits. record { opens_none = opens_none s fits; fits = fits })

first_line : (line : Bytes) → If (IsLine IsFirst) (first_at line)
first_line line = line_is FitsFirst IsFirst (first_at line) (first_fits line) (λ s fits. record { opens = opens_one s fits; fits = fits })

-- each list of statements asks only further ones
abbrev pub AllFurther : List (List Statement) → Type 0
AllFurther lists = AllByRecursion (AllByRecursion IsFurtherLine) lists

further_at : (lists : List (List Statement)) (i : ℕ) → AllFurther lists → AllByRecursion IsFurtherLine (get_or lists i [])
further_at [] i all = tt
further_at (l ∷ lists) zero all = all.0
further_at (l ∷ lists) (suc i) all = further_at lists i all.1

further_push : (statements : List Statement) (s : Statement) → AllByRecursion IsFurtherLine statements → IsFurtherLine s → AllByRecursion IsFurtherLine (statements ++ s ∷ [])
further_push [] s all is = (is, tt)
further_push (k ∷ statements) s all is = (all.0, further_push statements s all.1 is)

further_set : (lists : List (List Statement)) (i : ℕ) (statements : List Statement) → AllFurther lists → AllByRecursion IsFurtherLine statements → AllFurther (set lists i statements)
further_set [] i statements all is = tt
further_set (l ∷ lists) zero statements all is = (is, all.1)
further_set (l ∷ lists) (suc i) statements all is = (all.0, further_set lists i statements all.1 is)

none_asked : (n : ℕ) → AllFurther (replicate n [])
none_asked zero = tt
none_asked (suc n) = (tt, none_asked n)

-- one statement more is counted
counted_more : (lists : List (List Statement)) (i : ℕ) (s : Statement) → i < length lists → statement_count (set lists i (get_or lists i [] ++ s ∷ [])) ≡ statement_count lists + 1
counted_more [] i s inside = absurd (omega arith)
counted_more (l ∷ lists) zero s inside = omega (arith, length_push l s)
counted_more (l ∷ lists) (suc i) s inside = omega (arith, counted_more lists i s (omega arith))

-- the order of turns of the lines
order_in_fits : (lines : List Numbered) → FitsOrder (order_in lines).0
unfolding order_in
order_in_fits [] = record { few = omega arith; each = tt }
order_in_fits (line ∷ lines) = by_order (order_at line.1) (order_fits line.1)
  where
    by_order : (order : Option (List ℕ)) → If FitsOrder order → FitsOrder (elim order as (λ (o : Option (List ℕ)). List ℕ × List Numbered) [ Some schedule ↦ (schedule, lines) | None ↦ ([], line ∷ lines) ]).0
    by_order None is = record { few = omega arith; each = tt }
    by_order (Some schedule) is = is.holds schedule refl

-- what is kept of a script while its lines are read, where it has `taken` statements
record Holds (taken : ℕ) (plan : Plan) : Type 0 where
  pub asker : IsSession plan.first_session
  pub first : IsFirst plan.first
  pub order : FitsOrder plan.schedule
  pub sixteen : length plan.sessions ≡ 16
  pub counted : statement_count plan.sessions + 1 ≡ taken
  pub few : taken ≤ 10000
  pub further : AllFurther plan.sessions

holds_more : (taken : ℕ) (plan : Plan) (line : ℕ × Statement) → taken < 10000 → Holds taken plan → IsLine IsFurtherLine line → Holds (taken + 1) (with_statement plan line)
holds_more taken plan line room holds is = record {
  asker = holds.asker;
  first = holds.first;
  order = holds.order;
  sixteen = length-set plan.sessions (line.0 - 1) (statements_of plan line.0 ++ line.1 ∷ []) ∙ holds.sixteen;
  counted = omega (arith, counted_more plan.sessions (line.0 - 1) line.1 (omega (arith, holds.sixteen, is.0, is.1)), holds.counted);
  few = omega arith;
  further = further_set plan.sessions (line.0 - 1) (statements_of plan line.0 ++ line.1 ∷ []) holds.further (further_push (statements_of plan line.0) line.1 (further_at plan.sessions (line.0 - 1) holds.further) is.2);
}

holds_first : (first : ℕ × Statement) (order : List ℕ) → IsLine IsFirst first → FitsOrder order → Holds 1 (started first.0 first.1 order)
holds_first first order is fits = record { asker = (is.0, is.1); first = is.2; order = fits; sixteen = refl; counted = refl; few = omega arith; further = none_asked 16 }

-- where an answer is a script, it holds
abbrev IfRead : Result Plan Refusal → Type 0
IfRead (Ok plan) = IsSpelled plan
IfRead (Err refusal) = Unit {0}

or_bad_holds : (P : ℕ × Statement → Type 0) (line : Numbered) (o : Option (ℕ × Statement)) (next : ℕ × Statement → Result Plan Refusal) → If P o → ((read : ℕ × Statement) → P read → IfRead (next read)) → IfRead (or_bad line o next)
or_bad_holds P line None next is all = tt
or_bad_holds P line (Some read) next is all = all read (is.holds read refl)

askable : (taken : ℕ) (plan : Plan) → Holds taken plan → IsSpelled plan
askable taken plan holds = record {
  asker = holds.asker;
  first = holds.first;
  order = holds.order;
  sixteen = holds.sixteen;
  few = omega (arith, holds.counted, holds.few);
  further = λ session. further_at plan.sessions (session - 1) holds.further;
}

lines_hold : (taken : ℕ) (plan : Plan) (lines : List Numbered) → Holds taken plan → IfRead (with_lines taken plan lines)
unfolding with_lines
lines_hold taken plan [] holds = askable taken plan holds
lines_hold taken plan (line ∷ lines) holds =
    or_bad_holds (λ read. IsLine IsFurtherLine read × (taken < 10000)) line (if nat_lt taken 10000 then statement_at line.1 else None) (λ read. with_lines (taken + 1) (with_statement plan read) lines)
    (tested (statement_at line.1) (nat_lt taken 10000) (λ room. with_room (statement_at line.1) (further_line line.1) (ltb-true taken 10000 room)))
    (λ read is. lines_hold (taken + 1) (with_statement plan read) lines (holds_more taken plan read is.1 holds is.0))
  where
    with_room : (o : Option (ℕ × Statement)) → If (IsLine IsFurtherLine) o → taken < 10000 → If (λ (read : ℕ × Statement). IsLine IsFurtherLine read × (taken < 10000)) o
    with_room o is room = record { holds = λ read same. (is.holds read same, room) }

of_lines_hold : (count : ℕ) (lines : List Numbered) → IfRead (of_lines count lines)
unfolding of_lines with_order
of_lines_hold count [] = tt
of_lines_hold count (line ∷ lines) =
    or_bad_holds (IsLine IsFirst) line (first_at line.1) (λ first. with_order first lines) (first_line line.1)
    (λ first is. lines_hold 1 (started first.0 first.1 (order_in lines).0) (order_in lines).1 (holds_first first (order_in lines).0 is (order_in_fits lines)))

script_holds : (bytes : Bytes) → IfRead (script_of bytes)
unfolding script_of
script_holds bytes = by_test (nat_lt 1048576 (length bytes))
  where
    by_test : (b : Bool) → IfRead (if b then Err (ScriptLong (length bytes)) else of_lines (length (lines_of bytes)) (left 0 bytes))
    by_test true = tt
    by_test false = of_lines_hold (length (lines_of bytes)) (left 0 bytes)

-- what a line can ask can be asked
line_asks : (s : Statement) → Fits s → FitsAsked s
line_asks (BackupSince guid name) fits = absurd fits
line_asks Activate fits = absurd fits
line_asks other fits = fits

line_further : (s : Statement) → IsFurtherLine s → IsFurther s
line_further s is = record { opens_none = is.opens_none; fits = line_asks s is.fits }

lines_further : (statements : List Statement) → AllByRecursion IsFurtherLine statements → AllByRecursion IsFurther statements
lines_further [] all = tt
lines_further (s ∷ statements) all = (line_further s all.0, lines_further statements all.1)

pub spelled_askable : (plan : Plan) → IsSpelled plan → IsAskable plan
spelled_askable plan is = record { asker = is.asker; first = is.first; order = is.order; sixteen = is.sixteen; few = is.few; further = λ session. lines_further (statements_of plan session) (is.further session) }

-- a script that was answered is spelled by its lines
pub answer_is_spelled : (bytes : Bytes) (answer : Result Plan Fault) → IsAnswer answer (script_of bytes) → IfOk answer IsSpelled
answer_is_spelled bytes (Ok plan) is = subst IfRead is (script_holds bytes)
answer_is_spelled bytes (Err fault) is = tt

-- so it can be asked
pub answer_is_askable : (bytes : Bytes) (answer : Result Plan Fault) → IsAnswer answer (script_of bytes) → IfOk answer IsAskable
answer_is_askable bytes (Ok plan) is = spelled_askable plan (answer_is_spelled bytes (Ok plan) is)
answer_is_askable bytes (Err fault) is = tt
