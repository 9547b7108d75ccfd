-- The text of a script is read as that script.
use Rattle.std.proofs.Common.{◌≡◌, ℕ, zero, suc, ◌+◌, ◌-◌, ◌<◌, ◌≤◌, ◌==◌, ◌&&◌, ◌||◌, not, Bool, true, false, nat_lt, nat_eq, List, [], ◌∷◌, ◌++◌, length, take, drop, get_or, set, refl, sym, ◌∙◌, ap, ap₂, subst, arith, append_assoc, length-append, Option, Some, None, Ok, if◌then◌else◌, replicate, codes, option_map}
use Rattle.nb_script.proofs.Common.{decimal, list_all, AllByRecursion, and_parts, cond-true, cond-false, lt-ltb, ne_eqb, eq-eqb, append-nil, set_at, get_or_at, Statement, seeded, Bytes, ◌>>=◌, after, is_digit, digit_count, statement_at, first_at, spaced_session, sessions_at, seed_at, order_at, lines_of, onto_first, numbered, is_skipped, left, Plan, Numbered, with_statement, with_lines, order_in, script_of, line_text, spaced_sessions, schedule_text, statements_text, sessions_text, script_text, IsSession, FitsOrder, IsFirst, IsFurtherLine, IsSpelled, statement_count, not_true, decimal_nonempty}
use Rattle.std.specs.Cmp.Lexicographic.{pointwise}
use Rattle.nb_script.proofs.WordLaws.{digits_of, within_again}
use Rattle.nb_script.proofs.StatementLaws.{statement_again}
use Rattle.nb_script.proofs.FirstLaws.{first_again}
use Rattle.nb_script.proofs.LineLaws.{kept}
use Rattle.nb_script.proofs.Scripts.{one_line, script_meant}
use Rattle.nb_script.proofs.AskedLaws.{AllFurther}
use Rattle.nb_script.proofs.Unbroken.{Unbroken, unlike, line_unbroken, first_line_unbroken, order_unbroken}

-- a line that is ended by a line feed is the first one
line_first : (line rest : Bytes) → Unbroken line → lines_of (line ++ 10 ∷ rest) ≡ line ∷ lines_of rest
unfolding lines_of
line_first [] rest is = refl
line_first (b ∷ line) rest is =
    let parts = and_parts (not (b == 10)) (list_all (λ x. not (x == 10)) line) is in
    cond-false (b == 10) _ _ (not_true (b == 10) parts.0) ∙ ap (onto_first b) (line_first line rest parts.1)

-- what begins with a digit is no comment, and gives no order of turns
digit_kept : (digits rest : Bytes) → 0 < length digits → list_all is_digit digits ≡ true → is_skipped (digits ++ rest) ≡ false
digit_kept [] rest some all = absurd (omega arith)
digit_kept (d ∷ digits) rest some all =
    let first : (d == 35) ≡ false = unlike is_digit d 35 refl (and_parts (is_digit d) (list_all is_digit digits) all).0 in
    ap (λ (none : Bool). none || d == 35) (ne_eqb (length ((d ∷ digits) ++ rest)) 0 (λ e. absurd (omega (arith, e)))) ∙ first

-- bytes that begin otherwise than a word
begins_otherwise : (w d : ℕ) (word rest : Bytes) → (w == d) ≡ false → after (w ∷ word) (d ∷ rest) ≡ None
unfolding after
begins_otherwise w d word rest other =
    ap (λ (same : Bool). if same && pointwise nat_eq word (take (length word) rest) then Some (drop (suc (length word)) (d ∷ rest)) else None) other

-- the order of a line, from what stands after the word `schedule`
abbrev order_behind : Bytes → Option Bytes → Option (List ℕ)
order_behind line (Some rest) = sessions_at 4096 rest
order_behind line None = option_map (seeded 4096) (after (codes "seed ") line >>= seed_at)

digit_orders_none : (digits rest : Bytes) → 0 < length digits → list_all is_digit digits ≡ true → order_at (digits ++ rest) ≡ None
unfolding order_at
digit_orders_none [] rest some all = absurd (omega arith)
digit_orders_none (d ∷ digits) rest some all =
    let is = (and_parts (is_digit d) (list_all is_digit digits) all).0 in
    let other : (115 == d) ≡ false = turned d 115 (unlike is_digit d 115 refl is) in
    ap (order_behind (d ∷ (digits ++ rest))) (begins_otherwise 115 d (codes "chedule") (digits ++ rest) other)
    ∙ ap (λ o. option_map (seeded 4096) (o >>= seed_at)) (begins_otherwise 115 d (codes "eed ") (digits ++ rest) other)
  where
    turned : (b n : ℕ) → (b == n) ≡ false → (n == b) ≡ false
    turned b n other = ne_eqb n b (λ same. let bad : true ≡ false = sym (eq-eqb b n (sym same)) ∙ other in cc)

-- the line of a statement is no comment, and gives no order
module _ (session : ℕ) (s : Statement) (small : session ≤ 16) where
  line_kept : is_skipped (line_text session s) ≡ false
  unfolding line_text
  line_kept = digit_kept (decimal session) _ (decimal_nonempty session (omega arith)) (digits_of session (omega arith))

  line_orders_none : order_at (line_text session s) ≡ None
  unfolding line_text
  line_orders_none = digit_orders_none (decimal session) _ (decimal_nonempty session (omega arith)) (digits_of session (omega arith))

-- the line of a statement is read as it
further_read : (session : ℕ) (s : Statement) → IsSession session → IsFurtherLine s → statement_at (line_text session s) ≡ Some (session, s)
further_read session s range is = statement_again session s range.0 range.1 is.fits

first_read : (session : ℕ) (s : Statement) → IsSession session → IsFirst s → first_at (line_text session s) ≡ Some (session, s)
first_read session s range is = first_again session s range.0 range.1 is.fits

-- the lines of a session's statements
abbrev statement_lines : ℕ → List Statement → List Bytes
statement_lines session [] = []
statement_lines session (s ∷ statements) = line_text session s ∷ statement_lines session statements

-- the lines of the sessions from this one on
abbrev session_lines : ℕ → List (List Statement) → List Bytes
session_lines session [] = []
session_lines session (statements ∷ others) = statement_lines session statements ++ session_lines (session + 1) others

statements_split : (session : ℕ) (statements : List Statement) (rest : Bytes) → session ≤ 16 → AllByRecursion IsFurtherLine statements
    → lines_of (statements_text session statements ++ rest) ≡ statement_lines session statements ++ lines_of rest
unfolding statements_text lines_of
statements_split session [] rest small all = refl
statements_split session (s ∷ statements) rest small all =
    ap lines_of (append_assoc (line_text session s) (10 ∷ statements_text session statements) rest)
    ∙ line_first (line_text session s) (statements_text session statements ++ rest) (line_unbroken session s small all.0.fits)
    ∙ ap (λ (lines : List Bytes). line_text session s ∷ lines) (statements_split session statements rest small all.1)

sessions_split : (session : ℕ) (lists : List (List Statement)) → session + length lists ≤ 17 → AllFurther lists → lines_of (sessions_text session lists) ≡ session_lines session lists
unfolding sessions_text lines_of
sessions_split session [] small all = refl
sessions_split session (statements ∷ others) small all =
    statements_split session statements (sessions_text (session + 1) others) (omega arith) all.0
    ∙ ap (λ (lines : List Bytes). statement_lines session statements ++ lines) (sessions_split (session + 1) others (omega arith) all.1)

-- scripts that differ in the further statements alone
module _ (asks : ℕ) (first : Statement) (order : List ℕ) where
  abbrev plan_of : List (List Statement) → Plan
  plan_of lists = record { first_session = asks; first = first; schedule = order; sessions = lists }

  -- a statement more of the session after these
  one_more : (front : List (List Statement)) (statements : List Statement) (back : List (List Statement)) (s : Statement)
      → with_statement (plan_of (front ++ statements ∷ back)) (length front + 1, s) ≡ plan_of (front ++ (statements ++ s ∷ []) ∷ back)
  one_more front statements back s =
      let place : length front + 1 - 1 ≡ length front = omega arith in
      let lists : List (List Statement) = front ++ statements ∷ back in
      ap plan_of
      (ap (λ i. set lists i (get_or lists i [] ++ s ∷ [])) place
      ∙ ap (λ (known : List Statement). set lists (length front) (known ++ s ∷ [])) (get_or_at front statements back [] (length front) refl)
      ∙ set_at front statements back (statements ++ s ∷ []) (length front) refl)

  -- the lines of a session are read
  session_read : (taken before : ℕ) (front : List (List Statement)) (known statements : List Statement) (back : List (List Statement)) (rest : List Bytes) → length front < 16 → taken + length statements ≤ 10000 → AllByRecursion IsFurtherLine statements
      → with_lines taken (plan_of (front ++ known ∷ back)) (numbered before (statement_lines (length front + 1) statements ++ rest)) ≡ with_lines (taken + length statements) (plan_of (front ++ (known ++ statements) ∷ back)) (numbered (before + length statements) rest)
  session_read taken before front known [] back rest place few all =
      let none : taken + 0 ≡ taken = omega arith in
      let same : before + 0 ≡ before = omega arith in
      sym (ap (λ n. with_lines n (plan_of (front ++ (known ++ []) ∷ back)) (numbered (before + 0) rest)) none ∙ ap (λ n. with_lines taken (plan_of (front ++ (known ++ []) ∷ back)) (numbered n rest)) same
      ∙ ap (λ (list : List Statement). with_lines taken (plan_of (front ++ list ∷ back)) (numbered before rest)) (append-nil known))
  session_read taken before front known (s ∷ statements) back rest place few all =
      let session : ℕ = length front + 1 in
      let line : Bytes = line_text session s in
      let behind : List Bytes = statement_lines session statements ++ rest in
      let count : taken + 1 + length statements ≡ taken + suc (length statements) = omega arith in
      let passed : before + 1 + length statements ≡ before + suc (length statements) = omega arith in
      let read : Some (session, s) ≡ (if nat_lt taken 10000 then statement_at line else None) = sym (cond-true (nat_lt taken 10000) _ _ (lt-ltb taken 10000 (omega arith)) ∙ further_read session s (omega arith, omega arith) all.0) in
      sym (one_line taken (plan_of (front ++ known ∷ back)) (numbered before (line ∷ behind)) (numbered (before + 1) behind) (before + 1, line) (session, s) (kept before line behind (line_kept session s (omega arith))) read)
      ∙ ap (λ (plan : Plan). with_lines (taken + 1) plan (numbered (before + 1) behind)) (one_more front known back s)
      ∙ session_read (taken + 1) (before + 1) front (known ++ s ∷ []) statements back rest place (omega (arith, few)) all.1
      ∙ ap (λ (list : List Statement). with_lines (taken + 1 + length statements) (plan_of (front ++ list ∷ back)) (numbered (before + 1 + length statements) rest)) (append_assoc known (s ∷ []) statements)
      ∙ ap₂ (λ (n m : ℕ). with_lines n (plan_of (front ++ (known ++ s ∷ statements) ∷ back)) (numbered m rest)) count passed

  -- and those of all sessions after these
  sessions_read : (taken before : ℕ) (front lists : List (List Statement)) → length front + length lists ≤ 16 → taken + statement_count lists ≤ 10000 → AllFurther lists
      → with_lines taken (plan_of (front ++ replicate (length lists) [])) (numbered before (session_lines (length front + 1) lists)) ≡ Ok (plan_of (front ++ lists))
  unfolding with_lines numbered
  sessions_read taken before front [] places few all = refl
  sessions_read taken before front (statements ∷ lists) places few all =
      let length_front : length (front ++ statements ∷ []) ≡ length front + 1 = length-append front (statements ∷ []) in
      session_read taken before front [] statements (replicate (length lists) []) (session_lines (length front + 1 + 1) lists) (omega arith) (omega (arith, few)) all.0
      ∙ ap₂ (λ (fronts : List (List Statement)) (n : ℕ). with_lines (taken + length statements) (plan_of fronts) (numbered (before + length statements) (session_lines (n + 1) lists))) (sym (append_assoc front (statements ∷ []) (replicate (length lists) []))) (sym length_front)
      ∙ sessions_read (taken + length statements) (before + length statements) (front ++ statements ∷ []) lists (omega (arith, length_front)) (omega (arith, few)) all.1
      ∙ ap (λ (fronts : List (List Statement)). Ok (plan_of fronts)) (append_assoc front (statements ∷ []) lists)

-- the sessions of an order are read
spaced_again : (session : ℕ) (rest : Bytes) → IsSession session → digit_count rest ≡ 0 → spaced_session (codes " " ++ (decimal session ++ rest)) ≡ Some (session, rest)
unfolding spaced_session after
spaced_again session rest range none = within_again 1 16 session rest (omega arith) range.0 range.1 none

sessions_again : (most session : ℕ) (others : List ℕ) → length others < most → IsSession session → AllByRecursion IsSession others → sessions_at most (spaced_sessions (session ∷ others)) ≡ Some (session ∷ others)
unfolding sessions_at spaced_sessions
sessions_again zero session others few range all = absurd (omega arith)
sessions_again (suc most) session [] few range all = ap (λ o. o >>= (λ (x : ℕ × Bytes). if length x.1 == 0 then Some (x.0 ∷ []) else option_map (λ more. x.0 ∷ more) (sessions_at most x.1))) (spaced_again session [] range refl)
sessions_again (suc most) session (next ∷ others) few range all =
    ap (λ o. o >>= (λ (x : ℕ × Bytes). if length x.1 == 0 then Some (x.0 ∷ []) else option_map (λ more. x.0 ∷ more) (sessions_at most x.1))) (spaced_again session (spaced_sessions (next ∷ others)) range refl)
    ∙ cond-false (length (spaced_sessions (next ∷ others)) == 0) _ _ (ne_eqb (length (spaced_sessions (next ∷ others))) 0 (λ e. absurd (omega (arith, e)))) ∙ ap (option_map (λ more. session ∷ more)) (sessions_again most next others (omega arith) all.0 all.1)

order_again : (session : ℕ) (others : List ℕ) → FitsOrder (session ∷ others) → order_at (codes "schedule" ++ spaced_sessions (session ∷ others)) ≡ Some (session ∷ others)
unfolding order_at after
order_again session others is = sessions_again 4096 session others (omega (arith, is.few)) is.each.0 is.each.1

-- the order that a line gives, and the lines after
abbrev ordered : Numbered → List Numbered → Option (List ℕ) → List ℕ × List Numbered
ordered line lines (Some order) = (order, lines)
ordered line lines None = ([], line ∷ lines)

-- the lines of statements give no order
none_ordered : (line : Numbered) (lines : List Numbered) → order_at line.1 ≡ None → order_in (line ∷ lines) ≡ ([], line ∷ lines)
unfolding order_in
none_ordered line lines none = ap (ordered line lines) none

no_order : (before session : ℕ) (lists : List (List Statement)) → session + length lists ≤ 17 → order_in (numbered before (session_lines session lists)) ≡ ([], numbered before (session_lines session lists))
unfolding order_in numbered
no_order before session [] small = refl
no_order before session ([] ∷ others) small = no_order before (session + 1) others (omega arith)
no_order before session ((s ∷ statements) ∷ others) small =
    let line : Bytes = line_text session s in
    let behind : List Bytes = statement_lines session statements ++ session_lines (session + 1) others in
    let split : numbered before (line ∷ behind) ≡ (before + 1, line) ∷ numbered (before + 1) behind = kept before line behind (line_kept session s (omega arith)) in
    ap order_in split ∙ none_ordered (before + 1, line) (numbered (before + 1) behind) (line_orders_none session s (omega arith)) ∙ ap (λ (lines : List Numbered). ([], lines)) (sym split)

-- the line of an order gives it
one_ordered : (line : Numbered) (lines : List Numbered) (order : List ℕ) → order_at line.1 ≡ Some order → order_in (line ∷ lines) ≡ (order, lines)
unfolding order_in
one_ordered line lines order is = ap (ordered line lines) is

-- a text whose lines after the first give this order, and these statements
record Orders (text : Bytes) (order : List ℕ) (lists : List (List Statement)) : Type 0 where
  before : ℕ
  gives : order_in (numbered 1 (lines_of text)) ≡ (order, numbered before (session_lines 1 lists))

orders : (order : List ℕ) (lists : List (List Statement)) → FitsOrder order → length lists ≤ 16 → AllFurther lists → Orders (schedule_text order ++ sessions_text 1 lists) order lists
unfolding schedule_text
orders [] lists is places all = record {
  before = 1;
  gives = ap (λ (lines : List Bytes). order_in (numbered 1 lines)) (sessions_split 1 lists (omega arith) all) ∙ no_order 1 1 lists (omega arith);
}
orders (session ∷ others) lists is places all =
    let order : List ℕ = session ∷ others in
    let line : Bytes = codes "schedule" ++ spaced_sessions order in
    let rest : Bytes = sessions_text 1 lists in
    let some : (length order == 0) ≡ false = ne_eqb (length order) 0 (λ e. absurd (omega (arith, e))) in
    let written : schedule_text order ++ rest ≡ line ++ 10 ∷ rest = ap (λ (b : Bytes). b ++ rest) (cond-false (length order == 0) _ _ some) ∙ ap (λ (b : Bytes). codes "schedule" ++ b) (append_assoc (spaced_sessions order) (10 ∷ []) rest) in
    let split : lines_of (schedule_text order ++ rest) ≡ line ∷ session_lines 1 lists = ap lines_of written ∙ line_first line rest (order_unbroken order is.each) ∙ ap (λ (lines : List Bytes). line ∷ lines) (sessions_split 1 lists (omega arith) all) in
    record {
      before = 2;
      gives = ap (λ (lines : List Bytes). order_in (numbered 1 lines)) split ∙ ap order_in (kept 1 line (session_lines 1 lists) (ap (λ (none : Bool). none || false) (ne_eqb (length line) 0 (λ e. absurd (omega (arith, e))))))
          ∙ one_ordered (2, line) (numbered 2 (session_lines 1 lists)) order (order_again session others is);
    }

all_further : (lists : List (List Statement)) → ((i : ℕ) → AllByRecursion IsFurtherLine (get_or lists i [])) → AllFurther lists
all_further [] each = tt
all_further (statements ∷ lists) each = (each 0, all_further lists (λ i. each (suc i)))

-- the text of a script that can be asked is read as that script
pub read_again : (plan : Plan) → IsSpelled plan → length (script_text plan) ≤ 1048576 → script_of (script_text plan) ≡ Ok plan
unfolding script_text
read_again plan is short =
    let text : Bytes = schedule_text plan.schedule ++ sessions_text 1 plan.sessions in
    let line : Bytes = line_text plan.first_session plan.first in
    let all : AllFurther plan.sessions = all_further plan.sessions (λ i. let place : i + 1 - 1 ≡ i = omega arith in subst (λ k. AllByRecursion IsFurtherLine (get_or plan.sessions k [])) place (is.further (i + 1))) in
    let orders = orders plan.schedule plan.sessions is.order (omega (arith, is.sixteen)) all in
    let split : left 0 (script_text plan) ≡ (1, line) ∷ numbered 1 (lines_of text) =
    ap (numbered 0) (line_first line text (first_line_unbroken plan.first_session plan.first is.asker.1 is.first.fits)) ∙ kept 0 line (lines_of text) (line_kept plan.first_session plan.first is.asker.1) in
    let whole : plan_of plan.first_session plan.first plan.schedule (replicate 16 []) ≡ plan_of plan.first_session plan.first plan.schedule (replicate (length plan.sessions) []) = ap (λ n. plan_of plan.first_session plan.first plan.schedule (replicate n [])) (sym is.sixteen) in
    script_meant (script_text plan) (1, line) (numbered 1 (lines_of text)) (plan.first_session, plan.first) (plan.schedule, numbered orders.before (session_lines 1 plan.sessions)) short split (sym (first_read plan.first_session plan.first is.asker is.first)) (sym orders.gives)
    ∙ ap (λ (p : Plan). with_lines 1 p (numbered orders.before (session_lines 1 plan.sessions))) whole
    ∙ sessions_read plan.first_session plan.first plan.schedule 1 orders.before [] plan.sessions (omega (arith, is.sixteen)) (omega (arith, is.few)) all

-- and so is a text that was printed of it
pub printed_again : (plan : Plan) (text : Bytes) → text ≡ script_text plan → IsSpelled plan → length text ≤ 1048576 → script_of text ≡ Ok plan
printed_again plan text written is short = ap script_of written ∙ read_again plan is (rw (← written) short)
