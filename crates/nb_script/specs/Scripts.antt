-- What a script asks for, and which bytes spell one.
use Rattle.std.specs.Prelude.{◌≡◌, ℕ, ◌+◌, ◌-◌, nat_lt, List, [], ◌∷◌, ◌++◌, length, get_or, slice_set, replicate, Option, Some, None, Result, Ok, Err, MatchResult, if◌then◌else◌}
use Rattle.nb_host.specs.declared.faults.Fault.{Fault}
use Rattle.nb_host.specs.declared.faults.Fault.TheVariants.{Refused, Device, Memory}
use Rattle.nb_host.specs.declared.refusals.Refusal.{Refusal}
use Rattle.nb_host.specs.declared.refusals.Refusal.TheVariants.{BadScript, ScriptLong}
use Rattle.nb_model.specs.declared.statement.Statement.{Statement}
use Rattle.nb_script.specs.Words.{Bytes}
use Rattle.nb_script.specs.Lines.{lines_of, left}
use Rattle.nb_script.specs.FirstLine.{first_at}
use Rattle.nb_script.specs.Order.{order_at}
use Rattle.nb_script.specs.Statements.{statement_at}

-- a script: its first statement with the session that asks it, the order of turns, and the further
-- statements of the sessions 1 to 16
pub record Plan : Type 0 where
  pub first_session : ℕ
  pub first : Statement
  pub schedule : List ℕ
  pub sessions : List (List Statement)

-- the further statements of a session
abbrev pub statements_of : Plan → ℕ → List Statement
statements_of plan session = get_or plan.sessions (session - 1) []

-- a script of one statement
abbrev pub started : ℕ → Statement → List ℕ → Plan
started session first schedule = record { first_session = session; first = first; schedule = schedule; sessions = replicate 16 [] }

-- one statement more, the last of its session
abbrev pub with_statement : Plan → ℕ × Statement → Plan
with_statement plan line = record plan { sessions = slice_set plan.sessions (line.0 - 1) (statements_of plan line.0 ++ line.1 ∷ []) }

-- a numbered line
abbrev pub Numbered : Type 0
Numbered = ℕ × Bytes

-- what is read of a line decides, and a line of which nothing is read is bad
abbrev pub or_bad : Numbered → Option (ℕ × Statement) → (ℕ × Statement → Result Plan Refusal) → Result Plan Refusal
or_bad line None next = Err (BadScript line.0)
or_bad line (Some read) next = next read

-- the script with the statements of these lines, where it has `taken` statements already
unfoldable pub with_lines : ℕ → Plan → List Numbered → Result Plan Refusal
with_lines taken plan [] = Ok plan
with_lines taken plan (line ∷ lines) = or_bad line (if nat_lt taken 10000 then statement_at line.1 else None) (λ read. with_lines (taken + 1) (with_statement plan read) lines)

-- the order of turns that the first line gives, none where it gives none, and the lines after
unfoldable pub order_in : List Numbered → List ℕ × List Numbered
order_in [] = ([], [])
order_in (line ∷ lines) = elim (order_at line.1) [
  | Some schedule ↦ (schedule, lines)
  | None ↦ ([], line ∷ lines)
]

-- the script of the first statement and these lines
unfoldable pub with_order : ℕ × Statement → List Numbered → Result Plan Refusal
with_order first lines = let order = order_in lines in with_lines 1 (started first.0 first.1 order.0) order.1

-- the script of these lines, where there are `count` lines with those that are skipped
unfoldable pub of_lines : ℕ → List Numbered → Result Plan Refusal
of_lines count [] = Err (BadScript (count + 1))
of_lines count (line ∷ lines) = or_bad line (first_at line.1) (λ first. with_order first lines)

-- the script that some bytes spell, or why they spell none
unfoldable pub script_of : Bytes → Result Plan Refusal
script_of bytes =
    if nat_lt 1048576 (length bytes) then Err (ScriptLong (length bytes))
    else of_lines (length (lines_of bytes)) (left 0 bytes)

-- why there is no script; want of memory says nothing of the bytes
abbrev pub IsCause : Fault → Result Plan Refusal → Type 0
IsCause (Refused refusal) meant = meant ≡ Err refusal
IsCause Device meant = ⊥
IsCause Memory meant = Unit {0}

-- the script that is meant, or why there is none
abbrev pub IsAnswer : Result Plan Fault → Result Plan Refusal → Type 0
IsAnswer answer meant = MatchResult answer (λ plan. meant ≡ Ok plan) (λ fault. IsCause fault meant)
