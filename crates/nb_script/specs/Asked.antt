-- What a script that was read asks.
use Rattle.std.specs.Prelude.{◌≡◌, ℕ, ◌+◌, ◌<◌, Bool, true, false, not, IsTrue, List, [], ◌∷◌, length}
use Rattle.std.specs.List.{AllByRecursion}
use Rattle.nb_model.specs.declared.statement.Statement.{Statement}
use Rattle.nb_model.specs.declared.statement.Statement.TheVariants.{CreateDb, OpenDb}
use Rattle.nb_script.specs.Fits.{Fits, FitsAsked, FitsFirst, FitsOrder, IsSession}
use Rattle.nb_script.specs.Scripts.{Plan, statements_of}

-- the statement names the database of the script
abbrev pub opens : Statement → Bool
opens statement = elim statement [ CreateDb name page_size raw cache ↦ true | OpenDb name cache ↦ true | _ ↦ false ]

-- a first statement that can be asked
pub record IsFirst (statement : Statement) : Type 0 where
  pub opens : IsTrue (opens statement)
  pub fits : FitsFirst statement

-- a further statement that can be asked
pub record IsFurther (statement : Statement) : Type 0 where
  pub opens_none : IsTrue (not (opens statement))
  pub fits : FitsAsked statement

-- so by a line
pub record IsFurtherLine (statement : Statement) : Type 0 where
  pub opens_none : IsTrue (not (opens statement))
  pub fits : Fits statement

-- how many statements these sessions have
abbrev pub statement_count : List (List Statement) → ℕ
statement_count [] = 0
statement_count (statements ∷ others) = length statements + statement_count others

-- a script whose further statements are such, 10,000 at most with the first
pub record IsScriptOf (IsSuch : Statement → Type 0) (script : Plan) : Type 0 where
  pub asker : IsSession script.first_session
  pub first : IsFirst script.first
  pub order : FitsOrder script.schedule
  pub sixteen : length script.sessions ≡ 16
  pub few : statement_count script.sessions < 10000
  pub further : (session : ℕ) → AllByRecursion IsSuch (statements_of script session)

-- a script that can be asked
abbrev pub IsAskable : Plan → Type 0
IsAskable script = IsScriptOf IsFurther script

-- so by its lines
abbrev pub IsSpelled : Plan → Type 0
IsSpelled script = IsScriptOf IsFurtherLine script
