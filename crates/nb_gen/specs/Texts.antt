-- The text of a script, and what the generator's asks for first.
use Rattle.std.specs.Prelude.{◌≡◌, ℕ, List, ◌∷◌, codes}
use Rattle.nb_model.specs.declared.statement.Statement.{Statement}
use Rattle.nb_model.specs.declared.statement.Statement.TheVariants.{CreateDb}

-- It begins with a `1`, as each script of the generator does. Neither a database nor a level file begins so, whatever of it is lost.
pub record IsScriptText (bytes : List ℕ) : Type 0 where
  pub behind : List ℕ
  pub is : bytes ≡ 49 ∷ behind

-- the database that it creates
abbrev pub generated_first : Statement
generated_first = CreateDb (codes "gen.db") 4096 100 64
