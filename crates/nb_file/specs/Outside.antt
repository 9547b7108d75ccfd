-- What a contract sees of real files.
use Rattle.std.specs.Prelude.{ℕ, List, Option}

-- how many calls have failed, the name of the file whose bytes wait to be written, if any do, the front of what was said last, and the names
-- of the files that are held alone from their first use on
pub record Outside : Type 0 where
  pub faults : ℕ
  pub waiting : Option (List ℕ)
  pub said : List ℕ
  pub alone : List (List ℕ)
