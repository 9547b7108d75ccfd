-- What the object of a difference file knows of it.
use Rattle.std.specs.Prelude.{ℕ, List}

pub record Known : Type 0 where
  -- the file's name
  pub name : List ℕ
  -- in bytes
  pub page_size : ℕ
  -- the numbers of the pages that have a slot, in the order of the slots
  pub entries : List ℕ
  -- how many of the last of them the file's table doesn't have yet
  pub drafted : ℕ
