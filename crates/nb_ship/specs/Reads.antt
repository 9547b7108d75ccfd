-- How much is read of a ship file.
use Rattle.std.specs.Prelude.{ℕ, ◌+◌, ◌≤◌, length, Result, Ok, Err}
use Rattle.nb_model.specs.Levels.{Contents}

-- A level file is read once: a read for each page, and no more than so many others.
abbrev pub ReadsOnce : Result Contents ℕ → (others before after : ℕ) → Type 0
ReadsOnce (Ok c) others before after = after ≤ before + (length c.pages + others)
ReadsOnce (Err at) others before after = Unit {0}
