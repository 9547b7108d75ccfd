-- The backup state of a database, as its header has it.
use Rattle.std.specs.Prelude.{ℕ}

-- no backup is under way
abbrev pub normal_state : ℕ
normal_state = 0

-- the main file is frozen, and what changes goes to the difference file
abbrev pub stalled_state : ℕ
stalled_state = 1

-- the difference file is merged back into the main file
abbrev pub merge_state : ℕ
merge_state = 2

-- the file is no database yet, or a level is being merged into it
abbrev pub applying_state : ℕ
applying_state = 3
