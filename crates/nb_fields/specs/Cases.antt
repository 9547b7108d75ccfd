-- A table of small numbers, as the list of its rows.
use Rattle.std.specs.Prelude.{ℕ, List, [], slice_index}
use Rattle.std.specs.List.{slice_index_or}

-- the cell of a row and a column
abbrev pub cell : List (List ℕ) → ℕ → ℕ → ℕ
cell rows row col = slice_index (slice_index_or rows row []) col
