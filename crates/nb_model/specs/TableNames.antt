-- Which texts are names of tables.
use Rattle.std.specs.Prelude.{ℕ, Bool, ◌&&◌, ◌||◌, List, length, ◌==◌, nat_le, nat_lt, slice_index}
use Rattle.std.specs.List.{list_all}

abbrev pub is_letter : ℕ → Bool
is_letter b = (nat_le 65 b && nat_le b 90) || (nat_le 97 b && nat_le b 122)

-- a letter, a digit or `_`
abbrev pub is_table_byte : ℕ → Bool
is_table_byte b = is_letter b || (nat_le 48 b && nat_le b 57) || b == 95

-- 1 to 30 such bytes, the first a letter
abbrev pub is_table_name : List ℕ → Bool
is_table_name text = nat_lt 0 (length text) && nat_le (length text) 30 && is_letter (slice_index text 0) && list_all is_table_byte text
