-- Which texts are names of files.
use Rattle.std.specs.Prelude.{ℕ, Bool, ◌&&◌, ◌||◌, List, length, ◌==◌, nat_le, nat_lt, nat_eq, codes}
use Rattle.std.specs.List.{list_all, ends_with}
use Rattle.std.specs.Cmp.Lexicographic.{pointwise}

-- an ASCII letter or digit, `.`, `_`, `-` or `/`
abbrev pub is_name_byte : ℕ → Bool
is_name_byte b = (nat_le 48 b && nat_le b 57) || (nat_le 65 b && nat_le b 90) || (nat_le 97 b && nat_le b 122) || b == 46 || b == 95 || b == 45 || b == 47

-- 1 to 100 such bytes
abbrev pub is_name : List ℕ → Bool
is_name text = nat_lt 0 (length text) && nat_le (length text) 100 && list_all is_name_byte text

-- what the name of a difference file ends in
abbrev pub delta_suffix : List ℕ
delta_suffix = codes ".delta"

-- the name of a difference file
abbrev pub is_delta : List ℕ → Bool
is_delta text = ends_with nat_eq text delta_suffix

-- two names of the same bytes
abbrev pub same_name : List ℕ → List ℕ → Bool
same_name m n = pointwise nat_eq m n
