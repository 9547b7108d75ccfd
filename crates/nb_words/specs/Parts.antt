-- What one plain word may be.
use Rattle.std.specs.Prelude.{◌==◌, ◌&&◌, ◌||◌, not, Bool, nat_le, nat_lt, length, slice_index, List, [], ◌∷◌, Option, Some, None, cond, true, false}
use Rattle.std.specs.List.{list_all}
use Rattle.nb_model.specs.Words.{Word, is_database, is_file}

-- a word of one digit
abbrev pub is_level : Word → Bool
is_level word = length word == 1 && (nat_le 48 (slice_index word 0) && nat_le (slice_index word 0) 57)

-- decimal digits without a needless zero in front
abbrev pub is_plain_number : Word → Bool
is_plain_number word = nat_lt 0 (length word) && (list_all (λ b. nat_le 48 b && nat_le b 57) word && (length word == 1 || not (slice_index word 0 == 48)))

-- the names of a database and of a file
abbrev pub named : Word → Word → Option (Word × Word)
named db file = elim (is_database db && is_file file) [ true ↦ Some (db, file) | false ↦ None ]

-- the database, where the words are its name alone
abbrev pub one_database : List Word → Option Word
one_database (db ∷ []) = cond (is_database db) (Some db) None
one_database other = None
