-- The names that words may give.
use Rattle.std.proofs.Common.{◌≡◌, ℕ, List, [], ◌∷◌, length, true, false, not, nat_le}
use Rattle.nb_top.proofs.Common.{AllByRecursion, list_all, and_parts, is_name, is_delta, is_database, is_file, not_true}

-- no file that words name is a difference file
pub plain_file : (name : List ℕ) → is_file name ≡ true → is_delta name ≡ false
plain_file name is = not_true (is_delta name) (and_parts (is_name name) (not (is_delta name)) is).1

pub plain_files : (names : List (List ℕ)) → list_all is_file names ≡ true → AllByRecursion (λ (name : List ℕ). is_delta name ≡ false) names
plain_files [] all = tt
plain_files (name ∷ names) all = let parts = and_parts (is_file name) (list_all is_file names) all in (plain_file name parts.0, plain_files names parts.1)

-- the name of a database is one of a file
pub database_file : (name : List ℕ) → is_database name ≡ true → is_file name ≡ true
database_file name is = (and_parts (is_file name) (nat_le (length name) 94) is).0

pub plain_database : (name : List ℕ) → is_database name ≡ true → is_delta name ≡ false
plain_database name is = plain_file name (database_file name is)

-- and a host may give it
pub file_named : (name : List ℕ) → is_file name ≡ true → is_name name ≡ true
file_named name is = (and_parts (is_name name) (not (is_delta name)) is).0

pub database_named : (name : List ℕ) → is_database name ≡ true → is_name name ≡ true
database_named name is = file_named name (database_file name is)
