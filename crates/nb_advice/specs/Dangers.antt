-- What is said of the pages of a database that are in danger.
use Rattle.std.specs.Prelude.{◌≡◌, ℕ, List, [], ◌∷◌, ◌++◌, length, take, flat_map, nat_lt, codes, string_bytes, String, Option, None, Some, if◌then◌else◌}
use Rattle.std.specs.Fmt.{decimal}
use Rattle.std.specs.Global.{Global}

-- a number after a space
abbrev pub spaced : ℕ → List ℕ
spaced number = codes " " ++ decimal number

-- each of them
abbrev pub numbers : List ℕ → List ℕ
numbers pages = flat_map spaced pages

-- the first pages, ten at most
abbrev pub first_of : List ℕ → List ℕ
first_of pages = if nat_lt 10 (length pages) then take 10 pages else pages

-- what stands for the others
abbrev pub dots : List ℕ → List ℕ
dots pages = if nat_lt 10 (length pages) then codes " .." else []

-- what is said of a database with these pages in danger: their number, and the first ten of them
abbrev pub danger_text : (db pages : List ℕ) → List ℕ
danger_text db pages =
    db ++ codes " has pages in danger, " ++ decimal (length pages) ++ codes " in all:" ++ numbers (first_of pages) ++ dots pages
    ++ codes ": each is in use and counts as free, or is in use twice, so a change may write over it: copy its rows to a new database, or restore a chain: nehumiro -R NEW FILE.."

-- it is said exactly where there is one
abbrev pub Tells : (db pages : List ℕ) → Option (String Global) → Type 0
Tells db pages None = pages ≡ []
Tells db pages (Some text) = string_bytes text ≡ danger_text db pages
