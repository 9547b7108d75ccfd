-- A list of names, by the bytes that spell it: one name a line, by the rules on lines of scripts, and each name once.
use Rattle.std.specs.Prelude.{◌≡◌, ℕ, zero, suc, ◌+◌, ◌<◌, Bool, ◌&&◌, not, nat_lt, List, [], ◌∷◌, ◌++◌, length, Result, Ok, Err, if◌then◌else◌}
use Rattle.std.specs.List.{list_any, slice_index_or}
use Rattle.nb_host.specs.Names.{same_name}
use Rattle.nb_host.specs.declared.refusals.Refusal.{Refusal}
use Rattle.nb_host.specs.declared.refusals.Refusal.TheVariants.{BadScript, ScriptLong}
use Rattle.nb_model.specs.Words.{is_file}
use Rattle.nb_script.specs.Words.{Bytes}
use Rattle.nb_script.specs.Lines.{lines_of, left}
use Rattle.nb_script.specs.Scripts.{Numbered}
use Rattle.nb_catalog.specs.Answers.{with_first}

-- a name is one of these
abbrev pub is_listed : (names : List Bytes) (name : Bytes) → Bool
is_listed names name = list_any (λ m. same_name m name) names

-- a user may give the name, and it is none of those before
abbrev pub is_next : (before : List Bytes) (name : Bytes) → Bool
is_next before name = is_file name && not (is_listed before name)

-- The names on these lines, after these names, and so many more at most. The first line that is no name which a user may give, has a name that
-- stood before, or one name too many, is bad.
unfoldable pub names_on : (most : ℕ) → (before : List Bytes) → List Numbered → Result (List Bytes) Refusal
names_on most before [] = Ok []
names_on zero before (line ∷ lines) = Err (BadScript line.0)
names_on (suc most) before (line ∷ lines) = if is_next before line.1 then with_first line.1 (names_on most (before ++ line.1 ∷ []) lines) else Err (BadScript line.0)

-- so where there are `count` lines with those that are skipped, and at least one name
unfoldable pub some_names_on : (count : ℕ) → List Numbered → Result (List Bytes) Refusal
some_names_on count [] = Err (BadScript (count + 1))
some_names_on count (line ∷ lines) = names_on 1000 [] (line ∷ lines)

-- the list that some bytes spell, or why they spell none
unfoldable pub list_of : Bytes → Result (List Bytes) Refusal
list_of bytes = if nat_lt 1048576 (length bytes) then Err (ScriptLong (length bytes)) else some_names_on (length (lines_of bytes)) (left 0 bytes)

-- no name stands twice
abbrev pub AreDistinct : List Bytes → Type 0
AreDistinct names = (i j : ℕ) → i < length names → j < length names → slice_index_or names i [] ≡ slice_index_or names j [] → i ≡ j
