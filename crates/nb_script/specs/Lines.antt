-- The lines of a script.
use Rattle.std.specs.Prelude.{ℕ, ◌+◌, ◌==◌, ◌||◌, Bool, not, List, [], ◌∷◌, if◌then◌else◌, length, slice_index}
use Rattle.std.specs.List.{prefix_len}
use Rattle.nb_script.specs.Words.{Bytes}

-- a byte before the first line
abbrev pub onto_first : ℕ → List Bytes → List Bytes
onto_first b [] = (b ∷ []) ∷ []
onto_first b (line ∷ lines) = (b ∷ line) ∷ lines

-- the lines of some bytes, each ended by a line feed but perhaps the last
unfoldable pub lines_of : Bytes → List Bytes
lines_of [] = []
lines_of (b ∷ bytes) = if b == 10 then [] ∷ lines_of bytes else onto_first b (lines_of bytes)

-- an empty line or a comment
abbrev pub is_skipped : Bytes → Bool
is_skipped line = length line == 0 || slice_index line 0 == 35

-- the lines that are not skipped, each with its number, where so many lines stand before
unfoldable pub numbered : ℕ → List Bytes → List (ℕ × Bytes)
numbered before [] = []
numbered before (line ∷ lines) = if is_skipped line then numbered (before + 1) lines else (before + 1, line) ∷ numbered (before + 1) lines

-- the lines that are not skipped of some bytes, where so many lines stand before
abbrev pub left : ℕ → Bytes → List (ℕ × Bytes)
left before bytes = numbered before (lines_of bytes)

-- how long the first line is
abbrev pub first_len : Bytes → ℕ
first_len bytes = prefix_len (λ b. not (b == 10)) bytes
