-- Files of pages, whose length is a whole number of them.
use Rattle.std.specs.Prelude.{◌≡◌, ◌≢◌, ℕ, ◌%◌, Option, List, None}

-- so many bytes are a whole number of pieces of that length: pages, or single bytes
abbrev pub IsWhole : (piece len : ℕ) → Type 0
IsWhole piece len = len % piece ≡ 0

-- what waits, if anything does, are pieces of that length
abbrev pub AreOf : (piece : ℕ) → Option (List ℕ) → (own : ℕ) → Type 0
AreOf piece name own = name ≢ None → own ≡ piece
