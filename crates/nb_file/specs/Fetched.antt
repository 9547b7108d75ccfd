-- A part of a file.
use Rattle.std.specs.Prelude.{◌≡◌, ℕ, List, length, take, drop}

-- these bytes stand at that place of the file
abbrev pub IsPart : (at : ℕ) (part file : List ℕ) → Type 0
IsPart at part file = part ≡ take (length part) (drop at file)
