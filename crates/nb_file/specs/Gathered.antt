-- A file's bytes, as far as they are written, and those that wait to be.
use Rattle.std.specs.Prelude.{◌≡◌, ℕ, ◌+◌, Bool, false, IsTrue, List, Option, None, Some, if◌then◌else◌}
use Rattle.nb_host.specs.Names.{same_name}
use Rattle.nb_host.specs.Files.{put_at}

-- whether what waits is of the file of this name
abbrev pub is_owner : Option (List ℕ) → List ℕ → Bool
is_owner None name = false
is_owner (Some own) name = same_name own name

-- nothing waits but for the file of this name
abbrev pub IsFreeFor : Option (List ℕ) → List ℕ → Type 0
IsFreeFor None name = Unit {0}
IsFreeFor (Some own) name = IsTrue (same_name own name)

-- bytes at `at` follow the `count` bytes that wait at `from`, or nothing waits
abbrev pub IsNext : Option (List ℕ) → (from count at : ℕ) → Type 0
IsNext None from count at = Unit {0}
IsNext (Some own) from count at = at ≡ from + count

-- what a file of this name holds, with what waits for it
abbrev pub seen : Option (List ℕ) → (at : ℕ) (bytes : List ℕ) (name file : List ℕ) → List ℕ
seen None at bytes name file = file
seen (Some own) at bytes name file = if same_name own name then put_at file at bytes else file
