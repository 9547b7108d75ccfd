-- A file's bytes after its length was set, and after a write that failed.
use Rattle.std.specs.Prelude.{◌≡◌, ◌⊎◌, ℕ, List, length, take}
use Rattle.nb_host.specs.Files.{padded, put_at}

-- the bytes up to this length, with zeros after where they ended before it
abbrev pub resized : List ℕ → ℕ → List ℕ
resized bytes len = take len (padded bytes len)

-- a write of these bytes at that place has done nothing, or put a front of them
abbrev pub IsBegun : (before : List ℕ) (at : ℕ) (bytes after : List ℕ) → Type 0
IsBegun before at bytes after = (after ≡ before) ⊎ ((k : ℕ) × (after ≡ put_at before at (take k bytes)))

-- the file is as long as it was, and the same as far as that place
pub record IsSameUpTo (at : ℕ) (before after : List ℕ) : Type 0 where
  pub len : length after ≡ length before
  pub front : take at after ≡ take at before
