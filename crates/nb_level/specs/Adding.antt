-- Two pieces of bytes that are appended to a file, one after the other.
use Rattle.std.specs.Prelude.{◌≡◌, ◌≢◌, ◌⊎◌, ℕ, ◌+◌, List, ◌++◌, length, take, Result, MatchResult}
use Rattle.nb_host.specs.Files.{File, Files, bytes_of, with_file, with_bytes}
use Rattle.nb_host.specs.World.{World}
use Rattle.nb_host.specs.Crash.{Leaves, AppendLeft}
use Rattle.nb_host.specs.Calls.{Steps}
use Rattle.nb_host.specs.Moments.{Elapses}

-- what a crash leaves of a file once both were appended at its length `len`, where before it left `before`
abbrev pub TwoLeft : (len : ℕ) → (first second : List ℕ) → (before left : File) → Type 0
TwoLeft len first second before left = (mid : File) × AppendLeft len first before mid × AppendLeft (len + length first) second mid left

-- what a crash leaves meanwhile, of this file and of the others; and nothing is said
pub record IsWhileAdding (old : World) (name first second : List ℕ) (files : Files) (said : List ℕ) : Type 0 where
  pub file : old.back name (files name) ⊎ ((b : File) × old.now name b × TwoLeft (length (bytes_of (old.files name))) first second b (files name))
  pub others : (m : List ℕ) → m ≢ name → Leaves old m (files m)
  pub output : said ≡ old.said

-- both are appended; at a fault a front of their bytes, or nothing is done
pub record AddsTwo {T E : Type 0} (result : Result T E) (old new : World) (name first second : List ℕ) : Type 0 where
  pub files : MatchResult result
      (λ _. new.files ≡ with_file old.files name (with_bytes (old.files name) (first ++ second)))
      (λ _. (new.files ≡ old.files) ⊎ ((k : ℕ) × (new.files ≡ with_file old.files name (with_bytes (old.files name) (take k (first ++ second))))))
  pub left : Steps old new name (TwoLeft (length (bytes_of (old.files name))) first second)
  pub time : Elapses old new (IsWhileAdding old name first second)
