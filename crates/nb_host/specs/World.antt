-- All that a host tells, at one moment.
use Rattle.std.specs.Prelude.{ℕ, List}
use Rattle.nb_host.specs.Files.{File, Files}

pub record World : Type 1 where
  -- the files as they read
  pub files : Files
  -- the output so far
  pub said : List ℕ
  -- how many reads there were
  pub reads : ℕ
  -- the GUIDs and the clock values that were given, the oldest first
  pub guids : List (List ℕ)
  pub times : List ℕ
  -- what a crash may leave of a file: as it was before it was last made or removed
  pub back : List ℕ → File → Type 0
  -- and as it was made since
  pub now : List ℕ → File → Type 0
  -- the number of this moment, which never falls
  pub moment : ℕ
  -- at some moment from that number on the output was this, and a crash then leaves these files
  pub left_since : ℕ → Files → List ℕ → Type 0
