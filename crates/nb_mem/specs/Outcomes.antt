-- One outcome of a crash.
use Rattle.std.specs.Prelude.{◌≢◌, ℕ, MatchBool, List, [], ◌∷◌, None, Some}
use Rattle.nb_host.specs.Files.{File}
use Rattle.nb_host.specs.Crash.{LeavesAll, IsDurable}
use Rattle.nb_host.specs.Calls.{IsSilent}
use Rattle.nb_mem.specs.declared.entry.Change.TheVariants.{Placed}
use Rattle.nb_mem.specs.declared.entry.Entry.{Entry}
use Rattle.nb_mem.specs.declared.entry.Entry.TheVariants.{Changed, Said, Asked}
use Rattle.nb_mem.specs.declared.outcome.Outcome.{Outcome}
use Rattle.nb_mem.specs.Histories.{files_of, Now, Back, world_of}

-- the call changed no file of that name
abbrev pub IsOther : Entry → List ℕ → Type 0
IsOther (Changed n change) m = m ≢ n
IsOther (Said bytes) m = Unit {0}
IsOther (Asked question) m = Unit {0}

-- a crash after these calls may leave that of the file
abbrev pub MayBe : List Entry → List ℕ → Outcome → Type 0
MayBe es n outcome = MatchBool outcome.is_back (Back es n outcome.left) (Now es n outcome.left)

-- the history goes on by a file that is placed, where there is one
abbrev pub placed : List ℕ → File → List Entry → List Entry
placed n None es = es
placed n (Some bytes) es = Changed n (Placed bytes) ∷ es

-- A crash after the calls `stopped` may leave the files of `left`, all of them durable, and nothing was said, read or given since.
pub record IsLeft (stopped left : List Entry) : Type 0 where
  pub files : LeavesAll (world_of stopped) (files_of left)
  pub durable : (n : List ℕ) → IsDurable (world_of left) n (files_of left n)
  pub silent : IsSilent (world_of []) (world_of left)
