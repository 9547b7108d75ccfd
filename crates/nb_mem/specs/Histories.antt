-- What a history of calls tells. The newest call comes first.
use Rattle.std.specs.Prelude.{◌≡◌, ◌⊎◌, ℕ, zero, suc, ◌+◌, ◌≤◌, MatchBool, List, [], ◌∷◌, ◌++◌, length, replicate, None}
use Rattle.std.specs.Int.{w64, to_be_bytes}
use Rattle.nb_host.specs.Names.{same_name}
use Rattle.nb_host.specs.Files.{File, Files, with_file}
use Rattle.nb_host.specs.World.{World}
use Rattle.nb_mem.specs.Changes.{file_after, NowAfter, BackAfter}
use Rattle.nb_mem.specs.declared.entry.Entry.{Entry}
use Rattle.nb_mem.specs.declared.entry.Entry.TheVariants.{Changed, Said, Asked}
use Rattle.nb_mem.specs.declared.entry.Question.TheVariants.{Size, Read, Guid, Time}

-- the files as they read
abbrev pub files_of : List Entry → Files
files_of [] = λ _. None
files_of (Changed n change ∷ es) = with_file (files_of es) n (file_after change (files_of es n))
files_of (Said bytes ∷ es) = files_of es
files_of (Asked question ∷ es) = files_of es

-- what a crash leaves of a file as it was made since it was last made or removed
abbrev pub Now : List Entry → List ℕ → File → Type 0
Now [] m left = left ≡ None
Now (Changed n change ∷ es) m left = MatchBool (same_name m n) (NowAfter change (files_of es m) (Now es m) left) (Now es m left)
Now (Said bytes ∷ es) m left = Now es m left
Now (Asked question ∷ es) m left = Now es m left

-- and as it was before
abbrev pub Back : List Entry → List ℕ → File → Type 0
Back [] m left = ⊥
Back (Changed n change ∷ es) m left = MatchBool (same_name m n) (BackAfter change (Back es m) (Now es m) left) (Back es m left)
Back (Said bytes ∷ es) m left = Back es m left
Back (Asked question ∷ es) m left = Back es m left

-- the output
abbrev pub said_of : List Entry → List ℕ
said_of [] = []
said_of (Changed n change ∷ es) = said_of es
said_of (Said bytes ∷ es) = said_of es ++ bytes
said_of (Asked question ∷ es) = said_of es

-- how many reads there were
abbrev pub reads_of : List Entry → ℕ
reads_of [] = 0
reads_of (Changed n change ∷ es) = reads_of es
reads_of (Said bytes ∷ es) = reads_of es
reads_of (Asked Size ∷ es) = reads_of es
reads_of (Asked Read ∷ es) = reads_of es + 1
reads_of (Asked Guid ∷ es) = reads_of es
reads_of (Asked Time ∷ es) = reads_of es

-- a GUID by its number, from 1: eight zero bytes, and the number in eight bytes
unfoldable pub guid_of : ℕ → List ℕ
guid_of number = replicate 8 0 ++ to_be_bytes w64 number

-- the GUIDs that were given
abbrev pub guids_of : List Entry → List (List ℕ)
guids_of [] = []
guids_of (Changed n change ∷ es) = guids_of es
guids_of (Said bytes ∷ es) = guids_of es
guids_of (Asked Size ∷ es) = guids_of es
guids_of (Asked Read ∷ es) = guids_of es
guids_of (Asked Guid ∷ es) = guids_of es ++ guid_of (length (guids_of es) + 1) ∷ []
guids_of (Asked Time ∷ es) = guids_of es

-- so many GUIDs more are given
abbrev pub with_guids : ℕ → List Entry → List Entry
with_guids zero es = es
with_guids (suc n) es = Asked Guid ∷ with_guids n es

-- so many GUIDs, of the numbers after this one
abbrev pub guids_behind : (number count : ℕ) → List (List ℕ)
guids_behind number zero = []
guids_behind number (suc count) = guid_of (number + 1) ∷ guids_behind (number + 1) count

-- the clock values that were given: the first is 1,000,000,000, and each further one is higher by 1
abbrev pub times_of : List Entry → List ℕ
times_of [] = []
times_of (Changed n change ∷ es) = times_of es
times_of (Said bytes ∷ es) = times_of es
times_of (Asked Size ∷ es) = times_of es
times_of (Asked Read ∷ es) = times_of es
times_of (Asked Guid ∷ es) = times_of es
times_of (Asked Time ∷ es) = times_of es ++ (1000000000 + length (times_of es)) ∷ []

-- after these calls the output is this, and a crash then leaves these files
pub record LeftAt (es : List Entry) (files : Files) (said : List ℕ) : Type 0 where
  pub left : (m : List ℕ) → Back es m (files m) ⊎ Now es m (files m)
  pub output : said ≡ said_of es

-- at some moment since that many calls
abbrev pub LeftSince : List Entry → ℕ → Files → List ℕ → Type 0
LeftSince [] t files said = (t ≤ 0) × LeftAt [] files said
LeftSince (e ∷ es) t files said = ((t ≤ length es + 1) × LeftAt (e ∷ es) files said) ⊎ LeftSince es t files said

-- all that the calls tell; the number of a moment is that of the calls before it
abbrev pub world_of : List Entry → World
world_of es = record {
  files = files_of es;
  said = said_of es;
  reads = reads_of es;
  guids = guids_of es;
  times = times_of es;
  back = Back es;
  now = Now es;
  moment = length es;
  left_since = LeftSince es;
}
