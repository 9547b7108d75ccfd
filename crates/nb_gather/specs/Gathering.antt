-- Pages of consecutive numbers are gathered into runs, and a run is written once it is complete.
use Rattle.std.specs.Prelude.{◌≡◌, ℕ, ◌*◌, ◌≤◌, List, [], ◌∷◌, length, true, false, nat_lt, IsTrue, Some}
use Rattle.nb_fields.specs.Places.{is_page_size}
use Rattle.nb_host.specs.Files.{File}
use Rattle.nb_host.specs.World.{World}
use Rattle.nb_host.specs.Crash.{IsTornFrom}
use Rattle.nb_level.specs.declared.head.LevelHead.{LevelHead}
use Rattle.nb_level.specs.Heads.{head_of}
use Rattle.nb_model.specs.Image.{Numbered}
use Rattle.nb_model.specs.Levels.{Head, AreRising, AreOfSize, Stretch, head_then, joined, run_bytes, runs_of}

-- What a contract sees of the run that waits: the number of its first page, the size of a page, how many pages it has, and their bytes.
pub record Waiting : Type 0 where
  pub first : ℕ
  pub size : ℕ
  pub count : ℕ
  pub bytes : List ℕ

-- What a contract sees of a level file that is written: its name and head, how many pages it took, and the run that waits.
pub record LevelWriting : Type 0 where
  pub name : List ℕ
  pub head : LevelHead
  pub written : ℕ
  pub run : Waiting

-- these runs without the last, where that has fewer than 16 pages
unfoldable pub complete : List Stretch → List Stretch
complete [] = []
complete (s ∷ []) = elim (nat_lt (length s.pages) 16) [ true ↦ [] | false ↦ s ∷ [] ]
complete (s ∷ t ∷ ss) = s ∷ complete (t ∷ ss)

-- the last of them, where it has fewer than 16 pages
unfoldable pub incomplete : List Stretch → List Stretch
incomplete [] = []
incomplete (s ∷ []) = elim (nat_lt (length s.pages) 16) [ true ↦ s ∷ [] | false ↦ [] ]
incomplete (s ∷ t ∷ ss) = incomplete (t ∷ ss)

-- these are the pages of the run that waits; none, where no run does
pub record Holds (run : Waiting) (s : Stretch) : Type 0 where
  pub first : run.first ≡ s.first
  pub count : run.count ≡ length s.pages
  pub bytes : run.bytes ≡ joined s.pages

abbrev pub HoldsAll : Waiting → List Stretch → Type 0
HoldsAll run [] = run.count ≡ 0
HoldsAll run (s ∷ ss) = Holds run s

-- the head, and these runs
abbrev pub level_front : LevelHead → List Stretch → List ℕ
level_front head ss = head_then 102 (head_of head) (run_bytes ss)

-- the file was torn from these bytes
pub record IsTornFile (bytes : List ℕ) (file : File) : Type 0 where
  pub torn : List ℕ
  pub there : file ≡ Some torn
  pub is : IsTornFrom bytes torn

-- the file reads as these bytes, and whatever was made since is torn from them
pub record Reads (w : World) (name bytes : List ℕ) : Type 0 where
  pub reads : w.files name ≡ Some bytes
  pub torn : (c : File) → w.now name c → IsTornFile bytes c

-- These pages were taken: in the file stand the head and their runs, without the last where that has fewer than 16 pages. That one waits.
pub record HasTaken (w : World) (file : LevelWriting) (rs : List Numbered) : Type 0 where
  pub stands : Reads w file.name (level_front file.head (complete (runs_of rs)))
  pub waits : HoldsAll file.run (incomplete (runs_of rs))
  pub counted : file.written ≡ length rs

-- the fields of a head have their sizes
pub record IsHeaded (h : Head) : Type 0 where
  pub guid : length h.guid ≡ 16
  pub previous : length h.previous ≡ 16
  pub size : IsTrue (is_page_size h.size)

-- a level file may have this head and these pages
pub record MayHave (head : LevelHead) (rs : List Numbered) : Type 0 where
  pub formed : IsHeaded (head_of head)
  pub rising : AreRising 0 rs
  pub sizes : AreOfSize head.page_size rs

-- what holds of the fields of every run
pub record IsWaiting (size count room : ℕ) : Type 0 where
  pub is_size : IsTrue (is_page_size size)
  pub few : count ≤ 16
  pub wide : room ≡ 16 * size
