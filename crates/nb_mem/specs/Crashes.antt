-- The outcomes that a host in memory has, by the rules of a crash, and the picks that reach them. That it has no others is said by
-- the clauses of the trait.
use Rattle.std.specs.Prelude.{◌≡◌, ◌≢◌, ℕ, ◌+◌, ◌-◌, ◌*◌, ◌/◌, ◌≤◌, true, false, List, [], ◌∷◌, ◌++◌, length, take, replicate, Some, None}
use Rattle.nb_host.specs.Names.{same_name}
use Rattle.nb_host.specs.Files.{File, bytes_of, with_page, with_bytes}
use Rattle.nb_host.specs.Crash.{Leaves, IsTornFrom}
use Rattle.nb_mem.specs.declared.entry.Entry.{Entry}
use Rattle.nb_mem.specs.declared.entry.Entry.TheVariants.{Changed, Said, Asked}
use Rattle.nb_mem.specs.declared.entry.Change.{Change}
use Rattle.nb_mem.specs.declared.entry.Change.TheVariants.{Placed, Made, Removed, Paged, Appended, Synced}
use Rattle.nb_mem.specs.Histories.{files_of, world_of}
use Rattle.nb_mem.specs.Chosen.{begun, grown, left_by, outcome_by}

-- what a crash leaves after a change of the file
abbrev pub LeavesAfter : List Entry → (n : List ℕ) → Change → File → Type 0
LeavesAfter es n change = Leaves (world_of (Changed n change ∷ es)) n

-- A page was written. Where a crash would have left `before`, it may leave that, the page lost; or that with the page; or that
-- with pages of zeros after it, up to the page's end.
pub record PagesMay (es : List Entry) (n : List ℕ) (at : ℕ) (page : List ℕ) (before : File) : Type 0 where
  pub lost : LeavesAfter es n (Paged at page) before
  pub kept : LeavesAfter es n (Paged at page) (with_page before at page)
  pub grown : (k : ℕ) → length (bytes_of before) + k * length page ≤ at + length page
      → LeavesAfter es n (Paged at page) (Some (bytes_of before ++ replicate (k * length page) 0))

-- Bytes were appended. Where a crash would have left `before`, it may leave that; and where `before` has the length at which they
-- were appended, also that and any of the bytes after it, each as it was written or zero.
pub record BytesMay (es : List Entry) (n bytes : List ℕ) (before : File) : Type 0 where
  pub lost : LeavesAfter es n (Appended bytes) before
  pub torn : (torn : List ℕ) → IsTornFrom bytes torn → length (bytes_of before) ≡ length (bytes_of (files_of es n))
      → LeavesAfter es n (Appended bytes) (Some (bytes_of before ++ torn))

-- A file was made or removed: it may be so, or be back with all that a crash would have left of it before.
pub record AnewMay (es : List Entry) (n : List ℕ) (change : Change) (file : File) : Type 0 where
  pub anew : LeavesAfter es n change file
  pub back : (before : File) → Leaves (world_of es) n before → LeavesAfter es n change before

-- A file was synced: it is as it reads, and nothing else.
pub record SyncedMay (es : List Entry) (n : List ℕ) : Type 0 where
  pub kept : LeavesAfter es n Synced (files_of es n)
  pub only : (c : File) → LeavesAfter es n Synced c → c ≡ files_of es n

-- a call leaves the outcomes of every other file
abbrev pub OthersMay : List Entry → (n : List ℕ) → Change → Type 0
OthersMay es n change = (m : List ℕ) (c : File) → m ≢ n → Leaves (world_of es) m c → Leaves (world_of (Changed n change ∷ es)) m c

-- the file as it was when it was last placed or synced, and none where it never was
abbrev pub settled_after : Change → (file settled : File) → File
settled_after (Placed bytes) file was = Some bytes
settled_after Made file was = was
settled_after Removed file was = was
settled_after (Paged at page) file was = was
settled_after (Appended bytes) file was = was
settled_after Synced file was = file

unfoldable pub settled_file : List Entry → List ℕ → File
settled_file [] n = None
settled_file (Changed m change ∷ es) n = elim (same_name n m) [ true ↦ settled_after change (files_of es n) (settled_file es n) | false ↦ settled_file es n ]
settled_file (Said bytes ∷ es) n = settled_file es n
settled_file (Asked question ∷ es) n = settled_file es n

-- what a pick leaves of a file that was synced, and then changed once
abbrev pub pick_after : (pick : ℕ) → List Entry → (n : List ℕ) → Change → File
pick_after pick es n change = left_by (begun pick) (Changed n change ∷ Changed n Synced ∷ es) n

-- Each rule of a crash has a pick.
pub record PicksReach (es : List Entry) (n : List ℕ) : Type 0 where
  pub page_lost : (at : ℕ) (page : List ℕ) → pick_after 0 es n (Paged at page) ≡ files_of es n
  pub page_kept : (at : ℕ) (page : List ℕ) → pick_after 1 es n (Paged at page) ≡ with_page (files_of es n) at page
  pub page_grown : (at : ℕ) (page : List ℕ) → length (bytes_of (files_of es n)) ≤ at → pick_after 2 es n (Paged at page) ≡ grown at page (files_of es n)
  pub bytes_lost : (bytes : List ℕ) → pick_after 0 es n (Appended bytes) ≡ files_of es n
  pub bytes_kept : (bytes : List ℕ) → pick_after 1 es n (Appended bytes) ≡ with_bytes (files_of es n) bytes
  pub bytes_zeroed : (bytes : List ℕ) → pick_after 5 es n (Appended bytes) ≡ with_bytes (files_of es n) (take (length bytes / 2) bytes ++ replicate (length bytes - length bytes / 2) 0)
  pub bytes_cut : (bytes : List ℕ) → pick_after 9 es n (Appended bytes) ≡ with_bytes (files_of es n) (take (length bytes / 2) bytes)
  pub made : pick_after 1 es n Made ≡ Some []
  pub made_back : pick_after 0 es n Made ≡ files_of es n
  pub removed : pick_after 1 es n Removed ≡ None
  pub removed_back : pick_after 0 es n Removed ≡ files_of es n

-- Pick 0 leaves a file as it was when it was last placed or synced, and goes on as pick 0 with the next one.
pub record LosesAll (es : List Entry) (n : List ℕ) : Type 0 where
  pub file : left_by (begun 0) es n ≡ settled_file es n
  pub choices : (outcome_by (begun 0) es n).1 ≡ begun 0

-- Pick 1 leaves a file as it reads, and goes on as pick 1.
pub record KeepsAll (es : List Entry) (n : List ℕ) : Type 0 where
  pub file : left_by (begun 1) es n ≡ files_of es n
  pub choices : (outcome_by (begun 1) es n).1 ≡ begun 1
