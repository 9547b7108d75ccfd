-- Entries that wait: their slots are written, and the file's table doesn't name them yet.
use Rattle.std.specs.Prelude.{◌≡◌, ◌⊎◌, ℕ, ◌+◌, ◌<◌, ◌≤◌, List, ◌++◌, length}
use Rattle.nb_host.specs.Files.{File, bytes_of}
use Rattle.nb_delta.specs.Slots.{HasTable, HasSlot, HasZeros, slot_page}

-- So many of the last entries wait: the file's table is that of the others, and it holds the slots of the waiting ones whole.
pub record Waits (size : ℕ) (entries : List ℕ) (drafted : ℕ) (table waiting : List ℕ) (file : File) : Type 0 where
  pub all : entries ≡ table ++ waiting
  pub many : length waiting ≡ drafted
  pub has : HasTable size file table
  pub slots : (k : ℕ) → length table ≤ k → k < length entries → HasSlot size file k

-- a table of at most n entries stays with the zeros after its numbers, and every slot holds what it held
pub record Stays (size n : ℕ) (before after : File) : Type 0 where
  pub tables : (entries : List ℕ) → length entries ≤ n → HasTable size before entries → HasTable size after entries
  pub zeros : (m : ℕ) → m ≤ n → HasZeros size before m → HasZeros size after m
  pub slots : (k : ℕ) → slot_page size after k ≡ slot_page size before k
  pub no_shorter : length (bytes_of before) ≤ length (bytes_of after)

-- the table has the first of the waiting entries too, as many as there are of them in `front`, and the zeros after its numbers stay
pub record HasFront (size : ℕ) (table waiting : List ℕ) (before after : File) : Type 0 where
  pub front : List ℕ
  pub rest : List ℕ
  pub split : waiting ≡ front ++ rest
  pub has : HasTable size after (table ++ front)
  pub zeros : HasZeros size before (length table) → HasZeros size after (length table + length front)

-- the first of the waiting entries are in the table, and every slot holds what it held
pub record Fronts (size : ℕ) (table waiting : List ℕ) (before after : File) : Type 0 where
  pub tables : HasFront size table waiting before after
  pub slots : (k : ℕ) → slot_page size after k ≡ slot_page size before k
  pub no_shorter : length (bytes_of before) ≤ length (bytes_of after)

-- The first of the waiting entries are in the table, and every slot holds what `reads` holds, the file as it read when the call
-- began. Or nothing of the table and the slots has changed.
abbrev pub FrontStep : (size : ℕ) (table waiting : List ℕ) (reads before after : File) → Type 0
FrontStep size table waiting reads before after = Stays size (length table) before after ⊎ Fronts size table waiting reads after

-- the table is that of all entries, and every slot holds what it held
pub record HasAll (size : ℕ) (entries : List ℕ) (before after : File) : Type 0 where
  pub has : HasTable size after entries
  pub slots : (k : ℕ) → slot_page size after k ≡ slot_page size before k
  pub no_shorter : length (bytes_of before) ≤ length (bytes_of after)
