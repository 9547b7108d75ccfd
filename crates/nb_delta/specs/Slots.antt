-- What a difference file holds: a table of entries, and a page in the slot of each.
use Rattle.std.specs.Prelude.{◌≡◌, ◌≢◌, ◌⊎◌, ℕ, ◌+◌, ◌-◌, ◌*◌, ◌<◌, ◌≤◌, List, [], ◌∷◌, ◌++◌, length, drop, replicate, None, Some, Ok}
use Rattle.nb_host.specs.Files.{File, bytes_of}
use Rattle.nb_fields.specs.Places.{slots_in}
use Rattle.nb_fields.specs.Table.{table_of, page_in, slot_place, alloc_place}

-- the file is there and has this table
abbrev pub HasTable : (size : ℕ) → File → (entries : List ℕ) → Type 0
HasTable size None entries = ⊥
HasTable size (Some bytes) entries = table_of size bytes ≡ Ok entries

-- the page in the slot of entry k
abbrev pub slot_page : (size : ℕ) → File → (k : ℕ) → List ℕ
slot_page size file k = page_in size (bytes_of file) (slot_place size k)

-- the file holds the slot of entry k whole
abbrev pub HasSlot : (size : ℕ) → File → (k : ℕ) → Type 0
HasSlot size file k = (slot_place size k + 1) * size ≤ length (bytes_of file)

-- where there are n entries, zeros stand after the numbers of the allocation page that isn't full
abbrev pub HasZeros : (size : ℕ) → File → (n : ℕ) → Type 0
HasZeros size file n = (g i : ℕ) → i < slots_in size → n ≡ g * slots_in size + i
    → drop (4 + 4 * i) (page_in size (bytes_of file) (alloc_place size g)) ≡ replicate (size - (4 + 4 * i)) 0

-- a table of at most n entries stays with the zeros after its numbers, and the first n slots hold what they held
pub record Keeps (size n : ℕ) (before after : File) : Type 0 where
  pub table : (entries : List ℕ) → length entries ≤ n → HasTable size before entries → HasTable size after entries
  pub slots : (k : ℕ) → k < n → slot_page size after k ≡ slot_page size before k
  pub zeros : (m : ℕ) → m ≤ n → HasZeros size before m → HasZeros size after m

-- the slot of entry k holds what it held or this page; the table stays with the zeros after its numbers, and the other slots
pub record SlotStep (size k : ℕ) (page : List ℕ) (before after : File) : Type 0 where
  pub table : (entries : List ℕ) → HasTable size before entries → HasTable size after entries
  pub slot : (slot_page size after k ≡ slot_page size before k) ⊎ (slot_page size after k ≡ page)
  pub others : (j : ℕ) → j ≢ k → slot_page size after j ≡ slot_page size before j
  pub zeros : (m : ℕ) → HasZeros size before m → HasZeros size after m
  pub no_shorter : length (bytes_of before) ≤ length (bytes_of after)

-- the slot of entry k holds this page; the table stays with the zeros after its numbers, and the other slots
pub record SlotPut (size k : ℕ) (page : List ℕ) (before after : File) : Type 0 where
  pub table : (entries : List ℕ) → HasTable size before entries → HasTable size after entries
  pub slot : slot_page size after k ≡ page
  pub whole : HasSlot size after k
  pub others : (j : ℕ) → j ≢ k → slot_page size after j ≡ slot_page size before j
  pub zeros : (m : ℕ) → HasZeros size before m → HasZeros size after m
  pub no_shorter : length (bytes_of before) ≤ length (bytes_of after)

-- the table has one entry more, whose slot holds this page, and the slots before it hold what they held
pub record Adds (size : ℕ) (entries : List ℕ) (number : ℕ) (page : List ℕ) (before after : File) : Type 0 where
  pub table : HasTable size after (entries ++ number ∷ [])
  pub slot : slot_page size after (length entries) ≡ page
  pub others : (k : ℕ) → k < length entries → slot_page size after k ≡ slot_page size before k
  pub zeros : HasZeros size after (length entries + 1)

-- The entry is there with its page, and the slots before it hold what `reads` holds, the file as it read when the call began. Or
-- nothing of the table and its slots has changed.
abbrev pub AddStep : (size : ℕ) (entries : List ℕ) (number : ℕ) (page : List ℕ) (reads before after : File) → Type 0
AddStep size entries number page reads before after = Keeps size (length entries) before after ⊎ Adds size entries number page reads after

-- the file is empty, or one page of zeros
abbrev pub IsBlank : (size : ℕ) → File → Type 0
IsBlank size file = (file ≡ Some []) ⊎ (file ≡ Some (replicate size 0))
