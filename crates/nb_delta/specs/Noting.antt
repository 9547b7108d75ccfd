-- A new entry on its way: its slot is written, and the table doesn't name it yet.
use Rattle.std.specs.Prelude.{◌≡◌, ◌⊎◌, ℕ, ◌+◌, ◌-◌, ◌*◌, ◌<◌, ◌≤◌, List, [], ◌∷◌, ◌++◌, length, drop, replicate, None, slice_index}
use Rattle.nb_host.specs.Files.{File, bytes_of}
use Rattle.nb_fields.specs.Bytes.{number_in}
use Rattle.nb_fields.specs.Places.{slots_in, most_pages}
use Rattle.nb_fields.specs.Table.{page_in, alloc_place}
use Rattle.nb_delta.specs.Entries.{place_of}
use Rattle.nb_delta.specs.Slots.{HasTable, HasSlot, HasZeros, slot_page, Keeps}

-- the page is the allocation page of group g, with the first n entries of the group and zeros after their numbers
pub record IsAllocation (size : ℕ) (page entries : List ℕ) (g n : ℕ) : Type 0 where
  pub count : number_in 0 4 page ≡ n
  pub numbers : (i : ℕ) → i < n → number_in (4 + 4 * i) 4 page ≡ slice_index entries (g * slots_in size + i)
  pub behind : drop (4 + 4 * n) page ≡ replicate (size - (4 + 4 * n)) 0

-- where entry n is the last of its group, the next allocation page is one of zeros
abbrev pub HasRoom : (size : ℕ) → File → (n : ℕ) → Type 0
HasRoom size file n = (g : ℕ) → n + 1 ≡ g * slots_in size
    → (page_in size (bytes_of file) (alloc_place size g) ≡ replicate size 0) × ((alloc_place size g + 1) * size ≤ length (bytes_of file))

-- there is room after entry n, and nothing of the table and the slots up to it has changed
pub record MakesRoom (size n : ℕ) (before after : File) : Type 0 where
  pub keeps : Keeps size n before after
  pub slot : slot_page size after n ≡ slot_page size before n
  pub no_shorter : length (bytes_of before) ≤ length (bytes_of after)
  pub room : HasRoom size after n

-- the slot of entry n is written and there is room after it; a table of at most n entries stays, and the slots before
pub record Prepared (size n : ℕ) (page : List ℕ) (before after : File) : Type 0 where
  pub keeps : Keeps size n before after
  pub slot : slot_page size after n ≡ page
  pub whole : HasSlot size after n
  pub room : HasRoom size after n

-- the table has one entry more, and its slots hold what they held
pub record Notes (size : ℕ) (entries : List ℕ) (number : ℕ) (before after : File) : Type 0 where
  pub table : HasTable size after (entries ++ number ∷ [])
  pub slots : (k : ℕ) → k < length entries + 1 → slot_page size after k ≡ slot_page size before k
  pub zeros : HasZeros size after (length entries + 1)

-- the table has the entry, or nothing of it and its slots has changed
abbrev pub NoteStep : (size : ℕ) (entries : List ℕ) (number : ℕ) (before after : File) → Type 0
NoteStep size entries number before after = Keeps size (length entries + 1) before after ⊎ Notes size entries number before after

-- the page is the allocation page of group g with one entry more than the file's table has, and that entry's slot is there
pub record IsReady (size : ℕ) (entries : List ℕ) (number g : ℕ) (page : List ℕ) (file : File) : Type 0 where
  pub fresh : place_of entries number ≡ None
  pub below : number < most_pages
  pub index : ℕ
  pub low : index < slots_in size
  pub many : length entries ≡ g * slots_in size + index
  pub allocation : IsAllocation size page (entries ++ number ∷ []) g (index + 1)
  pub table : HasTable size file entries
  pub whole : HasSlot size file (length entries)
  pub room : HasRoom size file (length entries)

-- the last of these entries is new
pub record IsNewest (entries before : List ℕ) (number : ℕ) : Type 0 where
  pub is : entries ≡ before ++ number ∷ []
  pub fresh : place_of before number ≡ None
  pub below : number < most_pages
