-- The image of two files: which of them a page belongs to, and why a database can't be opened.
use Rattle.std.specs.Prelude.{ℕ, zero, suc, ◌+◌, List, [], ◌∷◌, ◌++◌, length, take, drop, replicate, Option, Some, None, Result, Ok, Err, true, false, ◌==◌, nat_eq, nat_lt, max}
use Rattle.nb_fields.specs.Header.{state_of, size_of}
use Rattle.nb_fields.specs.Table.{table_of, slot_place, page_in}
use Rattle.nb_fields.specs.States.{stalled_state}
use Rattle.nb_host.specs.Files.{File, Files}
use Rattle.nb_host.specs.Names.{delta_suffix}
use Rattle.nb_host.specs.declared.refusals.Refusal.{Refusal}
use Rattle.nb_host.specs.declared.refusals.Refusal.TheVariants.{NoFile, BadDelta, Unfinished}
use Rattle.nb_model.specs.Image.{Page, Image, page_at, image_in}
use Rattle.nb_model.specs.Account.{Base, base_of, Entry, Missing, Plain, IsBase}
use Rattle.nb_model.specs.Causes.{Cause, not_database}

-- the name of the difference file beside a database
abbrev pub delta_name : List ℕ → List ℕ
delta_name name = name ++ delta_suffix

-- which entry of a table names page p
unfoldable pub entry_for : (p : ℕ) → List ℕ → Option ℕ
entry_for p [] = None
entry_for p (q ∷ qs) = elim (nat_eq p q) [ true ↦ Some 0 | false ↦ elim (entry_for p qs) [ None ↦ None | Some k ↦ Some (suc k) ] ]

-- the number after the greatest entry
abbrev pub behind_entries : List ℕ → ℕ
behind_entries [] = 0
behind_entries (p ∷ ps) = max (p + 1) (behind_entries ps)

-- the page in the slot of entry k; page 0 has its first 64 bytes from the main file
unfoldable pub slot_page : (size : ℕ) (main : Image) (delta : List ℕ) (p k : ℕ) → Page
slot_page size main delta zero k = take 64 (page_at main 0) ++ drop 64 (page_in size delta (slot_place size k))
slot_page size main delta (suc p) k = page_in size delta (slot_place size k)

-- page p of the main file, and zeros past its end
unfoldable pub main_page : (size : ℕ) (main : Image) (p : ℕ) → Page
main_page size main p = elim (nat_lt p (length main)) [ true ↦ page_at main p | false ↦ replicate size 0 ]

-- A page belongs to the difference file where an entry names it, and otherwise to the main file.
unfoldable pub owned_page : (size : ℕ) (main : Image) (delta table : List ℕ) (p : ℕ) → Page
owned_page size main delta table p = elim (entry_for p table) [ Some k ↦ slot_page size main delta p k | None ↦ main_page size main p ]

-- so many pages from p on
unfoldable pub owned_from : (size : ℕ) (main : Image) (delta table : List ℕ) (count p : ℕ) → Image
owned_from size main delta table zero p = []
owned_from size main delta table (suc count) p = owned_page size main delta table p ∷ owned_from size main delta table count (p + 1)

-- the image while a difference file stands beside
unfoldable pub owned : (size : ℕ) (main : Image) (delta table : List ℕ) → Image
owned size main delta table = owned_from size main delta table (max (length main) (behind_entries table)) 0

-- a database in the stalled or the merge state, whose difference file has that table
unfoldable pub diverted_base : (bytes delta table : List ℕ) → Base
diverted_base bytes delta table = record {
  image = owned (size_of bytes) (image_in bytes) delta table;
  frozen = elim (state_of bytes == stalled_state) [ true ↦ image_in bytes | false ↦ [] ];
  diverted = table;
}

-- the database with the difference file that has to be there
unfoldable pub owner_with : (name bytes : List ℕ) (delta : File) → Result Base Refusal
owner_with name bytes None = Err (NoFile (delta_name name))
owner_with name bytes (Some delta) = elim (table_of (size_of bytes) delta) [
  | Err page ↦ Err (BadDelta page)
  | Ok table ↦ Ok (diverted_base bytes delta table)
]

-- the database by the state in its header: in the normal state no difference file is looked at
unfoldable pub owner_in : (state : ℕ) (name bytes : List ℕ) (delta : File) → Result Base Refusal
owner_in zero name bytes delta = Ok (base_of (image_in bytes))
owner_in (suc k) name bytes delta = elim (k == 2) [ true ↦ Err Unfinished | false ↦ owner_with name bytes delta ]

-- the database of two files, or the first refusal of opening it
unfoldable pub owner : (name : List ℕ) (main delta : File) → Result Base Refusal
owner name None delta = Err (NoFile name)
owner name (Some bytes) delta = elim (not_database bytes) [ Some refusal ↦ Err refusal | None ↦ owner_in (state_of bytes) name bytes delta ]

-- What files hold under a name. Nothing but the records of backups has to be remembered beside the files.
unfoldable pub entry_of_files : (name : List ℕ) (main delta : File) → Entry
entry_of_files name None delta = Missing delta
entry_of_files name (Some bytes) delta = elim (owner name (Some bytes) delta) [ Err refusal ↦ Plain bytes delta | Ok base ↦ IsBase base ]

abbrev pub entry_in : Files → (name : List ℕ) → Entry
entry_in files name = entry_of_files name (files name) (files (delta_name name))

-- why opening is refused
unfoldable pub not_opened : (name : List ℕ) → Entry → Cause
not_opened name (Missing delta) = Some (NoFile name)
not_opened name (Plain bytes delta) = elim (owner name (Some bytes) delta) [ Err refusal ↦ Some refusal | Ok base ↦ None ]
not_opened name (IsBase base) = None
