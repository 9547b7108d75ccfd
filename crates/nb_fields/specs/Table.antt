-- The table of a difference file. The file is groups of an allocation page and its slots.
use Rattle.std.specs.Prelude.{ℕ, zero, suc, ◌+◌, ◌*◌, ◌/◌, List, [], ◌∷◌, ◌++◌, length, take, drop, replicate, Result, Ok, Err, true, false, ◌&&◌, ◌||◌, ◌==◌, nat_le, nat_lt, nat_eq}
use Rattle.std.specs.List.{list_any}
use Rattle.nb_fields.specs.Bytes.{number_in}
use Rattle.nb_fields.specs.Places.{slots_in, most_pages}

-- where the numbers of an allocation page begin
abbrev pub numbers_at : ℕ
numbers_at = 4

-- page i of a file, with zeros where the file ends before
unfoldable pub page_in : (size : ℕ) (bytes : List ℕ) (i : ℕ) → List ℕ
page_in size bytes i = take size (drop (i * size) bytes ++ replicate size 0)

-- the page of the file that is the slot of entry i
unfoldable pub slot_place : (size i : ℕ) → ℕ
slot_place size i = i + i / slots_in size + 1

-- the page of the file that is the allocation page of group g
unfoldable pub alloc_place : (size g : ℕ) → ℕ
alloc_place size g = g * (slots_in size + 1)

-- The entries after those read so far, of which a group has `left` more from entry i on: the entries so far,
-- or the first page that breaks the form. A number too large, or named before, breaks the allocation page, and
-- a slot that the file doesn't hold whole breaks itself.
unfoldable pub entries_from : (size at i left : ℕ) (bytes found : List ℕ) → Result (List ℕ) ℕ
entries_from size at i zero bytes found = Ok found
entries_from size at i (suc left) bytes found =
    let number : ℕ = number_in (numbers_at + 4 * i) 4 (page_in size bytes at) in
    elim (nat_le most_pages number || list_any (nat_eq number) found) [
      | true ↦ Err at
      | false ↦ elim (nat_lt (length bytes) ((at + 2 + i) * size)) [
        | true ↦ Err (at + 1 + i)
        | false ↦ entries_from size at (i + 1) left bytes (found ++ number ∷ [])
      ]
    ]

-- The entries of the groups from the allocation page `at` on, of which the file has no more than `most`.
-- An allocation page that the file holds only in part, or whose count is too large, is broken. A group that isn't
-- full is the last.
unfoldable pub groups_from : (most size at : ℕ) (bytes found : List ℕ) → Result (List ℕ) ℕ
groups_from zero size at bytes found = Ok found
groups_from (suc most) size at bytes found =
    let count : ℕ = number_in 0 4 (page_in size bytes at) in
    elim ((nat_lt (at * size) (length bytes) && nat_lt (length bytes) ((at + 1) * size)) || nat_lt (slots_in size) count) [
      | true ↦ Err at
      | false ↦ elim (entries_from size at 0 count bytes found) [
        | Err page ↦ Err page
        | Ok entries ↦ elim (count == slots_in size) [ true ↦ groups_from most size (at + slots_in size + 1) bytes entries | false ↦ Ok entries ]
      ]
    ]

-- the numbers of the pages that a difference file names, in order, or the first page of it that breaks the form
unfoldable pub table_of : (size : ℕ) (bytes : List ℕ) → Result (List ℕ) ℕ
table_of size bytes = groups_from (length bytes / size + 1) size 0 bytes []
