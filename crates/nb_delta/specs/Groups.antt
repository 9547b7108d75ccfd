-- The allocation pages of several groups are written.
use Rattle.std.specs.Prelude.{◌≡◌, ◌⊎◌, ℕ, ◌+◌, ◌-◌, ◌*◌, ◌<◌, ◌≤◌, List, length, replicate, min, Some}
use Rattle.nb_host.specs.Files.{File, bytes_of}
use Rattle.nb_fields.specs.Places.{slots_in}
use Rattle.nb_fields.specs.Table.{page_in, alloc_place}
use Rattle.nb_delta.specs.Pages.{PageStep, Put}
use Rattle.nb_delta.specs.Slots.{slot_page}
use Rattle.nb_delta.specs.Noting.{IsAllocation}
use Rattle.nb_delta.specs.Waiting.{Stays}

-- the allocation page of group g is this one, or every page is as it was
pub record GroupStep (size g : ℕ) (page : List ℕ) (before after : File) : Type 0 where
  pub pages : PageStep size (alloc_place size g) page (bytes_of before) (bytes_of after)
  pub there : before ≡ Some (bytes_of before) → after ≡ Some (bytes_of after)

-- the allocation page of group g is this one
pub record GroupPut (size g : ℕ) (page : List ℕ) (before after : File) : Type 0 where
  pub pages : Put size (alloc_place size g) page (bytes_of before) (bytes_of after)
  pub there : after ≡ Some (bytes_of after)

-- the allocation pages after group `first`, up to that of group `last`, are pages of zeros
pub record Empties (size first last : ℕ) (before after : File) : Type 0 where
  pub stays : (n : ℕ) → n < (first + 1) * slots_in size → Stays size n before after
  pub empty : (g : ℕ) → first < g → g ≤ last → page_in size (bytes_of after) (alloc_place size g) ≡ replicate size 0
  pub whole : (g : ℕ) → first < g → g ≤ last → (alloc_place size g + 1) * size ≤ length (bytes_of after)

-- the page is the allocation page of group g of these entries
abbrev pub IsOfGroup : (size : ℕ) (entries : List ℕ) (g : ℕ) (page : List ℕ) → Type 0
IsOfGroup size entries g page = IsAllocation size page entries g (min (slots_in size) (length entries - g * slots_in size))

-- of the groups from `first` on and before `end` some allocation pages are written, and the other pages are as they were
pub record NotesSome (size : ℕ) (entries : List ℕ) (first end : ℕ) (before after : File) : Type 0 where
  pub each : (g : ℕ) → first ≤ g → g < end
      → (page_in size (bytes_of after) (alloc_place size g) ≡ page_in size (bytes_of before) (alloc_place size g)) ⊎ IsOfGroup size entries g (page_in size (bytes_of after) (alloc_place size g))
  pub others : (g : ℕ) → (g < first) ⊎ (end ≤ g) → page_in size (bytes_of after) (alloc_place size g) ≡ page_in size (bytes_of before) (alloc_place size g)
  pub slots : (k : ℕ) → slot_page size after k ≡ slot_page size before k
  pub there : before ≡ Some (bytes_of before) → after ≡ Some (bytes_of after)
  pub no_shorter : length (bytes_of before) ≤ length (bytes_of after)

-- and all of them
pub record NotesAll (size : ℕ) (entries : List ℕ) (first end : ℕ) (before after : File) : Type 0 where
  pub some : NotesSome size entries first end before after
  pub all : (g : ℕ) → first ≤ g → g < end → IsOfGroup size entries g (page_in size (bytes_of after) (alloc_place size g))
