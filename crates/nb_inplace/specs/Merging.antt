-- The file of a standby while a level file is merged into it.
use Rattle.std.specs.Prelude.{◌≡◌, ◌⊎◌, ℕ, ◌+◌, ◌*◌, ◌≤◌, List, [], ◌∷◌, length, max, Bool, true, false, Some}
use Rattle.nb_fields.specs.Places.{most_pages}
use Rattle.nb_host.specs.Files.{File, with_page}
use Rattle.nb_host.specs.World.{World}
use Rattle.nb_model.specs.Image.{Page, Image, Numbered, trimmed, overwritten}
use Rattle.nb_model.specs.Levels.{joined}
use Rattle.nb_model.specs.Sound.{IsOfSize}
use Rattle.nb_model.specs.Strokes.{as_standby}
use Rattle.nb_restore.specs.Target.{IsWhole, KeepsWhole}
use Rattle.nb_inplace.specs.Half.{IsBetween}

-- In the place of page 0 stands `first`, and after it each page as it was in `before`, or the record's of that number.
pub record IsHalfFile (size : ℕ) (records : List Numbered) (before : Image) (first : Page) (file : File) : Type 0 where
  pub pages : Image
  pub reads : file ≡ Some (joined (first ∷ pages))
  pub sizes : IsOfSize size (first ∷ pages)
  pub least : 5 ≤ length (first ∷ pages)
  pub most : length (first ∷ pages) ≤ most_pages
  pub between : IsBetween size records before (first ∷ pages)

-- it stays so
abbrev pub KeepsHalf : (size : ℕ) (records : List Numbered) → (before after : File) → Type 0
KeepsHalf size records before after = (image : Image) (first : Page) → IsHalfFile size records image first before → IsHalfFile size records image first after

-- the image that the records give, written over these pages
abbrev pub merged_pages : (size : ℕ) (records : List Numbered) → List Page → Image
merged_pages size records pages = as_standby (trimmed (overwritten size records pages))

-- the file is these pages with the records written over, in the normal state, read-only and with nothing pending, and nothing stands past them
abbrev pub IsMergedFile : (size : ℕ) (records : List Numbered) (before : List Page) → File → Type 0
IsMergedFile size records before = IsWhole as_standby (overwritten size records before)

-- the file is half merged, or merged
abbrev pub IsHalfOr : (size : ℕ) (records : List Numbered) (before : List Page) (first : Page) → File → Type 0
IsHalfOr size records before first file = IsHalfFile size records before first file ⊎ IsMergedFile size records before file

-- it is merged for good, and its image has so many pages
abbrev pub KeepsMerged : World → (standby : List ℕ) (size : ℕ) (records : List Numbered) (before : List Page) (count : ℕ) → Type 0
KeepsMerged w standby size records before count = KeepsWhole w standby (IsMergedFile size records before) × (count ≡ length (merged_pages size records before))

-- what stands in the file once a merge was begun: where it was before, nothing is written
abbrev pub begun_file : (is_begun : Bool) → File → (first : Page) → File
begun_file is_begun file first = elim is_begun [ true ↦ file | false ↦ with_page file (0 * length first) first ]

-- how many pages a file has that had so many, with these written into it
abbrev pub pages_with : List Numbered → ℕ → ℕ
pages_with [] count = count
pages_with (r ∷ rs) count = pages_with rs (max count (r.0 + 1))
