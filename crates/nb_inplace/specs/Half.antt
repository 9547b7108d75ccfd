-- A standby half way through a merge.
use Rattle.std.specs.Prelude.{◌≡◌, ◌⊎◌, ℕ, ◌≤◌, List, None, Contains}
use Rattle.nb_fields.specs.Bytes.{bytes_of, with_part}
use Rattle.nb_fields.specs.Header.{size_of}
use Rattle.nb_model.specs.Causes.{not_database}
use Rattle.nb_model.specs.Image.{Page, Image, Numbered, first_page, image_in}
use Rattle.nb_model.specs.Levels.{Contents}
use Rattle.nb_model.specs.Owner.{main_page}

-- page 0 in the applying state, with that GUID pending, and nothing else changed
abbrev pub applying_page : (guid : List ℕ) → Page → Page
applying_page guid page = with_part 22 (bytes_of 2 3) (with_part 48 guid page)

-- After page 0 each page is the one that stood there, or the record's of that number. Past its end an image has zeros.
abbrev pub IsBetween : (size : ℕ) (records : List Numbered) (before after : Image) → Type 0
IsBetween size records before after = (p : ℕ) → 1 ≤ p → (main_page size after p ≡ main_page size before p) ⊎ Contains records (p, main_page size after p)

-- The merge of a level file into a standby of these bytes was begun, and some of its records may be written.
pub record IsHalf (bytes : List ℕ) (c : Contents) (half : List ℕ) : Type 0 where
  pub formed : not_database half ≡ None
  pub first : first_page (image_in half) ≡ applying_page c.head.guid (first_page (image_in bytes))
  pub pages : IsBetween (size_of bytes) c.pages (image_in bytes) (image_in half)
