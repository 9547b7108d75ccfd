-- What a standby is, as a merge finds it.
use Rattle.std.specs.Prelude.{◌≡◌, ℕ, ◌*◌, ◌≤◌, List, length, ◌==◌}
use Rattle.nb_fields.specs.Header.{state_of}
use Rattle.nb_fields.specs.Places.{most_pages}
use Rattle.nb_fields.specs.States.{applying_state}
use Rattle.nb_page.specs.Header.{header_in, HasForm}
use Rattle.nb_model.specs.Image.{image_in, is_read_only}
use Rattle.nb_inplace.specs.declared.standby.Standby.{Standby}

-- it is that of these bytes
pub record IsStandby (bytes : List ℕ) (s : Standby) : Type 0 where
  pub header : s.header ≡ header_in bytes
  pub read_only : s.is_read_only ≡ is_read_only (image_in bytes)
  pub begun : s.is_begun ≡ (state_of bytes == applying_state)
  pub pages : length bytes ≡ s.pages * s.header.page_size

-- its header has the form, and its pages are as many as a database may have
pub record IsWholeStandby (s : Standby) : Type 0 where
  pub form : HasForm s.header
  pub least : 5 ≤ s.pages
  pub most : s.pages ≤ most_pages
