-- What is known of a merge before it changes the standby.
use Rattle.std.specs.Prelude.{◌≡◌, ◌≢◌, ℕ, ◌≤◌, List, length, Bool, true, Some, Ok, Contains}
use Rattle.nb_fields.specs.Header.{is_header, size_of}
use Rattle.nb_fields.specs.Places.{most_pages}
use Rattle.nb_host.specs.Files.{Files, bytes_of}
use Rattle.nb_model.specs.Image.{Page, Numbered, first_page}
use Rattle.nb_model.specs.Levels.{joined}
use Rattle.nb_model.specs.Sound.{IsOfSize}
use Rattle.nb_level.specs.Reading.{Reading, still_to_come}
use Rattle.nb_restore.specs.Sources.{AreHeaded}
use Rattle.nb_inplace.specs.Half.{applying_page}

-- the file of the standby: so many whole pages, the first of which has a header
pub record IsWholeFile (files : Files) (standby : List ℕ) (size count : ℕ) (pages : List Page) : Type 0 where
  pub there : files standby ≡ Some (joined pages)
  pub long : length pages ≡ count
  pub sizes : IsOfSize size pages
  pub least : 5 ≤ count
  pub most : count ≤ most_pages
  pub header : is_header (first_page pages) ≡ true
  pub same : size_of (first_page pages) ≡ size

-- all records of the level file are still to come of the reader, and page 0 is among them
pub record AreToCome (files : Files) (standby : List ℕ) (size : ℕ) (reader : Reading) (records : List Numbered) : Type 0 where
  pub apart : reader.name ≢ standby
  pub coming : still_to_come (bytes_of (files reader.name)) reader ≡ Ok records
  pub headed : AreHeaded size records
  pub first : (page : Page) × Contains records (0, page)

-- All that a merge goes by: the standby, the reader of the level file, and page 0 in the applying state. It stands there already where the
-- merge was begun.
pub record IsPlan (files : Files) (standby : List ℕ) (size count : ℕ) (is_begun : Bool) (reader : Reading) (first : Page) (guid : List ℕ) (pages : List Page) (records : List Numbered) : Type 0 where
  pub whole : IsWholeFile files standby size count pages
  pub level : AreToCome files standby size reader records
  pub sixteen : length guid ≡ 16
  pub page_0 : first ≡ applying_page guid (first_page pages)
  pub begun : is_begun ≡ true → first ≡ first_page pages
