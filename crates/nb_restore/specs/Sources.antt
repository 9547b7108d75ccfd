-- The files of a chain, as they are read again once it is accepted.
use Rattle.std.specs.Prelude.{◌≡◌, ◌≢◌, ℕ, ◌≤◌, List, [], ◌∷◌, length, Some, Ok, true}
use Rattle.nb_fields.specs.Header.{is_header, size_of}
use Rattle.nb_fields.specs.Places.{most_pages}
use Rattle.nb_host.specs.Files.{Files, bytes_of}
use Rattle.nb_model.specs.Image.{Page, Numbered, first_page}
use Rattle.nb_model.specs.Levels.{Contents, joined, read_level}
use Rattle.nb_model.specs.Sound.{IsOfSize}
use Rattle.nb_model.specs.Restoring.{Link}
use Rattle.nb_level.specs.Reading.{Reading, still_to_come}

-- a page that is page 0 has a header, which names that page size
abbrev pub IsHeaded : (size : ℕ) → Numbered → Type 0
IsHeaded size r = r.0 ≡ 0 → (is_header r.1 ≡ true) × (size_of r.1 ≡ size)

abbrev pub AreHeaded : (size : ℕ) → List Numbered → Type 0
AreHeaded size [] = Unit {0}
AreHeaded size (r ∷ rs) = IsHeaded size r × AreHeaded size rs

-- level 0: so many whole pages, the first of which has a header
pub record IsLevel0 (files : Files) (target name : List ℕ) (size count : ℕ) (pages : List Page) : Type 0 where
  pub apart : name ≢ target
  pub there : files name ≡ Some (joined pages)
  pub long : length pages ≡ count
  pub sizes : IsOfSize size pages
  pub least : 5 ≤ count
  pub most : count ≤ most_pages
  pub header : is_header (first_page pages) ≡ true
  pub same : size_of (first_page pages) ≡ size

-- the level file that a link was read from
pub record IsSource (files : Files) (target name : List ℕ) (size : ℕ) (link : Link) : Type 0 where
  pub apart : name ≢ target
  pub bytes : List ℕ
  pub there : files name ≡ Some bytes
  pub contents : Contents
  pub read : read_level bytes ≡ Ok contents
  pub pages : link.pages ≡ contents.pages
  pub sized : link.size ≡ size
  pub same : contents.head.size ≡ size

abbrev pub AreSources : Files → (target : List ℕ) (names : List (List ℕ)) (size : ℕ) → List Link → Type 0
AreSources files target [] size [] = Unit {0}
AreSources files target [] size (l ∷ ls) = ⊥
AreSources files target (n ∷ ns) size [] = ⊥
AreSources files target (n ∷ ns) size (l ∷ ls) = IsSource files target n size l × AreSources files target ns size ls

-- all pages of a link are still to come of a reader
pub record IsReady (files : Files) (target : List ℕ) (size : ℕ) (link : Link) (reader : Reading) : Type 0 where
  pub apart : reader.name ≢ target
  pub pages : still_to_come (bytes_of (files reader.name)) reader ≡ Ok link.pages
  pub sized : link.size ≡ size
  pub headed : AreHeaded size link.pages

abbrev pub AreReady : Files → (target : List ℕ) (size : ℕ) → List Link → List Reading → Type 0
AreReady files target size [] [] = Unit {0}
AreReady files target size [] (r ∷ rs) = ⊥
AreReady files target size (l ∷ ls) [] = ⊥
AreReady files target size (l ∷ ls) (r ∷ rs) = IsReady files target size l r × AreReady files target size ls rs

-- each reader fills in pages of that size
abbrev pub AreOfPages : (size : ℕ) → List Reading → Type 0
AreOfPages size [] = Unit {0}
AreOfPages size (r ∷ rs) = (r.head.page_size ≡ size) × AreOfPages size rs
