-- A file that is made with all pages of a frozen image.
use Rattle.std.specs.Prelude.{◌≡◌, ℕ, zero, suc, ◌≤◌, List, [], ◌∷◌, length, take, drop, replicate, Some, IsTrue}
use Rattle.nb_fields.specs.Places.{is_page_size, most_pages}
use Rattle.nb_host.specs.Files.{File}
use Rattle.nb_host.specs.World.{World}
use Rattle.nb_model.specs.Image.{Page, Image, first_page}
use Rattle.nb_model.specs.Levels.{joined}
use Rattle.nb_model.specs.Sound.{IsOfSize}
use Rattle.nb_gather.specs.Making.{IsBlank}

-- What a contract sees of such a copier: its file, the size of a page, how many pages the frozen image has, which one the next turn
-- deals with, and page 0, which waits from the first turn on.
pub record Copying : Type 0 where
  pub name : List ℕ
  pub size : ℕ
  pub count : ℕ
  pub next : ℕ
  pub first : Page

-- The pages of the file before its page 0 is written, after so many turns: none, and from page 1 on zeros in the place of page 0.
unfoldable pub front_pages : (size turns : ℕ) → Image → List Page
front_pages size zero image = []
front_pages size (suc zero) image = []
front_pages size (suc (suc k)) image = replicate size 0 ∷ take (suc k) (drop 1 image)

-- it copies this image
pub record IsOf (copy : Copying) (frozen : Image) : Type 0 where
  pub long : length frozen ≡ copy.count
  pub least : 1 ≤ length frozen
  pub most : length frozen ≤ most_pages
  pub sizes : IsOfSize copy.size frozen

-- Its file was made: it reads as the front of what is to be written, and whatever was made since, page 0 isn't in it.
pub record IsBegun (w : World) (copy : Copying) (frozen : Image) : Type 0 where
  pub first : 1 ≤ copy.next → copy.first ≡ first_page frozen
  pub reads : w.files copy.name ≡ Some (joined (front_pages copy.size copy.next frozen))
  pub blank : (c : File) → w.now copy.name c → IsBlank c

-- A copy of this image goes on: so many of its pages were dealt with, and each of those from page 1 on stands at its place in the file.
-- Before the first turn the file is empty.
pub record IsCopying (w : World) (copy : Copying) (frozen : Image) : Type 0 where
  pub of : IsOf copy frozen
  pub begun : IsBegun w copy frozen

-- what holds of the fields of every copier
pub record IsCopier (size count next first page : ℕ) : Type 0 where
  pub is_size : IsTrue (is_page_size size)
  pub room : page ≡ size
  pub held : first ≡ size
  pub most : count ≤ most_pages
  pub within : next ≤ count
