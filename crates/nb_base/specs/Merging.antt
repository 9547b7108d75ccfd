-- What a turn of a merge that isn't the last changes of the files, whatever they hold.
use Rattle.std.specs.Prelude.{◌≡◌, ℕ, ◌*◌, List, length}
use Rattle.nb_host.specs.Files.{Files, with_file, with_page}

-- One page of this size is put into the file of that name, at that number, with zeros before it where the file ended earlier. No other file
-- changes.
pub record PutsPage (old new : Files) (name : List ℕ) (size number : ℕ) : Type 0 where
  pub page : List ℕ
  pub long : length page ≡ size
  pub put : new ≡ with_file old name (with_page (old name) (number * size) page)
