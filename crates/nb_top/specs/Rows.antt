-- A page that a database has only since a turn of a run, such as the one in which the close of a backup has written the row of its level.
use Rattle.std.specs.Prelude.{◌≡◌, ◌≢◌, ℕ, ◌<◌, ◌≤◌, List, length, take, Ok}
use Rattle.nb_host.specs.Files.{File}
use Rattle.nb_host.specs.World.{World}
use Rattle.nb_host.specs.Crash.{Leaves}
use Rattle.nb_model.specs.Account.{Base, Account}
use Rattle.nb_model.specs.Image.{Page, page_at}
use Rattle.nb_model.specs.Owner.{delta_name, owner}
use Rattle.nb_model.specs.Run.{Event}
use Rattle.nb_model.specs.Steps.{steps_of}
use Rattle.nb_model.specs.Trail.{HasPage, bases_of}
use Rattle.nb_top.specs.Performed.{seen_after}

-- No database that was seen while these turns made their steps has the page there, nor one that a crash would have left before the run.
pub record IsNewPage (old : World) (account : Account) (name : List ℕ) (before : List Event) (p : ℕ) (page : Page) : Type 0 where
  pub unseen : (count : ℕ) → count ≤ length (steps_of before) → HasPage (bases_of (seen_after account name (take count (steps_of before)))) p page → ⊥
  pub unleft : (m d : File) (b : Base) → Leaves old name m → Leaves old (delta_name name) d → owner name m d ≡ Ok b → p < length b.image → page_at b.image p ≢ page
