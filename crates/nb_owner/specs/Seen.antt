-- What is seen of an open database: its two files, with each page that waits written over them.
use Rattle.std.specs.Prelude.{◌≡◌, ℕ, List, [], ◌∷◌, length, None, Some}
use Rattle.nb_host.specs.World.{World}
use Rattle.nb_model.specs.Image.{Numbered}
use Rattle.nb_model.specs.Account.{Base}
use Rattle.nb_model.specs.Trail.{ShowsIn}
use Rattle.nb_model.specs.Waiting.{seen}
use Rattle.nb_owner.specs.Open.{Pages, Held}

-- the pages that wait, with their numbers
abbrev pub waiting_in : Pages → List Numbered
waiting_in [] = []
waiting_in (e ∷ es) = elim e.1.rank [ None ↦ waiting_in es | Some rank ↦ (e.0, e.1.bytes) ∷ waiting_in es ]

-- The database is that of the two files as they read, with the waiting pages written over, and with the entries that are drafted after those
-- of the files' table.
pub record IsSeenOver (w : World) (held : Held) (b : Base) : Type 0 where
  pub files : Base
  pub shows : ShowsIn held.files.name files w.files
  pub drafts : List ℕ
  pub many : length drafts ≡ held.files.drafted
  pub is : b ≡ seen files (waiting_in held.pages) drafts
