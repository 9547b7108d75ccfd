-- What is seen of the two files, without what is held of them.
use Rattle.std.specs.Prelude.{◌≡◌, ℕ, ◌<◌, ◌==◌, List, length, true, false}
use Rattle.nb_fields.specs.Bytes.{is_zeros}
use Rattle.nb_fields.specs.Places.{most_pages}
use Rattle.nb_fields.specs.States.{stalled_state}
use Rattle.nb_host.specs.Files.{Files}
use Rattle.nb_host.specs.World.{World}
use Rattle.nb_host.specs.Crash.{LeavesAll}
use Rattle.nb_model.specs.Image.{Page, image_size}
use Rattle.nb_model.specs.Strokes.{noted}
use Rattle.nb_model.specs.Trail.{Trail, ShowsIn}
use Rattle.nb_base.specs.Firm.{StandsFirm}
use Rattle.nb_base.specs.Open.{Fits}

-- whatever a crash now leaves is what may be left of what was seen, and what reads is what was seen last
pub record IsSeen (w : World) (name : List ℕ) (t : Trail) : Type 0 where
  pub left : (files : Files) → LeavesAll w files → StandsFirm name t files
  pub shows : ShowsIn name t.base w.files

-- a page that is written
pub record IsWrite (t : Trail) (p : ℕ) (bytes : Page) : Type 0 where
  pub fits : Fits p bytes t.base.image
  pub long : length bytes ≡ image_size t.base.image
  pub below : p < most_pages
  pub other : is_zeros bytes ≡ false

-- the entries after a page write in that state: in the stalled state the page has one
abbrev pub noted_in : (state p : ℕ) → List ℕ → List ℕ
noted_in state p entries = elim (state == stalled_state) [ true ↦ noted p entries | false ↦ entries ]
