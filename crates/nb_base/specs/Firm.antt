-- What the two files hold while no SCN page waits for them: its SCN pages are those that were seen last.
use Rattle.std.specs.Prelude.{◌≡◌, ℕ, List, Ok, Bool, ◌||◌, ◌==◌, nat_le, length}
use Rattle.nb_fields.specs.Places.{is_scn_place}
use Rattle.nb_host.specs.Files.{File, Files}
use Rattle.nb_model.specs.Image.{Image, image_size, is_forced}
use Rattle.nb_model.specs.Account.{Base}
use Rattle.nb_model.specs.Owner.{delta_name, owner}
use Rattle.nb_model.specs.Trail.{Trail, IsFirm}

-- its two files can be opened, and hold what may be left so
pub record StandsFirmOn (name : List ℕ) (t : Trail) (m d : File) : Type 0 where
  pub base : Base
  pub opens : owner name m d ≡ Ok base
  pub left : IsFirm t base

abbrev pub StandsFirm : (name : List ℕ) → Trail → Files → Type 0
StandsFirm name t files = StandsFirmOn name t (files name) (files (delta_name name))

-- page 0 or an SCN page
abbrev pub is_kept_place : (size p : ℕ) → Bool
is_kept_place size p = p == 0 || is_scn_place size p

-- A write that goes to the files is synced where writes are forced, where its page is page 0 or an SCN page, and where it makes the
-- database longer.
abbrev pub must_sync : Image → (p : ℕ) → Bool
must_sync image p = is_forced image || is_kept_place (image_size image) p || nat_le (length image) p
