-- A database after the begin of a backup.
use Rattle.std.proofs.Common.{◌≡◌, ℕ, ◌+◌, List, [], ◌∷◌, length, refl, sym, ap, ◌∙◌, arith, true, Option, Err}
use Rattle.nb_copy.proofs.Common.{is_header, guid_of, state_of, size_of, stalled_state, World, Fault, Device, Memory, LevelHead, Ask, Base, first_page, image_size, image_state, image_scn, image_guid, begin, on_base, with_control, Trail, header-long, some_page, after_strokes, Held, Starts, BeginsFor}
use Rattle.nb_host.specs.declared.faults.Fault.TheVariants.{Refused}
use Rattle.nb_model.proofs.ControlLaws.{control_guid, control_size, control_state}
use Rattle.nb_model.proofs.TrailLaws.{trail_base}
use Rattle.nb_base.proofs.ControlLaws.{with_control-first}
use Rattle.nb_model.proofs.ControlSound.{control_long}

begun_base : (b : Base) (guid : List ℕ) (ask : Option Ask) → ◌≡◌ {A = Base} (on_base (begin guid ask) b) (record { image = with_control stalled_state (image_scn b.image + 1) guid b.image; frozen = with_control stalled_state (image_scn b.image + 1) guid b.image; diverted = [] })
unfolding on_base
begun_base b guid ask = refl

module _ (t : Trail) (guid : List ℕ) (ask : Option Ask) where
  abbrev begun : Base
  begun = (after_strokes t (begin guid ask ∷ [])).base

  begun_is : ◌≡◌ {A = Base} begun (record { image = with_control stalled_state (image_scn t.base.image + 1) guid t.base.image; frozen = with_control stalled_state (image_scn t.base.image + 1) guid t.base.image; diverted = [] })
  begun_is = trail_base (begin guid ask) t ∙ begun_base t.base guid ask

  pub begun_image : begun.image ≡ with_control stalled_state (image_scn t.base.image + 1) guid t.base.image
  begun_image = ap (λ (b : Base). b.image) begun_is

  -- the image is what is frozen
  pub begun_frozen : begun.frozen ≡ begun.image
  begun_frozen = ap (λ (b : Base). b.frozen) begun_is ∙ sym begun_image

  pub begun_long : length begun.image ≡ length t.base.image
  begun_long = ap length begun_image ∙ control_long 1 (image_scn t.base.image + 1) guid t.base.image

  module _ (header : is_header (first_page t.base.image) ≡ true) (sixteen : length guid ≡ 16) where
    first : first_page begun.image ≡ first_page (with_control stalled_state (image_scn t.base.image + 1) guid t.base.image)
    first = ap first_page begun_image

    pub begun_guid : image_guid begun.image ≡ guid
    begun_guid =
        ap guid_of (first ∙ with_control-first stalled_state (image_scn t.base.image + 1) guid t.base.image (some_page t.base.image header))
        ∙ control_guid 1 (image_scn t.base.image + 1) guid (first_page t.base.image) (header-long (first_page t.base.image) header) sixteen

    pub begun_state : image_state begun.image ≡ stalled_state
    begun_state =
        ap state_of (first ∙ with_control-first stalled_state (image_scn t.base.image + 1) guid t.base.image (some_page t.base.image header))
        ∙ control_state stalled_state (image_scn t.base.image + 1) guid (first_page t.base.image) (header-long (first_page t.base.image) header) sixteen (omega arith)

    pub begun_size : image_size begun.image ≡ image_size t.base.image
    begun_size =
        ap size_of (first ∙ with_control-first stalled_state (image_scn t.base.image + 1) guid t.base.image (some_page t.base.image header))
        ∙ control_size stalled_state (image_scn t.base.image + 1) guid (first_page t.base.image) (header-long (first_page t.base.image) header) sixteen

-- A begin that failed or was refused.
pub begin_failed : (fault : Fault) (old new : World) (a b : Held) (t : Trail) (guid : List ℕ) (ask : Option Ask) (session : ℕ) (bare : LevelHead) → Starts (Err fault) old new a b t guid ask → BeginsFor (Err fault) old new a b t guid ask session bare
begin_failed (Refused r) old new a b t guid ask session bare is = record { test = is.test; left = is.left; long = is.long; frozen = tt; opened = tt; head = tt; gave = tt; times = is.times; idle = is.idle; running = tt; name = is.name }
begin_failed Device old new a b t guid ask session bare is = record { test = tt; left = is.left; long = is.long; frozen = tt; opened = tt; head = tt; gave = tt; times = is.times; idle = is.idle; running = tt; name = is.name }
begin_failed Memory old new a b t guid ask session bare is = record { test = tt; left = is.left; long = is.long; frozen = tt; opened = tt; head = tt; gave = tt; times = is.times; idle = is.idle; running = tt; name = is.name }
