-- The control block of a main file, and what a crash leaves while it is written.
use Rattle.std.specs.Prelude.{◌≡◌, ◌⊎◌, ℕ, zero, suc, ◌+◌, ◌<◌, List, Option, Some, None}
use Rattle.nb_fields.specs.States.{stalled_state}
use Rattle.nb_host.specs.Files.{File, Files}
use Rattle.nb_host.specs.World.{World}
use Rattle.nb_host.specs.Crash.{Leaves}
use Rattle.nb_model.specs.Image.{Image, image_in, image_scn, image_guid}
use Rattle.nb_model.specs.Causes.{not_database}
use Rattle.nb_model.specs.Strokes.{with_control}

-- the SCN that goes with a new state: one higher, but for the normal state
abbrev pub next_scn : (state scn : ℕ) → ℕ
next_scn zero scn = scn
next_scn (suc state) scn = scn + 1

-- the GUID: the new one where there is one
abbrev pub next_guid : Option (List ℕ) → List ℕ → List ℕ
next_guid None guid = guid
next_guid (Some new) guid = new

-- the image in a new state
abbrev pub in_state : (state : ℕ) → Option (List ℕ) → Image → Image
in_state state guid image = with_control state (next_scn state (image_scn image)) (next_guid guid (image_guid image)) image

-- the SCN has room for the new state: in the stalled state it isn't the greatest
pub record HasRoom (state scn : ℕ) : Type 0 where
  pub stalled : state ≡ stalled_state → scn < 4294967294
  pub other : 0 < state → scn < 4294967295

-- the file is there, has the form of a main file, and holds this image
pub record HasImage (image : Image) (file : File) : Type 0 where
  pub bytes : List ℕ
  pub there : file ≡ Some bytes
  pub formed : not_database bytes ≡ None
  pub is : image_in bytes ≡ image

-- whatever a crash now leaves of the file has this image, and so has what reads
pub record IsImageOf (w : World) (name : List ℕ) (image : Image) : Type 0 where
  pub left : (m : File) → Leaves w name m → HasImage image m
  pub reads : HasImage image (w.files name)

-- while page 0 is written: the image as it was, or in the new state
abbrev pub ControlLeft : (name : List ℕ) (before after : Image) → Files → Type 0
ControlLeft name before after files = HasImage before (files name) ⊎ HasImage after (files name)
