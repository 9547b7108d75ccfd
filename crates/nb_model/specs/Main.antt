-- A main file in the normal state.
use Rattle.std.specs.Prelude.{◌≡◌, ℕ, List, Some, None}
use Rattle.nb_fields.specs.Header.{state_of}
use Rattle.nb_fields.specs.States.{normal_state}
use Rattle.nb_host.specs.Files.{File}
use Rattle.nb_model.specs.Image.{Image, image_in}
use Rattle.nb_model.specs.Causes.{not_database}

-- the file holds this image, and its header is in the normal state
pub record HoldsMain (image : Image) (file : File) : Type 0 where
  pub bytes : List ℕ
  pub there : file ≡ Some bytes
  pub formed : not_database bytes ≡ None
  pub normal : state_of bytes ≡ normal_state
  pub is : image_in bytes ≡ image
