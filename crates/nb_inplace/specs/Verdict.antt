-- When a level file is merged into a standby.
use Rattle.std.specs.Prelude.{◌≡◌, ℕ, List, Some, Ok}
use Rattle.nb_host.specs.Files.{Files}
use Rattle.nb_model.specs.InPlace.{in_place}
use Rattle.nb_model.specs.Levels.{Contents}

-- these bytes are the standby's, and this is what the level file holds that is merged into them
pub record IsMergeable (files : Files) (standby name bytes : List ℕ) (c : Contents) : Type 0 where
  pub there : files standby ≡ Some bytes
  pub accepted : in_place files standby name ≡ Ok c
