-- What the outside gave between two moments: GUIDs and clock values.
use Rattle.std.specs.Prelude.{◌≡◌, ℕ, List, ◌++◌}
use Rattle.nb_host.specs.World.{World}

-- these, in order
pub record Gave (old new : World) (ids : List (List ℕ)) (clock : List ℕ) : Type 0 where
  pub guids : new.guids ≡ old.guids ++ ids
  pub times : new.times ≡ old.times ++ clock

-- nothing
pub record GaveNothing (old new : World) : Type 0 where
  pub guids : new.guids ≡ old.guids
  pub times : new.times ≡ old.times
