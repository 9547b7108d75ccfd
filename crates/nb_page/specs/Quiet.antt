-- A run of calls that changes nothing and says nothing.
use Rattle.std.specs.Prelude.{◌≡◌}
use Rattle.nb_host.specs.World.{World}
use Rattle.nb_host.specs.Calls.{IsStill}
use Rattle.nb_host.specs.Moments.{IsNow, AtEachMoment}

-- The files stay, nothing was said or given, and at each moment a crash leaves what it would have left before.
-- Reads are not counted here.
pub record Quiet (old new : World) : Type 0 where
  pub still : IsStill old new
  pub said : new.said ≡ old.said
  pub guids : new.guids ≡ old.guids
  pub times : new.times ≡ old.times
  pub moments : AtEachMoment old new (IsNow old)
