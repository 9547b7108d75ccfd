-- What a run does of what words ask for: a ship part by part, and all else in one record.
use Rattle.std.specs.Prelude.{Bool, Result}
use Rattle.nb_host.specs.World.{World}
use Rattle.nb_host.specs.declared.faults.RunError.{RunError}
use Rattle.nb_ended.specs.declared.status.Status.{Status}
use Rattle.nb_top.specs.Done.{EndsSo, GoesOn}
use Rattle.nb_top.specs.Requests.{Asked, Runs, Does, Ships}
use Rattle.nb_top.specs.Shipped.{ShipEnds, ShipGoes}

-- what is done within a run
abbrev pub Goes : {H : Type 0} → (world : H → World) → (tells : Bool) → (result : Result Status RunError) → (old new : H) → Asked → Type 0
Goes world tells result old new (Runs asked) = GoesOn world tells result old new (Runs asked)
Goes world tells result old new (Does deed) = GoesOn world tells result old new (Does deed)
Goes world tells result old new (Ships primary standby) = ShipGoes world tells result old new primary standby

-- what a run does that ends so
abbrev pub IsRun : {H : Type 0} → (world : H → World) → (tells : Bool) → (status : Status) → (old new : H) → Asked → Type 0
IsRun world tells status old new (Runs asked) = EndsSo world tells status old new (Runs asked)
IsRun world tells status old new (Does deed) = EndsSo world tells status old new (Does deed)
IsRun world tells status old new (Ships primary standby) = ShipEnds world tells status old new primary standby
