-- What a call did that failed, though no cause applies.
use Rattle.std.proofs.Common.{List, [], Err, Some, None}
use Rattle.nb_check.proofs.Common.{World, Fault, Cause, Stroke, Trail, unless_by, Makes, Held, IsNoRefusal, makes_front}

pub made_anyway : (fault : Fault) (old new : World) (a b : Held) (t : Trail) (cause : Cause) (xs : List Stroke) → IsNoRefusal fault → Makes {T = Unit {0}} (Err fault) old new a b t (unless_by cause xs) → Makes {T = Unit {0}} (Err fault) old new a b t xs
made_anyway fault old new a b t None xs sure makes = makes
made_anyway fault old new a b t (Some r) xs sure makes = makes_front (Unit {0}) (Unit {0}) fault old new a b t [] xs sure makes
