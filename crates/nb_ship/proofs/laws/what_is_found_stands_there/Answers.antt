use Rattle.nb_ship.proofs.FindsLaws.{what_is_found}
use Rattle.nb_ship.proofs.laws.what_is_found_stands_there.Goals as goal

pub returns : goal.returns
returns c = what_is_found
