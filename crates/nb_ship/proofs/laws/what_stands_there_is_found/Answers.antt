use Rattle.nb_ship.proofs.FindsLaws.{what_stands_is_found}
use Rattle.nb_ship.proofs.laws.what_stands_there_is_found.Goals as goal

pub returns : goal.returns
returns c = what_stands_is_found
