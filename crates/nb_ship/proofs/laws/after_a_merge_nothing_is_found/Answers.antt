use Rattle.nb_ship.proofs.MergedLaws.{nothing_found}
use Rattle.nb_ship.proofs.laws.after_a_merge_nothing_is_found.Goals as goal

pub returns : goal.returns
returns c = nothing_found
