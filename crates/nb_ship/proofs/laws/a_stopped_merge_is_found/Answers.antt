use Rattle.nb_ship.proofs.MergedLaws.{stopped_found}
use Rattle.nb_ship.proofs.laws.a_stopped_merge_is_found.Goals as goal

pub returns : goal.returns
returns c old files standby bytes half contents mergeable is here same = stopped_found old files standby bytes contents mergeable half is here same
