use Rattle.nb_inplace.proofs.StandbyWell.{merged_well}
use Rattle.nb_inplace.proofs.laws.what_is_merged_is_well.Goals as goal

pub returns : goal.returns
returns c = merged_well
