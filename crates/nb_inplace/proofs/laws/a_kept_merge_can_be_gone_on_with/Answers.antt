use Rattle.nb_inplace.proofs.KeptWay.{kept_stopped}
use Rattle.nb_inplace.proofs.laws.a_kept_merge_can_be_gone_on_with.Goals as goal

pub returns : goal.returns
returns c files account standby name bytes half contents r stands merges named is = kept_stopped files account stands standby name bytes contents merges r named half is
