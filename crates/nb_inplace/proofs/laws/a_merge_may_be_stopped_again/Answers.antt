use Rattle.nb_inplace.proofs.HalfLaws.{half_on}
use Rattle.nb_inplace.proofs.laws.a_merge_may_be_stopped_again.Goals as goal

pub returns : goal.returns
returns c files standby name bytes half further contents mergeable is = half_on files standby name bytes contents mergeable half is further
