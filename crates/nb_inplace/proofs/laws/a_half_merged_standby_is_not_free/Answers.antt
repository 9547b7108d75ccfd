use Rattle.nb_inplace.proofs.ClosedLaws.{half_in_use}
use Rattle.nb_inplace.proofs.laws.a_half_merged_standby_is_not_free.Goals as goal

pub returns : goal.returns
returns c files standby name bytes half contents mergeable is some = half_in_use files standby name bytes contents mergeable half is some
