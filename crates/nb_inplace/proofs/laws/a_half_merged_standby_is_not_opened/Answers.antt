use Rattle.nb_inplace.proofs.ClosedLaws.{half_closed}
use Rattle.nb_inplace.proofs.laws.a_half_merged_standby_is_not_opened.Goals as goal

pub returns : goal.returns
returns c files standby name bytes half contents delta mergeable is = half_closed files standby name bytes contents mergeable half is delta
