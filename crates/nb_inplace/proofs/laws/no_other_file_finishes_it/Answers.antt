use Rattle.nb_inplace.proofs.AgainLaws.{half_refuses}
use Rattle.nb_inplace.proofs.laws.no_other_file_finishes_it.Goals as goal

pub returns : goal.returns
returns c old files standby name other bytes half level contents d mergeable is here = half_refuses old files standby name bytes half contents mergeable is here other level d
