use Rattle.nb_inplace.proofs.AgainLaws.{half_goes_on}
use Rattle.nb_inplace.proofs.HalfLaws.{half_gives}
use Rattle.nb_inplace.proofs.laws.a_stopped_merge_is_finished.Goals as goal

pub returns : goal.returns
returns c old files standby name bytes half contents mergeable is here same =
    (half_goes_on old files standby name bytes half contents mergeable is here same, half_gives old standby name bytes contents mergeable half is)
