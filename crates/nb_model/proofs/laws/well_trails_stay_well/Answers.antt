use Rattle.nb_model.proofs.WellTrailLaws.{pages_keep_trail, settling_well}
use Rattle.nb_model.proofs.laws.well_trails_stay_well.Goals as goal

pub returns-clause-pages : goal.returns-clause-pages
returns-clause-pages c = λ kept statement s session t k on named is w. pages_keep_trail kept statement on named s session t is w k

pub returns-clause-settled : goal.returns-clause-settled
returns-clause-settled c = settling_well
