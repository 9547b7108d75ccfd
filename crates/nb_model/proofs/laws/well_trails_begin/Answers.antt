use Rattle.nb_model.proofs.OpenedLaws.{opened_trail}
use Rattle.nb_model.proofs.WellTrailLaws.{fresh_trail}
use Rattle.nb_model.proofs.laws.well_trails_begin.Goals as goal

pub returns-clause-fresh : goal.returns-clause-fresh
returns-clause-fresh c = fresh_trail

pub returns-clause-opened : goal.returns-clause-opened
returns-clause-opened c = opened_trail
