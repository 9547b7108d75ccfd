use Rattle.nb_model.proofs.WellTrailLaws.{left_well}
use Rattle.nb_model.proofs.OpenedLaws.{stood_trail}
use Rattle.nb_model.proofs.laws.well_trails_leave_well_databases.Goals as goal

pub returns-clause-left : goal.returns-clause-left
returns-clause-left c = left_well

pub returns-clause-again : goal.returns-clause-again
returns-clause-again c = stood_trail
