use Rattle.nb_model.proofs.CoveredLaws.{firm_covered, firm_left}
use Rattle.nb_model.proofs.TrailLaws.{itself_firm}
use Rattle.nb_model.proofs.waiting_laws.firm_is_covered.Goals as goal

pub returns-clause-covered : goal.returns-clause-covered
returns-clause-covered c = firm_covered

pub returns-clause-left : goal.returns-clause-left
returns-clause-left c = firm_left

pub returns-clause-itself : goal.returns-clause-itself
returns-clause-itself c = itself_firm
