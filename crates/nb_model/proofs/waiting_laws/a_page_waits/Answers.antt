use Rattle.nb_model.proofs.WayLaws.{behind_itself, wait_behind, wait_unsettled}
use Rattle.nb_model.proofs.waiting_laws.a_page_waits.Goals as goal

pub returns-clause-itself : goal.returns-clause-itself
returns-clause-itself c = behind_itself

pub returns-clause-one : goal.returns-clause-one
returns-clause-one c = wait_behind

pub returns-clause-unsettled : goal.returns-clause-unsettled
returns-clause-unsettled c = wait_unsettled
