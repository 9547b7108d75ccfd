use Rattle.nb_catalog.proofs.TurnLaws.{keeps_chains}
use Rattle.nb_catalog.proofs.laws.a_plan_keeps_its_chains.Goals as goal

pub returns : goal.returns
returns c = λ files names keep plan is. keeps_chains files names keep plan is
