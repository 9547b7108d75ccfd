use Rattle.nb_model.proofs.AckedLaws.{acked_most}
use Rattle.nb_model.proofs.laws.acknowledged_never_falls.Goals as goal

pub returns : goal.returns
returns c = acked_most
