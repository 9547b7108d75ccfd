use Rattle.nb_model.proofs.LineageLaws.{goes_on_mixed}
use Rattle.nb_model.proofs.laws.mixtures_keep_lineage.Goals as goal

pub returns : goal.returns
returns c = λ bases now image r mixed there sound all. goes_on_mixed bases now image mixed there sound r all
