use Rattle.nb_model.proofs.FollowsLaws.{follows_mixed}
use Rattle.nb_model.proofs.laws.lineage_mixes.Goals as goal

pub returns : goal.returns
returns c = λ a s images c all size mixed. follows_mixed images c all size mixed
