use Rattle.nb_model.proofs.FollowsLaws.{follows_overwritten}
use Rattle.nb_model.proofs.laws.lineage_restores.Goals as goal

pub returns : goal.returns
returns c = λ size s a b f. follows_overwritten size f
