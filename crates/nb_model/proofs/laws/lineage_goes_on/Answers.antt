use Rattle.nb_model.proofs.FollowsLaws.{follows_on}
use Rattle.nb_model.proofs.laws.lineage_goes_on.Goals as goal

pub returns : goal.returns
returns c = λ a b c s t f g le. follows_on f g le
