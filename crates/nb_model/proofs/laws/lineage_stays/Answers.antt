use Rattle.nb_model.proofs.FollowsLaws.{follows_set, follows_add}
use Rattle.nb_model.proofs.laws.lineage_stays.Goals as goal

pub returns-clause-over : goal.returns-clause-over
returns-clause-over c = λ a b s p page f h high size. follows_set p page f h high size

pub returns-clause-added : goal.returns-clause-added
returns-clause-added c = λ a b s page f some high. follows_add page f some high
