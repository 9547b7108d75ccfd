use Rattle.nb_model.proofs.RunLaws.{play-append}
use Rattle.nb_model.proofs.laws.turns_join.Goals as goal

pub returns : goal.returns
returns c = play-append
