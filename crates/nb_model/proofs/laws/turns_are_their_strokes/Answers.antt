use Rattle.nb_model.proofs.RunLaws.{play_is}
use Rattle.nb_model.proofs.laws.turns_are_their_strokes.Goals as goal

pub returns : goal.returns
returns c = play_is
