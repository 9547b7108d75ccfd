use Rattle.nb_model.proofs.LevelLaws.{level_read}
use Rattle.nb_model.proofs.laws.a_level_is_read_back.Goals as goal

pub returns : goal.returns
returns c = level_read
