use Rattle.nb_model.proofs.LevelLaws.{level_once}
use Rattle.nb_model.proofs.laws.bytes_spell_one_level.Goals as goal

pub returns : goal.returns
returns c = level_once
