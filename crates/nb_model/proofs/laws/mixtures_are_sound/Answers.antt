use Rattle.nb_model.proofs.EarlierLaws.{left_sound}
use Rattle.nb_model.proofs.laws.mixtures_are_sound.Goals as goal

pub returns : goal.returns
returns c = left_sound
