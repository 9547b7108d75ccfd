use Rattle.nb_ship.proofs.FrameLaws.{look_same}
use Rattle.nb_ship.proofs.laws.a_look_goes_by_three_files.Goals as goal

pub returns : goal.returns
returns c files others standby here same beside = look_same files others standby same beside here
