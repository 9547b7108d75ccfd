use Rattle.nb_top.proofs.FrozenStays.{stays_within}
use Rattle.nb_top.proofs.laws.a_frozen_file_stays.Goals as goal

pub returns : goal.returns
returns g c = λ told front stretch rest t now turns during. stays_within g.H.Host.world g.met.H.Host.timely told front stretch rest c.args._before.now c.args._behind.now t now turns during
