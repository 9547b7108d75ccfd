use Rattle.nb_top.proofs.CountedGuids.{counted_new}
use Rattle.nb_top.proofs.laws.counted_guids_are_new.Goals as goal

pub returns : goal.returns
returns g c = λ files kept count more small starts given none. counted_new (g.H.Host.world c.args._host.now) files kept count more small starts given none
