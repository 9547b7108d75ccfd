use Rattle.nb_top.proofs.ShipOnward.{copy_is_done}
use Rattle.nb_top.proofs.laws.a_copy_is_refused_nothing.Goals as goal

pub returns : goal.returns
returns g c = λ told primary standby since status account base fits given names stands shows normal writable neat room named free goes device memory.
    copy_is_done g.H.Host.world g.H.Host.tells told g.met.H.Host.timely (λ host. g.met.H.Host.reads_left host told) primary standby fits given since c.args._before.now c.args._behind.now status goes account stands names base shows normal writable neat room named free device memory
