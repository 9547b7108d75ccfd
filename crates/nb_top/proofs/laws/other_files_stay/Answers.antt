use Rattle.nb_top.proofs.AllStay.{others_stay}
use Rattle.nb_top.proofs.laws.other_files_stay.Goals as goal

pub returns : goal.returns
returns g c = λ status words told run.
    others_stay g.H.Host.world g.H.Host.tells told g.met.H.Host.timely (λ host. g.met.H.Host.reads_left host told) status c.args._before.now c.args._behind.now words run
