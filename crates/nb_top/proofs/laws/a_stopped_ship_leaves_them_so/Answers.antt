use Rattle.nb_top.proofs.ShipStops.{ship_moments}
use Rattle.nb_top.proofs.laws.a_stopped_ship_leaves_them_so.Goals as goal

pub returns : goal.returns
returns g c = λ told primary standby status account further fits given apart names stands standing fresh run.
    ship_moments g.H.Host.world g.H.Host.tells told g.met.H.Host.timely (λ host. g.met.H.Host.reads_left host told) primary standby fits given apart c.args._before.now c.args._behind.now account stands names standing further fresh run.result (run.goes told)
