use Rattle.nb_top.proofs.ShipDone.{ships_by_run}
use Rattle.nb_top.proofs.laws.a_ship_gives_the_kept_image.Goals as goal

pub returns : goal.returns
returns g c = λ told primary standby account fits given apart names stands standing fresh run.
    ships_by_run g.H.Host.world g.H.Host.tells told g.met.H.Host.timely (λ host. g.met.H.Host.reads_left host told) primary standby fits given apart c.args._before.now c.args._behind.now account stands names standing fresh run
