use Rattle.nb_top.proofs.WorldLaws.{stands_again}
use Rattle.nb_top.proofs.laws.a_next_run_may_begin.Goals as goal

pub returns : goal.returns
returns g c = λ files kept holds starts. stands_again (g.H.Host.world c.args._host.now) files kept holds starts
