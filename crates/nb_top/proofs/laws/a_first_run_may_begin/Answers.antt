use Rattle.nb_top.proofs.WorldLaws.{begins_empty, begins_plain}
use Rattle.nb_top.proofs.laws.a_first_run_may_begin.Goals as goal

pub returns-clause-none : goal.returns-clause-none
returns-clause-none g c = λ starts. begins_empty (g.H.Host.world c.args._host.now) starts

pub returns-clause-plain : goal.returns-clause-plain
returns-clause-plain g c = λ files plain starts. begins_plain (g.H.Host.world c.args._host.now) files plain starts
