use Rattle.nb_top.proofs.Common.{one_turn}
use Rattle.nb_top.proofs.NextRuns.{next_run, next_turn}
use Rattle.nb_top.proofs.laws.a_next_run_may_begin_at_once.Goals as goal

pub returns-clause-runs : goal.returns-clause-runs
returns-clause-runs g c = λ status asked account given performs sure. next_run status (g.H.Host.world c.args._before.now) (g.H.Host.world c.args._behind.now) asked account given performs sure

pub returns-clause-turns : goal.returns-clause-turns
returns-clause-turns g c = λ status deed account does stands takes.
    let old = g.H.Host.world c.args._before.now in
    next_turn status old (g.H.Host.world c.args._behind.now) (one_turn old.files deed) account does stands takes
