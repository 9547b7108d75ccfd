use Rattle.std.proofs.Common.{subst}
use Rattle.nb_top.proofs.Common.{IsAskable}
use Rattle.nb_top.proofs.NamedParts.{alone_beside, alone_starts, deltas_closed, only_alone}
use Rattle.nb_top.proofs.NamedRuns.{go_on}
use Rattle.nb_top.proofs.RequestLaws.{CanBeMet, can_be_asked}
use Rattle.nb_top.proofs.laws.the_next_run_may_begin_alone.Goals as goal

pub returns-clause-runs : goal.returns-clause-runs
returns-clause-runs g c = λ told names plan telling alone given status target performs words asks sixteen is touched stands fresh small.
    let askable : IsAskable plan = subst CanBeMet asks (can_be_asked (g.H.Host.world c.args._before.now).files words) in
    go_on names (g.H.Host.world c.args._before.now) (g.H.Host.world c.args._behind.now) (g.met.H.Host.reads_left c.args._before.now told) (g.met.H.Host.reads_left c.args._behind.now told) (g.met.H.Host.timely c.args._behind.now)
    plan telling askable alone given sixteen status target performs is touched stands fresh small

pub returns-clause-starts : goal.returns-clause-starts
returns-clause-starts g c = λ names files kept holds starts. alone_starts names (g.H.Host.world c.args._before.now) files kept holds starts

pub returns-clause-part : goal.returns-clause-part
returns-clause-part g c = λ told names account closed stands. only_alone names (g.H.Host.world c.args._before.now) account closed (g.met.H.Host.reads_left c.args._before.now told) stands

pub returns-clause-beside : goal.returns-clause-beside
returns-clause-beside g c = λ names files others kept holds same. alone_beside names files others kept holds same

pub returns-clause-closed : goal.returns-clause-closed
returns-clause-closed g c = λ names plain. deltas_closed names plain
