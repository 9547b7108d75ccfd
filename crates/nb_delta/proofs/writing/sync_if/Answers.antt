use Rattle.nb_delta.proofs.Common.{on_ok_weaker, LeavesAll, NoNames, begun, still_alone}
use Rattle.nb_delta.proofs.MoveLaws.{durable_now}
use Rattle.nb_delta.proofs.writing.sync_if.Goals as goal

pub returns-then-wanted-clause-changes : goal.returns-then-wanted-clause-changes
returns-then-wanted-clause-changes g c =
    still_alone (g.H.Host.world c.args.host.now) (g.H.Host.world c.sync.new.self) NoNames (LeavesAll (g.H.Host.world c.args.host.now)) (g.met.H.Host.timely c.args.host.now) c.sync.ensures.files.still c.sync.ensures.log.said c.sync.ensures.time (λ files left. left)

pub returns-then-wanted-clause-durable : goal.returns-then-wanted-clause-durable
returns-then-wanted-clause-durable g c tells wanted =
    on_ok_weaker c.sync.result (durable_now (g.H.Host.world c.args.host.now) (g.H.Host.world c.sync.new.self) c.args.name.now c.sync.ensures.files.still.files) (c.sync.ensures.files.durable tells)

pub returns-else-wanted-clause-changes : goal.returns-else-wanted-clause-changes
returns-else-wanted-clause-changes g c =
    begun (g.H.Host.world c.args.host.now) NoNames (LeavesAll (g.H.Host.world c.args.host.now)) (g.met.H.Host.timely c.args.host.now) (λ files left. left)
