use Rattle.nb_level.proofs.AddingLaws.{adds-none, adds-second}
use Rattle.nb_level.proofs.adding.append_two.Goals as goal

pub returns-in-Err-clause-adds : goal.returns-in-Err-clause-adds
returns-in-Err-clause-adds g c told =
    adds-none g.H.Host.tells (g.H.Host.world c.args.host.now) (g.H.Host.world c.append.new.self) c.args.name.now c.args.first.now c.args.second.now told
    c.in-Err.fault c.in-Err.ensures.files c.append.ensures.log c.append.ensures.time

pub returns-clause-adds : goal.returns-clause-adds
returns-clause-adds g c told =
    adds-second g.H.Host.tells (g.H.Host.world c.args.host.now) (g.H.Host.world c.append.new.self) c.args.name.now c.args.first.now c.args.second.now told
    (g.H.Host.world c.append-2.new.self) c.in_default.field-0 c.in_default.ensures.files c.append.ensures.log c.append.ensures.time
    c.append-2.result c.append-2.ensures.files c.append-2.ensures.log c.append-2.ensures.time
