use Rattle.std.proofs.Common.{refl, Ok, Err}
use Rattle.nb_top.proofs.ShipParts.{gone_synced, removes_alone, removes_synced}
use Rattle.nb_top.proofs.ship.discard.Goals as goal

pub returns-in_err-remove-clause-removes : goal.returns-in_err-remove-clause-removes
returns-in_err-remove-clause-removes g c tells =
    removes_alone g.H.Host.tells tells (Err c.in_err-remove.field-0.0) (g.H.Host.world c.args.host.now) (g.H.Host.world c.remove.new.self) c.args.ship.now (g.met.H.Host.timely c.args.host.now)
    c.in_err-remove.ensures.files c.in_err-remove.ensures.log c.in_err-remove.ensures.time

pub returns-clause-removes : goal.returns-clause-removes
returns-clause-removes g c tells =
    removes_synced g.H.Host.tells tells _ (g.H.Host.world c.args.host.now) (g.H.Host.world c.remove.new.self) c.args.ship.now (g.met.H.Host.timely c.args.host.now)
    c.in_ok-remove.ensures.files c.in_ok-remove.ensures.log c.in_ok-remove.ensures.time _ refl c.sync.result (g.H.Host.world c.sync.new.self) c.sync.ensures.files c.sync.ensures.log c.sync.ensures.time

pub returns-clause-gone : goal.returns-clause-gone
returns-clause-gone g c tells =
    gone_synced g.H.Host.tells tells _ (g.H.Host.world c.args.host.now) (g.H.Host.world c.remove.new.self) c.args.ship.now (g.met.H.Host.timely c.args.host.now)
    c.in_ok-remove.ensures.files c.in_ok-remove.ensures.log c.in_ok-remove.ensures.time _ refl c.sync.result (g.H.Host.world c.sync.new.self) c.sync.ensures.files c.sync.ensures.log c.sync.ensures.time
