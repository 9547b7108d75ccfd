use Rattle.nb_delta.proofs.KnownLaws.{add_changes, add_begun}
use Rattle.nb_delta.proofs.delta.Delta.add.Goals as goal

pub returns-in_err-add-clause-changes : goal.returns-in_err-add-clause-changes
returns-in_err-add-clause-changes g c tells =
    add_begun (g.H.Host.world c.args.host.now) c.args.page c.args.bytes.now _ c.args.self.now c.self.view_is c.self.invariant.0 (g.met.H.Host.timely c.args.host.now)

pub returns-in_err-put_entry-clause-changes : goal.returns-in_err-put_entry-clause-changes
returns-in_err-put_entry-clause-changes g c tells =
    add_changes (g.H.Host.world c.args.host.now) (g.H.Host.world c.put_entry.new.host) c.args.page c.args.bytes.now c.add.new.self _ c.args.self.now c.self.view_is c.requires.size c.requires.fresh c.requires.below c.in_ok-add.ensures.ok
    (c.put_entry.ensures.changes tells)

pub returns-clause-changes : goal.returns-clause-changes
returns-clause-changes g c tells =
    add_changes (g.H.Host.world c.args.host.now) (g.H.Host.world c.put_entry.new.host) c.args.page c.args.bytes.now c.add.new.self _ c.args.self.now c.self.view_is c.requires.size c.requires.fresh c.requires.below c.in_ok-add.ensures.ok
    (c.put_entry.ensures.changes tells)
