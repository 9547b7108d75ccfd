use Rattle.nb_delta.proofs.KnownLaws.{slot_changes}
use Rattle.nb_delta.proofs.delta.Delta.rewrite.Goals as goal

pub returns-in_err-rewrite_slot-clause-changes : goal.returns-in_err-rewrite_slot-clause-changes
returns-in_err-rewrite_slot-clause-changes g c tells =
    slot_changes (g.H.Host.world c.args.host.now) (g.H.Host.world c.rewrite_slot.new.host) c.args.slot c.args.bytes.now _ c.args.self.now c.self.view_is c.requires.size (c.rewrite_slot.ensures.changes tells)

pub returns-clause-changes : goal.returns-clause-changes
returns-clause-changes g c tells =
    slot_changes (g.H.Host.world c.args.host.now) (g.H.Host.world c.rewrite_slot.new.host) c.args.slot c.args.bytes.now _ c.args.self.now c.self.view_is c.requires.size (c.rewrite_slot.ensures.changes tells)
