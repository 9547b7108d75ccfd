use Rattle.std.proofs.Common.{length, sym, subst}
use Rattle.nb_delta.proofs.Common.{Files, Only, Moved, kept_on, SlotStep, SlotPut, on_ok}
use Rattle.nb_delta.proofs.writing.rewrite_slot.Goals as goal

pub returns-clause-changes : goal.returns-clause-changes
returns-clause-changes g c tells k at =
    kept_on (g.H.Host.world c.args.host.now) (g.H.Host.world c.write_slot.new.host) (g.H.Host.world c.sync_if.new.host) (Only c.args.name.now) (Moved (g.H.Host.world c.args.host.now) c.args.name.now (SlotStep (length c.args.bytes.now) k c.args.bytes.now))
    (c.write_slot.ensures.changes tells k at) c.sync_if.ensures.changes

pub returns-clause-put : goal.returns-clause-put
returns-clause-put g c tells k at =
    on_ok c.sync_if.result
    (subst (λ (f : Files). SlotPut (length c.args.bytes.now) k c.args.bytes.now ((g.H.Host.world c.args.host.now).files c.args.name.now) (f c.args.name.now)) (sym c.sync_if.ensures.still.files) (c.in_ok-write_slot.ensures.put tells k at))
