use Rattle.std.proofs.Common.{sym, ◌∙◌}
use Rattle.nb_base.proofs.TouchLaws.{touched}
use Rattle.nb_base.proofs.WriteLaws.{on_ok_both, slot_strikes, slot_seen}
use Rattle.nb_base.proofs.writes.write_slot.Goals as goal

pub returns-clause-takes : goal.returns-clause-takes
returns-clause-takes g c t name number k tells seen is diverts at named slot must =
    let old = g.H.Host.world c.args.host.now in
    let new = g.H.Host.world c.rewrite.new.host in
    let timely = g.met.H.Host.timely c.args.host.now in
    let reads = g.met.H.Host.reads_left c.args.host.now tells in
    let size = sym c.requires.size ∙ is.long in
    let changes = c.rewrite.ensures.changes tells k slot in
    let left = slot_strikes name t number c.args.page.now is old timely reads seen new diverts k at _ _ named size changes in
    record {
      left = left;
      done = on_ok_both c.rewrite.result (λ put durable. slot_seen name t number c.args.page.now is old timely reads seen new diverts k at _ _ named size changes left put c.args.synced must durable)
          (c.rewrite.ensures.put tells k slot) (c.rewrite.ensures.durable tells);
    }

pub returns-clause-touches : goal.returns-clause-touches
returns-clause-touches g c tells k slot = touched _ _ _ _ (c.rewrite.ensures.changes tells k slot)
