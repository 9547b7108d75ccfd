use Rattle.std.proofs.Common.{sym, ◌∙◌}
use Rattle.nb_base.proofs.TouchLaws.{touched}
use Rattle.nb_base.proofs.WriteLaws.{not_done, struck_entry, entry_seen, seen_table}
use Rattle.nb_base.proofs.writes.add_entry.Goals as goal

pub returns-in_err-add-clause-takes : goal.returns-in_err-add-clause-takes
returns-in_err-add-clause-takes g c t name tells seen is stalled entries named must =
    let old = g.H.Host.world c.args.host.now in
    let timely = g.met.H.Host.timely c.args.host.now in
    let reads = g.met.H.Host.reads_left c.args.host.now tells in
    let size = sym c.requires.size ∙ is.long in
    let table = seen_table name t old seen stalled _ _ _ named size entries in
    record {
      left = struck_entry name t c.args.number c.args.page.now is old timely reads seen (g.H.Host.world c.add.new.host) stalled _ _ _ named size entries c.requires.fresh (c.add.ensures.changes tells table);
      done = not_done c.from_residual.result _ c.from_residual.ensures.0;
    }

pub returns-clause-takes : goal.returns-clause-takes
returns-clause-takes g c t name tells seen is stalled entries named must =
    let old = g.H.Host.world c.args.host.now in
    let timely = g.met.H.Host.timely c.args.host.now in
    let reads = g.met.H.Host.reads_left c.args.host.now tells in
    let size = sym c.requires.size ∙ is.long in
    let table = seen_table name t old seen stalled _ _ _ named size entries in
    let left = struck_entry name t c.args.number c.args.page.now is old timely reads seen (g.H.Host.world c.add.new.host) stalled _ _ _ named size entries c.requires.fresh (c.add.ensures.changes tells table) in
    record {
      left = left;
      done = entry_seen name t c.args.number c.args.page.now is old timely reads seen (g.H.Host.world c.add.new.host) stalled _ _ _ named size entries c.requires.fresh (c.add.ensures.changes tells table) left
          (c.in_ok-add.ensures.added tells table) c.args.synced must (c.in_ok-add.ensures.durable tells);
    }

pub returns-in_err-add-clause-touches : goal.returns-in_err-add-clause-touches
returns-in_err-add-clause-touches g c tells table = touched _ _ _ _ (c.add.ensures.changes tells table)

pub returns-clause-touches : goal.returns-clause-touches
returns-clause-touches g c tells table = touched _ _ _ _ (c.add.ensures.changes tells table)
