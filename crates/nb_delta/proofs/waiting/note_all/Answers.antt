use Rattle.std.proofs.Common.{length, sym, subst}
use Rattle.nb_delta.proofs.Common.{Files, Only, Moved, kept_on, NotesSome, NotesAll, on_ok}
use Rattle.nb_delta.proofs.waiting.note_all.Goals as goal

pub returns-clause-changes : goal.returns-clause-changes
returns-clause-changes g c tells =
    kept_on (g.H.Host.world c.args.host.now) (g.H.Host.world c.note_groups.new.host) (g.H.Host.world c.sync_if.new.host) (Only c.args.name.now) (Moved (g.H.Host.world c.args.host.now) c.args.name.now (NotesSome (length c.args.page.now) c.args.entries.now c.args.first c.args.end))
    (c.note_groups.ensures.changes tells) c.sync_if.ensures.changes

pub returns-clause-noted : goal.returns-clause-noted
returns-clause-noted g c tells =
    on_ok c.sync_if.result
    (subst (λ (f : Files). NotesAll (length c.args.page.now) c.args.entries.now c.args.first c.args.end ((g.H.Host.world c.args.host.now).files c.args.name.now) (f c.args.name.now)) (sym c.sync_if.ensures.still.files)
    (c.in_ok-note_groups.ensures.noted tells))
