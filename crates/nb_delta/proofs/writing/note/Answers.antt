use Rattle.std.proofs.Common.{ℕ, ◌*◌, List, length, refl, ap, ◌∙◌, sym, subst}
use Rattle.nb_delta.proofs.Common.{Files, with_page, Only, Moved, kept_on, Notes, NoteStep, on_ok}
use Rattle.nb_delta.proofs.EntryLaws.{named_none}
use Rattle.nb_delta.proofs.MoveLaws.{written}
use Rattle.nb_delta.proofs.StepLaws.{note_put}
use Rattle.nb_delta.proofs.NoteLaws.{note_written}
use Rattle.nb_delta.proofs.writing.note.Goals as goal

pub returns-in_err-write_page-clause-changes : goal.returns-in_err-write_page-clause-changes
returns-in_err-write_page-clause-changes g c tells entries number ready durable =
    note_written g.H.Host.tells c.write_page.result (g.H.Host.world c.args.host.now) (g.H.Host.world c.write_page.new.self) c.args.name.now c.alloc_page_of.result c.args.group number c.args.page.now entries
    tells (g.met.H.Host.timely c.args.host.now) c.requires.size c.write_page.ensures.files c.write_page.ensures.log.said c.write_page.ensures.time c.alloc_page_of.ensures.value ready durable

pub returns-clause-changes : goal.returns-clause-changes
returns-clause-changes g c tells entries number ready durable =
    kept_on (g.H.Host.world c.args.host.now) (g.H.Host.world c.write_page.new.self) (g.H.Host.world c.sync_if.new.host) (Only c.args.name.now) (Moved (g.H.Host.world c.args.host.now) c.args.name.now (NoteStep (length c.args.page.now) entries number))
    (note_written g.H.Host.tells c.write_page.result (g.H.Host.world c.args.host.now) (g.H.Host.world c.write_page.new.self) c.args.name.now c.alloc_page_of.result c.args.group number c.args.page.now entries
    tells (g.met.H.Host.timely c.args.host.now) c.requires.size c.write_page.ensures.files c.write_page.ensures.log.said c.write_page.ensures.time c.alloc_page_of.ensures.value ready durable)
    c.sync_if.ensures.changes

pub returns-clause-noted : goal.returns-clause-noted
returns-clause-noted g c tells entries number ready =
    let page : List ℕ = c.args.page.now in
    let name : List ℕ = c.args.name.now in
    let old : Files = (g.H.Host.world c.args.host.now).files in
    let mid : Files = (g.H.Host.world c.write_page.new.self).files in
    on_ok c.sync_if.result
    (subst (λ (f : Files). Notes (length page) entries number (old name) (f name)) (sym c.sync_if.ensures.still.files)
    (note_put (length page) c.requires.size entries number c.args.group ready.index ready.low ready.many (named_none number entries ready.fresh) ready.below page refl ready.allocation (old name) ready.table ready.whole ready.room (mid name)
    (written old mid name page (c.alloc_page_of.result * length page) (c.in_ok-write_page.ensures.files.files tells) ∙ ap (λ (n : ℕ). with_page (old name) (n * length page) page) c.alloc_page_of.ensures.value)))
