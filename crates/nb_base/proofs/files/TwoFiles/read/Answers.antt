use Rattle.std.proofs.Common.{sym, subst, ap, ◌∙◌}
use Rattle.nb_base.proofs.Common.{entry_for, ShowsIn, Held}
use Rattle.nb_base.proofs.PageReads.{base_reads, sized_owned}
use Rattle.nb_base.proofs.files.TwoFiles.read.Goals as goal

pub returns-clause-page : goal.returns-clause-page
returns-clause-page g c b tells opens sized entry low =
    let old = g.H.Host.world c.args.host.now in
    let r = base_reads old.files c.self.inside.name c.self.inside.delta.page_size c.self.inside.delta.entries b c.args.number (subst (λ (h : Held). ShowsIn h.name b old.files) (sym c.self.view_is) opens)
    (ap (λ (h : Held). h.page_size) c.self.view_is ∙ sized) (ap (λ (h : Held). entry_for c.args.number h.entries) c.self.view_is ∙ entry) low in
    let size = c.requires.size ∙ ap (λ (h : Held). h.page_size) (sym c.self.view_is) in
    sized_owned _ _ _ _ _ _ _ size (c.in_ok-read_owned.ensures.page r.bytes tells r.there r.formed (r.sized ∙ sym size) c.self.invariant.5) ∙ r.page
