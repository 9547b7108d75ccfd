use Rattle.std.proofs.Common.{sym, subst, ap, ◌∙◌}
use Rattle.nb_base.proofs.Common.{ShowsIn, Held}
use Rattle.nb_base.proofs.PageReads.{frozen_reads, sized_main}
use Rattle.nb_base.proofs.files.TwoFiles.read_main.Goals as goal

pub returns-clause-page : goal.returns-clause-page
returns-clause-page g c b tells opens sized stalled low =
    let old = g.H.Host.world c.args.host.now in
    let r = frozen_reads old.files c.self.inside.name c.self.inside.delta.page_size b c.args.number (subst (λ (h : Held). ShowsIn h.name b old.files) (sym c.self.view_is) opens)
    (ap (λ (h : Held). h.page_size) c.self.view_is ∙ sized) stalled low in
    let size = c.requires.size ∙ ap (λ (h : Held). h.page_size) (sym c.self.view_is) in
    sized_main _ _ _ _ _ size (c.in_ok-read_page.ensures.page r.bytes tells r.there r.formed (r.sized ∙ sym size)) ∙ r.page
