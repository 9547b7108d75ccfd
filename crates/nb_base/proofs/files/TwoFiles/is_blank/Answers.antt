use Rattle.std.proofs.Common.{◌≡◌, length, sym, ap, subst, ◌∙◌, arith}
use Rattle.nb_base.proofs.Common.{take_at, is_zeros, entry_for, Held, IsOpen}
use Rattle.nb_base.proofs.PageReads.{base_reads, sized_owned}
use Rattle.nb_base.proofs.files.TwoFiles.is_blank.Goals as goal

pub returns-clause-answer : goal.returns-clause-answer
returns-clause-answer g c t tells given low =
    let old = g.H.Host.world c.args.host.now in
    let is = subst (λ (h : Held). IsOpen old h t) (sym c.self.view_is) given in
    let r = base_reads old.files c.self.inside.name c.self.inside.delta.page_size c.self.inside.delta.entries t.base c.args.number is.shows is.agrees.page_size (ap (entry_for c.args.number) is.agrees.entries) low in
    let size : length c.deref_mut.result.now ≡ c.self.inside.delta.page_size = omega (arith, c.deref_mut.ensures.len, c.self.invariant.3) in
    let into : length c.read_owned.new.into ≡ c.self.inside.page.len = omega (arith, c.read_owned.auto.into, c.deref_mut.ensures.len) in
    let page_is = c.deref.ensures.value ∙ take_at c.read_owned.new.into _ c.self.inside.page.len into in
    c.are_zeros.ensures ∙ ap is_zeros (page_is ∙ sized_owned _ _ _ _ _ _ _ size (c.in_ok-read_owned.ensures.page r.bytes tells r.there r.formed (r.sized ∙ sym size) c.self.invariant.5) ∙ r.page)
