use Rattle.std.proofs.Common.{◌≡◌, length, refl, sym, ap, subst, ◌∙◌, arith}
use Rattle.nb_copy.proofs.Common.{with_items, with_items_is, Copying, IsBegun}
use Rattle.nb_copy.proofs.CopyLaws.{begun_first}
use Rattle.nb_copy.proofs.page_copy.PageCopy.take_first.Goals as goal

pub returns-clause-begun : goal.returns-clause-begun
returns-clause-begun g c t tells open_ stalled of begun =
    let first : (with_items c.self.inside.first c.read_main.new.into).items ≡ c.read_main.new.into =
    with_items_is c.self.inside.first c.read_main.new.into (omega (arith, c.read_main.auto.into, ap length c.deref_mut.ensures.value, c.self.inside.first.ok.0)) in
    let self = c.self.inside in
    let before : Copying = record { name = self.name; size = length self.page.items; count = self.count; next = self.next; first = self.first.items } in
    begun_first _ _ before (record before { next = 1; first = (with_items self.first c.read_main.new.into).items }) t.base.frozen c.in_ok-read_main.ensures.quiet (subst (λ (v : Copying). IsBegun (g.H.Host.world c.args.host.now) v t.base.frozen) (sym c.self.view_is) begun) (ap (λ (v : Copying). v.next) c.self.view_is ∙ c.requires.next) refl (first ∙ c.in_ok-read_main.ensures.page t tells open_ stalled (omega (arith, of.least)))
