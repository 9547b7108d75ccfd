use Rattle.std.proofs.Common.{◌≡◌, ◌+◌, length, sym, ap, subst, ◌∙◌, arith}
use Rattle.nb_copy.proofs.Common.{with_items, with_items_is, size_facts, Copying, IsOf, IsBegun, IsBlank, renamed, touches_named, touches_then, touches_quiet, touches_page, with_file-named}
use Rattle.nb_copy.proofs.CopyLaws.{page_written, quiet_keeps, begun_next}
use Rattle.nb_copy.proofs.page_copy.PageCopy.copy_page.Goals as goal

pub returns-in_err-write_page-clause-left : goal.returns-in_err-write_page-clause-left
returns-in_err-write_page-clause-left g c frozen tells begun =
    let write = c.write_page.ensures in
    let before = subst (λ (v : Copying). IsBegun (g.H.Host.world c.args.host.now) v frozen) (sym c.self.view_is) begun in
    let next = ap (λ (v : Copying). v.next) c.self.view_is in
    let page = with_items_is c.self.inside.page c.read_main.new.into (omega (arith, c.read_main.auto.into, ap length c.deref_mut.ensures.value, c.self.inside.page.ok.0)) in
    let long = ap length (c.deref.ensures.value ∙ page) in
    renamed _ _ _ _ IsBlank (ap (λ (v : Copying). v.name) c.self.view_is)
    (page_written _ _ _ _ _ _ _ _ tells c.in_ok-read_main.ensures.quiet (g.met.H.Host.timely _) before.blank (omega (arith, c.requires.some, next))
    (omega (arith, (size_facts (length c.self.inside.page.items) c.self.invariant.is_size).at_least, long, c.read_main.auto.into, ap length c.deref_mut.ensures.value)) write.files write.log.said write.time)

pub returns-clause-left : goal.returns-clause-left
returns-clause-left g c frozen tells begun =
    let write = c.in_ok-write_page.ensures in
    let before = subst (λ (v : Copying). IsBegun (g.H.Host.world c.args.host.now) v frozen) (sym c.self.view_is) begun in
    let next = ap (λ (v : Copying). v.next) c.self.view_is in
    let page = with_items_is c.self.inside.page c.read_main.new.into (omega (arith, c.read_main.auto.into, ap length c.deref_mut.ensures.value, c.self.inside.page.ok.0)) in
    let long = ap length (c.deref.ensures.value ∙ page) in
    renamed _ _ _ _ IsBlank (ap (λ (v : Copying). v.name) c.self.view_is)
    (page_written _ _ _ _ _ _ _ _ tells c.in_ok-read_main.ensures.quiet (g.met.H.Host.timely _) before.blank (omega (arith, c.requires.some, next))
    (omega (arith, (size_facts (length c.self.inside.page.items) c.self.invariant.is_size).at_least, long, c.read_main.auto.into, ap length c.deref_mut.ensures.value)) write.files write.log.said write.time)

pub returns-clause-copied : goal.returns-clause-copied
returns-clause-copied g c t tells open_ stalled of begun =
    let write = c.in_ok-write_page.ensures in
    let read = c.in_ok-read_main.ensures in
    let self = c.self.inside in
    let frozen = t.base.frozen in
    let before = subst (λ (v : Copying). IsBegun (g.H.Host.world c.args.host.now) v frozen) (sym c.self.view_is) begun in
    let is = subst (λ (v : Copying). IsOf v frozen) (sym c.self.view_is) of in
    let next = ap (λ (v : Copying). v.next) c.self.view_is in
    let count = ap (λ (v : Copying). v.count) c.self.view_is in
    let page = with_items_is self.page c.read_main.new.into (omega (arith, c.read_main.auto.into, ap length c.deref_mut.ensures.value, self.page.ok.0)) in
    let long : length c.deref.result.now ≡ length self.page.items = omega (arith, ap length (c.deref.ensures.value ∙ page), c.read_main.auto.into, ap length c.deref_mut.ensures.value) in
    let there = c.deref.ensures.value ∙ page ∙ read.page t tells open_ stalled (omega (arith, is.long, c.requires.below, next, count)) in
    let size : length (with_items self.page c.read_main.new.into).items ≡ length self.page.items = omega (arith, ap length page, c.read_main.auto.into, ap length c.deref_mut.ensures.value) in
    begun_next _ _ _ (g.H.Host.world c.write_page.new.self) (record { name = self.name; size = length self.page.items; count = self.count; next = self.next; first = self.first.items }) _ frozen c.deref.result.now is (quiet_keeps _ _ _ _ read.quiet before)
    (ap (λ n. record { name = self.name; size = n; count = self.count; next = self.next + 1; first = self.first.items }) size)
    (omega (arith, c.requires.some, next)) (omega (arith, c.requires.below, next, count)) (omega (arith, (size_facts (length c.self.inside.page.items) c.self.invariant.is_size).at_least, long)) long there write.files (with_file-named _ _ self.name _ (write.files.files tells))

pub returns-in_err-read_main-clause-touches : goal.returns-in_err-read_main-clause-touches
returns-in_err-read_main-clause-touches g c tells = touches_quiet _ _ _ c.in_err-read_main.ensures.quiet

pub returns-in_err-write_page-clause-touches : goal.returns-in_err-write_page-clause-touches
returns-in_err-write_page-clause-touches g c tells =
    let write = c.in_err-write_page.ensures in
    touches_named _ _ _ _ (ap (λ (v : Copying). v.name) c.self.view_is)
    (touches_then c.self.inside.name _ _ _ (touches_quiet _ _ _ c.in_ok-read_main.ensures.quiet) (touches_page _ _ _ _ _ _ _ tells (g.met.H.Host.timely _) write.files write.log.said write.time))

pub returns-clause-touches : goal.returns-clause-touches
returns-clause-touches g c tells =
    let write = c.in_ok-write_page.ensures in
    touches_named _ _ _ _ (ap (λ (v : Copying). v.name) c.self.view_is)
    (touches_then c.self.inside.name _ _ _ (touches_quiet _ _ _ c.in_ok-read_main.ensures.quiet) (touches_page _ _ _ _ _ _ _ tells (g.met.H.Host.timely _) write.files write.log.said write.time))
