use Rattle.std.proofs.Common.{◌≡◌, ◌≤◌, ◌+◌, ℕ, List, length, ap, ◌∙◌, arith}
use Rattle.nb_alloc.proofs.Common.{with_payload, size_facts, Page, old_page, entry_cause, content, Held}
use Rattle.nb_alloc.proofs.DoesLaws.{tries_after}
use Rattle.nb_alloc.proofs.MakeLaws.{tries_fault}
use Rattle.nb_alloc.proofs.ContentLaws.{content_short}
use Rattle.nb_alloc.proofs.make.make_page.Goals as goal

pub returns-in_err-take_old-clause-tries : goal.returns-in_err-take_old-clause-tries
returns-in_err-take_old-clause-tries g c t tells is =
    tries_fault _ _ _ _ _ t (entry_cause t.base.image c.args.number) _ c.from_residual.ensures c.in_err-take_old.ensures.looks.same c.in_err-take_old.ensures.looks.quiet is

pub returns-clause-tries : goal.returns-clause-tries
returns-clause-tries g c t tells is =
    let image = t.base.image in
    let p : ℕ = c.args.number in
    let payload : List ℕ = content c.args.own c.args.payload.now p in
    let old = c.in_ok-take_old.ensures in
    let page = old.page t tells is in
    let filled : c.put_content.new.page ≡ with_payload (old_page p image) payload = c.put_content.ensures ∙ ap (λ (x : Page). with_payload x payload) page in
    let facts = size_facts (length c.args.page.now) c.requires.size in
    let room : 16 + length payload ≤ length (old_page p image) = omega (arith, content_short c.args.own c.args.payload.now p c.requires.owner, c.requires.short, ap length page, c.take_old.auto.into, facts.at_least) in
    tries_after c.put_page.result _ (g.H.Host.world c.take_old.new.host) _ _ c.take_old.new.store _ t _ _ old.looks.same old.looks.quiet is
    (c.put_page.ensures.tries t payload tells (old.looks.opened t tells is) room filled)

pub put_page-requires-clause-inside : goal.put_page-requires-clause-inside
put_page-requires-clause-inside g c = omega (arith, c.requires.inside, ap (λ (h : Held). h.files.count) c.in_ok-take_old.ensures.looks.same)
