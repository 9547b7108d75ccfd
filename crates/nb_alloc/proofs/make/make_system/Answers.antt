use Rattle.std.proofs.Common.{◌≡◌, ◌≤◌, ◌+◌, ℕ, List, [], length, refl, ap, sym, subst, ◌∙◌, arith, true, false, IsTrue, Ok}
use Rattle.nb_alloc.proofs.Common.{code_of, with_payload, is_page_size, size_facts, Page, image_size, old_page, is_kind, system_kind, system_payload, Held, makes_none, page_strokes, system_cause, system_strokes}
use Rattle.nb_alloc.proofs.DoesLaws.{tries_made, tries_after}
use Rattle.nb_alloc.proofs.MakeLaws.{tries_fault, tries_named, payload_whole, system_made, system_unmade, system_free, system_asks}
use Rattle.nb_alloc.proofs.make.make_system.Goals as goal

pub returns-in_err-has_page-clause-tries : goal.returns-in_err-has_page-clause-tries
returns-in_err-has_page-clause-tries g c t tells is =
    tries_fault _ _ _ _ _ t (system_cause t.base.image c.args.place) _ c.from_residual.ensures c.in_err-has_page.ensures.looks.same c.in_err-has_page.ensures.looks.quiet is

pub returns-then-branch-clause-tries : goal.returns-then-branch-clause-tries
returns-then-branch-clause-tries g c t tells is =
    let image = t.base.image in
    let p : ℕ = c.args.place in
    let has = c.in_ok-has_page.ensures in
    let same : code_of c.system_kind-kind.result ≡ system_kind image p = c.system_kind-kind.ensures image (c.page_size.ensures.value ∙ is.files.agrees.page_size) in
    let there : is_kind image (system_kind image p) p ≡ true = ap (λ (k : ℕ). is_kind image k p) (sym same) ∙ sym (has.value t tells is) ∙ c.if-branch.true in
    tries_named {T = Unit {0}} (Ok tt) _ _ _ _ t _ _ _ _ (sym (system_free image p there)) (sym (system_made image p there))
    (tries_made {T = Unit {0}} (Ok tt) _ _ _ _ t _ [] refl tt (makes_none {T = Unit {0}} (Ok tt) _ _ _ _ t has.looks.same has.looks.quiet is (has.looks.opened t tells is)) tt)

pub returns-clause-tries : goal.returns-clause-tries
returns-clause-tries g c t tells is =
    let image = t.base.image in
    let p : ℕ = c.args.place in
    let payload : List ℕ = system_payload image p in
    let has = c.in_ok-has_page.ensures in
    let size = c.page_size.ensures.value ∙ is.files.agrees.page_size in
    let whole : IsTrue (is_page_size (image_size image)) = subst (λ (n : ℕ). IsTrue (is_page_size n)) size c.page_size.ensures.one_of in
    let same : code_of c.system_kind-kind.result ≡ system_kind image p = c.system_kind-kind.ensures image size in
    let none : is_kind image (system_kind image p) p ≡ false = ap (λ (k : ℕ). is_kind image k p) (sym same) ∙ sym (has.value t tells is) ∙ c.if-branch.false in
    let long : length c.has_page.new.into ≡ image_size image = omega (arith, c.has_page.auto.into, c.requires.room, is.files.agrees.page_size) in
    let page = has.page t tells is in
    let scn = c.scn.ensures ∙ ap (λ (h : Held). h.scn) has.looks.same ∙ is.agrees.scn in
    let filled : c.fill_system.new.page ≡ with_payload (old_page p image) payload = c.fill_system.ensures image long scn ∙ ap (λ (x : Page). with_payload x payload) page in
    let facts = size_facts (image_size image) whole in
    let room : 16 + length payload ≤ length (old_page p image) = omega (arith, payload_whole image p whole, ap length page, long, facts.at_least) in
    let strokes : page_strokes image p (code_of c.system_kind-kind.result) payload ≡ system_strokes image p = ap (λ (k : ℕ). page_strokes image p k payload) same ∙ sym (system_unmade image p none) in
    tries_after c.put_page.result _ (g.H.Host.world c.has_page.new.host) _ _ c.has_page.new.store _ t _ _ has.looks.same has.looks.quiet is
    (tries_named c.put_page.result _ _ _ _ t _ _ _ _ (sym (system_asks image p none)) strokes (c.put_page.ensures.tries t payload tells (has.looks.opened t tells is) room filled))

pub put_page-requires-clause-inside : goal.put_page-requires-clause-inside
put_page-requires-clause-inside g c = omega (arith, c.requires.inside, ap (λ (h : Held). h.files.count) c.in_ok-has_page.ensures.looks.same)

pub returns-then-branch-clause-added : goal.returns-then-branch-clause-added
returns-then-branch-clause-added g c = omega (arith, c.in_ok-has_page.ensures.below c.if-branch.true, ap (λ (h : Held). h.files.count) c.in_ok-has_page.ensures.looks.same)
