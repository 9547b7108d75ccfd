use Rattle.std.proofs.Common.{◌≡◌, ◌+◌, ◌≤◌, ◌++◌, ℕ, List, length, take, drop, sym, ap, subst, ◌∙◌, arith, length-drop, IsTrue}
use Rattle.nb_engine.proofs.Common.{with_payload, is_page_size, size_facts, data_kind, Page, page_at, old_page, not_kind, data_cause, Held, tries_early, old_below}
use Rattle.nb_engine.proofs.DataLaws.{data_there, none_there, behind_payload, put_tries}
use Rattle.nb_engine.proofs.data.write_data.Goals as goal

pub put_behind-requires-clause-head : goal.put_behind-requires-clause-head
put_behind-requires-clause-head g c =
    let facts = size_facts (length c.args.page.now) c.requires.size in
    omega (arith, facts.at_least, c.read_system.auto.into)

pub returns-in_err-read_system-clause-tries : goal.returns-in_err-read_system-clause-tries
returns-in_err-read_system-clause-tries g c t tells is =
    let image = t.base.image in
    let p : ℕ = c.args.number in
    let page = c.in_err-read_system.ensures in
    tries_early (Unit {0}) (Unit {0}) _ _ _ _ _ _ t (not_kind image data_kind p) (data_cause image p) _ c.from_residual.ensures page.takes_none (none_there image p) (page.reads t tells is).test page.looks.same page.looks.quiet is (page.looks.opened t tells is)

pub returns-clause-tries : goal.returns-clause-tries
returns-clause-tries g c t tells is =
    let image = t.base.image in
    let p : ℕ = c.args.number in
    let bytes : List ℕ = c.args.bytes.now in
    let payload : List ℕ = drop 16 bytes in
    let page = c.in_ok-read_system.ensures in
    let reads = page.reads t tells is in
    let here = old_below p image (data_there image p reads.test) in
    let facts = size_facts (length c.args.page.now) c.requires.size in
    let long : length bytes ≡ length (page_at image p) = omega (arith, c.requires.same, c.requires.room, c.read_system.auto.into, ap length reads.page) in
    let filled : c.put_behind.new.page ≡ with_payload (old_page p image) payload = c.put_behind.ensures ∙ ap (λ (x : Page). take 16 x ++ payload) reads.page ∙ behind_payload (page_at image p) bytes long ∙ ap (λ (x : Page). with_payload x payload) (sym here) in
    let room : 16 + length payload ≤ length (old_page p image) = omega (arith, length-drop 16 bytes, c.requires.same, c.requires.room, facts.at_least, long, ap length here) in
    put_tries c.put_page.result _ _ _ _ _ _ t p bytes is (subst (λ (n : ℕ). IsTrue (is_page_size n)) c.requires.room c.requires.size) reads.test page.looks.same page.looks.quiet (c.put_page.ensures.tries t payload tells (page.looks.opened t tells is) room filled)

pub put_page-requires-clause-inside : goal.put_page-requires-clause-inside
put_page-requires-clause-inside g c = omega (arith, c.in_ok-read_system.ensures.below, ap (λ (h : Held). h.files.count) c.in_ok-read_system.ensures.looks.same)
