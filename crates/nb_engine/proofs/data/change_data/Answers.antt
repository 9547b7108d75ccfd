use Rattle.std.proofs.Common.{◌≡◌, ◌+◌, ◌≤◌, ℕ, List, length, drop, sym, ap, subst, ◌∙◌, arith, IsTrue}
use Rattle.nb_engine.proofs.Common.{with_part, with_payload, is_page_size, data_kind, Page, page_at, old_page, not_kind, data_cause, Held, tries_early, old_below}
use Rattle.nb_engine.proofs.DataLaws.{data_there, none_there, put_tries}
use Rattle.nb_engine.proofs.LinkLaws.{written_payload, payload_inside}
use Rattle.nb_engine.proofs.data.change_data.Goals as goal

pub put_bytes-requires : goal.put_bytes-requires
put_bytes-requires g c = omega (arith, c.requires.inside, c.requires.room, c.read_system.auto.into)

pub returns-in_err-read_system-clause-tries : goal.returns-in_err-read_system-clause-tries
returns-in_err-read_system-clause-tries g c t tells is =
    let image = t.base.image in
    let p : ℕ = c.args.number in
    let page = c.in_err-read_system.ensures in
    tries_early (Unit {0}) (Unit {0}) _ _ _ _ _ _ t (not_kind image data_kind p) (data_cause image p) _ c.from_residual.ensures page.takes_none (none_there image p) (page.reads t tells is).test page.looks.same page.looks.quiet is (page.looks.opened t tells is)

pub returns-in_err-read_system-clause-once : goal.returns-in_err-read_system-clause-once
returns-in_err-read_system-clause-once g c tells = omega (arith, c.in_err-read_system.ensures.once tells c.requires.low)

pub returns-clause-tries : goal.returns-clause-tries
returns-clause-tries g c t tells is =
    let image = t.base.image in
    let p : ℕ = c.args.number in
    let at : ℕ = c.args.at in
    let page = c.in_ok-read_system.ensures in
    let reads = page.reads t tells is in
    let here = old_below p image (data_there image p reads.test) in
    let bytes : Page = with_part at c.args.bytes.now (page_at image p) in
    let payload : List ℕ = drop 16 bytes in
    let now : c.put_bytes.new.page ≡ bytes = c.put_bytes.ensures ∙ ap (λ (x : Page). with_part at c.args.bytes.now x) reads.page in
    let long : length bytes ≡ length (page_at image p) = ap length (sym now) ∙ c.put_bytes.auto.page ∙ ap length reads.page in
    let inside : at ≤ length (page_at image p) = omega (arith, c.requires.inside, c.requires.room, c.read_system.auto.into, ap length reads.page) in
    let filled : c.put_bytes.new.page ≡ with_payload (old_page p image) payload = now ∙ written_payload at c.args.bytes.now (page_at image p) c.requires.behind inside long ∙ ap (λ (x : Page). with_payload x payload) (sym here) in
    let room : 16 + length payload ≤ length (old_page p image) = omega (arith, payload_inside at c.args.bytes.now (page_at image p) c.requires.behind inside long, ap length here) in
    put_tries c.put_page.result _ _ _ _ _ _ t p bytes is (subst (λ (n : ℕ). IsTrue (is_page_size n)) c.requires.room c.requires.size) reads.test page.looks.same page.looks.quiet (c.put_page.ensures.tries t payload tells (page.looks.opened t tells is) room filled)

pub returns-clause-once : goal.returns-clause-once
returns-clause-once g c tells = omega (arith, c.in_ok-read_system.ensures.once tells c.requires.low, c.put_page.ensures.once tells)

pub put_page-requires-clause-inside : goal.put_page-requires-clause-inside
put_page-requires-clause-inside g c = omega (arith, c.in_ok-read_system.ensures.below, ap (λ (h : Held). h.files.count) c.in_ok-read_system.ensures.looks.same)
