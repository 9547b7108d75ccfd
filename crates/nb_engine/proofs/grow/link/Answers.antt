use Rattle.std.proofs.Common.{◌≡◌, ◌+◌, ◌≤◌, ◌<◌, ℕ, List, length, refl, sym, ap, ◌∙◌, arith}
use Rattle.nb_engine.proofs.Common.{bytes_of, with_part, with_payload, size_facts, quiet_begun, Page, page_at, old_page, linked_payload, write_cause, tries_failed, tries_after, refused_memory, tries_fault, tries_named, old_below, Held}
use Rattle.nb_engine.proofs.LinkLaws.{written_payload, payload_inside, write_low, write_past}
use Rattle.nb_engine.proofs.grow.link.Goals as goal

pub returns-then-last-count-clause-tries : goal.returns-then-last-count-clause-tries
returns-then-last-count-clause-tries g c t tells is =
    let w = g.H.Host.world c.args.host.now in
    tries_failed (Unit {0}) _ w w c.args.store.now c.args.store.now t (write_cause t.base.image c.args.last) _ (refused_memory _) (write_past t.base.image c.args.last (omega (arith, is.files.agrees.count, c.count.ensures.value, c.if-last-count.true))) refl
    (quiet_begun w (g.met.H.Host.timely c.args.host.now)) is is

pub returns-in_err-read-clause-tries : goal.returns-in_err-read-clause-tries
returns-in_err-read-clause-tries g c t tells is = tries_fault _ _ _ _ _ t (write_cause t.base.image c.args.last) _ c.from_residual.ensures c.in_err-read.ensures.looks.same c.in_err-read.ensures.looks.quiet is

pub returns-clause-tries : goal.returns-clause-tries
returns-clause-tries g c t tells is =
    let image = t.base.image in
    let p : ℕ = c.args.last in
    let low : p < length image = omega (arith, is.files.agrees.count, c.count.ensures.value, c.if-last-count.false) in
    let bytes : List ℕ = bytes_of 4 c.args.next in
    let facts = size_facts (length c.args.page.now) c.requires.size in
    let old = c.in_ok-read.ensures in
    let read : c.read.new.into ≡ page_at image p = old.page t tells is low in
    let now : c.put.new.page ≡ with_part 16 bytes (page_at image p) = c.put.ensures.written ∙ ap (λ (v : ℕ). with_part 16 (bytes_of 4 v) c.read.new.into) c.from.ensures ∙ ap (λ (x : Page). with_part 16 bytes x) read in
    let long : length (with_part 16 bytes (page_at image p)) ≡ length (page_at image p) = ap length (sym now) ∙ c.put.auto.page ∙ ap length read in
    let inside : 16 ≤ length (page_at image p) = omega (arith, facts.at_least, c.read.auto.into, ap length read) in
    let here = old_below p image low in
    let payload : List ℕ = linked_payload image p c.args.next in
    let filled : c.put.new.page ≡ with_payload (old_page p image) payload = now ∙ written_payload 16 bytes (page_at image p) (omega arith) inside long ∙ ap (λ (x : Page). with_payload x payload) (sym here) in
    let room : 16 + length payload ≤ length (old_page p image) = omega (arith, payload_inside 16 bytes (page_at image p) (omega arith) inside long, ap length here) in
    tries_named c.put_page.result _ _ _ _ t _ _ _ _ (write_low image p low) refl
    (tries_after c.put_page.result _ (g.H.Host.world c.read.new.host) _ _ c.read.new.self _ t _ _ old.looks.same old.looks.quiet is
    (c.put_page.ensures.tries t payload tells (old.looks.opened t tells is) room filled))

pub put_page-requires-clause-inside : goal.put_page-requires-clause-inside
put_page-requires-clause-inside g c = omega (arith, c.count.ensures.value, c.if-last-count.false, ap (λ (h : Held). h.files.count) c.in_ok-read.ensures.looks.same)
