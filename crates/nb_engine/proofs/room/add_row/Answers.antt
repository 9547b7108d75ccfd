use Rattle.std.proofs.Common.{◌≡◌, ◌+◌, ◌*◌, ◌<◌, ◌≤◌, ℕ, List, length, drop, sym, ap, subst, ◌∙◌, arith, IsTrue}
use Rattle.nb_engine.proofs.Common.{with_part, with_payload, is_page_size, Page, page_at, image_size, old_page, Slot, backup_slot, entry_cause, tries_after, tries_these, tries_fault, old_below, Held}
use Rattle.nb_engine.proofs.LinkLaws.{written_payload, payload_inside, slot_strokes}
use Rattle.nb_engine.proofs.room.add_row.Goals as goal

pub returns-in_err-read-clause-tries : goal.returns-in_err-read-clause-tries
returns-in_err-read-clause-tries g c t tells is = tries_fault _ _ _ _ _ t (entry_cause t.base.image c.args.room.now.page) _ c.from_residual.ensures c.in_err-read.ensures.looks.same c.in_err-read.ensures.looks.quiet is

pub returns-clause-tries : goal.returns-clause-tries
returns-clause-tries g c t tells is =
    let image = t.base.image in
    let p : ℕ = c.args.room.now.page in
    let low : p < length image = omega (arith, c.requires.inside, is.files.agrees.count) in
    let at : ℕ = 32 + 256 * c.args.room.now.slot in
    let row = c.args.row.now in
    let bytes : Slot = backup_slot row.level row.scn row.time row.guid row.name in
    let old = c.in_ok-read.ensures in
    let read : c.read.new.into ≡ page_at image p = old.page t tells is low in
    let now : c.put_slot.new.page ≡ with_part at bytes (page_at image p) = c.put_slot.ensures ∙ ap (λ (x : Page). with_part at bytes x) read in
    let long : length (with_part at bytes (page_at image p)) ≡ length (page_at image p) = ap length (sym now) ∙ c.put_slot.auto.page ∙ ap length read in
    let inside : at ≤ length (page_at image p) = omega (arith, c.requires.placed.inside, c.requires.page_room, c.read.auto.into, ap length read) in
    let payload : List ℕ = drop 16 (with_part at bytes (page_at image p)) in
    let here = old_below p image low in
    let filled : c.put_slot.new.page ≡ with_payload (old_page p image) payload = now ∙ written_payload at bytes (page_at image p) (omega arith) inside long ∙ ap (λ (x : Page). with_payload x payload) (sym here) in
    let room : 16 + length payload ≤ length (old_page p image) = omega (arith, payload_inside at bytes (page_at image p) (omega arith) inside long, ap length here) in
    let size : IsTrue (is_page_size (image_size image)) = subst (λ (n : ℕ). IsTrue (is_page_size n)) (c.requires.page_room ∙ is.files.agrees.page_size) c.requires.size in
    tries_these c.put_page.result _ _ _ _ t _ _ _ (λ none. slot_strokes t.base p c.args.room.now.slot bytes size none)
    (tries_after c.put_page.result _ (g.H.Host.world c.read.new.host) _ _ c.read.new.self _ t _ _ old.looks.same old.looks.quiet is
    (c.put_page.ensures.tries t payload tells (old.looks.opened t tells is) room filled))

pub put_page-requires-clause-inside : goal.put_page-requires-clause-inside
put_page-requires-clause-inside g c = omega (arith, c.requires.inside, ap (λ (h : Held). h.files.count) c.in_ok-read.ensures.looks.same)
