use Rattle.std.proofs.Common.{◌+◌, ◌≤◌, ℕ, List, length, subst, arith, None, Ok}
use Rattle.nb_alloc.proofs.Common.{code_of, image_size, Base, Stroke, Draft, drafted, put, after_strokes, entry_cause, IsMap, page_strokes, content, SizeFacts, size_facts, plain_unkept, on_ok}
use Rattle.nb_alloc.proofs.PageLaws.{seen_after}
use Rattle.nb_alloc.proofs.ReadyLaws.{entry_ready, mark_put, page_strokes_are}
use Rattle.nb_alloc.proofs.ContentLaws.{content_short}
use Rattle.nb_alloc.proofs.DoesLaws.{tries_opened}
use Rattle.nb_alloc.proofs.MakeLaws.{tries_named, map_kept}
use Rattle.nb_alloc.proofs.NewLaws.{take_not, take_after, put_of}
use Rattle.nb_alloc.proofs.SearchReads.{inventory_most}
use Rattle.nb_alloc.proofs.make.take_new.Goals as goal

pub returns-in_err-make_page-clause-makes : goal.returns-in_err-make_page-clause-makes
returns-in_err-make_page-clause-makes g c t tells is supplied plain holds =
    let image = t.base.image in
    let p : ℕ = c.args.number in
    let kind : ℕ = code_of c.args.kind in
    let payload : List ℕ = content c.args.own c.args.payload.now p in
    let e : Draft = put p kind payload (drafted image) in
    let none = entry_ready image p (supplied.ready.entry (plain_unkept image p plain)) in
    take_not t p e (put_of t.base p kind payload) (Unit {0}) c.from_residual.result c.in_err-make_page.field-0.0 _ _ _ _ c.from_residual.ensures
    (tries_named _ _ _ _ _ t (entry_cause image p) None (page_strokes image p kind payload) e.strokes none (page_strokes_are t.base p kind payload supplied.shaped.size none) (c.in_err-make_page.ensures.tries t tells is))

pub returns-clause-makes : goal.returns-clause-makes
returns-clause-makes g c t tells is supplied plain holds =
    let image = t.base.image in
    let p : ℕ = c.args.number in
    let low : p ≤ length image = omega (arith, c.requires.inside, is.files.agrees.count) in
    let map = c.args.map.now in
    let kind : ℕ = code_of c.args.kind in
    let payload : List ℕ = content c.args.own c.args.payload.now p in
    let facts : SizeFacts (image_size image) = size_facts (image_size image) supplied.shaped.size in
    let room : 16 + length payload ≤ image_size image = omega (arith, facts.at_least, content_short c.args.own c.args.payload.now p c.requires.owner, c.requires.short) in
    let e : Draft = put p kind payload (drafted image) in
    let old = g.H.Host.world c.args.host.now in
    let mid = g.H.Host.world c.make_page.new.host in
    let own = supplied.ready.entry (plain_unkept image p plain) in
    let none = entry_ready image p own in
    let are = page_strokes_are t.base p kind payload supplied.shaped.size none in
    let first = tries_named {T = Unit {0}} (Ok tt) old mid c.args.store.now c.make_page.new.store t (entry_cause image p) None (page_strokes image p kind payload) e.strokes none are (c.in_ok-make_page.ensures.tries t tells is) in
    let opened = tries_opened {T = Unit {0}} tt old mid c.args.store.now c.make_page.new.store t None e.strokes first in
    let there : IsMap (after_strokes t e.strokes).base.image p map = subst (λ (ss : List Stroke). IsMap (after_strokes t ss).base.image p map) are
    (seen_after t (page_strokes image p kind payload) (λ (x : Base). IsMap x.image p map) (map_kept t.base p kind payload none low map supplied.shaped.size c.requires.low (holds plain))) in
    take_after t p e (put_of t.base p kind payload) c.put_map.result old mid (g.H.Host.world c.put_map.new.host) c.args.store.now c.make_page.new.store c.put_map.new.store
    (mark_put image p kind payload supplied.shaped supplied.ready own c.requires.low low room) first (c.put_map.ensures.tries (after_strokes t e.strokes) tells opened there.kind there.page)

pub returns-clause-added : goal.returns-clause-added
returns-clause-added g c = on_ok c.put_map.result (omega (arith, c.in_ok-make_page.ensures.added, c.put_map.ensures.goes.longer))

pub put_map-requires-clause-inside : goal.put_map-requires-clause-inside
put_map-requires-clause-inside g c =
    omega (arith, inventory_most c.make_page.new.store.files.page_size c.args.number (omega (arith, c.requires.low)), c.in_ok-make_page.ensures.added)
