use Rattle.std.proofs.Common.{◌/◌, ◌<◌, ℕ, sym, ap, subst, ◌∙◌, arith}
use Rattle.nb_alloc.proofs.Common.{bits_in, inventory_place, inventory_kind, page_at, not_kind, Held, inventory_place-some}
use Rattle.nb_alloc.proofs.TestLaws.{inventory_place_is}
use Rattle.nb_alloc.proofs.MarkLaws.{mark_other}
use Rattle.nb_alloc.proofs.DoesLaws.{tries_early, tries_after}
use Rattle.nb_alloc.proofs.bit.mark.Goals as goal

pub returns-in_err-read-clause-tries : goal.returns-in_err-read-clause-tries
returns-in_err-read-clause-tries g c t tells is =
    let image = t.base.image in
    let read = c.in_err-read.ensures in
    let at = inventory_place_is image _ c.args.number _ _ c.place_of.ensures c.covers-k.ensures.number (c.page_size-page_size.ensures.value ∙ is.files.agrees.page_size) in
    tries_early (Unit {0}) (Unit {0}) _ _ _ _ _ _ t (not_kind image inventory_kind c.place_of.result) _ _ c.from_residual.ensures read.takes_none (λ r e. mark_other t.base c.args.number r (ap (λ (q : ℕ). not_kind image inventory_kind q) (sym at) ∙ e))
    (read.reads t tells is).test read.looks.same read.looks.quiet is (read.looks.opened t tells is)

pub returns-clause-tries : goal.returns-clause-tries
returns-clause-tries g c t tells is =
    let image = t.base.image in
    let read = c.in_ok-read.ensures in
    let found = read.reads t tells is in
    let at = inventory_place_is image _ c.args.number _ _ c.place_of.ensures c.covers-k.ensures.number (c.page_size-page_size.ensures.value ∙ is.files.agrees.page_size) in
    tries_after c.put_map.result _ _ _ _ _ _ t _ _ read.looks.same read.looks.quiet is
    (c.put_map.ensures.tries t tells (read.looks.opened t tells is) (ap (λ (q : ℕ). not_kind image inventory_kind q) (sym at) ∙ found.test) (found.page ∙ ap (λ (q : ℕ). page_at image q) at))

pub returns-in_err-read-clause-once : goal.returns-in_err-read-clause-once
returns-in_err-read-clause-once g c tells =
    let some = inventory_place-some c.page_size-page_size.result c.covers-k.result.0 c.page_size-page_size.ensures.one_of in
    let read = c.in_err-read.ensures.once tells (omega (arith, some, c.place_of.ensures)) in
    omega (arith, read)

pub returns-clause-once : goal.returns-clause-once
returns-clause-once g c tells =
    let some = inventory_place-some c.page_size-page_size.result c.covers-k.result.0 c.page_size-page_size.ensures.one_of in
    let read = c.in_ok-read.ensures.once tells (omega (arith, some, c.place_of.ensures)) in
    omega (arith, read, c.put_map.ensures.once tells)

pub put_map-requires-clause-inside : goal.put_map-requires-clause-inside
put_map-requires-clause-inside g c =
    let at = c.place_of.ensures ∙ ap (λ (k : ℕ). inventory_place c.page_size-page_size.result k) c.covers-k.ensures.number ∙ ap (λ (s : ℕ). inventory_place s (c.args.number / bits_in s)) c.page_size-page_size.ensures.value in
    subst (λ (h : Held). inventory_place h.files.page_size (c.args.number / bits_in h.files.page_size) < h.files.count) (sym c.in_ok-read.ensures.looks.same) (omega (arith, at, c.in_ok-read.ensures.below))
