use Rattle.std.proofs.Common.{ap, sym, ◌∙◌}
use Rattle.nb_alloc.proofs.Common.{inventory_kind, not_kind}
use Rattle.nb_alloc.proofs.DoesLaws.{tested_by_name}
use Rattle.nb_alloc.proofs.TestLaws.{inventory_place_is}
use Rattle.nb_alloc.proofs.find.hold_map.Goals as goal

pub returns-then-was_read-clause-test : goal.returns-then-was_read-clause-test
returns-then-was_read-clause-test g c t tells is ends =
    (c.was_read.ensures t.base.image c.args.map.now (c.page_size-page_size.ensures.value ∙ is.files.agrees.page_size) (c.count-count.ensures.value ∙ is.files.agrees.count) ends c.if-was_read.true).kind

pub returns-then-was_read-clause-map : goal.returns-then-was_read-clause-map
returns-then-was_read-clause-map g c t tells is ends =
    c.was_read.ensures t.base.image c.args.map.now (c.page_size-page_size.ensures.value ∙ is.files.agrees.page_size) (c.count-count.ensures.value ∙ is.files.agrees.count) ends c.if-was_read.true

pub returns-clause-test : goal.returns-clause-test
returns-clause-test g c t tells is ends =
    let there = inventory_place_is t.base.image _ c.args.number _ _ c.place_of.ensures c.covers-k.ensures.number (c.page_size-page_size.ensures.value ∙ is.files.agrees.page_size) in
    tested_by_name c.read.result _ _ (ap (not_kind t.base.image inventory_kind) (sym there)) (c.read.ensures.reads t tells is).test
