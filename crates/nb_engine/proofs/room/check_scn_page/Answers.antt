use Rattle.std.proofs.Common.{ℕ, sym, ap, ◌∙◌}
use Rattle.nb_engine.proofs.Common.{scn_kind, not_kind, tested_by_name}
use Rattle.nb_alloc.proofs.RaiseLaws.{scn_page-is}
use Rattle.nb_engine.proofs.room.check_scn_page.Goals as goal

pub returns-clause-test : goal.returns-clause-test
returns-clause-test g c t tells is =
    let image = t.base.image in
    let size = c.page_size-page_size.ensures.value ∙ is.files.agrees.page_size in
    let there = scn_page-is image _ c.covers-k.result.0 c.args.number c.place_of.result size c.covers-k.ensures.number c.place_of.ensures in
    tested_by_name c.read.result _ _ (ap (λ (q : ℕ). not_kind image scn_kind q) (sym there)) (c.read.ensures.reads t tells is).test
