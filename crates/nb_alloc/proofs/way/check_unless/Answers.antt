use Rattle.std.proofs.Common.{◌≢◌, sym, ap, subst, ◌∙◌, arith}
use Rattle.nb_alloc.proofs.Common.{scn_kind, Cause, not_kind, Tested}
use Rattle.nb_alloc.proofs.PutLaws.{scn_page-without, other-with}
use Rattle.nb_alloc.proofs.RaiseLaws.{scn_page-is}
use Rattle.nb_alloc.proofs.PassLaws.{entry_made, entry_none, entry_tested}
use Rattle.nb_alloc.proofs.way.check_unless.Goals as goal

pub returns-then-place-made-clause-test : goal.returns-then-place-made-clause-test
returns-then-place-made-clause-test g c t tells is =
    let size = c.page_size-page_size.ensures.value ∙ is.files.agrees.page_size in
    let there = scn_page-is t.base.image _ c.covers-k.result.0 c.args.number c.place_of-place.result size c.covers-k.ensures.number c.place_of-place.ensures in
    entry_made t.base.image c.args.made c.args.number (sym there ∙ c.if-place-made.true)

pub returns-then-is_place-clause-test : goal.returns-then-is_place-clause-test
returns-then-is_place-clause-test g c t tells is =
    let size = c.page_size-page_size.ensures.value ∙ is.files.agrees.page_size in
    let there = scn_page-is t.base.image _ c.covers-k.result.0 c.args.number c.place_of-place.result size c.covers-k.ensures.number c.place_of-place.ensures in
    entry_none t.base.image c.args.made c.args.number (λ e. c.if-place-made.false (there ∙ e))
    (scn_page-without t.base.image c.args.number c.page_size-page_size.result size (sym c.is_place.ensures.value ∙ c.if-is_place.true))

pub returns-clause-test : goal.returns-clause-test
returns-clause-test g c t tells is =
    let size = c.page_size-page_size.ensures.value ∙ is.files.agrees.page_size in
    let there = scn_page-is t.base.image _ c.covers-k.result.0 c.args.number c.place_of-place.result size c.covers-k.ensures.number c.place_of-place.ensures in
    let some : c.args.number ≢ 0 = λ e. absurd (omega (arith, e, c.requires.low)) in
    let has = other-with t.base.image c.args.number _ size some (sym c.is_place.ensures.value ∙ c.if-is_place.false) in
    subst (λ (cause : Cause). Tested c.read.result cause) (ap (not_kind t.base.image scn_kind) there ∙ sym (entry_tested t.base.image c.args.made c.args.number (λ e. c.if-place-made.false (there ∙ e)) has)) (c.read.ensures.reads t tells is).test
