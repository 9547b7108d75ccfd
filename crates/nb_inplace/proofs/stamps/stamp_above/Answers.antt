use Rattle.std.proofs.Common.{arith}
use Rattle.nb_inplace.proofs.Common.{size_facts}
use Rattle.nb_inplace.proofs.StampLaws.{page_late, page_early, pages_early}
use Rattle.nb_inplace.proofs.stamps.stamp_above.Goals as goal

pub returns-then-stamp-scn : goal.returns-then-stamp-scn
returns-then-stamp-scn c name ps is sizes =
    let wide = (size_facts c.args.page_size c.requires).at_least in
    page_late c.args.page_size c.args.scn c.args.pages.now name ps is sizes (omega (arith, wide)) c.loop-number.number _ (omega (arith, c.loop-number-test.true, c.loop-number.auto.number-end)) c.get-stamp.ensures.value c.if-stamp-scn.true
    (c.loop-number.invariant name ps is sizes)

pub loop-number-preserved : goal.loop-number-preserved
loop-number-preserved c name ps is sizes =
    let wide = (size_facts c.args.page_size c.requires).at_least in
    page_early c.args.page_size c.args.scn c.args.pages.now name ps is sizes (omega (arith, wide)) c.loop-number.number _ (omega (arith, c.loop-number-test.true, c.loop-number.auto.number-end)) c.get-stamp.ensures.value (omega (arith, c.if-stamp-scn.false))
    (c.loop-number.invariant name ps is sizes)

pub returns : goal.returns
returns c name ps is sizes =
    let wide = (size_facts c.args.page_size c.requires).at_least in
    pages_early c.args.page_size c.args.scn c.args.pages.now name ps is sizes (omega (arith, wide)) c.loop-number.number (omega (arith, c.loop-number-test.false, c.loop-number.auto.number-end)) (c.loop-number.invariant name ps is sizes)
