use Rattle.std.proofs.Common.{ap, ◌∙◌}
use Rattle.nb_alloc.proofs.Common.{as_answer, Page, page, bit_for}
use Rattle.nb_alloc.proofs.MarkLaws.{bit_stroke-is}
use Rattle.nb_alloc.proofs.PageLaws.{makes_one}
use Rattle.nb_alloc.proofs.bit.write_bit.Goals as goal

pub returns-clause-makes : goal.returns-clause-makes
returns-clause-makes g c t tells is before =
    let place = c.args.place in
    let stroke = bit_stroke-is t.base.image place c.args.index (bit_for c.args.free) c.scn.result c.args.map.now c.set.new.self before (c.scn.ensures ∙ is.agrees.scn) c.set.ensures.page in
    makes_one (as_answer c.write.result) _ _ _ _ t _ _ (ap (λ (x : Page). page place x) c.as_slice.ensures ∙ stroke) (c.write.ensures.makes t tells is)
