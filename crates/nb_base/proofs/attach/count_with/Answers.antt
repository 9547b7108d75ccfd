use Rattle.std.proofs.Common.{ap, ◌∙◌, arith}
use Rattle.nb_base.proofs.Common.{Known}
use Rattle.nb_base.proofs.AttachLaws.{counted-next}
use Rattle.nb_base.proofs.attach.count_with.Goals as goal

pub loop-k-preserved : goal.loop-k-preserved
loop-k-preserved g c = record {
  same = c.in_ok-page.ensures.same ∙ c.loop-k.invariant.same;
  no_call = c.in_ok-page.ensures.no_call ∙ c.loop-k.invariant.no_call;
  count =
      counted-next _ _ c.loop-k.k c.in_ok-page.page c.loop-k.count c.args.main_count _ (ap (λ (d : Known). d.entries) c.loop-k.invariant.same) c.in_ok-page.ensures.page
      (omega (arith, c.loop-k-test.true, c.loop-k.auto.k-end, c.count-k-end.ensures.value)) c.max-count.ensures c.loop-k.invariant.count;
  most = omega (arith, c.max-count.ensures, c.in_ok-page.ensures.below, c.loop-k.invariant.most);
}
