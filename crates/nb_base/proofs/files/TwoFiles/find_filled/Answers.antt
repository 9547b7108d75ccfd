use Rattle.std.proofs.Common.{◌≤◌, length, refl, ap, sym, subst, ◌∙◌, arith}
use Rattle.nb_base.proofs.Common.{quiet_begun, quiet_joined, trimmed_length, Held, IsOpen}
use Rattle.nb_base.proofs.FilledLaws.{fewer_filled, all_filled, some_filled, open_still}
use Rattle.nb_base.proofs.files.TwoFiles.find_filled.Goals as goal

pub loop-count-init : goal.loop-count-init
loop-count-init g c = record {
  same = refl;
  most = omega (arith, ap (λ (h : Held). h.count) c.self.view_is);
  quiet = quiet_begun (g.H.Host.world c.args.host.now) (g.met.H.Host.timely _);
  cause = refl;
  behind = λ t tells is. omega (arith, trimmed_length t.base.image, is.agrees.count, ap (λ (h : Held). h.count) c.self.view_is);
}

pub returns-then-not-branch-clause-count : goal.returns-then-not-branch-clause-count
returns-then-not-branch-clause-count g c t tells is =
    let loop = c.loop-count.invariant in
    let mid = g.H.Host.world c.loop-count.host in
    let here = subst (λ (h : Held). IsOpen mid h t) (sym loop.same) (open_still (g.H.Host.world c.args.host.now) mid c.args.self.now t loop.quiet.still is) in
    let low = loop.behind t tells is in
    let most : c.loop-count.count ≤ length t.base.image = omega (arith, loop.most, is.agrees.count) in
    all_filled t.base.image c.loop-count.count (omega (arith, c.loop-count-test.true)) most low
    (sym (c.in_ok-is_blank.ensures.answer t tells here (omega (arith, most, c.loop-count-test.true))) ∙ c.if-not-branch.true)

pub loop-count-preserved : goal.loop-count-preserved
loop-count-preserved g c =
    let loop = c.loop-count.invariant in
    let mid = g.H.Host.world c.loop-count.host in
    record {
      same = c.in_ok-is_blank.ensures.same ∙ loop.same;
      most = omega (arith, loop.most);
      quiet = quiet_joined _ _ _ loop.quiet c.in_ok-is_blank.ensures.quiet;
      cause = c.in_ok-is_blank.ensures.cause ∙ loop.cause;
      behind = λ t tells is.
          let here = subst (λ (h : Held). IsOpen mid h t) (sym loop.same) (open_still (g.H.Host.world c.args.host.now) mid c.args.self.now t loop.quiet.still is) in
          let low = loop.behind t tells is in
          let most : c.loop-count.count ≤ length t.base.image = omega (arith, loop.most, is.agrees.count) in
          fewer_filled t.base.image c.loop-count.count (omega (arith, c.loop-count-test.true)) most low
          (sym (c.in_ok-is_blank.ensures.answer t tells here (omega (arith, most, c.loop-count-test.true))) ∙ c.if-not-branch.false);
    }

pub returns-clause-count : goal.returns-clause-count
returns-clause-count g c t tells is =
    let low = c.loop-count.invariant.behind t tells is in
    let some = some_filled t.base.image is.agrees.header in
    omega (arith, low, some, c.loop-count-test.false)
