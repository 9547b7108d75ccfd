use Rattle.std.proofs.Common.{◌≡◌, ℕ, ◌-◌, ◌∷◌, drop, ap, sym, subst, ◌∙◌, arith, length-drop}
use Rattle.nb_inplace.proofs.Common.{Files, IsOfSize, quiet_joined}
use Rattle.nb_inplace.proofs.CountingLaws.{blank_there, count_found, count_on, count_first, count_within}
use Rattle.nb_inplace.proofs.counting.count_pages.Goals as goal

pub returns-then-not-branch-clause-answer : goal.returns-then-not-branch-clause-answer
returns-then-not-branch-clause-answer g c tells start image there sizes long some other =
    let loop = c.loop-count.invariant in
    let now = ap (λ (f : Files). f c.args.standby.now) loop.quiet.still.files ∙ there in
    let wide = subst (λ (n : ℕ). IsOfSize n (start ∷ drop 1 image)) (sym c.loop-count.auto.page) sizes in
    let told = c.in_ok-is_blank.ensures.answer tells (start ∷ drop 1 image) now wide (omega (arith, length-drop 1 image, long, some, loop.most, c.loop-count-test.true)) in
    count_found image c.loop-count.count (omega (arith, c.loop-count-test.true)) (sym (blank_there image start (c.loop-count.count - 1) _ (omega (arith, c.loop-count-test.true)) told) ∙ c.if-not-branch.true) (loop.behind tells start image there sizes long)

pub loop-count-preserved : goal.loop-count-preserved
loop-count-preserved g c =
    let loop = c.loop-count.invariant in
    record {
      quiet = quiet_joined _ _ _ loop.quiet c.in_ok-is_blank.ensures.quiet;
      cause = c.in_ok-is_blank.ensures.cause ∙ loop.cause;
      most = omega (arith, loop.most);
      some = λ some. omega (arith, c.loop-count-test.true);
      reads = λ tells. omega (arith, loop.reads tells, c.in_ok-is_blank.ensures.once tells, c.loop-count-test.true);
      behind = λ tells start image there sizes long.
          let now = ap (λ (f : Files). f c.args.standby.now) loop.quiet.still.files ∙ there in
          let wide = subst (λ (n : ℕ). IsOfSize n (start ∷ drop 1 image)) (sym c.loop-count.auto.page) sizes in
          let told = c.in_ok-is_blank.ensures.answer tells (start ∷ drop 1 image) now wide (omega (arith, length-drop 1 image, long, loop.most, c.loop-count-test.true)) in
          count_on image c.loop-count.count (omega (arith, c.loop-count-test.true)) (sym (blank_there image start (c.loop-count.count - 1) _ (omega (arith, c.loop-count-test.true)) told) ∙ c.if-not-branch.false) (loop.behind tells start image there sizes long);
    }

pub returns-clause-answer : goal.returns-clause-answer
returns-clause-answer g c tells start image there sizes long some other =
    let loop = c.loop-count.invariant in
    let one : c.loop-count.count ≡ 1 = let least = loop.some some in omega (arith, least, c.loop-count-test.false) in
    count_first image c.loop-count.count one other (loop.behind tells start image there sizes long)

pub returns-in_err-is_blank-clause-within : goal.returns-in_err-is_blank-clause-within
returns-in_err-is_blank-clause-within g c tells start image there sizes long =
    let loop = c.loop-count.invariant in
    count_within image c.loop-count.count _ _ _ (let low = loop.reads tells in omega (arith, low, long)) (loop.behind tells start image there sizes long) (c.is_blank.ensures.once tells)

pub returns-then-not-branch-clause-within : goal.returns-then-not-branch-clause-within
returns-then-not-branch-clause-within g c tells start image there sizes long =
    let loop = c.loop-count.invariant in
    count_within image c.loop-count.count _ _ _ (let low = loop.reads tells in omega (arith, low, long)) (loop.behind tells start image there sizes long) (c.is_blank.ensures.once tells)

pub returns-clause-within : goal.returns-clause-within
returns-clause-within g c tells start image there sizes long =
    let loop = c.loop-count.invariant in
    count_within image c.loop-count.count _ (g.H.Host.world c.loop-count.host).reads _ (let low = loop.reads tells in omega (arith, low, long)) (loop.behind tells start image there sizes long) (omega arith)
