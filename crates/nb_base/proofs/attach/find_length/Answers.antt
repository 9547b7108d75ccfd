use Rattle.std.proofs.Common.{ℕ, ◌*◌, length, refl, ap, sym, ◌∙◌, arith}
use Rattle.nb_base.proofs.Common.{Files, quiet_begun, quiet_joined}
use Rattle.nb_base.proofs.AttachLaws.{inside, length_most, length_one, length_less, length_found}
use Rattle.nb_base.proofs.attach.find_length.Goals as goal

pub loop-count-init : goal.loop-count-init
loop-count-init g c = record {
  some = c.requires.some;
  most = omega arith;
  quiet = quiet_begun (g.H.Host.world c.args.host.now) (g.met.H.Host.timely _);
  reads = λ tells. refl;
  cause = refl;
  behind = λ tells bytes there none same long. length_most bytes none _ same c.args.pages long;
}

pub returns-then-not-branch-clause-length : goal.returns-then-not-branch-clause-length
returns-then-not-branch-clause-length g c tells bytes there none same long =
    let loop = c.loop-count.invariant in
    let size : ℕ = length c.loop-count.page in
    let held = same ∙ sym c.loop-count.auto.page in
    let all = long ∙ ap (λ (k : ℕ). c.args.pages * k) (sym c.loop-count.auto.page) in
    let here = ap (λ (f : Files). f c.args.name.now) loop.quiet.still.files ∙ there in
    let fits = inside bytes none size held c.args.pages all _ (omega (arith, loop.some, loop.most)) in
    length_found bytes none size held c.args.pages all c.loop-count.count loop.some loop.most (loop.behind tells bytes there none same long) c.in_ok-is_blank.field-0
    (c.in_ok-is_blank.ensures.answer tells bytes here fits) c.if-not-branch.true

pub loop-count-preserved : goal.loop-count-preserved
loop-count-preserved g c =
    let loop = c.loop-count.invariant in
    record {
      some = omega (arith, c.loop-count-test.true);
      most = omega (arith, loop.most);
      quiet = quiet_joined _ _ _ loop.quiet c.in_ok-is_blank.ensures.quiet;
      reads = λ tells. omega (arith, loop.reads tells, c.in_ok-is_blank.ensures.reads tells, c.loop-count-test.true);
      cause = c.in_ok-is_blank.ensures.cause ∙ loop.cause;
      behind = λ tells bytes there none same long.
          let size : ℕ = length c.loop-count.page in
          let held = same ∙ sym c.loop-count.auto.page in
          let all = long ∙ ap (λ (k : ℕ). c.args.pages * k) (sym c.loop-count.auto.page) in
          let here = ap (λ (f : Files). f c.args.name.now) loop.quiet.still.files ∙ there in
          let fits = inside bytes none size held c.args.pages all _ (omega (arith, loop.some, loop.most)) in
          length_less bytes none size held c.args.pages all c.loop-count.count loop.some loop.most (loop.behind tells bytes there none same long) c.in_ok-is_blank.field-0
          (c.in_ok-is_blank.ensures.answer tells bytes here fits) c.if-not-branch.false;
    }

pub returns-clause-length : goal.returns-clause-length
returns-clause-length g c tells bytes there none same long =
    let loop = c.loop-count.invariant in
    length_one bytes none _ same c.args.pages long c.loop-count.count loop.some c.loop-count-test.false (loop.behind tells bytes there none same long)
