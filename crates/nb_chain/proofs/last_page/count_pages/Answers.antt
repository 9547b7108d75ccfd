use Rattle.std.proofs.Common.{◌≡◌, ℕ, ◌-◌, ◌*◌, ◌≤◌, length, ap, sym, subst, ◌∙◌, arith, max}
use Rattle.nb_chain.proofs.Common.{Files, quiet_joined, is_blank}
use Rattle.nb_chain.proofs.CountLaws.{end_within, found_filled, found_blank, found_none}
use Rattle.nb_chain.proofs.last_page.count_pages.Goals as goal

pub returns-then-not-branch-clause-answer : goal.returns-then-not-branch-clause-answer
returns-then-not-branch-clause-answer g c tells bytes there long =
    let loop = c.loop-count.invariant in
    let size : length c.loop-count.page ≡ length c.args.page.now = c.loop-count.auto.page in
    let here = ap (λ (f : Files). f c.args.name.now) loop.quiet.still.files ∙ there in
    let fits = subst (λ (n : ℕ). c.args.pages * n ≤ length bytes) (sym size) long in
    let told = c.in_ok-is_blank.ensures.answer tells bytes here fits in
    let blank = ap (λ (n : ℕ). is_blank bytes n c.args.pages c.args.overlay.now (c.loop-count.count - 1)) (sym size) ∙ sym told ∙ c.if-not-branch.true in
    sym (loop.behind tells bytes there long ∙ found_filled (is_blank bytes (length c.args.page.now) c.args.pages c.args.overlay.now) c.loop-count.count (c.loop-count.count - 1) (omega (arith, c.loop-count-test.true)) blank)

pub loop-count-preserved : goal.loop-count-preserved
loop-count-preserved g c =
    let loop = c.loop-count.invariant in
    record {
      quiet = quiet_joined _ _ _ loop.quiet c.in_ok-is_blank.ensures.quiet;
      cause = c.in_ok-is_blank.ensures.cause ∙ loop.cause;
      most = omega (arith, loop.most);
      reads = λ tells. omega (arith, loop.reads tells, c.in_ok-is_blank.ensures.reads tells, c.loop-count-test.true);
      behind = λ tells bytes there long.
          let size : length c.loop-count.page ≡ length c.args.page.now = c.loop-count.auto.page in
          let here = ap (λ (f : Files). f c.args.name.now) loop.quiet.still.files ∙ there in
          let fits = subst (λ (n : ℕ). c.args.pages * n ≤ length bytes) (sym size) long in
          let told = c.in_ok-is_blank.ensures.answer tells bytes here fits in
          let blank = ap (λ (n : ℕ). is_blank bytes n c.args.pages c.args.overlay.now (c.loop-count.count - 1)) (sym size) ∙ sym told ∙ c.if-not-branch.false in
          loop.behind tells bytes there long ∙ found_blank (is_blank bytes (length c.args.page.now) c.args.pages c.args.overlay.now) c.loop-count.count (c.loop-count.count - 1) (omega (arith, c.loop-count-test.true)) blank;
    }

pub returns-clause-answer : goal.returns-clause-answer
returns-clause-answer g c tells bytes there long =
    let loop = c.loop-count.invariant in
    sym (loop.behind tells bytes there long ∙ found_none (is_blank bytes (length c.args.page.now) c.args.pages c.args.overlay.now) c.loop-count.count (omega (arith, c.loop-count-test.false)))

pub returns-in_err-is_blank-clause-within : goal.returns-in_err-is_blank-clause-within
returns-in_err-is_blank-clause-within g c tells bytes there long =
    let loop = c.loop-count.invariant in
    end_within (is_blank bytes (length c.args.page.now) c.args.pages c.args.overlay.now) c.loop-count.count (max c.args.pages (length c.args.overlay.now)) _ _ _ (loop.reads tells) (loop.behind tells bytes there long) (c.is_blank.ensures.reads tells)

pub returns-then-not-branch-clause-within : goal.returns-then-not-branch-clause-within
returns-then-not-branch-clause-within g c tells bytes there long =
    let loop = c.loop-count.invariant in
    end_within (is_blank bytes (length c.args.page.now) c.args.pages c.args.overlay.now) c.loop-count.count (max c.args.pages (length c.args.overlay.now)) _ _ _ (loop.reads tells) (loop.behind tells bytes there long) (c.is_blank.ensures.reads tells)

pub returns-clause-within : goal.returns-clause-within
returns-clause-within g c tells bytes there long =
    let loop = c.loop-count.invariant in
    end_within (is_blank bytes (length c.args.page.now) c.args.pages c.args.overlay.now) c.loop-count.count (max c.args.pages (length c.args.overlay.now)) _ _ _ (loop.reads tells) (loop.behind tells bytes there long) (omega arith)
