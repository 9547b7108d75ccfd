use Rattle.std.proofs.Common.{ℕ, List, length, ◌≡◌, ◌∙◌, ap, sym, subst, arith, refl}
use Rattle.nb_delta.proofs.Common.{Files, slots_in, SizeFacts, size_facts}
use Rattle.nb_page.proofs.QuietLaws.{quiet_begun, quiet_joined}
use Rattle.nb_delta.proofs.GroupLaws.{Behind, behind_none, step_full, step_last, step_fault, counts_full, counts_last, groups_of}
use Rattle.nb_delta.proofs.reading.read_table.Goals as goal

pub loop-group-init : goal.loop-group-init
loop-group-init g c = record {
  more = let none = ap (λ (xs : List ℕ). length xs) c.requires.none in omega arith;
  few = λ some. absurd (omega arith);
  quiet = quiet_begun (g.H.Host.world c.args.host.now) (g.met.H.Host.timely _);
  reads = λ tells. omega arith;
  cause = refl;
  answer = λ tells bytes there long. subst (λ (xs : List ℕ). Behind (length c.args.page.now) bytes 0 xs) (sym c.requires.none) (behind_none (length c.args.page.now) bytes);
}

pub loop-group-preserved : goal.loop-group-preserved
loop-group-preserved g c =
    let size : ℕ = length c.args.page.now in
    let same : length c.loop-group.page ≡ size = c.loop-group.auto.page in
    let facts : SizeFacts size = size_facts size c.requires.size in
    let counted = counts_full c.in_ok-is_full.is_full (slots_in (length c.loop-group.page)) (length c.loop-group.entries) (length c.read_group.new.entries) c.if-not-is_full.false c.in_ok-is_full.ensures.more in
    record {
      more = let room = ap (λ (n : ℕ). slots_in n) same in omega (arith, counted.0, room, c.loop-group.invariant.more);
      few = λ some. counted.1;
      quiet = quiet_joined _ _ _ c.loop-group.invariant.quiet c.read_group.ensures.quiet;
      reads = λ tells. omega (arith, c.loop-group.invariant.reads tells, c.in_ok-is_full.ensures.reads tells);
      cause = c.in_ok-is_full.ensures.cause ∙ c.loop-group.invariant.cause;
      answer = λ tells bytes there long.
          step_full size (length c.loop-group.page) c.alloc_page_of.result c.loop-group.group bytes c.loop-group.entries c.read_group.new.entries same c.alloc_page_of.ensures.value (omega arith)
          (c.loop-group.invariant.answer tells bytes there long) c.in_ok-is_full.is_full c.if-not-is_full.false
          (c.in_ok-is_full.ensures.answer tells bytes _ (ap (λ (f : Files). f c.args.name.now) c.loop-group.invariant.quiet.still.files ∙ there) long)
          (omega (arith, c.in_ok-is_full.ensures.whole c.if-not-is_full.false, long));
    }

pub returns-in_err-is_full-clause-answer : goal.returns-in_err-is_full-clause-answer
returns-in_err-is_full-clause-answer g c tells bytes there long =
    let size : ℕ = length c.args.page.now in
    let same : length c.loop-group.page ≡ size = c.loop-group.auto.page in
    let facts : SizeFacts size = size_facts size c.requires.size in
    step_fault size (length c.loop-group.page) c.alloc_page_of.result c.loop-group.group bytes c.loop-group.entries c.read_group.new.entries same c.alloc_page_of.ensures.value (omega arith)
    (c.loop-group.invariant.answer tells bytes there long) _ _ c.from_residual.ensures
    (c.in_err-is_full.ensures.answer tells bytes _ (ap (λ (f : Files). f c.args.name.now) c.loop-group.invariant.quiet.still.files ∙ there) long)

pub returns-in_err-is_full-clause-quiet : goal.returns-in_err-is_full-clause-quiet
returns-in_err-is_full-clause-quiet g c = quiet_joined _ _ _ c.loop-group.invariant.quiet c.read_group.ensures.quiet

pub returns-then-not-is_full-clause-answer : goal.returns-then-not-is_full-clause-answer
returns-then-not-is_full-clause-answer g c tells bytes there long =
    let size : ℕ = length c.args.page.now in
    let same : length c.loop-group.page ≡ size = c.loop-group.auto.page in
    let facts : SizeFacts size = size_facts size c.requires.size in
    step_last size (length c.loop-group.page) c.alloc_page_of.result c.loop-group.group bytes c.loop-group.entries c.read_group.new.entries same c.alloc_page_of.ensures.value (omega arith)
    (c.loop-group.invariant.answer tells bytes there long) c.in_ok-is_full.is_full c.if-not-is_full.true
    (c.in_ok-is_full.ensures.answer tells bytes _ (ap (λ (f : Files). f c.args.name.now) c.loop-group.invariant.quiet.still.files ∙ there) long)

pub returns-then-not-is_full-clause-quiet : goal.returns-then-not-is_full-clause-quiet
returns-then-not-is_full-clause-quiet g c = quiet_joined _ _ _ c.loop-group.invariant.quiet c.read_group.ensures.quiet

pub returns-then-not-is_full-clause-reads : goal.returns-then-not-is_full-clause-reads
returns-then-not-is_full-clause-reads g c tells =
    let size : ℕ = length c.args.page.now in
    let same : length c.loop-group.page ≡ size = c.loop-group.auto.page in
    let facts : SizeFacts size = size_facts size c.requires.size in
    let room = ap (λ (n : ℕ). slots_in n) same in
    let counted = counts_last c.in_ok-is_full.is_full (slots_in (length c.loop-group.page)) (length c.loop-group.entries) (length c.read_group.new.entries) c.if-not-is_full.true c.in_ok-is_full.ensures.more in
    let groups = groups_of c.loop-group.group (slots_in size) (length c.read_group.new.entries) (omega arith) (omega (arith, counted.0, c.loop-group.invariant.more)) (omega (arith, counted.1, c.loop-group.invariant.more, room)) in
    omega (arith, c.loop-group.invariant.reads tells, c.in_ok-is_full.ensures.reads tells, groups)
