use Rattle.std.proofs.Common.{ℕ, [], ◌∷◌, refl, ap, ◌∙◌, arith}
use Rattle.nb_check.proofs.Common.{broken_at, next_in, pages_of, Held, tested_on, IsReached, chain_by, not_linked, walks_first, walks_broken, walks_next, walks_none, walks_all, walks_length, walks_over, looks_begun, looks_then}
use Rattle.nb_check.proofs.MarkLaws.{reached_none, reached_both}
use Rattle.nb_check.proofs.walk.mark_chain.Goals as goal

pub loop-left-init : goal.loop-left-init
loop-left-init g c = record {
  walks = λ t tells is.
      walks_first (chain_by c.args.chain) t.base.image (λ ps. IsReached c.args.marks.now ps c.args.marks.now) c.count-left.result c.first-number.result (c.count-left.ensures.value ∙ is.files.agrees.count) c.first-number.ensures (reached_none c.args.marks.now);
  few = omega (arith, c.count-left.ensures.value);
  sized = refl;
  looks = looks_begun (g.H.Host.world c.args.host.now) (g.met.H.Host.timely c.args.host.now);
  once = λ tells. omega arith;
  cause = refl;
}

pub chain_read-requires : goal.chain_read-requires
chain_read-requires g c = omega (arith, c.loop-left.invariant.sized, c.requires.size, ap (λ (h : Held). h.files.page_size) c.loop-left.invariant.looks.same)

pub returns-in_err-next-clause-test : goal.returns-in_err-next-clause-test
returns-in_err-next-clause-test g c t tells is =
    let l = c.loop-left in
    let chain = chain_by c.args.chain in
    let still = l.invariant.looks.opened t tells is in
    tested_on ℕ (Unit {0}) _ _ (not_linked chain t.base.image l.number) (broken_at (pages_of chain t.base.image)) c.from_residual.ensures
    (walks_broken chain t.base.image (λ ps. IsReached c.args.marks.now ps l.marks) l.left l.number c.loop-left-test.true (l.invariant.walks t tells is)) (c.in_err-next.ensures.test t tells still)

pub returns-then-next-eq0-clause-test : goal.returns-then-next-eq0-clause-test
returns-then-next-eq0-clause-test g c t tells is =
    let l = c.loop-left in
    let still = l.invariant.looks.opened t tells is in
    walks_none (chain_by c.args.chain) t.base.image (λ ps. IsReached c.args.marks.now ps l.marks) l.left l.number c.loop-left-test.true (l.invariant.walks t tells is) (c.in_ok-next.ensures.test t tells still) (λ ps. IsReached c.args.marks.now ps c.reach.new.self)
    (λ ps was. reached_both c.args.marks.now ps l.marks (l.number ∷ []) c.reach.new.self was c.reach.ensures) c.in_ok-next.next (c.in_ok-next.ensures.next ∙ ap next_in (c.in_ok-next.ensures.page t tells still)) c.if-next-eq0.true

pub returns-then-next-eq0-clause-reached : goal.returns-then-next-eq0-clause-reached
returns-then-next-eq0-clause-reached g c t tells is =
    let l = c.loop-left in
    let still = l.invariant.looks.opened t tells is in
    walks_all (chain_by c.args.chain) t.base.image (λ ps. IsReached c.args.marks.now ps l.marks) l.left l.number c.loop-left-test.true (l.invariant.walks t tells is) (c.in_ok-next.ensures.test t tells still) (λ ps. IsReached c.args.marks.now ps c.reach.new.self)
    (λ ps was. reached_both c.args.marks.now ps l.marks (l.number ∷ []) c.reach.new.self was c.reach.ensures) c.in_ok-next.next (c.in_ok-next.ensures.next ∙ ap next_in (c.in_ok-next.ensures.page t tells still)) c.if-next-eq0.true

pub returns-then-next-eq0-clause-once : goal.returns-then-next-eq0-clause-once
returns-then-next-eq0-clause-once g c t tells is =
    let l = c.loop-left in
    let still = l.invariant.looks.opened t tells is in
    let long =
    walks_length (chain_by c.args.chain) t.base.image (λ ps. IsReached c.args.marks.now ps l.marks) l.left l.number c.loop-left-test.true (l.invariant.walks t tells is) (c.in_ok-next.ensures.test t tells still) (λ ps. IsReached c.args.marks.now ps c.reach.new.self)
    (λ ps was. reached_both c.args.marks.now ps l.marks (l.number ∷ []) c.reach.new.self was c.reach.ensures) c.in_ok-next.next (c.in_ok-next.ensures.next ∙ ap next_in (c.in_ok-next.ensures.page t tells still)) c.if-next-eq0.true in
    omega (arith, long, is.files.agrees.count, l.invariant.once tells, c.in_ok-next.ensures.once tells, c.loop-left-test.true, l.invariant.few)

pub loop-left-preserved : goal.loop-left-preserved
loop-left-preserved g c =
    let l = c.loop-left in
    record {
      walks = λ t tells is.
          let still = l.invariant.looks.opened t tells is in
          walks_next (chain_by c.args.chain) t.base.image (λ ps. IsReached c.args.marks.now ps l.marks) l.left l.number c.loop-left-test.true (l.invariant.walks t tells is) (c.in_ok-next.ensures.test t tells still) (λ ps. IsReached c.args.marks.now ps c.reach.new.self)
          (λ ps was. reached_both c.args.marks.now ps l.marks (l.number ∷ []) c.reach.new.self was c.reach.ensures) c.in_ok-next.next (c.in_ok-next.ensures.next ∙ ap next_in (c.in_ok-next.ensures.page t tells still)) c.if-next-eq0.false;
      few = omega (arith, l.invariant.few);
      sized = c.in_ok-next.ensures.sized ∙ l.invariant.sized;
      looks = looks_then l.invariant.looks c.in_ok-next.ensures.looks;
      once = λ tells. omega (arith, l.invariant.once tells, c.in_ok-next.ensures.once tells, c.loop-left-test.true, l.invariant.few);
      cause = c.in_ok-next.ensures.cause ∙ l.invariant.cause;
    }

pub returns-clause-test : goal.returns-clause-test
returns-clause-test g c t tells is =
    let l = c.loop-left in
    walks_over (chain_by c.args.chain) t.base.image (λ ps. IsReached c.args.marks.now ps l.marks) l.left l.number (omega (arith, c.loop-left-test.false)) (l.invariant.walks t tells is)

pub returns-in_err-next-clause-looks : goal.returns-in_err-next-clause-looks
returns-in_err-next-clause-looks g c = looks_then c.loop-left.invariant.looks c.in_err-next.ensures.looks

pub returns-then-next-eq0-clause-looks : goal.returns-then-next-eq0-clause-looks
returns-then-next-eq0-clause-looks g c = looks_then c.loop-left.invariant.looks c.in_ok-next.ensures.looks

pub returns-in_err-next-clause-within : goal.returns-in_err-next-clause-within
returns-in_err-next-clause-within g c tells = let l = c.loop-left in omega (arith, l.invariant.once tells, c.chain_read.ensures.once tells, c.loop-left-test.true, l.invariant.few)

pub returns-then-next-eq0-clause-within : goal.returns-then-next-eq0-clause-within
returns-then-next-eq0-clause-within g c tells = let l = c.loop-left in omega (arith, l.invariant.once tells, c.chain_read.ensures.once tells, c.loop-left-test.true, l.invariant.few)

pub returns-clause-within : goal.returns-clause-within
returns-clause-within g c tells = let l = c.loop-left in omega (arith, l.invariant.once tells)
