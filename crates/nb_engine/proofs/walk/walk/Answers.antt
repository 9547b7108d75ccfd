use Rattle.std.proofs.Common.{rules, ◌≡◌, ◌⊎◌, ◌<◌, inl, inr, ℕ, refl, ap, ◌∙◌, arith, None}
use Rattle.nb_engine.proofs.Common.{broken_at, History, pages_of, Held, tested_on, not_linked, spots_found, walks_first, walks_broken, walks_next, walks_none, walks_all, walks_last, walks_length, walks_over, Walked, gathered, looks_begun, looks_then}
use Rattle.nb_engine.proofs.SlotLaws.{Gathers, walked_of, gathered_none}
use Rattle.nb_engine.proofs.walk.walk.Goals as goal

-- Whatever the walk was at before, the first page of the history is below the length.
seen_on : (number count : ℕ) → (number ≡ 4) ⊎ (4 < count) → number < count → 4 < count
seen_on number count (inl first) below = omega (arith, first, below)
seen_on number count (inr seen) below = seen

pub loop-left-init : goal.loop-left-init
loop-left-init g c = record {
  walks = λ t tells is.
      walks_first History t.base.image (Gathers c.args.wanted.now t.base.image (walked_of None None)) c.count-left.result 4 (c.count-left.ensures.value ∙ is.files.agrees.count) refl (gathered_none c.args.wanted.now t.base.image);
  placed = tt;
  seen = inl refl;
  few = omega (arith, c.count-left.ensures.value);
  room = refl;
  looks = looks_begun (g.H.Host.world c.args.host.now) (g.met.H.Host.timely c.args.host.now);
  once = λ tells. omega arith;
  cause = refl;
}

pub returns-in_err-next-clause-test : goal.returns-in_err-next-clause-test
returns-in_err-next-clause-test g c t tells is =
    let l = c.loop-left in
    let still = l.invariant.looks.opened t tells is in
    tested_on ℕ (Walked × ℕ) _ _ (not_linked History t.base.image l.number) (broken_at (pages_of History t.base.image)) c.from_residual.ensures
    (walks_broken History t.base.image (Gathers c.args.wanted.now t.base.image l.walked) l.left l.number c.loop-left-test.true (l.invariant.walks t tells is)) (c.in_err-next.ensures.test t tells still)

pub returns-then-next-eq0-clause-test : goal.returns-then-next-eq0-clause-test
returns-then-next-eq0-clause-test g c t tells is =
    let l = c.loop-left in
    let wanted = c.args.wanted.now in
    let still = l.invariant.looks.opened t tells is in
    walks_none History t.base.image (Gathers wanted t.base.image l.walked) l.left l.number c.loop-left-test.true (l.invariant.walks t tells is) (c.in_ok-next.ensures.test t tells still) (Gathers wanted t.base.image c.read_link.new.walked)
    (λ ps was. c.in_ok-next.ensures.walked t ps tells still was) c.in_ok-next.next (c.in_ok-next.ensures.next t tells still) c.if-next-eq0.true

pub returns-then-next-eq0-clause-walked : goal.returns-then-next-eq0-clause-walked
returns-then-next-eq0-clause-walked g c t tells is =
    let l = c.loop-left in
    let wanted = c.args.wanted.now in
    let still = l.invariant.looks.opened t tells is in
    walks_all History t.base.image (Gathers wanted t.base.image l.walked) l.left l.number c.loop-left-test.true (l.invariant.walks t tells is) (c.in_ok-next.ensures.test t tells still) (Gathers wanted t.base.image c.read_link.new.walked)
    (λ ps was. c.in_ok-next.ensures.walked t ps tells still was) c.in_ok-next.next (c.in_ok-next.ensures.next t tells still) c.if-next-eq0.true
    ∙ ap (gathered wanted) (spots_found History t.base.image)

pub returns-then-next-eq0-clause-last : goal.returns-then-next-eq0-clause-last
returns-then-next-eq0-clause-last g c t tells is =
    let l = c.loop-left in
    let wanted = c.args.wanted.now in
    let still = l.invariant.looks.opened t tells is in
    walks_last History t.base.image (Gathers wanted t.base.image l.walked) l.left l.number c.loop-left-test.true (l.invariant.walks t tells is) (c.in_ok-next.ensures.test t tells still) (Gathers wanted t.base.image c.read_link.new.walked)
    (λ ps was. c.in_ok-next.ensures.walked t ps tells still was) c.in_ok-next.next (c.in_ok-next.ensures.next t tells still) c.if-next-eq0.true

pub returns-then-next-eq0-clause-once : goal.returns-then-next-eq0-clause-once
returns-then-next-eq0-clause-once g c t tells is =
    let l = c.loop-left in
    let wanted = c.args.wanted.now in
    let still = l.invariant.looks.opened t tells is in
    let long =
    walks_length History t.base.image (Gathers wanted t.base.image l.walked) l.left l.number c.loop-left-test.true (l.invariant.walks t tells is) (c.in_ok-next.ensures.test t tells still) (Gathers wanted t.base.image c.read_link.new.walked)
    (λ ps was. c.in_ok-next.ensures.walked t ps tells still was) c.in_ok-next.next (c.in_ok-next.ensures.next t tells still) c.if-next-eq0.true in
    omega (arith, long, is.files.agrees.count, l.invariant.once tells, c.in_ok-next.ensures.once tells, c.loop-left-test.true, l.invariant.few)

pub returns-then-next-eq0-clause-least : goal.returns-then-next-eq0-clause-least
returns-then-next-eq0-clause-least g c =
    let l = c.loop-left in
    let below : l.number < c.args.store.now.files.count = omega (arith, c.in_ok-next.ensures.below, ap (λ (h : Held). h.files.count) l.invariant.looks.same) in
    omega (arith, seen_on l.number c.args.store.now.files.count l.invariant.seen below)

pub loop-left-preserved : goal.loop-left-preserved
loop-left-preserved g c =
    let l = c.loop-left in
    let wanted = c.args.wanted.now in
    record {
      walks = λ t tells is.
          let still = l.invariant.looks.opened t tells is in
          walks_next History t.base.image (Gathers wanted t.base.image l.walked) l.left l.number c.loop-left-test.true (l.invariant.walks t tells is) (c.in_ok-next.ensures.test t tells still) (Gathers wanted t.base.image c.read_link.new.walked)
          (λ ps was. c.in_ok-next.ensures.walked t ps tells still was) c.in_ok-next.next (c.in_ok-next.ensures.next t tells still) c.if-next-eq0.false;
      placed = search rules;
      seen = inr (seen_on l.number c.args.store.now.files.count l.invariant.seen (omega (arith, c.in_ok-next.ensures.below, ap (λ (h : Held). h.files.count) l.invariant.looks.same)));
      few = omega (arith, l.invariant.few);
      room = search rules;
      looks = looks_then l.invariant.looks c.in_ok-next.ensures.looks;
      once = λ tells. omega (arith, l.invariant.once tells, c.in_ok-next.ensures.once tells, c.loop-left-test.true, l.invariant.few);
      cause = c.in_ok-next.ensures.cause ∙ l.invariant.cause;
    }

pub returns-clause-test : goal.returns-clause-test
returns-clause-test g c t tells is =
    let l = c.loop-left in
    walks_over History t.base.image (Gathers c.args.wanted.now t.base.image l.walked) l.left l.number (omega (arith, c.loop-left-test.false)) (l.invariant.walks t tells is)

pub returns-in_err-next-clause-looks : goal.returns-in_err-next-clause-looks
returns-in_err-next-clause-looks g c = looks_then c.loop-left.invariant.looks c.in_err-next.ensures.looks

pub returns-then-next-eq0-clause-looks : goal.returns-then-next-eq0-clause-looks
returns-then-next-eq0-clause-looks g c = looks_then c.loop-left.invariant.looks c.in_ok-next.ensures.looks
