use Rattle.std.proofs.Common.{take}
use Rattle.nb_sched.proofs.Common.{kind}
use Rattle.nb_sched.proofs.TurnLaws.{turns_ready, turns_more, turns_err, turns_handed}
use Rattle.nb_sched.proofs.turns.take_order.Goals as goal

pub take_turn-requires : goal.take_turn-requires
take_turn-requires g c =
    let a = g.A.Agent in
    turns_ready (kind a.left a.session a.fits a.step) (take c.loop-session.session-index c.args.order.now) _ _ c.requires c.loop-session.invariant

pub returns-in_err-take_turn : goal.returns-in_err-take_turn
returns-in_err-take_turn g c =
    let a = g.A.Agent in
    let of = kind a.left a.session a.fits a.step in
    let error = c.in_err-take_turn.field-0.0 in
    turns_handed of c.args.order.now _ _ c.from_residual.result error c.from_residual.ensures.1
    (turns_err of c.args.order.now c.loop-session.session-index _ _ _ error c.loop-session-test.true c.loop-session.invariant c.in_err-take_turn.ensures)

pub loop-session-preserved : goal.loop-session-preserved
loop-session-preserved g c =
    let a = g.A.Agent in
    turns_more (kind a.left a.session a.fits a.step) c.args.order.now c.loop-session.session-index _ _ _ c.loop-session-test.true c.loop-session.invariant c.in_ok-take_turn.ensures
