use Rattle.std.proofs.Common.{◌+◌, ◌++◌, ◌≤◌, arith}
use Rattle.nb_sched.proofs.Common.{rounds, all_sessions, kind}
use Rattle.nb_sched.proofs.AgentLaws.{rests_past, rests_behind}
use Rattle.nb_sched.proofs.TurnLaws.{turns_ready, turns_no_round, turns_round, turns_handed, rests_kept, round_of, round_stops, round_falls}
use Rattle.nb_sched.proofs.turns.take_turns.Goals as goal

pub returns-in_err-take_order-clause-turns : goal.returns-in_err-take_order-clause-turns
returns-in_err-take_order-clause-turns g c =
    let a = g.A.Agent in
    let of = kind a.left a.session a.fits a.step in
    let error = c.in_err-take_order.field-0.0 in
    (0, turns_no_round of c.args.schedule.now _ _ _ (turns_handed of c.args.schedule.now _ _ c.from_residual.result error c.from_residual.ensures.1 c.in_err-take_order.ensures))

pub loop-count-init : goal.loop-count-init
loop-count-init g c =
    let a = g.A.Agent in
    let agents = c.take_order.new.agents in (
      (0, turns_no_round (kind a.left a.session a.fits a.step) c.args.schedule.now _ _ _ c.in_ok-take_order.ensures),
      c.unfinished-count.ensures.fewer,
      rests_behind a.left agents _ _ (λ session past. rests_past a.left agents session past) c.unfinished-count.ensures.behind,
      c.unfinished-count.ensures.last,
    )

pub take_order-requires-in-loop-count : goal.take_order-requires-in-loop-count
take_order-requires-in-loop-count g c =
    let a = g.A.Agent in
    let so_far = c.loop-count.invariant.0 in
    turns_ready (kind a.left a.session a.fits a.step) (c.args.schedule.now ++ rounds so_far.0) _ _ c.requires.ready so_far.1

pub returns-in_err-take_order-2-clause-turns : goal.returns-in_err-take_order-2-clause-turns
returns-in_err-take_order-2-clause-turns g c =
    let a = g.A.Agent in
    let of = kind a.left a.session a.fits a.step in
    let so_far = c.loop-count.invariant.0 in
    let error = c.in_err-take_order-2.field-0.0 in (
      so_far.0 + 1,
      turns_round of c.args.schedule.now so_far.0 _ _ _ _ so_far.1
          (turns_handed of all_sessions _ _ c.from_residual-in_err-take_order-2.result error c.from_residual-in_err-take_order-2.ensures.1
          (round_stops of c.loop-count.count _ _ error c.in_err-take_order-2.ensures)),
    )

pub loop-count-smaller : goal.loop-count-smaller
loop-count-smaller g c =
    let a = g.A.Agent in
    let few : c.loop-count.count ≤ 16 = omega (arith, c.requires.few, c.loop-count.auto.agents, c.loop-count.invariant.1) in
    round_falls (kind a.left a.session a.fits a.step) c.loop-count.count _ _ c.loop-count-test.true few (c.loop-count.invariant.3 c.loop-count-test.true) c.in_ok-take_order-2.ensures

pub loop-count-preserved : goal.loop-count-preserved
loop-count-preserved g c =
    let a = g.A.Agent in
    let of = kind a.left a.session a.fits a.step in
    let count = c.loop-count.count in
    let so_far = c.loop-count.invariant.0 in
    let rest = c.loop-count.invariant.2 in
    let turns = c.in_ok-take_order-2.ensures in
    let next = c.unfinished-count-in-loop-count in (
      (so_far.0 + 1, turns_round of c.args.schedule.now so_far.0 _ _ _ _ so_far.1 (round_of of count _ _ rest turns)),
      omega (arith, next.ensures.fewer, c.loop-count.invariant.1, c.take_order-in-loop-count.auto.agents),
      rests_behind a.left c.take_order-in-loop-count.new.agents next.result count (λ session past. rests_kept of session _ _ _ (rest session past) turns) next.ensures.behind,
      next.ensures.last,
    )
