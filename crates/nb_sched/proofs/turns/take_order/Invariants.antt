use Rattle.std.proofs.Common.{take, Ok}
use Rattle.nb_sched.proofs.Common.{kind, scene, TakesTurns}
use Rattle.nb_sched.proofs.turns.take_order.Given as goal

abbrev pub invariant-loop-session : goal.invariant-loop-session
invariant-loop-session g l =
    let a = g.A.Agent in
    TakesTurns (kind a.left a.session a.fits a.step) (take l.session-index l.order) (scene l.fn.agents l.fn.host l.fn.shared) (Ok tt) (scene l.agents l.host l.shared)
