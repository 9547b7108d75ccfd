use Rattle.std.proofs.Common.{ℕ, ◌≤◌, ◌<◌, ◌++◌, Ok, length}
use Rattle.nb_sched.proofs.Common.{rounds, kind, scene, Rests, TakesTurns, total}
use Rattle.nb_sched.proofs.turns.take_turns.Given as goal

abbrev pub invariant-loop-count : goal.invariant-loop-count
invariant-loop-count g l =
    let a = g.A.Agent in
    ((how_often : ℕ) × TakesTurns (kind a.left a.session a.fits a.step) (l.schedule ++ rounds how_often) (scene l.fn.agents l.fn.host l.fn.shared) (Ok tt) (scene l.agents l.host l.shared))
    × (l.count ≤ length l.agents)
    × ((session : ℕ) → l.count < session → Rests a.left l.agents session)
    × (0 < l.count → Rests a.left l.agents l.count → ⊥)

abbrev pub decreases-loop-count : goal.decreases-loop-count
decreases-loop-count g l = total g.A.Agent.left l.agents
