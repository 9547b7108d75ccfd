use Rattle.std.proofs.Common.{ℕ, ◌≤◌, ◌<◌}
use Rattle.nb_sched.proofs.Common.{Rests}
use Rattle.nb_sched.proofs.turns.unfinished.Given as goal

abbrev pub invariant-loop-count : goal.invariant-loop-count
invariant-loop-count g l = (l.count ≤ l.fn.count) × ((session : ℕ) → l.count < session → session ≤ l.fn.count → Rests g.A.Agent.left l.agents session)

abbrev pub decreases-loop-count : goal.decreases-loop-count
decreases-loop-count g l = l.count
