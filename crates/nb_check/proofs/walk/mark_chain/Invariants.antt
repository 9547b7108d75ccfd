use Rattle.std.proofs.Common.{◌≡◌, ◌+◌, ◌-◌, ◌≤◌, length, IsTrue}
use Rattle.nb_check.proofs.Common.{Trail, IsOpen, IsReached, chain_by, Walks, Looks}
use Rattle.nb_check.proofs.walk.mark_chain.Given as goal

-- the pages so far are out of the set
abbrev pub invariant-loop-left : goal.invariant-loop-left
invariant-loop-left g l = record {
  walks : (t : Trail) → IsTrue g.H.Host.tells → IsOpen (g.H.Host.world l.fn.host) l.fn.engine t → Walks (chain_by l.fn.chain) t.base.image (λ ps. IsReached l.fn.marks ps l.marks) l.left l.number;
  few : l.left ≤ l.fn.engine.files.count;
  sized : length l.page ≡ length l.fn.page;
  looks : Looks g.H.Host.tells (g.H.Host.world l.fn.host) (g.H.Host.world l.host) l.fn.engine l.engine;
  once : IsTrue g.H.Host.tells → (g.H.Host.world l.host).reads ≤ (g.H.Host.world l.fn.host).reads + (l.fn.engine.files.count - l.left);
  cause : g.H.Host.faults l.host ≡ g.H.Host.faults l.fn.host;
}

abbrev pub decreases-loop-left : goal.decreases-loop-left
decreases-loop-left g l = l.left
