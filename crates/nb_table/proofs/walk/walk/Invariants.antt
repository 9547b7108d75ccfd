use Rattle.std.proofs.Common.{◌≡◌, ◌+◌, ◌-◌, ◌≤◌, length, IsTrue, IfSome}
use Rattle.nb_table.proofs.Common.{is_filled, Trail, IsOpen, chain_of, IsPlaced, Walks, Looks}
use Rattle.nb_table.proofs.GatherLaws.{Gathers}
use Rattle.nb_table.proofs.walk.walk.Given as goal

abbrev pub invariant-loop-left : goal.invariant-loop-left
invariant-loop-left g l = record {
  walks : (t : Trail) → IsTrue g.H.Host.tells → IsOpen (g.H.Host.world l.fn.host) l.fn.engine t → Walks (chain_of l.fn.sought) t.base.image (Gathers l.fn.sought t.base.image l.walked) l.left l.number;
  found : IfSome l.walked.found (λ f. IsPlaced l.fn.engine.files.page_size f.place);
  filled : IfSome l.walked.found (λ f. IsTrue (is_filled (chain_of l.fn.sought) f.bytes));
  room : IfSome l.walked.room (IsPlaced l.fn.engine.files.page_size);
  few : l.left ≤ l.fn.engine.files.count;
  sized : length l.page ≡ length l.fn.page;
  looks : Looks g.H.Host.tells (g.H.Host.world l.fn.host) (g.H.Host.world l.host) l.fn.engine l.engine;
  once : IsTrue g.H.Host.tells → (g.H.Host.world l.host).reads ≤ (g.H.Host.world l.fn.host).reads + (l.fn.engine.files.count - l.left);
  cause : g.H.Host.faults l.host ≡ g.H.Host.faults l.fn.host;
}

abbrev pub decreases-loop-left : goal.decreases-loop-left
decreases-loop-left g l = l.left
