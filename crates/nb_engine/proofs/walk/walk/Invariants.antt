use Rattle.std.proofs.Common.{◌≡◌, ◌⊎◌, ◌+◌, ◌-◌, ◌<◌, ◌≤◌, length, IsTrue, IfSome}
use Rattle.nb_engine.proofs.Common.{History, Trail, IsOpen, Walks, IsPlaced, Looks}
use Rattle.nb_engine.proofs.SlotLaws.{Gathers}
use Rattle.nb_engine.proofs.walk.walk.Given as goal

abbrev pub invariant-loop-left : goal.invariant-loop-left
invariant-loop-left g l = record {
  walks : (t : Trail) → IsTrue g.H.Host.tells → IsOpen (g.H.Host.world l.fn.host) l.fn.store t → Walks History t.base.image (Gathers l.fn.wanted t.base.image l.walked) l.left l.number;
  placed : IfSome l.walked.room (IsPlaced l.fn.store.files.page_size);
  seen : (l.number ≡ 4) ⊎ (4 < l.fn.store.files.count);
  few : l.left ≤ l.fn.store.files.count;
  room : length l.page ≡ length l.fn.page;
  looks : Looks g.H.Host.tells (g.H.Host.world l.fn.host) (g.H.Host.world l.host) l.fn.store l.store;
  once : IsTrue g.H.Host.tells → (g.H.Host.world l.host).reads ≤ (g.H.Host.world l.fn.host).reads + (l.fn.store.files.count - l.left);
  cause : g.H.Host.faults l.host ≡ g.H.Host.faults l.fn.host;
}

abbrev pub decreases-loop-left : goal.decreases-loop-left
decreases-loop-left g l = l.left
