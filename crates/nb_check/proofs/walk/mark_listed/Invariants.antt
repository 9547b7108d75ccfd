use Rattle.std.proofs.Common.{◌≡◌, ◌-◌, ◌/◌, length, IsTrue}
use Rattle.nb_check.proofs.Common.{Trail, IsOpen, Looks}
use Rattle.nb_check.proofs.ListLaws.{Lists}
use Rattle.nb_check.proofs.walk.mark_listed.Given as goal

-- the chains of the slots so far are out of the set
abbrev pub invariant-loop-slot : goal.invariant-loop-slot
invariant-loop-slot g l = record {
  many : l.count ≡ (length l.listed - 32) / 256;
  lists : (t : Trail) → IsTrue g.H.Host.tells → IsOpen (g.H.Host.world l.fn.host) l.fn.engine t → Lists t.base.image l.listed l.fn.marks l.marks (g.H.Host.world l.fn.host).reads (g.H.Host.world l.host).reads l.count l.slot;
  sized : length l.page ≡ length l.fn.page;
  looks : Looks g.H.Host.tells (g.H.Host.world l.fn.host) (g.H.Host.world l.host) l.fn.engine l.engine;
  cause : g.H.Host.faults l.host ≡ g.H.Host.faults l.fn.host;
}

abbrev pub decreases-loop-slot : goal.decreases-loop-slot
decreases-loop-slot g l = l.count - l.slot
