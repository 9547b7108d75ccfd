use Rattle.std.proofs.Common.{◌≡◌, ◌-◌, ◌≤◌, length, IsTrue}
use Rattle.nb_base.proofs.Common.{Quiet, trimmed, Trail, IsOpen}
use Rattle.nb_base.proofs.files.TwoFiles.find_filled.Given as goal

-- the pages after are of zeros
abbrev pub invariant-loop-count : goal.invariant-loop-count
invariant-loop-count g l = record {
  same : l.self ≡ l.fn.self;
  most : l.count ≤ l.fn.self.count;
  quiet : Quiet (g.H.Host.world l.fn.host) (g.H.Host.world l.host);
  cause : g.H.Host.faults l.host ≡ g.H.Host.faults l.fn.host;
  behind : (t : Trail) → IsTrue g.H.Host.tells → IsOpen (g.H.Host.world l.fn.host) l.fn.self t → length (trimmed t.base.image) ≤ l.count;
}

abbrev pub decreases-loop-count : goal.decreases-loop-count
decreases-loop-count g l = l.count - 1
