use Rattle.std.proofs.Common.{◌≡◌, ℕ, ◌+◌, ◌-◌, ◌*◌, ◌≤◌, List, length, IsTrue, Some, None}
use Rattle.nb_base.proofs.Common.{size_of, Quiet, not_database, image_in}
use Rattle.nb_base.proofs.attach.find_length.Given as goal

-- the pages after are of zeros
abbrev pub invariant-loop-count : goal.invariant-loop-count
invariant-loop-count g l = record {
  some : 1 ≤ l.count;
  most : l.count ≤ l.pages;
  quiet : Quiet (g.H.Host.world l.fn.host) (g.H.Host.world l.host);
  reads : IsTrue g.H.Host.tells → (g.H.Host.world l.host).reads + l.count ≡ (g.H.Host.world l.fn.host).reads + l.pages;
  cause : g.H.Host.faults l.host ≡ g.H.Host.faults l.fn.host;
  behind : IsTrue g.H.Host.tells → (bytes : List ℕ) → (g.H.Host.world l.fn.host).files l.name ≡ Some bytes → not_database bytes ≡ None → size_of bytes ≡ length l.fn.page → length bytes ≡ l.pages * length l.fn.page
      → length (image_in bytes) ≤ l.count;
}

abbrev pub decreases-loop-count : goal.decreases-loop-count
decreases-loop-count g l = l.count - 1
