use Rattle.std.proofs.Common.{◌≡◌, ◌+◌, ◌≤◌, [], take, IsTrue, min}
use Rattle.nb_shown.proofs.Common.{Holds256, Trail, IsOpen, bytes_of_image, Looks}
use Rattle.nb_shown.proofs.digest.feed_pages.Given as goal

-- the pages so far were fed
abbrev pub invariant-loop-number : goal.invariant-loop-number
invariant-loop-number g l = record {
  looks : Looks g.H.Host.tells (g.H.Host.world l.fn.host) (g.H.Host.world l.host) l.fn.engine l.engine;
  holds : (t : Trail) → IsTrue g.H.Host.tells → IsOpen (g.H.Host.world l.fn.host) l.fn.engine t → Holds256 l.fn.hasher [] → Holds256 l.hasher (bytes_of_image (take l.number t.base.image));
  reads : IsTrue g.H.Host.tells → (g.H.Host.world l.host).reads ≤ (g.H.Host.world l.fn.host).reads + l.number + min l.number 1;
  cause : g.H.Host.faults l.host ≡ g.H.Host.faults l.fn.host;
}
