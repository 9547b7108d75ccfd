use Rattle.std.proofs.Common.{◌≡◌, ◌≢◌, ◌+◌, ◌-◌, ◌/◌, ◌<◌, ◌≤◌, List, length, IsTrue, Some}
use Rattle.nb_restore.proofs.Common.{Changes, Only, Moved, GaveNothing, Page, joined, IsOfSize, KeepsFront}
use Rattle.nb_restore.proofs.PieceLaws.{IsCopiedTo}
use Rattle.nb_restore.specs.Most.{piece_length, pieces_in}
use Rattle.nb_restore.proofs.records.copy_pages.Given as goal

-- level 0 stands in the target so far
abbrev pub invariant-loop-at : goal.invariant-loop-at
invariant-loop-at g l = record {
  left : IsTrue g.H.Host.tells → Changes (g.H.Host.world l.fn.host) (g.H.Host.world l.host) (Only l.target) (Moved (g.H.Host.world l.fn.host) l.target KeepsFront);
  bytes : IsTrue g.H.Host.tells → (ps : List Page) (start : Page) → l.file ≢ l.target → (g.H.Host.world l.fn.host).files l.file ≡ Some (joined ps) → IsOfSize l.page_size ps → length ps ≡ l.pages → (g.H.Host.world l.fn.host).files l.target ≡ Some start
      → IsCopiedTo l.page_size (joined ps) start l.at ((g.H.Host.world l.host).files l.target);
  gave : GaveNothing (g.H.Host.world l.fn.host) (g.H.Host.world l.host);
  cause : g.H.Host.faults l.host ≡ g.H.Host.faults l.fn.host;
  behind : l.page_size ≤ l.at;
  on_way : IsTrue g.H.Host.tells → l.at < l.end → (g.H.Host.world l.host).reads ≤ (g.H.Host.world l.fn.host).reads + l.at / piece_length;
  within : IsTrue g.H.Host.tells → (g.H.Host.world l.host).reads ≤ (g.H.Host.world l.fn.host).reads + pieces_in l.end;
}

abbrev pub decreases-loop-at : goal.decreases-loop-at
decreases-loop-at g l = l.end - l.at
