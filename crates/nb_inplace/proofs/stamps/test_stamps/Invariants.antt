use Rattle.std.proofs.Common.{◌≡◌, ◌+◌, ◌-◌, ◌*◌, ◌<◌, ◌≤◌, List, length, drop, IsTrue, Some}
use Rattle.nb_inplace.proofs.Common.{Page, written_since, joined, IsOfSize, Quiet}
use Rattle.nb_restore.specs.Most.{piece_length, pieces_in}
use Rattle.nb_inplace.proofs.stamps.test_stamps.Given as goal

-- none of the pages so far is stamped above
abbrev pub invariant-loop-number : goal.invariant-loop-number
invariant-loop-number g l = record {
  quiet : Quiet (g.H.Host.world l.fn.host) (g.H.Host.world l.host);
  cause : g.H.Host.faults l.host ≡ g.H.Host.faults l.fn.host;
  on_way : IsTrue g.H.Host.tells → l.number < l.pages → (g.H.Host.world l.host).reads * piece_length ≤ (g.H.Host.world l.fn.host).reads * piece_length + l.number * l.page_size;
  within : IsTrue g.H.Host.tells → (g.H.Host.world l.host).reads ≤ (g.H.Host.world l.fn.host).reads + pieces_in (l.pages * l.page_size);
  so_far : IsTrue g.H.Host.tells → (ps : List Page) → (g.H.Host.world l.fn.host).files l.standby ≡ Some (joined ps) → IsOfSize l.page_size ps → length ps ≡ l.pages
      → written_since l.file l.scn (drop 1 ps) ≡ written_since l.file l.scn (drop l.number ps);
}

abbrev pub decreases-loop-number : goal.decreases-loop-number
decreases-loop-number g l = l.pages - l.number
