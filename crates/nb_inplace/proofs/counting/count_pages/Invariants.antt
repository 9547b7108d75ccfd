use Rattle.std.proofs.Common.{◌≡◌, ◌+◌, ◌≤◌, ◌∷◌, length, drop, IsTrue, Some}
use Rattle.nb_inplace.proofs.Common.{Quiet, Page, Image, joined, IsOfSize, without_blank}
use Rattle.nb_inplace.proofs.CountingLaws.{blank}
use Rattle.nb_inplace.proofs.counting.count_pages.Given as goal

-- the pages after are blank
abbrev pub invariant-loop-count : goal.invariant-loop-count
invariant-loop-count g l = record {
  quiet : Quiet (g.H.Host.world l.fn.host) (g.H.Host.world l.host);
  cause : g.H.Host.faults l.host ≡ g.H.Host.faults l.fn.host;
  most : l.count ≤ l.pages;
  some : 1 ≤ l.pages → 1 ≤ l.count;
  reads : IsTrue g.H.Host.tells → (g.H.Host.world l.host).reads + l.count ≤ (g.H.Host.world l.fn.host).reads + l.pages;
  behind : IsTrue g.H.Host.tells → (start : Page) (image : Image) → (g.H.Host.world l.fn.host).files l.standby ≡ Some (joined (start ∷ drop 1 image)) → IsOfSize (length l.fn.page) (start ∷ drop 1 image) → length image ≡ l.pages
      → without_blank (blank image) (length image) ≡ without_blank (blank image) l.count;
}

abbrev pub decreases-loop-count : goal.decreases-loop-count
decreases-loop-count g l = l.count
