use Rattle.std.proofs.Common.{◌≡◌, ◌+◌, ◌*◌, ◌≤◌, ℕ, List, length, IsTrue, Some, max}
use Rattle.nb_chain.proofs.Common.{Quiet, is_blank, without_blank}
use Rattle.nb_chain.proofs.last_page.count_pages.Given as goal

-- the pages after are blank
abbrev pub invariant-loop-count : goal.invariant-loop-count
invariant-loop-count g l = record {
  quiet : Quiet (g.H.Host.world l.fn.host) (g.H.Host.world l.host);
  cause : g.H.Host.faults l.host ≡ g.H.Host.faults l.fn.host;
  most : l.count ≤ max l.pages (length l.overlay);
  reads : IsTrue g.H.Host.tells → (g.H.Host.world l.host).reads + l.count ≤ (g.H.Host.world l.fn.host).reads + max l.pages (length l.overlay);
  behind : IsTrue g.H.Host.tells → (bytes : List ℕ) → (g.H.Host.world l.fn.host).files l.name ≡ Some bytes → l.pages * length l.fn.page ≤ length bytes
      → without_blank (is_blank bytes (length l.fn.page) l.pages l.overlay) (max l.pages (length l.overlay)) ≡ without_blank (is_blank bytes (length l.fn.page) l.pages l.overlay) l.count;
}

abbrev pub decreases-loop-count : goal.decreases-loop-count
decreases-loop-count g l = l.count
