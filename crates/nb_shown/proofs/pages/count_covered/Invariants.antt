use Rattle.std.proofs.Common.{◌≡◌, ℕ, ◌+◌, ◌*◌, ◌<◌, ◌≤◌, length, IsTrue, min}
use Rattle.nb_shown.proofs.Common.{bits_in, inventory_place, page_at, Trail, IsOpen, counts_below, sum_of, Looks}
use Rattle.nb_shown.proofs.pages.count_covered.Given as goal

-- the pages so far are counted
abbrev pub invariant-loop-bit : goal.invariant-loop-bit
invariant-loop-bit g l = record {
  looks : Looks g.H.Host.tells (g.H.Host.world l.fn.host) (g.H.Host.world l.host) l.fn.engine l.engine;
  counts : (k : ℕ) (t : Trail) → IsTrue g.H.Host.tells → IsOpen (g.H.Host.world l.fn.host) l.fn.engine t → l.first ≡ k * bits_in (length l.fn.page)
      → l.map ≡ page_at t.base.image (inventory_place (length l.fn.page) k) → l.first + l.len ≤ length t.base.image → l.fn.counts ≡ counts_below t.base.image l.first
      → l.counts ≡ counts_below t.base.image (l.first + l.bit);
  sum : sum_of l.counts ≡ l.first + l.bit;
  once : IsTrue g.H.Host.tells → 0 < l.first → (g.H.Host.world l.host).reads ≤ (g.H.Host.world l.fn.host).reads + l.bit;
  front : IsTrue g.H.Host.tells → (g.H.Host.world l.host).reads ≤ (g.H.Host.world l.fn.host).reads + l.bit + min l.bit 1;
  cause : g.H.Host.faults l.host ≡ g.H.Host.faults l.fn.host;
}
