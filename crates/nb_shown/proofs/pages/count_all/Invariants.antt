use Rattle.std.proofs.Common.{◌≡◌, ◌+◌, ◌-◌, ◌*◌, ◌≤◌, length, IsTrue, min}
use Rattle.nb_shown.proofs.Common.{bits_in, Trail, IsOpen, counts_below, inventories_below, sum_of, Looks}
use Rattle.nb_shown.proofs.NeedLaws.{NeedsFrom}
use Rattle.nb_shown.proofs.pages.count_all.Given as goal

-- the pages of the inventory pages so far are counted
abbrev pub invariant-loop-first : goal.invariant-loop-first
invariant-loop-first g l = record {
  looks : Looks g.H.Host.tells (g.H.Host.world l.fn.host) (g.H.Host.world l.host) l.fn.engine l.engine;
  place : l.first ≡ min (l.k * bits_in (length l.fn.page)) l.count;
  few : l.k ≤ l.first;
  read : l.k ≤ inventories_below (length l.fn.page) l.count;
  counts : (t : Trail) → IsTrue g.H.Host.tells → IsOpen (g.H.Host.world l.fn.host) l.fn.engine t → l.counts ≡ counts_below t.base.image l.first;
  needs : (t : Trail) → IsTrue g.H.Host.tells → IsOpen (g.H.Host.world l.fn.host) l.fn.engine t → NeedsFrom t.base.image l.k;
  sum : sum_of l.counts ≡ l.first;
  reads : IsTrue g.H.Host.tells → (g.H.Host.world l.host).reads ≤ (g.H.Host.world l.fn.host).reads + l.first + l.k + min l.k 1;
  cause : g.H.Host.faults l.host ≡ g.H.Host.faults l.fn.host;
}

abbrev pub decreases-loop-first : goal.decreases-loop-first
decreases-loop-first g l = l.count - l.first
