use Rattle.std.proofs.Common.{◌≡◌, ℕ, List, length, IsTrue, Ok}
use Rattle.nb_table.proofs.Common.{AllByRecursion, RowsFrom, pages_of, IsShaped, Trail, IsOpen, Goes, IsGivable}
use Rattle.nb_table.proofs.GiveLaws.{IsGiving}
use Rattle.nb_table.proofs.dropping.give_all_back.Given as goal

abbrev pub invariant-loop-left : goal.invariant-loop-left
invariant-loop-left g l = record {
  giving : (t : Trail) (pages : List ℕ) → IsTrue g.H.Host.tells → IsOpen (g.H.Host.world l.fn.host) l.fn.engine t → IsShaped t.base.image → pages_of (RowsFrom l.fn.first) t.base.image ≡ Ok pages → AllByRecursion (IsGivable t.base.image) pages
      → IsGiving (RowsFrom l.fn.first) pages (g.H.Host.world l.fn.host) (g.H.Host.world l.host) l.fn.engine l.engine t l.left l.number;
  goes : Goes l.fn.engine l.engine;
  room : length l.page ≡ length l.fn.page;
  cause : g.H.Host.faults l.host ≡ g.H.Host.faults l.fn.host;
}

abbrev pub decreases-loop-left : goal.decreases-loop-left
decreases-loop-left g l = l.left
