use Rattle.std.proofs.Common.{◌≡◌, ℕ, List, length, IsTrue, Ok}
use Rattle.nb_table.proofs.Common.{lowest_broken, RowsFrom, pages_of, Trail, IsOpen, need_cause, Looks}
use Rattle.nb_table.proofs.CheckLaws.{Checks}
use Rattle.nb_table.proofs.dropping.check_chain.Given as goal

abbrev pub invariant-loop-left : goal.invariant-loop-left
invariant-loop-left g l = record {
  checks : (t : Trail) (pages noted : List ℕ) → IsTrue g.H.Host.tells → IsOpen (g.H.Host.world l.fn.host) l.fn.engine t → pages_of (RowsFrom l.fn.first) t.base.image ≡ Ok pages → need_cause l.fn.before ≡ lowest_broken noted
      → Checks (RowsFrom l.fn.first) t.base.image pages noted l.left l.number l.lacking;
  sized : length l.page ≡ length l.fn.page;
  looks : Looks g.H.Host.tells (g.H.Host.world l.fn.host) (g.H.Host.world l.host) l.fn.engine l.engine;
  cause : g.H.Host.faults l.host ≡ g.H.Host.faults l.fn.host;
}

abbrev pub decreases-loop-left : goal.decreases-loop-left
decreases-loop-left g l = l.left
