use Rattle.std.proofs.Common.{◌≡◌, ◌+◌, length, IsTrue, None}
use Rattle.nb_check.proofs.Common.{broken_at, Catalogue, pages_of, Trail, IsOpen, Walks, Looks}
use Rattle.nb_check.proofs.ListLaws.{AreOut, chains_of_pages}
use Rattle.nb_check.proofs.walk.mark_tables.Given as goal

-- the chains that the pages of the catalogue so far name are out of the set
abbrev pub invariant-loop-left : goal.invariant-loop-left
invariant-loop-left g l = record {
  walks : (t : Trail) → IsTrue g.H.Host.tells → IsOpen (g.H.Host.world l.fn.host) l.fn.engine t → broken_at (pages_of Catalogue t.base.image) ≡ None
      → Walks Catalogue t.base.image (λ ps. AreOut t.base.image (chains_of_pages t.base.image ps) l.fn.marks l.marks ((g.H.Host.world l.fn.host).reads + length ps) (g.H.Host.world l.host).reads) l.left l.number;
  sized : length l.page ≡ length l.fn.page;
  listed_sized : length l.listed ≡ length l.fn.listed;
  looks : Looks g.H.Host.tells (g.H.Host.world l.fn.host) (g.H.Host.world l.host) l.fn.engine l.engine;
  cause : g.H.Host.faults l.host ≡ g.H.Host.faults l.fn.host;
}

abbrev pub decreases-loop-left : goal.decreases-loop-left
decreases-loop-left g l = l.left
