use Rattle.std.proofs.Common.{◌≡◌, ◌+◌, ◌*◌, ◌≤◌, length, IsTrue}
use Rattle.nb_check.proofs.Common.{IsSoundImage, Trail, IsOpen, Goes, leaked}
use Rattle.nb_check.proofs.LeakLaws.{IsGiving, leaked_from}
use Rattle.nb_check.proofs.checking.give_back.Given as goal

-- the leaked pages so far are given back
abbrev pub invariant-loop-number : goal.invariant-loop-number
invariant-loop-number g l = record {
  giving : (t : Trail) → IsTrue g.H.Host.tells → IsOpen (g.H.Host.world l.fn.host) l.fn.engine t → IsSoundImage t.base.image → l.fn.report ≡ leaked t.base.image
      → IsGiving (g.H.Host.world l.fn.host) (g.H.Host.world l.host) l.fn.engine l.engine t l.number;
  goes : Goes l.fn.engine l.engine;
  once : (t : Trail) → IsTrue g.H.Host.tells → IsOpen (g.H.Host.world l.fn.host) l.fn.engine t → l.fn.report ≡ leaked t.base.image
      → (g.H.Host.world l.host).reads + 2 * length (leaked_from t.base.image l.number) ≤ (g.H.Host.world l.fn.host).reads + 2 * length (leaked t.base.image);
  cause : g.H.Host.faults l.host ≡ g.H.Host.faults l.fn.host;
}
