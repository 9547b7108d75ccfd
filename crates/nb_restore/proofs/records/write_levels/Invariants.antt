use Rattle.std.proofs.Common.{◌≡◌, List, ◌++◌, length, IsTrue}
use Rattle.nb_restore.proofs.Common.{Changes, Only, Moved, GaveNothing, Link, Reading, KeepsFront, AreReady}
use Rattle.nb_restore.proofs.LevelLaws.{AllSoFar}
use Rattle.nb_restore.proofs.MostLaws.{ReadAllSoFar}
use Rattle.nb_restore.proofs.records.write_levels.Given as goal

-- the files so far were written over
abbrev pub invariant-loop-reader : goal.invariant-loop-reader
invariant-loop-reader g l = record {
  left : IsTrue g.H.Host.tells → Changes (g.H.Host.world l.fn.host) (g.H.Host.world l.host) (Only l.target) (Moved (g.H.Host.world l.fn.host) l.target KeepsFront);
  so_far : IsTrue g.H.Host.tells → (links : List Link) → AreReady (g.H.Host.world l.fn.host).files l.target (length l.fn.page) links l.fn.readers.items
      → (more : List Reading) → l.fn.readers.items ≡ l.yielded ++ more
      → AllSoFar (g.H.Host.world l.fn.host).files l.target (length l.fn.page) links more ((g.H.Host.world l.fn.host).files l.target) ((g.H.Host.world l.host).files l.target) l.fn.first l.first;
  within : IsTrue g.H.Host.tells → (links : List Link) → AreReady (g.H.Host.world l.fn.host).files l.target (length l.fn.page) links l.fn.readers.items → (more : List Reading) → l.fn.readers.items ≡ l.yielded ++ more
      → ReadAllSoFar (g.H.Host.world l.fn.host).files l.target (length l.fn.page) links more (g.H.Host.world l.fn.host).reads (g.H.Host.world l.host).reads;
  gave : GaveNothing (g.H.Host.world l.fn.host) (g.H.Host.world l.host);
  cause : g.H.Host.faults l.host ≡ g.H.Host.faults l.fn.host;
}
