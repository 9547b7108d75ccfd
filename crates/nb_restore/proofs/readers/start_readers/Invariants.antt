use Rattle.std.proofs.Common.{◌≡◌, ◌+◌, ◌-◌, ◌≤◌, List, ℕ, length, drop, IsTrue}
use Rattle.nb_restore.proofs.Common.{Link, Quiet, AreOfPages, AreSources}
use Rattle.nb_restore.proofs.SourceLaws.{Started}
use Rattle.nb_restore.proofs.readers.start_readers.Given as goal

-- the files so far are ready to be read
abbrev pub invariant-loop-place : goal.invariant-loop-place
invariant-loop-place g l = record {
  quiet : Quiet (g.H.Host.world l.fn.host) (g.H.Host.world l.host);
  size : AreOfPages l.page_size l.readers.items;
  cause : g.H.Host.faults l.host ≡ g.H.Host.faults l.fn.host;
  within : IsTrue g.H.Host.tells → (g.H.Host.world l.host).reads + (length l.files - l.place) ≤ (g.H.Host.world l.fn.host).reads + (length l.files - 1);
  so_far : IsTrue g.H.Host.tells → (target : List ℕ) (links : List Link) → AreSources (g.H.Host.world l.fn.host).files target (drop 1 l.files) l.page_size links
      → Started (g.H.Host.world l.fn.host).files target l.page_size links (drop l.place l.files) l.readers.items;
}
