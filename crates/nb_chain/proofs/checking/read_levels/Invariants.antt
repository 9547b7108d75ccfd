use Rattle.std.proofs.Common.{◌≡◌, ◌+◌, ◌≤◌, drop, IsTrue}
use Rattle.nb_chain.proofs.Common.{is_page_size, Quiet, levels_most}
use Rattle.nb_chain.proofs.LinkLaws.{Accepted}
use Rattle.nb_chain.proofs.checking.read_levels.Given as goal

-- the files so far go on from one another
abbrev pub invariant-loop-place : goal.invariant-loop-place
invariant-loop-place g l = record {
  quiet : Quiet (g.H.Host.world l.fn.host) (g.H.Host.world l.host);
  size : IsTrue (is_page_size l.last.page_size);
  cause : g.H.Host.faults l.host ≡ g.H.Host.faults l.fn.host;
  so_far : IsTrue g.H.Host.tells
      → Accepted (g.H.Host.world l.fn.host).files l.fn.first (drop 1 l.files) l.place l.last (drop l.place l.files) l.fn.overlay l.overlay (g.H.Host.world l.fn.host).reads (g.H.Host.world l.host).reads;
  within : IsTrue g.H.Host.tells
      → (g.H.Host.world l.host).reads + levels_most (g.H.Host.world l.fn.host).files (drop l.place l.files) ≤ (g.H.Host.world l.fn.host).reads + levels_most (g.H.Host.world l.fn.host).files (drop 1 l.files);
}
