use Rattle.std.proofs.Common.{◌≡◌, ◌+◌, ◌≤◌, length, drop, IsTrue}
use Rattle.nb_fold.proofs.Common.{Quiet, AreAlike}
use Rattle.nb_fold.proofs.AddLaws.{SoFarOpened}
use Rattle.nb_fold.specs.Most.{open_most}
use Rattle.nb_fold.proofs.opening.open_all.Given as goal

-- the files so far go on from one another
abbrev pub invariant-loop-name : goal.invariant-loop-name
invariant-loop-name g l = record {
  so_far : IsTrue g.H.Host.tells → SoFarOpened (g.H.Host.world l.fn.host).files l.files (drop l.name-index l.files) l.sources.items (g.H.Host.world l.fn.host).reads (g.H.Host.world l.host).reads;
  within : IsTrue g.H.Host.tells → (g.H.Host.world l.host).reads + open_most (g.H.Host.world l.fn.host).files (drop l.name-index l.files) ≤ (g.H.Host.world l.fn.host).reads + open_most (g.H.Host.world l.fn.host).files l.files;
  alike : AreAlike l.sources.items;
  long : length l.sources.items ≡ l.name-index;
  quiet : Quiet (g.H.Host.world l.fn.host) (g.H.Host.world l.host);
  cause : g.H.Host.faults l.host ≡ g.H.Host.faults l.fn.host;
}
