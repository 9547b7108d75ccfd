use Rattle.std.proofs.Common.{◌≡◌, ℕ, ◌+◌, ◌≤◌, List, take, drop, IsTrue}
use Rattle.nb_fold.proofs.Common.{Numbered, Quiet, AllWait, AreOfPages, counts_at, due, AreApart}
use Rattle.nb_fold.proofs.PassLaws.{rests_upto}
use Rattle.nb_fold.proofs.merging.pass_all.Given as goal

-- the files before this place were read on
abbrev pub invariant-loop-place : goal.invariant-loop-place
invariant-loop-place g l = record {
  same : drop l.place l.sources ≡ drop l.place l.fn.sources;
  sizes : (size : ℕ) → AreOfPages size l.fn.sources → AreOfPages size l.sources;
  apart : (name : List ℕ) → AreApart name l.fn.sources → AreApart name l.sources;
  falls : due l.sources + counts_at l.number (take l.place l.fn.sources) ≤ due l.fn.sources;
  waits : IsTrue g.H.Host.tells → (rss : List (List Numbered)) → AllWait (g.H.Host.world l.fn.host).files l.fn.sources rss → AllWait (g.H.Host.world l.fn.host).files l.sources (rests_upto l.place l.number rss);
  quiet : Quiet (g.H.Host.world l.fn.host) (g.H.Host.world l.host);
  reads : IsTrue g.H.Host.tells → (g.H.Host.world l.host).reads ≤ (g.H.Host.world l.fn.host).reads + counts_at l.number (take l.place l.fn.sources);
  cause : g.H.Host.faults l.host ≡ g.H.Host.faults l.fn.host;
}
