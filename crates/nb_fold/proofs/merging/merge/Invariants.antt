use Rattle.std.proofs.Common.{◌≡◌, ℕ, ◌+◌, ◌<◌, List, IsTrue}
use Rattle.nb_fold.proofs.Common.{GaveNothing, Numbered, IsUnfinished, IsFolding, Makes, AreOfPages, due}
use Rattle.nb_fold.proofs.merging.merge.Given as goal

-- the pages so far were folded
abbrev pub invariant-loop : goal.invariant-loop
invariant-loop g l = record {
  sizes : AreOfPages l.fn.file.head.page_size l.sources;
  few : l.file.written + due l.sources < 4294967295;
  same : l.file ≡ record l.fn.file { written = l.file.written; run = l.file.run };
  folding : IsTrue g.H.Host.tells → (whole : List Numbered) (most : ℕ) → IsFolding (g.H.Host.world l.fn.host) l.fn.file l.fn.sources whole most → IsFolding (g.H.Host.world l.host) l.file l.sources whole most;
  makes : IsTrue g.H.Host.tells → (whole : List Numbered) (most : ℕ) → IsFolding (g.H.Host.world l.fn.host) l.fn.file l.fn.sources whole most → Makes (g.H.Host.world l.fn.host) (g.H.Host.world l.host) l.fn.file.name IsUnfinished;
  gave : GaveNothing (g.H.Host.world l.fn.host) (g.H.Host.world l.host);
  cause : g.H.Host.faults l.host ≡ g.H.Host.faults l.fn.host;
}

-- fewer numbers are due
abbrev pub decreases-loop : goal.decreases-loop
decreases-loop g l = due l.sources
