use Rattle.std.proofs.Common.{◌≡◌, ◌-◌, IsTrue}
use Rattle.nb_chain.proofs.Common.{most_pages, bytes_of, Quiet}
use Rattle.nb_chain.proofs.MostLaws.{IsAhead}
use Rattle.nb_chain.proofs.PageLaws.{SoFar}
use Rattle.nb_chain.proofs.level_file.read_pages.Given as goal

-- the pages so far were noted
abbrev pub invariant-loop-number : goal.invariant-loop-number
invariant-loop-number g l = record {
  same : l.reader ≡ record l.fn.reader { place = l.reader.place };
  quiet : Quiet (g.H.Host.world l.fn.host) (g.H.Host.world l.host);
  cause : g.H.Host.faults l.host ≡ g.H.Host.faults l.fn.host;
  so_far : IsTrue g.H.Host.tells → SoFar ((g.H.Host.world l.fn.host).files l.fn.reader.name) l.fn.reader l.reader l.fn.overlay l.overlay (g.H.Host.world l.fn.host).reads (g.H.Host.world l.host).reads;
  ahead : IsTrue g.H.Host.tells → IsAhead (bytes_of ((g.H.Host.world l.fn.host).files l.fn.reader.name)) l.fn.reader l.reader (g.H.Host.world l.fn.host).reads (g.H.Host.world l.host).reads;
}

-- numbers rise up to the most that a page may have
abbrev pub decreases-loop-number : goal.decreases-loop-number
decreases-loop-number g l = most_pages - l.reader.place.least
