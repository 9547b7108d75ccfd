use Rattle.std.proofs.Common.{◌≡◌, ◌+◌, ◌-◌, ◌≤◌, List, length, IsTrue}
use Rattle.nb_chain.proofs.Common.{most_pages, bytes_of, Numbered, behind, still_to_come, Quiet}
use Rattle.nb_chain.proofs.MostLaws.{IsAhead}
use Rattle.nb_chain.proofs.level_file.read_to_end.Given as goal

-- some pages were read so far
abbrev pub invariant-loop : goal.invariant-loop
invariant-loop g l = record {
  same : l.reader ≡ record l.fn.reader { place = l.reader.place };
  quiet : Quiet (g.H.Host.world l.fn.host) (g.H.Host.world l.host);
  cause : g.H.Host.faults l.host ≡ g.H.Host.faults l.fn.host;
  so_far : IsTrue g.H.Host.tells → (pages : List Numbered)
      × (still_to_come (bytes_of ((g.H.Host.world l.fn.host).files l.fn.reader.name)) l.fn.reader ≡ behind pages (still_to_come (bytes_of ((g.H.Host.world l.fn.host).files l.fn.reader.name)) l.reader))
      × ((g.H.Host.world l.host).reads ≤ (g.H.Host.world l.fn.host).reads + length pages);
  ahead : IsTrue g.H.Host.tells → IsAhead (bytes_of ((g.H.Host.world l.fn.host).files l.fn.reader.name)) l.fn.reader l.reader (g.H.Host.world l.fn.host).reads (g.H.Host.world l.host).reads;
}

-- numbers rise up to the most that a page may have
abbrev pub decreases-loop : goal.decreases-loop
decreases-loop g l = most_pages - l.reader.place.least
