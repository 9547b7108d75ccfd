use Rattle.std.proofs.Common.{◌≡◌, ◌+◌, ◌≤◌, length, drop, IsTrue}
use Rattle.nb_catalog.proofs.Common.{read_files, all_reads, files_most}
use Rattle.nb_page.specs.Quiet.{Quiet}
use Rattle.nb_catalog.proofs.FileLaws.{with_all}
use Rattle.nb_catalog.proofs.reading.catalogue.Given as goal

-- the files so far were read
abbrev pub invariant-loop-name : goal.invariant-loop-name
invariant-loop-name g l = record {
  quiet : Quiet (g.H.Host.world l.fn.host) (g.H.Host.world l.host);
  cause : g.H.Host.faults l.host ≡ g.H.Host.faults l.fn.host;
  count : length l.catalogue ≡ l.name-index;
  so_far : IsTrue g.H.Host.tells → read_files (g.H.Host.world l.fn.host).files l.files ≡ with_all l.catalogue (read_files (g.H.Host.world l.fn.host).files (drop l.name-index l.files));
  reads : IsTrue g.H.Host.tells → (g.H.Host.world l.host).reads + all_reads (g.H.Host.world l.fn.host).files (drop l.name-index l.files) ≤ (g.H.Host.world l.fn.host).reads + all_reads (g.H.Host.world l.fn.host).files l.files;
  within : IsTrue g.H.Host.tells → (g.H.Host.world l.host).reads + files_most (g.H.Host.world l.fn.host).files (drop l.name-index l.files) ≤ (g.H.Host.world l.fn.host).reads + files_most (g.H.Host.world l.fn.host).files l.files;
}
