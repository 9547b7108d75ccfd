use Rattle.std.proofs.Common.{◌≡◌, ◌≢◌, ◌-◌, ◌≤◌, List, length, IsTrue, Ok}
use Rattle.nb_inplace.proofs.Common.{most_pages, bytes_of, Changes, Only, Moved, GaveNothing, Numbered, still_to_come, KeepsHalf}
use Rattle.nb_inplace.proofs.RecordLaws.{SoFar}
use Rattle.nb_restore.proofs.MostLaws.{ReadSoFar}
use Rattle.nb_inplace.proofs.records.write_records.Given as goal

-- the records so far were written
abbrev pub invariant-loop-number : goal.invariant-loop-number
invariant-loop-number g l = record {
  same : l.reader ≡ record l.fn.reader { place = l.reader.place };
  left : IsTrue g.H.Host.tells → (records : List Numbered) → l.fn.reader.name ≢ l.standby → still_to_come (bytes_of ((g.H.Host.world l.fn.host).files l.fn.reader.name)) l.fn.reader ≡ Ok records
      → Changes (g.H.Host.world l.fn.host) (g.H.Host.world l.host) (Only l.standby) (Moved (g.H.Host.world l.fn.host) l.standby (KeepsHalf (length l.fn.page) records));
  so_far : IsTrue g.H.Host.tells → (records : List Numbered) → l.fn.reader.name ≢ l.standby → still_to_come (bytes_of ((g.H.Host.world l.fn.host).files l.fn.reader.name)) l.fn.reader ≡ Ok records
      → SoFar (length l.fn.page) (bytes_of ((g.H.Host.world l.fn.host).files l.fn.reader.name)) l.reader records ((g.H.Host.world l.fn.host).files l.standby) ((g.H.Host.world l.host).files l.standby) l.fn.first l.first l.fn.pages l.pages;
  within : IsTrue g.H.Host.tells → (records : List Numbered) → l.fn.reader.name ≢ l.standby → still_to_come (bytes_of ((g.H.Host.world l.fn.host).files l.fn.reader.name)) l.fn.reader ≡ Ok records
      → ReadSoFar (bytes_of ((g.H.Host.world l.fn.host).files l.fn.reader.name)) l.reader records (g.H.Host.world l.fn.host).reads (g.H.Host.world l.host).reads;
  gave : GaveNothing (g.H.Host.world l.fn.host) (g.H.Host.world l.host);
  cause : g.H.Host.faults l.host ≡ g.H.Host.faults l.fn.host;
  most : l.pages ≤ most_pages;
}

-- numbers rise up to the most that a page may have
abbrev pub decreases-loop-number : goal.decreases-loop-number
decreases-loop-number g l = most_pages - l.reader.place.least
