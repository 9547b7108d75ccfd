use Rattle.std.proofs.Common.{◌≡◌, ℕ, ◌+◌, ◌*◌, ◌<◌, ◌≤◌, IsTrue, List, length, Some}
use Rattle.nb_delta.proofs.Common.{slots_in, most_pages}
use Rattle.nb_page.specs.Quiet.{Quiet}
use Rattle.nb_delta.proofs.GroupLaws.{Behind}
use Rattle.nb_delta.proofs.reading.read_table.Given as goal

abbrev pub invariant-loop-group : goal.invariant-loop-group
invariant-loop-group g l = record {
  more : length l.entries ≡ l.group * slots_in (length l.fn.page);
  few : 0 < l.group → length l.entries ≤ most_pages;
  quiet : Quiet (g.H.Host.world l.fn.host) (g.H.Host.world l.host);
  reads : IsTrue g.H.Host.tells → (g.H.Host.world l.host).reads ≡ (g.H.Host.world l.fn.host).reads + l.group;
  cause : g.H.Host.faults l.host ≡ g.H.Host.faults l.fn.host;
  answer : IsTrue g.H.Host.tells → (bytes : List ℕ) → (g.H.Host.world l.fn.host).files l.name ≡ Some bytes → length bytes ≡ l.len → Behind (length l.fn.page) bytes l.group l.entries;
}
