use Rattle.std.proofs.Common.{◌≡◌, ℕ, ◌+◌, ◌*◌, ◌<◌, ◌≤◌, List, length, ◌-◌}
use Rattle.nb_delta.proofs.Common.{page_in, entries_from, most_pages}
use Rattle.nb_delta.proofs.reading.read_entries.Given as goal

abbrev pub invariant-loop-i : goal.invariant-loop-i
invariant-loop-i l = record {
  answer : (bytes : List ℕ) → length bytes ≡ l.len → page_in (length l.page) bytes l.at ≡ l.page → entries_from (length l.page) l.at 0 l.count bytes l.fn.entries ≡ entries_from (length l.page) l.at l.i (l.count - l.i) bytes l.entries;
  more : length l.entries ≡ length l.fn.entries + l.i;
  few : 0 < l.i → length l.entries ≤ most_pages;
  whole : 0 < l.i → (l.at + 1 + l.i) * length l.page ≤ l.len;
}
