use Rattle.std.proofs.Common.{◌≡◌, ◌≤◌, take, max}
use Rattle.nb_base.proofs.Common.{most_pages, behind_entries}
use Rattle.nb_base.proofs.attach.count_with.Given as goal

-- the entries so far are counted
abbrev pub invariant-loop-k : goal.invariant-loop-k
invariant-loop-k g l = record {
  same : l.delta ≡ l.fn.delta;
  no_call : l.host ≡ l.fn.host;
  count : l.count ≡ max l.main_count (behind_entries (take l.k l.fn.delta.entries));
  most : l.count ≤ most_pages;
}
