use Rattle.std.proofs.Common.{◌≡◌, ◌+◌, ◌-◌, ◌*◌, ◌≤◌}
use Rattle.nb_page.proofs.Common.{length_after, fresh_count}
use Rattle.nb_page.proofs.count.fresh_count.Given as goal

abbrev pub invariant-loop : goal.invariant-loop
invariant-loop l = record {
  rest : length_after l.fn.size (l.raw - l.counter) l.count ≡ fresh_count l.fn.size l.fn.raw;
  least : 5 + l.counter ≤ l.count;
  most : l.count ≤ 5 + 3 * l.counter;
}
