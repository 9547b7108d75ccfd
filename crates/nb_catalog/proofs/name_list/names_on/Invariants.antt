use Rattle.std.proofs.Common.{◌≡◌, ◌-◌, ◌≤◌, [], length}
use Rattle.nb_catalog.proofs.Common.{left, names_on}
use Rattle.nb_catalog.proofs.FileLaws.{with_all}
use Rattle.nb_catalog.proofs.name_list.names_on.Given as goal

-- the names so far stand first
abbrev pub invariant-loop-line : goal.invariant-loop-line
invariant-loop-line l = record {
  so_far : names_on 1000 [] (left l.fn.lines.passed l.fn.lines.rest.now) ≡ with_all l.names (names_on (1000 - length l.names) l.names (left l.lines.passed l.lines.rest.now));
  most : length l.names ≤ 1000;
}

abbrev pub decreases-loop-line : goal.decreases-loop-line
decreases-loop-line l = length l.lines.rest.now
