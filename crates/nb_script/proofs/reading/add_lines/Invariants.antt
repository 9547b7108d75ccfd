use Rattle.std.proofs.Common.{◌≡◌, ◌≤◌, length}
use Rattle.nb_script.proofs.Common.{left, with_lines}
use Rattle.nb_script.proofs.reading.add_lines.Given as goal

abbrev pub invariant-loop-line : goal.invariant-loop-line
invariant-loop-line l = record {
  few : l.taken ≤ 10000;
  meant : with_lines l.taken l.script (left l.lines.passed l.lines.rest.now) ≡ with_lines 1 l.fn.script (left l.fn.lines.passed l.fn.lines.rest.now);
}

abbrev pub decreases-loop-line : goal.decreases-loop-line
decreases-loop-line l = length l.lines.rest.now
