use Rattle.std.proofs.Common.{◌≡◌, ◌+◌, ◌≤◌, length}
use Rattle.nb_script.proofs.Common.{lines_of, numbered}
use Rattle.nb_script.proofs.lines.Lines.next.Given as goal

abbrev pub invariant-loop-line : goal.invariant-loop-line
invariant-loop-line l = record {
  left : numbered l.self.passed (lines_of l.self.rest.now) ≡ numbered l.fn.self.passed (lines_of l.fn.self.rest.now);
  count : l.self.passed + length (lines_of l.self.rest.now) ≡ l.fn.self.passed + length (lines_of l.fn.self.rest.now);
  shorter : length l.self.rest.now ≤ length l.fn.self.rest.now;
}

abbrev pub decreases-loop-line : goal.decreases-loop-line
decreases-loop-line l = length l.self.rest.now
