use Rattle.std.proofs.Common.{◌-◌, ◌≤◌}
use Rattle.nb_pip.proofs.LowestLaws.{HasNone}
use Rattle.nb_pip.proofs.bits.lowest_free.Given as goal

abbrev pub invariant-loop-bit : goal.invariant-loop-bit
invariant-loop-bit l = record {
  not_before : l.fn.from ≤ l.bit;
  none_before : HasNone l.map l.fn.from l.bit;
}

abbrev pub decreases-loop-bit : goal.decreases-loop-bit
decreases-loop-bit l = l.below - l.bit
