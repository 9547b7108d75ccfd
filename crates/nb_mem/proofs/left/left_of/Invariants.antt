use Rattle.std.proofs.Common.{◌≡◌, take, reverse}
use Rattle.nb_mem.proofs.Common.{files_of, outcome_by}
use Rattle.nb_mem.proofs.left.left_of.Given as goal

abbrev pub invariant-loop-entry : goal.invariant-loop-entry
invariant-loop-entry l = record {
  file : l.file ≡ files_of (reverse (take l.entry-index l.calls)) l.name;
  outcome : (l.outcome, l.choices) ≡ outcome_by l.first (reverse (take l.entry-index l.calls)) l.name;
}
