use Rattle.std.proofs.Common.{◌≡◌, ◌++◌}
use Rattle.nb_table.proofs.read.listed.Given as goal

abbrev pub invariant-loop-key : goal.invariant-loop-key
invariant-loop-key l = l.list ++ l.key-iterator ≡ l.fn.rows.entries
