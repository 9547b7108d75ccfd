use Rattle.std.proofs.Common.{◌≡◌, ◌++◌, ◌+◌, ◌-◌}
use Rattle.nb_gen.proofs.Common.{lines_from}
use Rattle.nb_gen.proofs.script.put_lines.Given as goal

abbrev pub invariant-loop-before : goal.invariant-loop-before
invariant-loop-before l = l.out.items ++ lines_from (1000 - l.before) (l.before + 1) l.x ≡ l.initial.out.items ++ lines_from 1000 1 l.seed
