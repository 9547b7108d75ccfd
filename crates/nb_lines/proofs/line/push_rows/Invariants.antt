use Rattle.std.proofs.Common.{◌≡◌, ◌++◌, take}
use Rattle.nb_lines.proofs.Common.{spaced, row_words}
use Rattle.nb_lines.proofs.line.push_rows.Given as goal

abbrev pub invariant-loop-i : goal.invariant-loop-i
invariant-loop-i l = l.line.items ≡ l.initial.line.items ++ spaced (row_words (take l.i l.rows))
