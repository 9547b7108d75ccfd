use Rattle.std.proofs.Common.{◌≡◌, ◌++◌, take}
use Rattle.nb_lines.proofs.Common.{spaced, name_words}
use Rattle.nb_lines.proofs.line.push_names.Given as goal

abbrev pub invariant-loop-name : goal.invariant-loop-name
invariant-loop-name l = l.line.items ≡ l.initial.line.items ++ spaced (name_words (take l.name-index l.names))
