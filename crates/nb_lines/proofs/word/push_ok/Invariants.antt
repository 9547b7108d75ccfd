use Rattle.std.proofs.Common.{◌≡◌, ◌++◌, ◌∷◌, take, flat_map, codes}
use Rattle.nb_lines.proofs.Common.{spaced, is, named}
use Rattle.nb_lines.proofs.word.push_ok.Given as goal

abbrev pub invariant-loop-name : goal.invariant-loop-name
invariant-loop-name l = l.line.items ≡ l.fn.line.items ++ spaced (is (codes "ok") ∷ flat_map named (take l.name-index l.fields))
