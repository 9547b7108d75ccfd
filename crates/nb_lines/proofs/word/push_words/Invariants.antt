use Rattle.std.proofs.Common.{◌≡◌, ◌++◌, take, map}
use Rattle.nb_lines.proofs.Common.{spaced, seen}
use Rattle.nb_lines.proofs.word.push_words.Given as goal

abbrev pub invariant-loop-word : goal.invariant-loop-word
invariant-loop-word l = l.line.items ≡ l.initial.line.items ++ spaced (map seen (take l.word-index l.words))
