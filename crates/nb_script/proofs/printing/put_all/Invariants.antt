use Rattle.std.proofs.Common.{◌≡◌, ◌++◌, ◌+◌, drop}
use Rattle.nb_script.proofs.Common.{sessions_text}
use Rattle.nb_script.proofs.printing.put_all.Given as goal

abbrev pub invariant-loop-before : goal.invariant-loop-before
invariant-loop-before l = l.out.items ++ sessions_text (l.before + 1) (drop l.before l.script.sessions) ≡ l.fn.out.items ++ sessions_text 1 l.script.sessions
