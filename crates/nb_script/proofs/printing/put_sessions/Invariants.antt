use Rattle.std.proofs.Common.{◌≡◌, ◌++◌, drop}
use Rattle.nb_script.proofs.Common.{spaced_sessions}
use Rattle.nb_script.proofs.printing.put_sessions.Given as goal

abbrev pub invariant-loop-session : goal.invariant-loop-session
invariant-loop-session l = l.out.items ++ spaced_sessions (drop l.session-index l.sessions) ≡ l.fn.out.items ++ spaced_sessions l.sessions
