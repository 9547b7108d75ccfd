use Rattle.std.proofs.Common.{◌≡◌, take}
use Rattle.nb_session.proofs.Common.{any_refused}
use Rattle.nb_session.proofs.sessions.any_refused.Given as goal

abbrev pub invariant-loop-session : goal.invariant-loop-session
invariant-loop-session l = l.any ≡ any_refused (take l.session-index l.sessions)
