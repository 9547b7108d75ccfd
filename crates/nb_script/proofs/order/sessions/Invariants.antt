use Rattle.std.proofs.Common.{◌≡◌, ◌-◌}
use Rattle.nb_script.proofs.Common.{sessions_at}
use Rattle.nb_script.proofs.Orders.{behind}
use Rattle.nb_script.proofs.order.sessions.Given as goal

abbrev pub invariant-loop : goal.invariant-loop
invariant-loop l = behind l.sessions.items (sessions_at (l.most - l.counter) l.rest) ≡ sessions_at l.most l.bytes
