use Rattle.std.proofs.Common.{◌≡◌, ◌++◌, ◌-◌}
use Rattle.nb_script.proofs.Common.{seeded}
use Rattle.nb_script.proofs.order.seeded.Given as goal

abbrev pub invariant-loop : goal.invariant-loop
invariant-loop l = l.sessions.items ++ seeded (l.count - l.counter) l.state ≡ seeded l.count l.seed
