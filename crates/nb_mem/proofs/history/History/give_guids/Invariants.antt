use Rattle.std.proofs.Common.{◌≡◌}
use Rattle.nb_mem.proofs.Common.{with_guids}
use Rattle.nb_mem.proofs.history.History.give_guids.Given as goal

abbrev pub invariant-loop : goal.invariant-loop
invariant-loop l = l.self ≡ with_guids l.counter l.fn.self
