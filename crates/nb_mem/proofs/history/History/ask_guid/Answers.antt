use Rattle.std.proofs.Common.{arith}
use Rattle.nb_mem.proofs.CountLaws.{guids-fit}
use Rattle.nb_mem.proofs.history.History.ask_guid.Goals as goal

pub overflow_add-self : goal.overflow_add-self
overflow_add-self c = omega (arith, guids-fit c.self.inside.calls.items, c.self.invariant)
