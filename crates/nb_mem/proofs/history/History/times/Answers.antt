use Rattle.std.proofs.Common.{arith}
use Rattle.nb_mem.proofs.CountLaws.{times-fit}
use Rattle.nb_mem.proofs.history.History.times.Goals as goal

pub returns-clause-bound : goal.returns-clause-bound
returns-clause-bound c = omega (arith, times-fit c.self.inside.calls.items, c.self.invariant)
