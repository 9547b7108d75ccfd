use Rattle.std.proofs.Common.{◌≡◌, take}
use Rattle.nb_beside.specs.Changed.{any_writes}
use Rattle.nb_beside.proofs.changed.any_writes.Given as goal

abbrev pub invariant-loop-statement : goal.invariant-loop-statement
invariant-loop-statement l = l.writes ≡ any_writes (take l.statement-index l.statements)
