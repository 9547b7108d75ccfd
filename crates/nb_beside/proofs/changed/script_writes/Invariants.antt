use Rattle.std.proofs.Common.{◌≡◌, ◌||◌, take}
use Rattle.std.specs.List.{list_any}
use Rattle.nb_beside.specs.Changed.{any_writes}
use Rattle.nb_model.specs.Writes.{statement_writes}
use Rattle.nb_beside.proofs.changed.script_writes.Given as goal

abbrev pub invariant-loop-before : goal.invariant-loop-before
invariant-loop-before l = l.writes ≡ (statement_writes l.script.first || list_any any_writes (take l.before l.script.sessions))
