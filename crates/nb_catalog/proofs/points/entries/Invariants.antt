use Rattle.std.proofs.Common.{◌≡◌, ◌++◌, drop}
use Rattle.nb_catalog.proofs.Common.{entries_from}
use Rattle.nb_catalog.proofs.points.entries.Given as goal

abbrev pub invariant-loop-place : goal.invariant-loop-place
invariant-loop-place l = l.entries.items ++ entries_from l.place (drop l.place l.heads) ≡ entries_from 0 l.heads
