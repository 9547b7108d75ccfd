use Rattle.std.proofs.Common.{◌≡◌, take}
use Rattle.nb_catalog.proofs.Common.{names_at}
use Rattle.nb_catalog.proofs.naming.named.Given as goal

-- the names so far
abbrev pub invariant-loop-place : goal.invariant-loop-place
invariant-loop-place l = l.list ≡ names_at l.names (take l.place-index l.places)
