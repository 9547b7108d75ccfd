use Rattle.std.proofs.Common.{◌≡◌, ◌-◌, length}
use Rattle.nb_check.proofs.Common.{Image, IsOf, IsFirstBelow, IsMapOf, HasEntryOf}
use Rattle.nb_check.proofs.pass.look_past.Given as goal

abbrev pub invariant-loop-number : goal.invariant-loop-number
invariant-loop-number l = record {
  broken : (image : Image) → IsOf image (length l.map) l.extent → IsMapOf image l.extent.count l.map → HasEntryOf image (l.extent.count - 1) l.entries → IsFirstBelow image l.extent.count l.fn.found.broken
      → IsFirstBelow image l.number l.found.broken;
  taken : l.found.taken ≡ l.fn.found.taken;
}
