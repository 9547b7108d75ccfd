use Rattle.std.proofs.Common.{◌≡◌, ◌*◌, take}
use Rattle.nb_page.proofs.Common.{same_entries}
use Rattle.nb_page.proofs.fill.fill_entries.Given as goal

abbrev pub invariant-loop-index : goal.invariant-loop-index
invariant-loop-index l = take (4 * l.index) l.entries ≡ same_entries l.scn l.index
