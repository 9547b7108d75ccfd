use Rattle.std.proofs.Common.{◌≡◌, ℕ, ◌<◌, take}
use Rattle.nb_scn.proofs.Common.{entry_of, entry_place}
use Rattle.nb_scn.proofs.FillLaws.{front}
use Rattle.nb_scn.proofs.entries.fill.Given as goal

abbrev pub invariant-loop-index : goal.invariant-loop-index
invariant-loop-index l = record {
  whole : take (entry_place l.index) l.page ≡ front l.fn.page l.k l.scn l.index;
  filled : (j : ℕ) → j < l.index → entry_of l.page j ≡ l.scn;
}
