use Rattle.std.proofs.Common.{◌≡◌, ℕ, List, drop}
use Rattle.nb_inplace.proofs.Common.{Page, written_since, joined, IsOfSize}
use Rattle.nb_inplace.proofs.stamps.stamp_above.Given as goal

-- none of the pages so far is stamped above
abbrev pub invariant-loop-number : goal.invariant-loop-number
invariant-loop-number l = (name : List ℕ) (ps : List Page) → l.pages ≡ joined ps → IsOfSize l.page_size ps → written_since name l.scn ps ≡ written_since name l.scn (drop l.number ps)
