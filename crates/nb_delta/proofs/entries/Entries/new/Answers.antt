use Rattle.std.proofs.Common.{ℕ, List, subst, sym}
use Rattle.nb_delta.proofs.Common.{AreEntries, IsIndex}
use Rattle.nb_delta.proofs.EntryLaws.{no_entries, index_none}
use Rattle.nb_delta.proofs.entries.Entries.new.Goals as goal

pub invariant_of-result : goal.invariant_of-result
invariant_of-result c =
    (subst AreEntries (sym c.new.ensures.items) no_entries, subst (λ (xs : List ℕ). IsIndex xs c.new-2.result) (sym c.new.ensures.items) (index_none c.new-2.result c.new-2.ensures.empty))
