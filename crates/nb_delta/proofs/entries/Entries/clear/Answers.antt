use Rattle.std.proofs.Common.{ℕ, List, subst, sym}
use Rattle.nb_delta.proofs.Common.{AreEntries, IsIndex}
use Rattle.nb_delta.proofs.EntryLaws.{no_entries, index_none}
use Rattle.nb_delta.proofs.entries.Entries.clear.Goals as goal

pub invariant_of-self : goal.invariant_of-self
invariant_of-self c =
    (subst AreEntries (sym c.clear.ensures.items) no_entries, subst (λ (xs : List ℕ). IsIndex xs c.clear-2.new.self) (sym c.clear.ensures.items) (index_none c.clear-2.new.self c.clear-2.ensures.empty))
