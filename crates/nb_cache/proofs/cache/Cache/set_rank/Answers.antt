use Rattle.std.proofs.Common.{arith, length, is_some, sym, ap, ◌∙◌}
use Rattle.nb_cache.proofs.IndexedLaws.{IsIndexed-marked}
use Rattle.nb_cache.proofs.ShownLaws.{some_is, same_pages, lookup-split, size_here, IsCache-set, slot_of-found, slot_of-absent, shown-marked, ranked-absent}
use Rattle.nb_cache.proofs.cache.Cache.set_rank.Goals as goal

pub returns-in_default-clause-found : goal.returns-in_default-clause-found
returns-in_default-clause-found c =
    rw (← c.self.view_is) (sym (ap is_some (slot_of-absent _ _ _ (c.in_default.ensures c.self.inside.held c.self.invariant.1 (omega arith)))))

pub returns-in_default-clause-ranked : goal.returns-in_default-clause-ranked
returns-in_default-clause-ranked c =
    rw (← c.self.view_is) (same_pages _ _ _ _ (sym (ranked-absent _ _ _ (c.in_default.ensures c.self.inside.held c.self.invariant.1 (omega arith)) c.args.rank)))

pub mark-requires : goal.mark-requires
mark-requires c =
    let found = c.in-Some.ensures c.self.inside.held c.self.invariant.1 (omega arith) in
    some_is _ _ (lookup-split _ _ found.split)

pub invariant_of-self : goal.invariant_of-self
invariant_of-self c =
    let found = c.in-Some.ensures c.self.inside.held c.self.invariant.1 (omega arith) in
    let marked = rw (lookup-split _ _ found.split) at c.mark.ensures in
    let fits = ap (λ s. length s.1.bytes) marked.1 ∙ size_here _ _ found.split _ _ _ c.self.invariant.0 in
    rw marked.2 (IsCache-set _ _ found.split _ _ _ c.self.invariant.0 marked.0 fits, IsIndexed-marked c.self.inside.index _ _ _ _ found c.self.invariant.1 marked.0 (ap (λ s. s.0) marked.1))

pub returns-clause-found : goal.returns-clause-found
returns-clause-found c =
    let found = c.in-Some.ensures c.self.inside.held c.self.invariant.1 (omega arith) in
    rw (← c.self.view_is) (sym (ap is_some (slot_of-found _ _ _ _ found)))

pub returns-clause-ranked : goal.returns-clause-ranked
returns-clause-ranked c =
    let found = c.in-Some.ensures c.self.inside.held c.self.invariant.1 (omega arith) in
    let marked = rw (lookup-split _ _ found.split) at c.mark.ensures in
    rw (← c.self.view_is, marked.2) (same_pages _ _ _ _ (shown-marked _ _ _ _ found c.args.rank marked.0 marked.1))
