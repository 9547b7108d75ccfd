use Rattle.std.proofs.Common.{arith, ◌≡◌, is_some, refl, sym, ap, ◌∙◌}
use Rattle.nb_cache.proofs.IndexedLaws.{IsIndexed-promoted}
use Rattle.nb_cache.proofs.ShownLaws.{some_is, same_pages, lookup-split, size_here, IsCache-promoted, slot_of-found, slot_of-absent, shown-promoted, promoted-absent}
use Rattle.nb_cache.proofs.cache.Cache.look.Goals as goal

pub returns-in_default-clause-found : goal.returns-in_default-clause-found
returns-in_default-clause-found c =
    rw (← c.self.view_is) (sym (ap is_some (slot_of-absent _ _ _ (c.in_default.ensures c.self.inside.held c.self.invariant.1 (omega arith)))))

pub returns-in_default-clause-filled : goal.returns-in_default-clause-filled
returns-in_default-clause-filled c =
    rw (← c.self.view_is, slot_of-absent _ _ _ (c.in_default.ensures c.self.inside.held c.self.invariant.1 (omega arith))) refl

pub returns-in_default-clause-moved : goal.returns-in_default-clause-moved
returns-in_default-clause-moved c =
    rw (← c.self.view_is) (same_pages _ _ _ _ (sym (promoted-absent _ _ _ (c.in_default.ensures c.self.inside.held c.self.invariant.1 (omega arith)))))

pub copy_out-requires : goal.copy_out-requires
copy_out-requires c =
    let found = c.in-Some.ensures c.self.inside.held c.self.invariant.1 (omega arith) in
    let there = lookup-split _ _ found.split in
    let page_size : c.args.self.now.page_size ≡ c.self.inside.page_size = ap (λ h. h.page_size) (sym c.self.view_is) in record {
      there = some_is _ _ there;
      size = rw there (c.requires ∙ page_size ∙ sym (size_here _ _ found.split _ _ _ c.self.invariant.0));
    }

pub invariant_of-self : goal.invariant_of-self
invariant_of-self c =
    let found = c.in-Some.ensures c.self.inside.held c.self.invariant.1 (omega arith) in
    rw c.promote.ensures.entries (IsCache-promoted _ _ found.split _ _ _ c.self.invariant.0, IsIndexed-promoted c.self.inside.index _ _ _ _ found c.self.invariant.1)

pub returns-clause-found : goal.returns-clause-found
returns-clause-found c =
    let found = c.in-Some.ensures c.self.inside.held c.self.invariant.1 (omega arith) in
    rw (← c.self.view_is) (sym (ap is_some (slot_of-found _ _ _ _ found)))

pub returns-clause-filled : goal.returns-clause-filled
returns-clause-filled c =
    let found = c.in-Some.ensures c.self.inside.held c.self.invariant.1 (omega arith) in
    rw (← c.self.view_is, slot_of-found _ _ _ _ found) (rw (lookup-split _ _ found.split) at c.copy_out.ensures)

pub returns-clause-moved : goal.returns-clause-moved
returns-clause-moved c =
    let found = c.in-Some.ensures c.self.inside.held c.self.invariant.1 (omega arith) in
    rw (← c.self.view_is, c.promote.ensures.entries) (same_pages _ _ _ _ (shown-promoted _ _ _ _ found))
