use Rattle.std.proofs.Common.{◌-◌, sym, arith}
use Rattle.nb_cache.proofs.IndexedLaws.{IsIndexed-dropped}
use Rattle.nb_cache.proofs.ShownLaws.{same_pages, IsCache-demoted, shown-demoted, removed-absent}
use Rattle.nb_cache.proofs.cache.Cache.drop_page.Goals as goal

pub invariant_of-self : goal.invariant_of-self
invariant_of-self c =
    let found = c.in-Some.ensures c.self.inside.held c.self.invariant.1 (omega arith) in
    rw c.demote.ensures.entries (IsCache-demoted _ _ found.split _ _ _ c.self.invariant.0 (c.self.inside.held - 1) (omega arith), IsIndexed-dropped c.self.inside.index _ _ _ _ found c.self.invariant.1 c.leave.new.self c.leave.ensures.holders c.leave.ensures.room c.len-count.ensures.valid.0 (omega arith))

pub returns-in-Some : goal.returns-in-Some
returns-in-Some c =
    let found = c.in-Some.ensures c.self.inside.held c.self.invariant.1 (omega arith) in
    rw (← c.self.view_is, c.demote.ensures.entries) (same_pages _ _ _ _ (shown-demoted _ _ _ _ found (omega arith)))

pub returns-in_default : goal.returns-in_default
returns-in_default c =
    rw (← c.self.view_is) (same_pages _ _ _ _ (sym (removed-absent _ _ _ (c.in_default.ensures c.self.inside.held c.self.invariant.1 (omega arith)))))
