use Rattle.std.proofs.Common.{◌≡◌, ◌+◌, ◌*◌, ◌≤◌, min, ℕ, length, Option, sym, ap, ◌∙◌, arith}
use Rattle.nb_cache.proofs.Common.{Slot, room_of}
use Rattle.nb_cache.proofs.IndexedLaws.{IsIndexed-renewed, IsIndexed-put}
use Rattle.nb_cache.proofs.ShownLaws.{some_is, same_pages, lookup-split, lookup-promoted, size_here, IsCache-put, rank_of-found, rank_of-absent, shown-renewed, shown-put}
use Rattle.nb_cache.proofs.cache.Cache.keep.Goals as goal

pub rank_at-rank-requires : goal.rank_at-rank-requires
rank_at-rank-requires c =
    let found = c.in-Some.ensures c.self.inside.held c.self.invariant.1 (omega arith) in
    some_is _ _ (lookup-split _ _ found.split)

pub put_in-requires-clause-there : goal.put_in-requires-clause-there
put_in-requires-clause-there c =
    let found = c.in-Some.ensures c.self.inside.held c.self.invariant.1 (omega arith) in
    some_is _ _ (lookup-promoted _ _ found.split)

pub put_in-requires-clause-size : goal.put_in-requires-clause-size
put_in-requires-clause-size c =
    let found = c.in-Some.ensures c.self.inside.held c.self.invariant.1 (omega arith) in
    let page_size : c.args.self.now.page_size ≡ c.self.inside.page_size = ap (λ h. h.page_size) (sym c.self.view_is) in
    rw (lookup-promoted _ _ found.split) (size_here _ _ found.split _ _ _ c.self.invariant.0 ∙ sym (c.requires.size ∙ page_size))

pub invariant_of-self : goal.invariant_of-self
invariant_of-self c =
    let found = c.in-Some.ensures c.self.inside.held c.self.invariant.1 (omega arith) in
    let put = c.put_in.ensures in
    let page_size : c.args.self.now.page_size ≡ c.self.inside.page_size = ap (λ h. h.page_size) (sym c.self.view_is) in
    let fits = ap (λ s. length s.1.bytes) put.1 ∙ c.requires.size ∙ page_size in
    rw put.2 (IsCache-put _ _ found.split _ _ _ c.self.invariant.0 put.0 _ fits c.self.invariant.0.within, IsIndexed-renewed c.self.inside.index _ _ _ _ found c.self.invariant.1 put.0 (sym (ap (λ s. s.0) put.1)))

pub put_in-requires-in_default-clause-there : goal.put_in-requires-in_default-clause-there
put_in-requires-in_default-clause-there c =
    some_is _ _ (lookup-promoted _ c.vacate-key.result c.vacate-key.ensures.last.split)

pub put_in-requires-in_default-clause-size : goal.put_in-requires-in_default-clause-size
put_in-requires-in_default-clause-size c =
    let last = c.vacate-key.ensures.last in
    let page_size : c.args.self.now.page_size ≡ c.self.inside.page_size = ap (λ h. h.page_size) (sym c.self.view_is) in
    rw (lookup-promoted _ c.vacate-key.result last.split) (size_here _ c.vacate-key.result last.split _ _ _ c.self.invariant.0 ∙ sym (c.requires.size ∙ page_size))

pub invariant_of-self-in_default : goal.invariant_of-self-in_default
invariant_of-self-in_default c =
    let none = c.in_default.ensures c.self.inside.held c.self.invariant.1 (omega arith) in
    let put = c.put_in-in_default.ensures in
    let page_size : c.args.self.now.page_size ≡ c.self.inside.page_size = ap (λ h. h.page_size) (sym c.self.view_is) in
    let fits = ap (λ s. length s.1.bytes) put.1 ∙ c.requires.size ∙ page_size in
    let indexed = c.make_room.ensures.indexed in
    let room : 2 * length c.self.inside.frames.entries ≤ room_of c.enter.new.self = omega (arith, indexed.room, c.vacate-key.ensures.room, c.enter.ensures.room) in
    rw (put.2, c.min-self-inside.ensures) (
      IsCache-put _ c.vacate-key.result c.vacate-key.ensures.last.split _ _ _ c.self.invariant.0 put.0 (min (c.self.inside.held + 1) c.self.inside.cap) fits (omega arith),
      IsIndexed-put c.vacate-key.new.index c.enter.new.self _ _ _ c.vacate-key.result _ c.vacate-key.ensures.last put.0 c.vacate-key.ensures.finds c.enter.ensures.holders none (sym (ap (λ s. s.0) put.1)) room c.self.invariant.0.all_there c.self.invariant.0.within,
    )

pub returns-in-Some : goal.returns-in-Some
returns-in-Some c =
    let found = c.in-Some.ensures c.self.inside.held c.self.invariant.1 (omega arith) in
    let put = c.put_in.ensures in
    let rank = rw (lookup-split _ _ found.split) at c.rank_at-rank.ensures in
    let slot = ap (λ (r : Option ℕ). let v : Slot = record { bytes = c.args.bytes.now; rank = r } in (c.args.page, v)) (rank ∙ sym (rank_of-found _ _ _ _ found)) in
    rw (← c.self.view_is, put.2) (same_pages _ _ _ _ (shown-renewed _ _ _ _ found _ _ put.0 (put.1 ∙ slot)))

pub returns-in_default : goal.returns-in_default
returns-in_default c =
    let none = c.in_default.ensures c.self.inside.held c.self.invariant.1 (omega arith) in
    let put = c.put_in-in_default.ensures in
    let slot = ap (λ (r : Option ℕ). let v : Slot = record { bytes = c.args.bytes.now; rank = r } in (c.args.page, v)) (sym (rank_of-absent _ _ _ none)) in
    rw (← c.self.view_is, put.2, c.min-self-inside.ensures)
    (same_pages _ _ _ _ (shown-put _ _ _ none _ c.vacate-key.result c.vacate-key.ensures.last _ put.0 (put.1 ∙ slot) c.self.invariant.0.all_there c.self.invariant.0.within))
