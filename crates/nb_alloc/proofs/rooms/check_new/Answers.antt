use Rattle.std.proofs.Common.{◌≡◌, ℕ, subst, ◌∙◌, arith, IfOk}
use Rattle.nb_alloc.proofs.NewReads.{few_tested}
use Rattle.nb_alloc.proofs.WayLaws.{begins_at, place_begins, ends_tested}
use Rattle.nb_alloc.proofs.rooms.check_new.Goals as goal

pub find_room-requires-clause-low : goal.find_room-requires-clause-low
find_room-requires-clause-low g c = omega (arith, c.begin-way.ensures.from)

pub find_room-requires-clause-most : goal.find_room-requires-clause-most
find_room-requires-clause-most g c = omega (arith, c.begin-way.ensures.from)

pub returns-clause-test : goal.returns-clause-test
returns-clause-test g c t kind payload tells is shaped short =
    let way = begins_at t.base.image _ _ _ c.begin-way.ensures.from c.begin-way.ensures.made c.begin-way.ensures.fresh shaped in
    ends_tested c.find_room.result t.base.image t.base.image _ _ _ _ _ kind payload short (c.find_room.ensures.ends t t.base.image tells is way)

pub returns-clause-value : goal.returns-clause-value
returns-clause-value g c t tells is =
    let begins = place_begins t.base.image _ _ c.page_size-page_size.result c.begin-way.ensures.from c.begin-way.ensures.fresh (c.page_size-page_size.ensures.value ∙ is.files.agrees.page_size) c.page_size-page_size.ensures.one_of in
    subst (λ (n : ℕ). IfOk c.find_room.result (λ first. first ≡ n)) begins.1 (c.find_room.ensures.value t tells is)

pub returns-clause-map : goal.returns-clause-map
returns-clause-map g c t tells is =
    let begins = place_begins t.base.image _ _ c.page_size-page_size.result c.begin-way.ensures.from c.begin-way.ensures.fresh (c.page_size-page_size.ensures.value ∙ is.files.agrees.page_size) c.page_size-page_size.ensures.one_of in
    c.find_room.ensures.map t tells is begins.0

pub returns-clause-once : goal.returns-clause-once
returns-clause-once g c t kind payload tells is shaped short =
    let way = begins_at t.base.image _ _ _ c.begin-way.ensures.from c.begin-way.ensures.made c.begin-way.ensures.fresh shaped in
    few_tested c.find_room.result t.base.image _ _ _ _ _ kind payload _ _ _ _ short (c.find_room.ensures.ends t t.base.image tells is way) is.files.agrees.page_size (c.find_room.ensures.once tells)

pub returns-clause-within : goal.returns-clause-within
returns-clause-within g c le = c.find_room.ensures.within (omega (arith, c.begin-way.ensures.from, le))
