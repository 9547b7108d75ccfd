use Rattle.std.proofs.Common.{ℕ, sym, ap, ◌∙◌, arith, Ok}
use Rattle.nb_alloc.proofs.Common.{looks_then, true≢false, new_of, Behind, IsKnown, is_kind}
use Rattle.nb_alloc.proofs.RoomsLaws.{not_lost, ends_judged, second_judged, twice_judged}
use Rattle.nb_alloc.proofs.WayLaws.{begins_at, place_begins, ends_passed}
use Rattle.nb_alloc.proofs.rooms.find_rooms.Goals as goal

pub find_room-requires-clause-low : goal.find_room-requires-clause-low
find_room-requires-clause-low g c = omega (arith, c.begin-way.ensures.from)

pub find_room-requires-clause-most : goal.find_room-requires-clause-most
find_room-requires-clause-most g c = omega (arith, c.begin-way.ensures.from)

pub returns-in_err-first-clause-one : goal.returns-in_err-first-clause-one
returns-in_err-first-clause-one g c t first tells is shaped short known count_is =
    let way = begins_at t.base.image _ _ _ c.begin-way.ensures.from c.begin-way.ensures.made c.begin-way.ensures.fresh shaped in
    ends_judged c.from_residual.result t.base.image t.base.image _ _ _ _ _ first short known (ends_passed ℕ ℕ _ _ t.base.image t.base.image _ _ _ _ _ c.from_residual.ensures (c.in_err-first.ensures.ends t t.base.image tells is way))

pub returns-in_err-first-clause-two : goal.returns-in_err-first-clause-two
returns-in_err-first-clause-two g c t first second tells is shaped short small known count_is =
    let way = begins_at t.base.image _ _ _ c.begin-way.ensures.from c.begin-way.ensures.made c.begin-way.ensures.fresh shaped in
    twice_judged ℕ ℕ _ _ t.base.image _ _ _ _ _ first second c.from_residual.ensures known (c.in_err-first.ensures.ends t t.base.image tells is way)

pub returns-then-not-second-clause-one : goal.returns-then-not-second-clause-one
returns-then-not-second-clause-one g c t first tells is shaped short known count_is =
    let way = begins_at t.base.image _ _ _ c.begin-way.ensures.from c.begin-way.ensures.made c.begin-way.ensures.fresh shaped in
    ends_judged (Ok c.in_ok-first.first) t.base.image t.base.image _ _ _ _ _ first short known (c.in_ok-first.ensures.ends t t.base.image tells is way)

pub returns-then-not-second-clause-two : goal.returns-then-not-second-clause-two
returns-then-not-second-clause-two g c t first second tells is shaped short small known count_is = absurd (omega (arith, count_is, c.if-not-second.true))

pub returns-then-not-second-clause-value : goal.returns-then-not-second-clause-value
returns-then-not-second-clause-value g c t tells is =
    let begins = place_begins t.base.image _ _ c.page_size-page_size.result c.begin-way.ensures.from c.begin-way.ensures.fresh (c.page_size-page_size.ensures.value ∙ is.files.agrees.page_size) c.page_size-page_size.ensures.one_of in
    c.in_ok-first.ensures.value t tells is ∙ begins.1

pub returns-then-not-second-clause-map : goal.returns-then-not-second-clause-map
returns-then-not-second-clause-map g c t tells is count_is =
    let begins = place_begins t.base.image _ _ c.page_size-page_size.result c.begin-way.ensures.from c.begin-way.ensures.fresh (c.page_size-page_size.ensures.value ∙ is.files.agrees.page_size) c.page_size-page_size.ensures.one_of in
    c.in_ok-first.ensures.map t tells is begins.0

pub returns-in_err-find_room-clause-one : goal.returns-in_err-find_room-clause-one
returns-in_err-find_room-clause-one g c t first tells is shaped short known count_is = absurd (omega (arith, count_is, c.if-not-second.false))

pub returns-in_err-find_room-clause-two : goal.returns-in_err-find_room-clause-two
returns-in_err-find_room-clause-two g c t first second tells is shaped short small known count_is =
    let way = begins_at t.base.image _ _ _ c.begin-way.ensures.from c.begin-way.ensures.made c.begin-way.ensures.fresh shaped in
    let found = c.in_ok-first.ensures.ends t t.base.image tells is way in
    let still = c.in_ok-first.ensures.looks.opened t tells is in
    second_judged c.from_residual-in_err-find_room.result t.base.image _ _ _ _ _ _ _ _ _ first second short small known found
    (ends_passed ℕ ℕ _ _ t.base.image (new_of 5 first t.base.image).0.image _ _ _ _ _ c.from_residual-in_err-find_room.ensures (c.in_err-find_room.ensures.ends t (new_of 5 first t.base.image).0.image tells still (found.way 5 first short)))

pub returns-clause-one : goal.returns-clause-one
returns-clause-one g c t first tells is shaped short known count_is = absurd (omega (arith, count_is, c.if-not-second.false))

pub returns-clause-two : goal.returns-clause-two
returns-clause-two g c t first second tells is shaped short small known count_is =
    let way = begins_at t.base.image _ _ _ c.begin-way.ensures.from c.begin-way.ensures.made c.begin-way.ensures.fresh shaped in
    let found = c.in_ok-first.ensures.ends t t.base.image tells is way in
    let still = c.in_ok-first.ensures.looks.opened t tells is in
    second_judged (Ok c.in_ok-first.first) t.base.image _ _ _ _ _ _ _ _ _ first second short small known found
    (c.in_ok-find_room.ensures.ends t (new_of 5 first t.base.image).0.image tells still (found.way 5 first short))

pub returns-then-not-second-clause-still : goal.returns-then-not-second-clause-still
returns-then-not-second-clause-still g c t first tells is shaped short known count_is = absurd (omega (arith, count_is, c.if-not-second.true))

pub returns-clause-still : goal.returns-clause-still
returns-clause-still g c t first tells is shaped short known count_is kept =
    let way = begins_at t.base.image _ _ _ c.begin-way.ensures.from c.begin-way.ensures.made c.begin-way.ensures.fresh shaped in
    let found = c.in_ok-first.ensures.ends t t.base.image tells is way in
    let mid : Behind = c.find_room.new.behind in
    let knows : IsKnown t.base.image (new_of 5 first t.base.image).0.image mid = found.known first short known in
    ap (is_kind (new_of 5 first t.base.image).0.image 5) (sym c.in_ok-first.ensures.page) ∙ knows.kind ∙ not_lost mid.lost (λ lost. true≢false (sym (c.in_ok-find_room.ensures.lost lost) ∙ kept))

pub returns-clause-value : goal.returns-clause-value
returns-clause-value g c t tells is =
    let begins = place_begins t.base.image _ _ c.page_size-page_size.result c.begin-way.ensures.from c.begin-way.ensures.fresh (c.page_size-page_size.ensures.value ∙ is.files.agrees.page_size) c.page_size-page_size.ensures.one_of in
    c.in_ok-first.ensures.value t tells is ∙ begins.1

pub returns-clause-map : goal.returns-clause-map
returns-clause-map g c t tells is count_is = absurd (omega (arith, count_is, c.if-not-second.false))

pub returns-clause-looks : goal.returns-clause-looks
returns-clause-looks g c = looks_then c.in_ok-first.ensures.looks c.in_ok-find_room.ensures.looks

pub returns-then-not-second-clause-within : goal.returns-then-not-second-clause-within
returns-then-not-second-clause-within g c le = c.in_ok-first.ensures.within (omega (arith, c.begin-way.ensures.from, le))

pub returns-clause-within : goal.returns-clause-within
returns-clause-within g c le = c.in_ok-first.ensures.within (omega (arith, c.begin-way.ensures.from, le))

pub returns-in_err-find_room-clause-looks : goal.returns-in_err-find_room-clause-looks
returns-in_err-find_room-clause-looks g c = looks_then c.in_ok-first.ensures.looks c.in_err-find_room.ensures.looks
