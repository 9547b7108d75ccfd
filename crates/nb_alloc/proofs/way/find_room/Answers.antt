use Rattle.std.proofs.Common.{◌≡◌, ℕ, ◌+◌, ◌-◌, ◌*◌, ◌/◌, ◌≤◌, length, refl, ap, ◌∙◌, arith, Bool, true, false}
use Rattle.nb_alloc.proofs.Common.{bits_in, is_system_place, most_pages, Held, Full, Behind, looks_then}
use Rattle.nb_alloc.proofs.WayLaws.{search_begins, end_cause, goes_begin, goes_at, goes_refused, goes_failed, ends_passed}
use Rattle.nb_alloc.proofs.way.find_room.Goals as goal

pub returns-then-from-ge-MOST_PAGES-clause-ends : goal.returns-then-from-ge-MOST_PAGES-clause-ends
returns-then-from-ge-MOST_PAGES-clause-ends g c t start tells is way =
    let image = t.base.image in
    let from : ℕ = c.args.way.now.from in
    let made : ℕ = c.args.way.now.made in
    let fresh : ℕ = c.args.way.now.fresh in
    let b : Behind = c.args.behind.now in
    let most : length image ≤ most_pages = omega (arith, is.files.agrees.count, c.count-count.ensures.value, c.count-count.ensures.most) in
    let end : from ≡ most_pages = omega (arith, c.requires.most, c.if-from-ge-MOST_PAGES.true) in
    goes_refused image start from from made fresh b b (goes_begin image start from made fresh b way) most (Full most_pages)
    (end_cause image start start from from made fresh (length start + 4) (search_begins image start from made fresh way) most end)

pub returns-in_err-first-clause-ends : goal.returns-in_err-first-clause-ends
returns-in_err-first-clause-ends g c t start tells is way =
    let image = t.base.image in
    let from : ℕ = c.args.way.now.from in
    let made : ℕ = c.args.way.now.made in
    let fresh : ℕ = c.args.way.now.fresh in
    let b : Behind = c.args.behind.now in
    let most : length image ≤ most_pages = omega (arith, is.files.agrees.count, c.count-count.ensures.value, c.count-count.ensures.most) in
    goes_failed ℕ ℕ _ _ image start from from made fresh _ _ _ b b c.from_residual.ensures (goes_begin image start from made fresh b way) most (c.in_err-first.ensures.test t tells is)

pub returns-in_err-go_on-clause-ends : goal.returns-in_err-go_on-clause-ends
returns-in_err-go_on-clause-ends g c t start tells is way =
    let image = t.base.image in
    let from : ℕ = c.args.way.now.from in
    let made : ℕ = c.args.way.now.made in
    let fresh : ℕ = c.args.way.now.fresh in
    let b : Behind = c.args.behind.now in
    let most : length image ≤ most_pages = omega (arith, is.files.agrees.count, c.count-count.ensures.value, c.count-count.ensures.most) in
    let next = c.in_ok-first.ensures in
    let known = goes_at image start from from made fresh b b (goes_begin image start from made fresh b way) most c.in_ok-first.first c.visit.new.way.made c.visit.new.way.fresh (next.value t tells is) (next.test t tells is) (next.made t tells is) (next.fresh t tells is) in
    ends_passed (Unit {0}) ℕ _ _ image start _ _ _ b _ c.from_residual-in_err-go_on.ensures (c.in_err-go_on.ensures.ends t start from b tells (next.looks.opened t tells is) known)

pub returns-clause-ends : goal.returns-clause-ends
returns-clause-ends g c t start tells is way =
    let image = t.base.image in
    let from : ℕ = c.args.way.now.from in
    let made : ℕ = c.args.way.now.made in
    let fresh : ℕ = c.args.way.now.fresh in
    let b : Behind = c.args.behind.now in
    let most : length image ≤ most_pages = omega (arith, is.files.agrees.count, c.count-count.ensures.value, c.count-count.ensures.most) in
    let next = c.in_ok-first.ensures in
    let known = goes_at image start from from made fresh b b (goes_begin image start from made fresh b way) most c.in_ok-first.first c.visit.new.way.made c.visit.new.way.fresh (next.value t tells is) (next.test t tells is) (next.made t tells is) (next.fresh t tells is) in
    c.in_ok-go_on.ensures.ends t start from b tells (next.looks.opened t tells is) known

pub returns-clause-value : goal.returns-clause-value
returns-clause-value g c t tells is = c.in_ok-first.ensures.value t tells is

pub returns-clause-map : goal.returns-clause-map
returns-clause-map g c t tells is unmade = c.in_ok-go_on.ensures.map t tells (c.in_ok-first.ensures.looks.opened t tells is) (c.in_ok-first.ensures.map t tells is unmade)

pub returns-clause-once : goal.returns-clause-once
returns-clause-once g c tells =
    by (is_system_place c.args.store.now.files.page_size c.in_ok-first.first) refl
  where
    by : (u : Bool) → is_system_place c.args.store.now.files.page_size c.in_ok-first.first ≡ u → (g.H.Host.world c.go_on.new.host).reads ≤ (g.H.Host.world c.args.host.now).reads + (c.in_ok-first.first / bits_in c.args.store.now.files.page_size + 1 - c.args.way.now.from / bits_in c.args.store.now.files.page_size) + 3 + 5 * (c.go_on.new.way.from - (c.in_ok-first.first + 1))
    by true e =
        let same = ap (λ (h : Held). h.files.page_size) c.in_ok-first.ensures.looks.same in
        omega (arith, c.in_ok-first.ensures.once tells, c.in_ok-go_on.ensures.once tells (ap (λ (s : ℕ). is_system_place s c.in_ok-first.first) same ∙ e), c.in_ok-first.ensures.from)
    by false e =
        let same = ap (λ (h : Held). h.files.page_size) c.in_ok-first.ensures.looks.same in
        let rests = c.in_ok-go_on.ensures.none tells (ap (λ (s : ℕ). is_system_place s c.in_ok-first.first) same ∙ e) in
        omega (arith, c.in_ok-first.ensures.fewer tells e, rests.0, rests.1, c.in_ok-first.ensures.from)

pub returns-clause-within : goal.returns-clause-within
returns-clause-within g c le = c.in_ok-first.ensures.within le

pub returns-in_err-go_on-clause-looks : goal.returns-in_err-go_on-clause-looks
returns-in_err-go_on-clause-looks g c = looks_then c.in_ok-first.ensures.looks c.in_err-go_on.ensures.looks

pub returns-clause-looks : goal.returns-clause-looks
returns-clause-looks g c = looks_then c.in_ok-first.ensures.looks c.in_ok-go_on.ensures.looks
