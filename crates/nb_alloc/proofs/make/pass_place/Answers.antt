use Rattle.std.proofs.Common.{◌≡◌, ◌+◌, ◌-◌, ℕ, List, length, refl, sym, ap, subst, ◌∙◌, arith, IsTrue, None, Ok, Err}
use Rattle.nb_alloc.proofs.Common.{is_page_size, bits_in, most_pages, inventory_kind, Refused, Full, quiet_joined, Image, image_size, Stroke, free_from, inventory_of, first_not, after_strokes, Held, maps_up_to, not_kind, need_cause, IsOnward, round, behind, Tries}
use Rattle.nb_alloc.proofs.ReadyLaws.{sure_refused, next_maps, next_map}
use Rattle.nb_alloc.proofs.DoesLaws.{sure_of, tries_passed, tries_opened, tries_on, tries_before}
use Rattle.nb_alloc.proofs.NewLaws.{image_is, round_is}
use Rattle.nb_alloc.proofs.SearchReads.{maps_few}
use Rattle.nb_alloc.proofs.WantLaws.{refused_memory}
use Rattle.nb_alloc.proofs.make.pass_place.Goals as goal

pub returns-in_err-take_place-clause-makes : goal.returns-in_err-take_place-clause-makes
returns-in_err-take_place-clause-makes g c t tells is supplied goes system =
    tries_on (Unit {0}) ℕ c.from_residual.result c.in_err-take_place.field-0.0 _ _ _ _ t None (round t.base.image c.args.place).strokes c.from_residual.ensures
    (c.in_err-take_place.ensures.makes t tells is supplied system)

pub returns-in_err-next-clause-makes : goal.returns-in_err-next-clause-makes
returns-in_err-next-clause-makes g c t tells is supplied goes system =
    let image = t.base.image in
    let p : ℕ = c.args.place in
    let xs : List Stroke = (round image p).strokes in
    let u = after_strokes t xs in
    let first = c.in_ok-take_place.ensures.makes t tells is supplied system in
    let opened = tries_opened {T = Unit {0}} tt _ _ _ _ t None xs first in
    let seen = image_is t p (round image p) (round_is t.base p) xs refl in
    let size : IsTrue (is_page_size (image_size u.base.image)) =
    subst (λ (n : ℕ). IsTrue (is_page_size n)) (c.requires.room ∙ sym c.in_ok-take_place.ensures.goes.page_size ∙ opened.files.agrees.page_size) c.requires.size in
    let fault = c.in_err-next.field-0.0 in
    tries_passed c.from_residual-in_err-next.result fault
    (λ r. Tries r (g.H.Host.world c.args.host.now) (g.H.Host.world c.next_free.new.host) c.args.store.now c.next_free.new.store t None xs) c.from_residual-in_err-next.ensures
    (tries_before {S = Unit {0}} {T = ℕ} tt (Err fault) _ _ _ _ _ _ t xs first c.in_err-next.ensures.looks.same c.in_err-next.ensures.looks.quiet (λ v. c.in_err-next.ensures.looks.opened v tells)
    (sure_refused {T = ℕ} (Err fault) (need_cause (first_not u.base.image (maps_up_to u.base.image (p + 1) (free_from (length u.base.image - (p + 1)) (p + 1) u.base.image))))
    (subst (λ (y : Image). need_cause (first_not y (maps_up_to y (p + 1) (free_from (length y - (p + 1)) (p + 1) y))) ≡ None) (sym seen) (next_maps image p (subst (λ (y : Image). IsTrue (is_page_size (image_size y))) seen size) goes))
    (c.in_err-next.ensures.refused u tells opened)) c.in_err-next.ensures.takes_none)

pub returns-then-next-ge-MOST_PAGES-clause-makes : goal.returns-then-next-ge-MOST_PAGES-clause-makes
returns-then-next-ge-MOST_PAGES-clause-makes g c t tells is supplied goes system =
    let image = t.base.image in
    let p : ℕ = c.args.place in
    let xs : List Stroke = (round image p).strokes in
    let first = c.in_ok-take_place.ensures.makes t tells is supplied system in
    let opened = tries_opened {T = Unit {0}} tt _ _ _ _ t None xs first in
    let next : c.in_ok-next.next ≡ behind image p =
    c.in_ok-next.ensures.value (after_strokes t xs) tells opened ∙ ap (λ (y : Image). free_from (length y - (p + 1)) (p + 1) y) (image_is t p (round image p) (round_is t.base p) xs refl) in
    let below = goes.below in
    tries_before {S = Unit {0}} {T = ℕ} tt (Err (Refused (Full most_pages))) _ _ _ _ _ _ t xs first c.in_ok-next.ensures.looks.same c.in_ok-next.ensures.looks.quiet (λ v. c.in_ok-next.ensures.looks.opened v tells)
    (absurd {A = ⊥} (omega (arith, next, below, c.if-next-ge-MOST_PAGES.true))) (refused_memory (Full most_pages))

pub returns-in_err-hold_map-clause-makes : goal.returns-in_err-hold_map-clause-makes
returns-in_err-hold_map-clause-makes g c t tells is supplied goes system =
    let image = t.base.image in
    let p : ℕ = c.args.place in
    let xs : List Stroke = (round image p).strokes in
    let u = after_strokes t xs in
    let first = c.in_ok-take_place.ensures.makes t tells is supplied system in
    let opened = tries_opened {T = Unit {0}} tt _ _ _ _ t None xs first in
    let search = c.in_ok-next.ensures in
    let seen = image_is t p (round image p) (round_is t.base p) xs refl in
    let next : c.in_ok-next.next ≡ behind image p = search.value u tells opened ∙ ap (λ (y : Image). free_from (length y - (p + 1)) (p + 1) y) seen in
    let fault = c.in_err-hold_map.field-0.0 in
    tries_passed c.from_residual-in_err-hold_map.result fault
    (λ r. Tries r (g.H.Host.world c.args.host.now) (g.H.Host.world c.hold_map.new.host) c.args.store.now c.hold_map.new.store t None xs) c.from_residual-in_err-hold_map.ensures
    (tries_before {S = Unit {0}} {T = ℕ} tt (Err fault) _ _ _ _ _ _ t xs first
    (c.in_err-hold_map.ensures.looks.same ∙ search.looks.same) (quiet_joined _ _ _ search.looks.quiet c.in_err-hold_map.ensures.looks.quiet) (λ v open_. c.in_err-hold_map.ensures.looks.opened v tells (search.looks.opened v tells open_))
    (sure_of {T = Unit {0}} (Err fault) (not_kind u.base.image inventory_kind (inventory_of u.base.image c.in_ok-next.next))
    (subst (λ (y : Image). not_kind y inventory_kind (inventory_of y c.in_ok-next.next) ≡ None) (sym seen) (ap (λ (n : ℕ). not_kind (round image p).image 2 (inventory_of (round image p).image n)) next ∙ next_map image p goes))
    (c.in_err-hold_map.ensures.test u tells (search.looks.opened u tells opened) (search.map u tells opened))) c.in_err-hold_map.ensures.takes_none)

pub returns-clause-makes : goal.returns-clause-makes
returns-clause-makes g c t tells is supplied goes system =
    let xs : List Stroke = (round t.base.image c.args.place).strokes in
    let search = c.in_ok-next.ensures in
    tries_before {S = Unit {0}} {T = ℕ} tt (Ok c.in_ok-next.next) _ _ _ _ _ _ t xs (c.in_ok-take_place.ensures.makes t tells is supplied system)
    (c.in_ok-hold_map.ensures.looks.same ∙ search.looks.same) (quiet_joined _ _ _ search.looks.quiet c.in_ok-hold_map.ensures.looks.quiet) (λ v open_. c.in_ok-hold_map.ensures.looks.opened v tells (search.looks.opened v tells open_)) tt tt

pub returns-clause-onward : goal.returns-clause-onward
returns-clause-onward g c t tells is supplied system =
    let image = t.base.image in
    let p : ℕ = c.args.place in
    let xs : List Stroke = (round image p).strokes in
    let u = after_strokes t xs in
    let opened = tries_opened {T = Unit {0}} tt _ _ _ _ t None xs (c.in_ok-take_place.ensures.makes t tells is supplied system) in
    let search = c.in_ok-next.ensures in
    subst (λ (y : Image). IsOnward y p c.in_ok-next.next c.hold_map.new.map) (image_is t p (round image p) (round_is t.base p) xs refl)
    (record { found = search.value u tells opened; holds = λ plain. c.in_ok-hold_map.ensures.map u tells (search.looks.opened u tells opened) (search.map u tells opened) })

pub returns-clause-once : goal.returns-clause-once
returns-clause-once g c tells =
    let few = maps_few (bits_in c.take_place.new.store.files.page_size) (c.args.place + 1) c.in_ok-next.next c.in_ok-next.ensures.not_before in
    omega (arith, c.in_ok-take_place.ensures.once tells, c.in_ok-next.ensures.up_to tells, c.in_ok-hold_map.ensures.once tells, few, c.in_ok-next.ensures.not_before)

pub returns-clause-within : goal.returns-clause-within
returns-clause-within g c =
    let search = c.in_ok-next.ensures in
    omega (arith, search.within (omega (arith, c.in_ok-take_place.ensures.added)), ap (λ (h : Held). h.files.count) (c.in_ok-hold_map.ensures.looks.same ∙ search.looks.same))
