use Rattle.std.proofs.Common.{◌≡◌, ◌≢◌, inl, inr, ℕ, ◌+◌, ◌≤◌, length, refl, sym, ap, subst, ◌∙◌, arith, true, false, None, Err}
use Rattle.nb_alloc.proofs.Common.{true≢false, eqb_tells, bits_in, is_system_place, most_pages, Full, image_size, next_place, Held, Tested, Behind, way_cause, gone, AtKnown, Finds, Refuses, EndsBy, looks_begun, looks_then}
use Rattle.nb_alloc.proofs.WayLaws.{end_cause, goes_on, goes_at, goes_found, goes_refused, goes_failed}
use Rattle.nb_alloc.proofs.BehindLaws.{gone_page, gone_lost}
use Rattle.nb_alloc.proofs.SearchReads.{maps_few}
use Rattle.nb_alloc.proofs.way.go_on.Goals as goal

pub loop-behind-init : goal.loop-behind-init
loop-behind-init g c = record {
  at = λ t start begun before tells is begins. begins;
  held = λ t tells is holds. holds;
  passed = λ other. absurd (other refl);
  from = c.requires.from;
  least = c.requires.least;
  below = c.requires.below;
  page = refl;
  lost = λ lost. lost;
  map_room = refl;
  scn_room = refl;
  looks = looks_begun (g.H.Host.world c.args.host.now) (g.met.H.Host.timely c.args.host.now);
  once = λ tells. omega arith;
  fewer = λ tells other plain. absurd (other refl);
  none = λ same. refl;
  behind = omega arith;
  cause = refl;
}

pub returns-then-next-ge-MOST_PAGES-clause-ends : goal.returns-then-next-ge-MOST_PAGES-clause-ends
returns-then-next-ge-MOST_PAGES-clause-ends g c t start begun before tells is begins =
    let image = t.base.image in
    let place : ℕ = c.loop-behind.place in
    let made : ℕ = c.loop-behind.way.made in
    let fresh : ℕ = c.loop-behind.way.fresh in
    let most : length image ≤ most_pages = omega (arith, is.files.agrees.count, c.count-count.ensures.value, c.count-count.ensures.most) in
    let known = c.loop-behind.invariant.at t start begun before tells is begins in
    let system : is_system_place (image_size image) place ≡ true = ap (λ (s : ℕ). is_system_place s place) (sym (c.page_size-page_size.ensures.value ∙ is.files.agrees.page_size)) ∙ sym c.is_system_place.ensures ∙ c.loop-behind-test.true in
    let to = goes_on image start begun place made fresh before c.loop-behind.behind known most system in
    let end : place + 1 ≡ most_pages = omega (arith, c.loop-behind.invariant.below, c.if-next-ge-MOST_PAGES.true) in
    subst (λ (b : Behind). Refuses image start before b (Full most_pages)) (sym {b = gone place made fresh c.loop-behind.behind} c.pass.ensures)
    (goes_refused image start begun (place + 1) made fresh before (gone place made fresh c.loop-behind.behind) to most (Full most_pages) (end_cause image start to.now begun (place + 1) made fresh to.tries to.search most end))

pub returns-in_err-place-clause-ends : goal.returns-in_err-place-clause-ends
returns-in_err-place-clause-ends g c t start begun before tells is begins =
    let image = t.base.image in
    let place : ℕ = c.loop-behind.place in
    let made : ℕ = c.loop-behind.way.made in
    let fresh : ℕ = c.loop-behind.way.fresh in
    let most : length image ≤ most_pages = omega (arith, is.files.agrees.count, c.count-count.ensures.value, c.count-count.ensures.most) in
    let known = c.loop-behind.invariant.at t start begun before tells is begins in
    let system : is_system_place (image_size image) place ≡ true = ap (λ (s : ℕ). is_system_place s place) (sym (c.page_size-page_size.ensures.value ∙ is.files.agrees.page_size)) ∙ sym c.is_system_place.ensures ∙ c.loop-behind-test.true in
    let to = goes_on image start begun place made fresh before c.loop-behind.behind known most system in
    let still = c.loop-behind.invariant.looks.opened t tells is in
    let fault = c.in_err-place.field-0.0 in
    let tested = subst (λ (n : ℕ). Tested {T = ℕ} (Err fault) (way_cause image n made fresh)) c.loop-behind.invariant.from (c.in_err-place.ensures.test t tells still) in
    subst (λ (b : Behind). EndsBy c.from_residual.result image start c.visit.new.way.from c.visit.new.way.made c.visit.new.way.fresh before b) (sym {b = gone place made fresh c.loop-behind.behind} c.pass.ensures)
    (goes_failed ℕ (Unit {0}) c.from_residual.result fault image start begun (place + 1) made fresh c.visit.new.way.from c.visit.new.way.made c.visit.new.way.fresh before (gone place made fresh c.loop-behind.behind) c.from_residual.ensures to most tested)

pub loop-behind-preserved : goal.loop-behind-preserved
loop-behind-preserved g c =
    let next = c.in_ok-place.ensures in
    record {
      at = λ t start begun before tells is begins.
          let image = t.base.image in
          let place : ℕ = c.loop-behind.place in
          let made : ℕ = c.loop-behind.way.made in
          let fresh : ℕ = c.loop-behind.way.fresh in
          let most : length image ≤ most_pages = omega (arith, is.files.agrees.count, c.count-count.ensures.value, c.count-count.ensures.most) in
          let known = c.loop-behind.invariant.at t start begun before tells is begins in
          let system : is_system_place (image_size image) place ≡ true = ap (λ (s : ℕ). is_system_place s place) (sym (c.page_size-page_size.ensures.value ∙ is.files.agrees.page_size)) ∙ sym c.is_system_place.ensures ∙ c.loop-behind-test.true in
          let to = goes_on image start begun place made fresh before c.loop-behind.behind known most system in
          let still = c.loop-behind.invariant.looks.opened t tells is in
          let from = c.loop-behind.invariant.from in
          subst (λ (b : Behind). AtKnown image start begun c.in_ok-place.place c.visit.new.way.made c.visit.new.way.fresh before b) (sym {b = gone place made fresh c.loop-behind.behind} c.pass.ensures)
          (goes_at image start begun (place + 1) made fresh before (gone place made fresh c.loop-behind.behind) to most c.in_ok-place.place c.visit.new.way.made c.visit.new.way.fresh
          (subst (λ (n : ℕ). c.in_ok-place.place ≡ next_place image n fresh) from (next.value t tells still)) (subst (λ (n : ℕ). way_cause image n made fresh ≡ None) from (next.test t tells still))
          (next.made t tells still) (next.fresh t tells still));
      held = λ t tells is holds plain. elim (eqb_tells c.args.first c.loop-behind.place) [
        | inl w ↦
            let page_size = c.page_size-page_size.ensures.value ∙ is.files.agrees.page_size in
            absurd (true≢false (sym (ap (λ (s : ℕ). is_system_place s c.loop-behind.place) (sym page_size) ∙ sym c.is_system_place.ensures ∙ c.loop-behind-test.true) ∙ ap (is_system_place (image_size t.base.image)) (sym w.1) ∙ plain))
        | inr w ↦ absurd (true≢false (sym (ap (λ (s : ℕ). is_system_place s c.args.first) (sym is.files.agrees.page_size) ∙ c.loop-behind.invariant.passed w.1) ∙ plain))
      ];
      passed = λ other. elim (eqb_tells c.args.first c.loop-behind.place) [
        | inl w ↦ ap (is_system_place c.args.store.now.files.page_size) w.1 ∙ ap (λ (s : ℕ). is_system_place s c.loop-behind.place) (sym c.page_size-page_size.ensures.value) ∙ sym c.is_system_place.ensures ∙ c.loop-behind-test.true
        | inr w ↦ c.loop-behind.invariant.passed w.1
      ];
      from = next.from;
      least = omega (arith, next.later, c.loop-behind.invariant.from, c.loop-behind.invariant.least);
      below = next.below;
      page = gone_page c.loop-behind.place c.loop-behind.way.made c.loop-behind.way.fresh c.loop-behind.behind c.pass.new.self c.pass.ensures ∙ c.loop-behind.invariant.page;
      lost = λ lost. gone_lost c.loop-behind.place c.loop-behind.way.made c.loop-behind.way.fresh c.loop-behind.behind c.pass.new.self c.pass.ensures (c.loop-behind.invariant.lost lost);
      map_room = next.map_room ∙ c.loop-behind.invariant.map_room;
      scn_room = next.scn_room ∙ c.loop-behind.invariant.scn_room;
      looks = looks_then c.loop-behind.invariant.looks next.looks;
      once = λ tells.
          let few = maps_few (bits_in c.loop-behind.store.files.page_size) c.loop-behind.way.from c.in_ok-place.place next.later in
          omega (arith, few, next.once tells, c.loop-behind.invariant.once tells, next.later, c.loop-behind.invariant.from, c.loop-behind.invariant.behind);
      fewer = λ tells other plain.
          let few = maps_few (bits_in c.loop-behind.store.files.page_size) c.loop-behind.way.from c.in_ok-place.place next.later in
          omega (arith, few, next.fewer tells (subst (λ (s : ℕ). is_system_place s c.in_ok-place.place ≡ false) (sym (ap (λ (h : Held). h.files.page_size) c.loop-behind.invariant.looks.same)) plain), c.loop-behind.invariant.once tells, next.later, c.loop-behind.invariant.from, c.loop-behind.invariant.behind);
      none = λ same. absurd (omega (arith, same, next.later, c.loop-behind.invariant.from, c.loop-behind.invariant.behind));
      behind = omega (arith, next.later, c.loop-behind.invariant.from, c.loop-behind.invariant.behind);
      cause = next.cause ∙ c.loop-behind.invariant.cause;
    }

pub returns-clause-ends : goal.returns-clause-ends
returns-clause-ends g c t start begun before tells is begins =
    let image = t.base.image in
    let place : ℕ = c.loop-behind.place in
    let made : ℕ = c.loop-behind.way.made in
    let fresh : ℕ = c.loop-behind.way.fresh in
    let most : length image ≤ most_pages = omega (arith, is.files.agrees.count, c.count-count.ensures.value, c.count-count.ensures.most) in
    let known = c.loop-behind.invariant.at t start begun before tells is begins in
    let plain : is_system_place (image_size image) place ≡ false = ap (λ (s : ℕ). is_system_place s place) (sym (c.page_size-page_size.ensures.value ∙ is.files.agrees.page_size)) ∙ sym c.is_system_place.ensures ∙ c.loop-behind-test.false in
    subst (λ (n : ℕ). Finds image start n made fresh before c.loop-behind.behind) (sym c.loop-behind.invariant.from) (goes_found image start begun place made fresh before c.loop-behind.behind known most plain)

pub returns-clause-map : goal.returns-clause-map
returns-clause-map g c t tells is holds = c.loop-behind.invariant.held t tells is holds

pub returns-clause-once : goal.returns-clause-once
returns-clause-once g c tells system =
    let page_size = c.page_size-page_size.ensures.value in
    let plain : is_system_place c.args.store.now.files.page_size c.loop-behind.place ≡ false = ap (λ (s : ℕ). is_system_place s c.loop-behind.place) (sym page_size) ∙ sym c.is_system_place.ensures ∙ c.loop-behind-test.false in
    let other : c.args.first ≢ c.loop-behind.place = λ e. true≢false (sym system ∙ ap (is_system_place c.args.store.now.files.page_size) e ∙ plain) in
    omega (arith, c.loop-behind.invariant.fewer tells other plain, c.loop-behind.invariant.from, c.requires.from, c.loop-behind.invariant.behind)

pub returns-clause-none : goal.returns-clause-none
returns-clause-none g c tells plain = elim (eqb_tells c.args.first c.loop-behind.place) [
  | inl w ↦ (c.loop-behind.invariant.none w.1, omega (arith, w.1, c.loop-behind.invariant.from, c.requires.from))
  | inr w ↦ absurd (true≢false (sym (c.loop-behind.invariant.passed w.1) ∙ plain))
]

pub returns-then-next-ge-MOST_PAGES-clause-page : goal.returns-then-next-ge-MOST_PAGES-clause-page
returns-then-next-ge-MOST_PAGES-clause-page g c = gone_page c.loop-behind.place c.loop-behind.way.made c.loop-behind.way.fresh c.loop-behind.behind c.pass.new.self c.pass.ensures ∙ c.loop-behind.invariant.page

pub returns-then-next-ge-MOST_PAGES-clause-lost : goal.returns-then-next-ge-MOST_PAGES-clause-lost
returns-then-next-ge-MOST_PAGES-clause-lost g c lost = gone_lost c.loop-behind.place c.loop-behind.way.made c.loop-behind.way.fresh c.loop-behind.behind c.pass.new.self c.pass.ensures (c.loop-behind.invariant.lost lost)

pub returns-in_err-place-clause-page : goal.returns-in_err-place-clause-page
returns-in_err-place-clause-page g c = gone_page c.loop-behind.place c.loop-behind.way.made c.loop-behind.way.fresh c.loop-behind.behind c.pass.new.self c.pass.ensures ∙ c.loop-behind.invariant.page

pub returns-in_err-place-clause-lost : goal.returns-in_err-place-clause-lost
returns-in_err-place-clause-lost g c lost = gone_lost c.loop-behind.place c.loop-behind.way.made c.loop-behind.way.fresh c.loop-behind.behind c.pass.new.self c.pass.ensures (c.loop-behind.invariant.lost lost)

pub returns-in_err-place-clause-looks : goal.returns-in_err-place-clause-looks
returns-in_err-place-clause-looks g c = looks_then c.loop-behind.invariant.looks c.in_err-place.ensures.looks
