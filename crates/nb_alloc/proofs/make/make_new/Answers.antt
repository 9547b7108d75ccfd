use Rattle.std.proofs.Common.{◌≡◌, ℕ, refl, sym, ap, ◌∙◌, arith, true, false, None, Ok, Err}
use Rattle.nb_alloc.proofs.Common.{code_of, is_system_place, quiet_begun, image_size, after_strokes, goes_on, goes_nowhere, content}
use Rattle.nb_alloc.proofs.DoesLaws.{tries_valued, tries_on}
use Rattle.nb_alloc.proofs.NewLaws.{so_far_begun, supplied, goes_onward, round_failed, round_done, last_number, last_round}
use Rattle.nb_alloc.proofs.make.make_new.Goals as goal

pub loop-store-init : goal.loop-store-init
loop-store-init g c = record {
  so_far = λ t tells is at holds may free. so_far_begun (code_of c.args.kind) (content c.args.own c.args.payload.now) (g.H.Host.world c.args.host.now) c.args.store.now t c.args.first c.args.map.now (quiet_begun (g.H.Host.world c.args.host.now) (g.met.H.Host.timely c.args.host.now)) is (omega (arith, is.files.agrees.count, c.count-count.ensures.value, c.count-count.ensures.most)) at holds may free;
  goes = goes_nowhere c.args.store.now c.args.store.now refl;
  low = c.requires.low;
  behind = omega arith;
  most = c.requires.high;
  within = c.requires.inside;
  map_room = refl;
  scn_room = refl;
  once = λ tells. omega arith;
  cause = refl;
}

pub returns-in_err-place-clause-makes : goal.returns-in_err-place-clause-makes
returns-in_err-place-clause-makes g c t tells is at holds may free =
    let so = c.loop-store.invariant.so_far t tells is at holds may free in
    let opened = so.makes.opened in
    let system : is_system_place (image_size (after_strokes t so.done).base.image) c.loop-store.place ≡ true =
    ap (λ (s : ℕ). is_system_place s c.loop-store.place) (sym (c.page_size-page_size.ensures.value ∙ sym c.loop-store.invariant.goes.page_size ∙ opened.files.agrees.page_size)) ∙ sym c.is_system_place.ensures ∙ c.loop-store-test.true in
    round_failed _ _ _ _ _ _ _ _ _ _ _ so system ℕ ℕ c.from_residual.result c.in_err-place.field-0.0 _ _ c.from_residual.ensures
    (c.in_err-place.ensures.makes (after_strokes t so.done) tells opened (supplied _ _ _ _ _ _ _ _ _ _ _ so) (goes_onward _ _ _ _ _ _ _ _ _ _ _ so system) system)

pub loop-store-preserved : goal.loop-store-preserved
loop-store-preserved g c = record {
  so_far = λ t tells is at holds may free.
      let so = c.loop-store.invariant.so_far t tells is at holds may free in
      let opened = so.makes.opened in
      let system : is_system_place (image_size (after_strokes t so.done).base.image) c.loop-store.place ≡ true =
      ap (λ (s : ℕ). is_system_place s c.loop-store.place) (sym (c.page_size-page_size.ensures.value ∙ sym c.loop-store.invariant.goes.page_size ∙ opened.files.agrees.page_size)) ∙ sym c.is_system_place.ensures ∙ c.loop-store-test.true in
      let there = supplied _ _ _ _ _ _ _ _ _ _ _ so in
      round_done _ _ _ _ _ _ _ _ _ _ _ so system c.in_ok-place.place c.pass_place.new.map _ _
      (c.in_ok-place.ensures.makes (after_strokes t so.done) tells opened there (goes_onward _ _ _ _ _ _ _ _ _ _ _ so system) system)
      (c.in_ok-place.ensures.onward (after_strokes t so.done) tells opened there system);
  goes = goes_on _ _ _ c.loop-store.invariant.goes c.in_ok-place.ensures.goes;
  low = omega (arith, c.loop-store.invariant.low, c.in_ok-place.ensures.later);
  behind = omega (arith, c.loop-store.invariant.behind, c.in_ok-place.ensures.later);
  most = c.in_ok-place.ensures.most;
  within = c.in_ok-place.ensures.within;
  map_room = c.in_ok-place.ensures.map_room ∙ c.loop-store.invariant.map_room;
  scn_room = c.in_ok-place.ensures.scn_room ∙ c.loop-store.invariant.scn_room;
  once = λ tells. omega (arith, c.loop-store.invariant.once tells, c.in_ok-place.ensures.once tells, c.loop-store.invariant.behind, c.in_ok-place.ensures.later);
  cause = c.in_ok-place.ensures.cause ∙ c.loop-store.invariant.cause;
}

pub returns-in_err-take_new-clause-makes : goal.returns-in_err-take_new-clause-makes
returns-in_err-take_new-clause-makes g c t tells is at holds may free =
    let so = c.loop-store.invariant.so_far t tells is at holds may free in
    let opened = so.makes.opened in
    let plain : is_system_place (image_size (after_strokes t so.done).base.image) c.loop-store.place ≡ false =
    ap (λ (s : ℕ). is_system_place s c.loop-store.place) (sym (c.page_size-page_size.ensures.value ∙ sym c.loop-store.invariant.goes.page_size ∙ opened.files.agrees.page_size)) ∙ sym c.is_system_place.ensures ∙ c.loop-store-test.false in
    let fault = c.in_err-take_new.field-0.0 in
    tries_on (Unit {0}) ℕ c.from_residual-in_err-take_new.result fault _ _ _ _ t None _ c.from_residual-in_err-take_new.ensures
    (last_round _ _ _ _ _ _ _ _ _ _ _ so plain {T = Unit {0}} (Err fault) _ _ (c.in_err-take_new.ensures.makes (after_strokes t so.done) tells opened (supplied _ _ _ _ _ _ _ _ _ _ _ so) plain so.holds))

pub returns-clause-makes : goal.returns-clause-makes
returns-clause-makes g c t tells is at holds may free =
    let so = c.loop-store.invariant.so_far t tells is at holds may free in
    let opened = so.makes.opened in
    let plain : is_system_place (image_size (after_strokes t so.done).base.image) c.loop-store.place ≡ false =
    ap (λ (s : ℕ). is_system_place s c.loop-store.place) (sym (c.page_size-page_size.ensures.value ∙ sym c.loop-store.invariant.goes.page_size ∙ opened.files.agrees.page_size)) ∙ sym c.is_system_place.ensures ∙ c.loop-store-test.false in
    tries_valued {S = Unit {0}} tt c.loop-store.place _ _ _ _ t None _
    (last_round _ _ _ _ _ _ _ _ _ _ _ so plain {T = Unit {0}} (Ok tt) _ _ (c.in_ok-take_new.ensures.makes (after_strokes t so.done) tells opened (supplied _ _ _ _ _ _ _ _ _ _ _ so) plain so.holds))

pub returns-clause-value : goal.returns-clause-value
returns-clause-value g c t tells is at holds may free =
    let so = c.loop-store.invariant.so_far t tells is at holds may free in
    let opened = so.makes.opened in
    let plain : is_system_place (image_size (after_strokes t so.done).base.image) c.loop-store.place ≡ false =
    ap (λ (s : ℕ). is_system_place s c.loop-store.place) (sym (c.page_size-page_size.ensures.value ∙ sym c.loop-store.invariant.goes.page_size ∙ opened.files.agrees.page_size)) ∙ sym c.is_system_place.ensures ∙ c.loop-store-test.false in
    last_number _ _ _ _ _ _ _ _ _ _ _ so plain

pub returns-clause-once : goal.returns-clause-once
returns-clause-once g c tells = omega (arith, c.loop-store.invariant.once tells, c.in_ok-take_new.ensures.once tells)
