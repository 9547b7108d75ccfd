use Rattle.std.proofs.Common.{◌≡◌, ℕ, refl, sym, ap, subst, ◌∙◌, arith, Some, None, IfOk}
use Rattle.nb_engine.proofs.Common.{data_payload, NotDatabase, quiet_begun, Draft, draft_cause, Held, but_pages, Tries, owner_by, new_data, unmade, IsShort, new_named, data_short, tries_early, tries_failed, tries_after, refused_memory, tries_named, unmade_short, unmade_long}
use Rattle.nb_host.specs.declared.faults.Fault.TheVariants.{Refused}
use Rattle.nb_engine.proofs.NewTurn.{ready_of, count_of}
use Rattle.nb_engine.proofs.engine.Engine.data_new.Goals as goal

pub returns-then-count-lt-FIRST_TO_GIVE-clause-makes : goal.returns-then-count-lt-FIRST_TO_GIVE-clause-makes
returns-then-count-lt-FIRST_TO_GIVE-clause-makes g c t tells is =
    let w = g.H.Host.world c.args.host.now in
    let made = new_data c.args.owner c.args.slots.now t.base.image in
    let count = count_of _ _ _ t c.count-count.result c.self.view_is is c.count-count.ensures.value in
    tries_failed ℕ (Refused (NotDatabase c.count-count.result)) w w _ _ t (unmade t.base.image made.0) made.0.strokes (refused_memory _)
    (unmade_short t.base.image made.0 (omega (arith, count, c.if-count-lt-FIRST_TO_GIVE.true)) ∙ ap (λ (n : ℕ). Some (NotDatabase n)) (sym count)) refl (quiet_begun w (g.met.H.Host.timely c.args.host.now)) is is

pub returns-in_err-first-clause-makes : goal.returns-in_err-first-clause-makes
returns-in_err-first-clause-makes g c t tells is =
    let ready = ready_of _ _ _ t c.count-count.result c.self.view_is is c.self.invariant.0 c.count-count.ensures.value (omega (arith, c.if-count-lt-FIRST_TO_GIVE.false)) in
    let made = new_data c.args.owner c.args.slots.now t.base.image in
    let short : IsShort (λ p. data_payload 0 (owner_by c.args.owner p) c.args.slots.now) = λ p. data_short (owner_by c.args.owner p) c.args.slots.now c.requires.short in
    let tests = c.in_err-first.ensures in
    tries_early ℕ ℕ _ _ _ _ _ _ t (draft_cause made.0) (unmade t.base.image made.0) _ c.from_residual.ensures tests.takes_none (λ r e. unmade_long t.base.image made.0 ready.1.long ∙ e) (tests.test t 5 _ tells ready.0 ready.1 short) (tests.looks.same ∙ ap but_pages c.self.view_is) tests.looks.quiet is (tests.looks.opened t tells ready.0)

pub returns-clause-makes : goal.returns-clause-makes
returns-clause-makes g c t tells is =
    let w = g.H.Host.world c.args.host.now in
    let ready = ready_of _ _ _ t c.count-count.result c.self.view_is is c.self.invariant.0 c.count-count.ensures.value (omega (arith, c.if-count-lt-FIRST_TO_GIVE.false)) in
    let made = new_data c.args.owner c.args.slots.now t.base.image in
    let short : IsShort (λ p. data_payload 0 (owner_by c.args.owner p) c.args.slots.now) = λ p. data_short (owner_by c.args.owner p) c.args.slots.now c.requires.short in
    let tests = c.in_ok-first.ensures in
    let same = new_named c.args.owner c.is_none.result c.fill_payload.new.into c.args.slots.now c.is_none.ensures (c.fill_payload.ensures ∙ ap (λ (n : ℕ). data_payload 0 n c.args.slots.now) c.unwrap_or.ensures) t.base.image in
    let none = tests.test t 5 (λ p. data_payload 0 (owner_by c.args.owner p) c.args.slots.now) tells ready.0 ready.1 short in
    let room = subst (λ (m : Draft × ℕ). draft_cause m.0 ≡ None) (sym same) none in
    let new = g.H.Host.world c.make_new.new.host in
    let mid = g.H.Host.world c.check_new.new.host in
    let makes = subst (λ (m : Draft × ℕ). Tries c.make_new.result mid new c.check_new.new.store c.make_new.new.store t None m.0.strokes) same
    (c.make_new.ensures.makes t tells (tests.looks.opened t tells ready.0) (tests.value t tells ready.0) (tests.map t tells ready.0) ready.1 room) in
    tries_after c.make_new.result w mid new _ _ _ t _ _ (tests.looks.same ∙ ap but_pages c.self.view_is) tests.looks.quiet is
    (tries_named c.make_new.result mid new c.check_new.new.store c.make_new.new.store t None (unmade t.base.image made.0) made.0.strokes made.0.strokes (sym (unmade_long t.base.image made.0 ready.1.long ∙ none)) refl makes)

pub returns-clause-value : goal.returns-clause-value
returns-clause-value g c t tells is =
    let ready = ready_of _ _ _ t c.count-count.result c.self.view_is is c.self.invariant.0 c.count-count.ensures.value (omega (arith, c.if-count-lt-FIRST_TO_GIVE.false)) in
    let short : IsShort (λ p. data_payload 0 (owner_by c.args.owner p) c.args.slots.now) = λ p. data_short (owner_by c.args.owner p) c.args.slots.now c.requires.short in
    let tests = c.in_ok-first.ensures in
    let same = new_named c.args.owner c.is_none.result c.fill_payload.new.into c.args.slots.now c.is_none.ensures (c.fill_payload.ensures ∙ ap (λ (n : ℕ). data_payload 0 n c.args.slots.now) c.unwrap_or.ensures) t.base.image in
    let none = tests.test t 5 (λ p. data_payload 0 (owner_by c.args.owner p) c.args.slots.now) tells ready.0 ready.1 short in
    let room = subst (λ (m : Draft × ℕ). draft_cause m.0 ≡ None) (sym same) none in
    subst (λ (m : Draft × ℕ). IfOk c.make_new.result (λ number. number ≡ m.1)) same (c.make_new.ensures.value t tells (tests.looks.opened t tells ready.0) (tests.value t tells ready.0) (tests.map t tells ready.0) ready.1 room)

pub make_new-requires-clause-inside : goal.make_new-requires-clause-inside
make_new-requires-clause-inside g c = omega (arith, c.in_ok-first.ensures.within (omega (arith, c.count-count.ensures.value, c.if-count-lt-FIRST_TO_GIVE.false)), ap (λ (h : Held). h.files.count) c.in_ok-first.ensures.looks.same)
