use Rattle.std.proofs.Common.{◌≡◌, ℕ, refl, sym, ap, ◌∙◌, arith, Some, None}
use Rattle.nb_engine.proofs.Common.{IfOk-weaker, data_payload, NotDatabase, quiet_begun, drafted, owner_of, grown, Held, but_pages, behind_cause, new_behind, unmade, IsShort, data_short, tries_early, tries_failed, tries_after, refused_memory, tries_named, IsGrown, unmade_short, grown_unmade}
use Rattle.nb_host.specs.declared.faults.Fault.TheVariants.{Refused}
use Rattle.nb_engine.proofs.NewTurn.{ready_of, count_of}
use Rattle.nb_engine.proofs.engine.Engine.data_grow.Goals as goal

pub returns-then-count-lt-FIRST_TO_GIVE-clause-makes : goal.returns-then-count-lt-FIRST_TO_GIVE-clause-makes
returns-then-count-lt-FIRST_TO_GIVE-clause-makes g c t chain pages tells is owner last is_data =
    let w = g.H.Host.world c.args.host.now in
    let grows = (grown chain pages c.args.slots.now (drafted t.base.image)).0 in
    let count = count_of _ _ _ t c.count-count.result c.self.view_is is c.count-count.ensures.value in
    tries_failed ℕ (Refused (NotDatabase c.count-count.result)) w w _ _ t (unmade t.base.image grows) grows.strokes (refused_memory _)
    (unmade_short t.base.image grows (omega (arith, count, c.if-count-lt-FIRST_TO_GIVE.true)) ∙ ap (λ (n : ℕ). Some (NotDatabase n)) (sym count)) refl (quiet_begun w (g.met.H.Host.timely c.args.host.now)) is is

pub returns-in_err-first-clause-makes : goal.returns-in_err-first-clause-makes
returns-in_err-first-clause-makes g c t chain pages tells is owner last is_data =
    let ready = ready_of _ _ _ t c.count-count.result c.self.view_is is c.self.invariant.0 c.count-count.ensures.value (omega (arith, c.if-count-lt-FIRST_TO_GIVE.false)) in
    let slots = c.args.slots.now in
    let grows = (grown chain pages slots (drafted t.base.image)).0 in
    let short : IsShort (λ p. data_payload 0 (owner_of chain) slots) = λ p. data_short (owner_of chain) slots c.requires.short in
    let cause : unmade t.base.image grows ≡ behind_cause (new_behind chain slots t.base.image).0 c.args.last = grown_unmade t.base.image chain pages slots ready.1.long ∙ ap (behind_cause (new_behind chain slots t.base.image).0) (sym last) in
    let tests = c.in_err-first.ensures in
    tries_early ℕ ℕ _ _ _ _ _ _ t (behind_cause (new_behind chain slots t.base.image).0 c.args.last) (unmade t.base.image grows) _ c.from_residual.ensures tests.takes_none (λ r e. cause ∙ e)
    (tests.one t (λ p. data_payload 0 (owner_of chain) slots) tells ready.0 ready.1 short is_data refl) (tests.looks.same ∙ ap but_pages c.self.view_is) tests.looks.quiet is (tests.looks.opened t tells ready.0)

pub returns-clause-makes : goal.returns-clause-makes
returns-clause-makes g c t chain pages tells is owner last is_data =
    let w = g.H.Host.world c.args.host.now in
    let ready = ready_of _ _ _ t c.count-count.result c.self.view_is is c.self.invariant.0 c.count-count.ensures.value (omega (arith, c.if-count-lt-FIRST_TO_GIVE.false)) in
    let slots = c.args.slots.now in
    let grows = (grown chain pages slots (drafted t.base.image)).0 in
    let short : IsShort (λ p. data_payload 0 (owner_of chain) slots) = λ p. data_short (owner_of chain) slots c.requires.short in
    let cause : unmade t.base.image grows ≡ behind_cause (new_behind chain slots t.base.image).0 c.args.last = grown_unmade t.base.image chain pages slots ready.1.long ∙ ap (behind_cause (new_behind chain slots t.base.image).0) (sym last) in
    let tests = c.in_ok-first.ensures in
    let none = tests.one t (λ p. data_payload 0 (owner_of chain) slots) tells ready.0 ready.1 short is_data refl in
    let still = tests.looks.opened t tells ready.0 in
    let bytes = c.fill_payload.ensures ∙ ap (λ (n : ℕ). data_payload 0 n slots) owner in
    let new = g.H.Host.world c.grow_from.new.host in
    tries_named c.grow_from.result w new c.args.self.now c.grow_from.new.store t None (unmade t.base.image grows) grows.strokes grows.strokes (sym (cause ∙ none)) refl
    (tries_after c.grow_from.result w (g.H.Host.world c.check_rooms.new.host) new _ _ _ t _ _ (tests.looks.same ∙ ap but_pages c.self.view_is) tests.looks.quiet is
    (c.grow_from.ensures.tries t chain pages slots tells still (record { at = tests.value t tells ready.0; holds = tests.map t tells ready.0 refl; searchable = ready.1; free = none; bytes = bytes }) last))

pub returns-clause-value : goal.returns-clause-value
returns-clause-value g c t chain pages tells is owner is_data =
    let ready = ready_of _ _ _ t c.count-count.result c.self.view_is is c.self.invariant.0 c.count-count.ensures.value (omega (arith, c.if-count-lt-FIRST_TO_GIVE.false)) in
    let slots = c.args.slots.now in
    let grows = (grown chain pages slots (drafted t.base.image)).0 in
    let short : IsShort (λ p. data_payload 0 (owner_of chain) slots) = λ p. data_short (owner_of chain) slots c.requires.short in
    let tests = c.in_ok-first.ensures in
    let none = tests.one t (λ p. data_payload 0 (owner_of chain) slots) tells ready.0 ready.1 short is_data refl in
    let still = tests.looks.opened t tells ready.0 in
    let bytes = c.fill_payload.ensures ∙ ap (λ (n : ℕ). data_payload 0 n slots) owner in
    IfOk-weaker c.grow_from.result (IsGrown t.base.image chain pages slots) _ (λ number is. is.is) (c.grow_from.ensures.grown t chain pages slots tells still (record { at = tests.value t tells ready.0; holds = tests.map t tells ready.0 refl; searchable = ready.1; free = none; bytes = bytes }))

pub grow_from-requires-clause-inside : goal.grow_from-requires-clause-inside
grow_from-requires-clause-inside g c = omega (arith, c.in_ok-first.ensures.within (omega (arith, c.count-count.ensures.value, c.if-count-lt-FIRST_TO_GIVE.false)), ap (λ (h : Held). h.files.count) c.in_ok-first.ensures.looks.same)
