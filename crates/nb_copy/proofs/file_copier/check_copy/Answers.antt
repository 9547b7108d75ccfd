use Rattle.std.proofs.Common.{◌≡◌, ℕ, List, refl, sym, ap, subst, ◌∙◌, rules, Option, Some, None}
use Rattle.nb_copy.proofs.Common.{stalled_state, same_true, same_false, WrongState, FileExists, Base, not_state, image_state, OnOpen, the_type, goes, only_stalled, Held}
use Rattle.nb_cases.specs.declared.events.Case.TheVariants as case
use Rattle.nb_copy.proofs.CopyCauses.{not_stalled, other_runs, name_taken, copy_allowed}
use Rattle.nb_copy.proofs.file_copier.check_copy.Goals as goal

none_of : (o : Option ℕ) → ((x : ℕ) → o ≡ Some x → ⊥) → o ≡ None
none_of None never = refl
none_of (Some x) never = absurd (never x refl)

pub returns-then-eq-clause-test : goal.returns-then-eq-clause-test
returns-then-eq-clause-test g c s t tells same runs is free =
    let state = c.state-state.ensures.value ∙ ap (λ (h : Held). h.files.state) c.store-store.ensures ∙ is.files.agrees.state ∙ ap (λ (b : Base). image_state b.image) same in
    let says : OnOpen (not_state stalled_state) c.state-state.result case.WrongState = subst (OnOpen (not_state stalled_state) c.state-state.result) (same_true the_type (search rules) c.case_of.result case.WrongState (sym c.eq.ensures ∙ c.if-eq.true)) c.case_of.ensures in
    not_stalled s c.args.name.now _ (says s.base.image (sym state)) ∙ ap (λ (n : ℕ). Some (WrongState n)) (sym c.from.ensures)

pub returns-in-Some-clause-test : goal.returns-in-Some-clause-test
returns-in-Some-clause-test g c s t tells same runs is free =
    let state = c.state-state.ensures.value ∙ ap (λ (h : Held). h.files.state) c.store-store.ensures ∙ is.files.agrees.state ∙ ap (λ (b : Base). image_state b.image) same in
    let stalled = goes (not_state stalled_state) c.state-state.result c.state-state.ensures.most c.case_of.result c.case_of.ensures (same_false the_type c.case_of.result case.WrongState (sym c.eq.ensures ∙ c.if-eq.false)) s.base.image (sym state) in
    other_runs s c.args.name.now stalled c.in-Some.session (sym runs ∙ sym (ap (λ (h : Held). h.running) c.store-store.ensures) ∙ sym c.running.ensures ∙ c.in-Some.is)

pub returns-then-not-branch-clause-test : goal.returns-then-not-branch-clause-test
returns-then-not-branch-clause-test g c s t tells same runs is free =
    let state = c.state-state.ensures.value ∙ ap (λ (h : Held). h.files.state) c.store-store.ensures ∙ is.files.agrees.state ∙ ap (λ (b : Base). image_state b.image) same in
    let stalled = goes (not_state stalled_state) c.state-state.result c.state-state.ensures.most c.case_of.result c.case_of.ensures (same_false the_type c.case_of.result case.WrongState (sym c.eq.ensures ∙ c.if-eq.false)) s.base.image (sym state) in
    let none = sym runs ∙ sym (ap (λ (h : Held). h.running) c.store-store.ensures) ∙ sym c.running.ensures ∙ none_of c.running.result (λ x e. c.in_default.not-Some x e) in
    name_taken s c.args.name.now stalled none (sym (free none) ∙ sym (c.in_ok-is_free.ensures.answer tells) ∙ c.if-not-branch.true)
    ∙ ap (λ (n : List ℕ). Some (FileExists n)) (sym c.copied.ensures)

pub returns-clause-test : goal.returns-clause-test
returns-clause-test g c s t tells same runs is free =
    let state = c.state-state.ensures.value ∙ ap (λ (h : Held). h.files.state) c.store-store.ensures ∙ is.files.agrees.state ∙ ap (λ (b : Base). image_state b.image) same in
    let stalled = goes (not_state stalled_state) c.state-state.result c.state-state.ensures.most c.case_of.result c.case_of.ensures (same_false the_type c.case_of.result case.WrongState (sym c.eq.ensures ∙ c.if-eq.false)) s.base.image (sym state) in
    let none = sym runs ∙ sym (ap (λ (h : Held). h.running) c.store-store.ensures) ∙ sym c.running.ensures ∙ none_of c.running.result (λ x e. c.in_default.not-Some x e) in
    copy_allowed s c.args.name.now stalled none (sym (free none) ∙ sym (c.in_ok-is_free.ensures.answer tells) ∙ c.if-not-branch.false)

pub returns-clause-stalled : goal.returns-clause-stalled
returns-clause-stalled g c =
    sym (c.state-state.ensures.value ∙ ap (λ (h : Held). h.files.state) c.store-store.ensures)
    ∙ only_stalled c.state-state.result c.state-state.ensures.most c.case_of.result (same_false the_type c.case_of.result case.WrongState (sym c.eq.ensures ∙ c.if-eq.false)) c.case_of.ensures

pub returns-clause-none : goal.returns-clause-none
returns-clause-none g c = sym (ap (λ (h : Held). h.running) c.store-store.ensures) ∙ sym c.running.ensures ∙ none_of c.running.result (λ x e. c.in_default.not-Some x e)

pub returns-clause-free : goal.returns-clause-free
returns-clause-free g c tells = sym (c.in_ok-is_free.ensures.answer tells) ∙ c.if-not-branch.false
