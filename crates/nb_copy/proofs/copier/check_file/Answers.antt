use Rattle.std.proofs.Common.{◌≡◌, ℕ, List, sym, ap, subst, ◌∙◌, rules, true, false, Some}
use Rattle.nb_copy.proofs.Common.{normal_state, same_true, same_false, WrongState, FileExists, Base, not_state, image_state, is_read_only, OnOpen, the_type, goes, only_normal, Held}
use Rattle.nb_cases.specs.declared.events.Case.TheVariants as case
use Rattle.nb_copy.proofs.StartCauses.{closed, busy, there, allowed}
use Rattle.nb_copy.proofs.copier.check_file.Goals as goal

pub returns-then-is_read_only-clause-test : goal.returns-then-is_read_only-clause-test
returns-then-is_read_only-clause-test g c s t tells same is free =
    let read_only : is_read_only t.base.image ≡ true = sym is.agrees.read_only ∙ sym (ap (λ (h : Held). h.read_only) c.store-store.ensures) ∙ sym c.is_read_only.ensures ∙ c.if-is_read_only.true in
    closed s c.args.name.now (sym (ap (λ (b : Base). is_read_only b.image) same) ∙ read_only)

pub returns-then-eq-clause-test : goal.returns-then-eq-clause-test
returns-then-eq-clause-test g c s t tells same is free =
    let read_only : is_read_only t.base.image ≡ false = sym is.agrees.read_only ∙ sym (ap (λ (h : Held). h.read_only) c.store-store.ensures) ∙ sym c.is_read_only.ensures ∙ c.if-is_read_only.false in
    let state = c.state-state.ensures.value ∙ ap (λ (h : Held). h.files.state) c.store-store.ensures ∙ is.files.agrees.state ∙ ap (λ (b : Base). image_state b.image) same in
    let says : OnOpen (not_state normal_state) c.state-state.result case.WrongState = subst (OnOpen (not_state normal_state) c.state-state.result) (same_true the_type (search rules) c.case_of.result case.WrongState (sym c.eq.ensures ∙ c.if-eq.true)) c.case_of.ensures in
    busy s c.args.name.now (sym (ap (λ (b : Base). is_read_only b.image) same) ∙ read_only) _ (says s.base.image (sym state)) ∙ ap (λ (n : ℕ). Some (WrongState n)) (sym c.from.ensures)

pub returns-then-not-branch-clause-test : goal.returns-then-not-branch-clause-test
returns-then-not-branch-clause-test g c s t tells same is free =
    let read_only : is_read_only t.base.image ≡ false = sym is.agrees.read_only ∙ sym (ap (λ (h : Held). h.read_only) c.store-store.ensures) ∙ sym c.is_read_only.ensures ∙ c.if-is_read_only.false in
    let state = c.state-state.ensures.value ∙ ap (λ (h : Held). h.files.state) c.store-store.ensures ∙ is.files.agrees.state ∙ ap (λ (b : Base). image_state b.image) same in
    let other = same_false the_type c.case_of.result case.WrongState (sym c.eq.ensures ∙ c.if-eq.false) in
    let free_to = goes (not_state normal_state) c.state-state.result c.state-state.ensures.most c.case_of.result c.case_of.ensures other s.base.image (sym state) in
    let normal = only_normal c.state-state.result c.state-state.ensures.most c.case_of.result other c.case_of.ensures in
    there s c.args.name.now (sym (ap (λ (b : Base). is_read_only b.image) same) ∙ read_only) free_to (sym (free (sym state ∙ normal)) ∙ sym (c.in_ok-is_free.ensures.answer tells) ∙ c.if-not-branch.true)
    ∙ ap (λ (n : List ℕ). Some (FileExists n)) (sym c.copied.ensures)

pub returns-clause-test : goal.returns-clause-test
returns-clause-test g c s t tells same is free =
    let read_only : is_read_only t.base.image ≡ false = sym is.agrees.read_only ∙ sym (ap (λ (h : Held). h.read_only) c.store-store.ensures) ∙ sym c.is_read_only.ensures ∙ c.if-is_read_only.false in
    let state = c.state-state.ensures.value ∙ ap (λ (h : Held). h.files.state) c.store-store.ensures ∙ is.files.agrees.state ∙ ap (λ (b : Base). image_state b.image) same in
    let other = same_false the_type c.case_of.result case.WrongState (sym c.eq.ensures ∙ c.if-eq.false) in
    let free_to = goes (not_state normal_state) c.state-state.result c.state-state.ensures.most c.case_of.result c.case_of.ensures other s.base.image (sym state) in
    let normal = only_normal c.state-state.result c.state-state.ensures.most c.case_of.result other c.case_of.ensures in
    allowed s c.args.name.now (sym (ap (λ (b : Base). is_read_only b.image) same) ∙ read_only) free_to (sym (free (sym state ∙ normal)) ∙ sym (c.in_ok-is_free.ensures.answer tells) ∙ c.if-not-branch.false)

pub returns-clause-normal : goal.returns-clause-normal
returns-clause-normal g c =
    sym (c.state-state.ensures.value ∙ ap (λ (h : Held). h.files.state) c.store-store.ensures)
    ∙ only_normal c.state-state.result c.state-state.ensures.most c.case_of.result (same_false the_type c.case_of.result case.WrongState (sym c.eq.ensures ∙ c.if-eq.false)) c.case_of.ensures

pub returns-clause-free : goal.returns-clause-free
returns-clause-free g c tells = sym (c.in_ok-is_free.ensures.answer tells) ∙ c.if-not-branch.false
