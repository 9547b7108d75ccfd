use Rattle.std.proofs.Common.{ℕ, sym, ap, subst, ◌∙◌, rules, arith, Some}
use Rattle.nb_state.proofs.Common.{normal_state, same_true, same_false, WrongState, ScnExhausted, not_state, OnOpen, the_type, goes, only_normal, Held}
use Rattle.nb_cases.specs.declared.events.Case.TheVariants as case
use Rattle.nb_state.proofs.TestLaws.{other_state, last_scn, may_begin}
use Rattle.nb_state.proofs.store.Store.check_begin.Goals as goal

pub returns-then-eq-clause-test : goal.returns-then-eq-clause-test
returns-then-eq-clause-test c image state scn =
    let is = c.state-state.ensures.value ∙ ap (λ (h : Held). h.files.state) c.self.view_is ∙ state in
    let says : OnOpen (not_state normal_state) c.state-state.result case.WrongState = subst (OnOpen (not_state normal_state) c.state-state.result) (same_true the_type (search rules) c.case_of.result case.WrongState (sym c.eq.ensures ∙ c.if-eq.true)) c.case_of.ensures in
    other_state image _ (says image (sym is)) ∙ ap (λ (n : ℕ). Some (WrongState n)) (sym c.from-found.ensures)

pub returns-then-self-gt-LAST_SCN-clause-test : goal.returns-then-self-gt-LAST_SCN-clause-test
returns-then-self-gt-LAST_SCN-clause-test c image state scn =
    let is = c.state-state.ensures.value ∙ ap (λ (h : Held). h.files.state) c.self.view_is ∙ state in
    let other = same_false the_type c.case_of.result case.WrongState (sym c.eq.ensures ∙ c.if-eq.false) in
    let normal = goes (not_state normal_state) c.state-state.result c.state-state.ensures.most c.case_of.result c.case_of.ensures other image (sym is) in
    let last = ap (λ (h : Held). h.scn) c.self.view_is ∙ scn in
    last_scn image normal (omega (arith, last, c.if-self-gt-LAST_SCN.true)) ∙ ap (λ (n : ℕ). Some (ScnExhausted n)) (sym last)

pub returns-clause-test : goal.returns-clause-test
returns-clause-test c image state scn =
    let is = c.state-state.ensures.value ∙ ap (λ (h : Held). h.files.state) c.self.view_is ∙ state in
    let other = same_false the_type c.case_of.result case.WrongState (sym c.eq.ensures ∙ c.if-eq.false) in
    let normal = goes (not_state normal_state) c.state-state.result c.state-state.ensures.most c.case_of.result c.case_of.ensures other image (sym is) in
    let last = ap (λ (h : Held). h.scn) c.self.view_is ∙ scn in
    may_begin image normal (omega (arith, last, c.if-self-gt-LAST_SCN.false))

pub returns-clause-normal : goal.returns-clause-normal
returns-clause-normal c =
    sym (c.state-state.ensures.value ∙ ap (λ (h : Held). h.files.state) c.self.view_is)
    ∙ only_normal c.state-state.result c.state-state.ensures.most c.case_of.result (same_false the_type c.case_of.result case.WrongState (sym c.eq.ensures ∙ c.if-eq.false)) c.case_of.ensures
