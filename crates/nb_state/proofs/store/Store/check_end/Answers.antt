use Rattle.std.proofs.Common.{ℕ, sym, ap, subst, ◌∙◌, rules, arith, Some}
use Rattle.nb_state.proofs.Common.{same_true, same_false, WrongState, OnOpen, none_to_end, the_type, goes, some_backup, Held}
use Rattle.nb_cases.specs.declared.events.Case.TheVariants as case
use Rattle.nb_state.proofs.TestLaws.{no_backup, other_runs, this_runs, none_runs}
use Rattle.nb_state.proofs.store.Store.check_end.Goals as goal

pub returns-then-eq-clause-test : goal.returns-then-eq-clause-test
returns-then-eq-clause-test c image state =
    let is = c.state-state.ensures.value ∙ ap (λ (h : Held). h.files.state) c.self.view_is ∙ state in
    let says : OnOpen none_to_end c.state-state.result case.WrongState = subst (OnOpen none_to_end c.state-state.result) (same_true the_type (search rules) c.case_of.result case.WrongState (sym c.eq.ensures ∙ c.if-eq.true)) c.case_of.ensures in
    no_backup image _ c.args.session _ (says image (sym is)) ∙ ap (λ (n : ℕ). Some (WrongState n)) (sym c.from-found.ensures)

pub returns-then-other-session-clause-test : goal.returns-then-other-session-clause-test
returns-then-other-session-clause-test c image state =
    let is = c.state-state.ensures.value ∙ ap (λ (h : Held). h.files.state) c.self.view_is ∙ state in
    let other = same_false the_type c.case_of.result case.WrongState (sym c.eq.ensures ∙ c.if-eq.false) in
    let began = goes none_to_end c.state-state.result c.state-state.ensures.most c.case_of.result c.case_of.ensures other image (sym is) in
    let runs = sym (ap (λ (h : Held). h.running) c.self.view_is) ∙ c.in-Some.is in
    other_runs image _ c.args.session began c.in-Some.other runs c.if-other-session.true

pub returns-else-other-session-clause-test : goal.returns-else-other-session-clause-test
returns-else-other-session-clause-test c image state =
    let is = c.state-state.ensures.value ∙ ap (λ (h : Held). h.files.state) c.self.view_is ∙ state in
    let other = same_false the_type c.case_of.result case.WrongState (sym c.eq.ensures ∙ c.if-eq.false) in
    let began = goes none_to_end c.state-state.result c.state-state.ensures.most c.case_of.result c.case_of.ensures other image (sym is) in
    let runs = sym (ap (λ (h : Held). h.running) c.self.view_is) ∙ c.in-Some.is in
    this_runs image _ c.args.session began c.in-Some.other runs c.if-other-session.false

pub returns-in-None-clause-test : goal.returns-in-None-clause-test
returns-in-None-clause-test c image state =
    let is = c.state-state.ensures.value ∙ ap (λ (h : Held). h.files.state) c.self.view_is ∙ state in
    let other = same_false the_type c.case_of.result case.WrongState (sym c.eq.ensures ∙ c.if-eq.false) in
    let began = goes none_to_end c.state-state.result c.state-state.ensures.most c.case_of.result c.case_of.ensures other image (sym is) in
    let runs = sym (ap (λ (h : Held). h.running) c.self.view_is) ∙ c.in-None.is in
    none_runs image _ c.args.session began runs

pub returns-else-other-session-clause-some : goal.returns-else-other-session-clause-some
returns-else-other-session-clause-some c =
    let some = some_backup c.state-state.result c.state-state.ensures.most c.case_of.result (same_false the_type c.case_of.result case.WrongState (sym c.eq.ensures ∙ c.if-eq.false)) c.case_of.ensures in
    omega (arith, some, c.state-state.ensures.value ∙ ap (λ (h : Held). h.files.state) c.self.view_is)

pub returns-in-None-clause-some : goal.returns-in-None-clause-some
returns-in-None-clause-some c =
    let some = some_backup c.state-state.result c.state-state.ensures.most c.case_of.result (same_false the_type c.case_of.result case.WrongState (sym c.eq.ensures ∙ c.if-eq.false)) c.case_of.ensures in
    omega (arith, some, c.state-state.ensures.value ∙ ap (λ (h : Held). h.files.state) c.self.view_is)
