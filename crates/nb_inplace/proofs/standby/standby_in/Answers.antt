use Rattle.std.proofs.Common.{◌≡◌, ℕ, sym, ap, subst, ◌∙◌, rules, true, not, nat_eq, ◌==◌, Some, None}
use Rattle.nb_inplace.proofs.Common.{is_header, WrongState, not_database, not_standby, OnApply, size_is, state_is, refused, tested_by, TestedByReads, Standby, unheaded, passed}
use denote.Enum.Bare.{same_true, same_false}
use Rattle.nb_cases.specs.contracts.events.Case.{the_type}
use Rattle.nb_cases.specs.declared.events.Case.TheVariants as case
use Rattle.nb_inplace.proofs.StandbyLaws.{unformed, first_header, too_short, header_is, access_is, case_is, begun_is}
use Rattle.nb_inplace.proofs.standby.standby_in.Goals as goal

pub returns-then-first-lt-START-clause-test : goal.returns-then-first-lt-START-clause-test
returns-then-first-lt-START-clause-test c name bytes long read = refused Standby _ _ _ c.no_database.ensures (unformed name bytes _ (too_short c.args.first.now bytes read c.if-first-lt-START.true))

pub returns-in_default-clause-test : goal.returns-in_default-clause-test
returns-in_default-clause-test c name bytes long read =
    refused Standby _ _ _ c.no_database-in_default.ensures (unformed name bytes _ (unheaded bytes (sym (first_header c.args.first.now bytes read) ∙ sym c.in_default.ensures.exact)))

pub returns-in_err-pages-clause-test : goal.returns-in_err-pages-clause-test
returns-in_err-pages-clause-test c name bytes long read =
    let first = c.args.first.now in
    let headed : is_header bytes ≡ true = sym (first_header first bytes read) ∙ sym c.in-Some.ensures.exact in
    let size = size_is bytes c.in-Some.header (c.in-Some.ensures.value ∙ header_is first bytes read) in
    passed Standby (λ r. TestedByReads r (not_standby name (Some bytes))) c.from_residual.result c.in_err-pages.field-0.0 c.from_residual.ensures
    (tested_by ℕ Standby c.in_err-pages.field-0.0 (not_database bytes) (not_standby name (Some bytes)) (unformed name bytes) (c.in_err-pages.ensures.test bytes headed (sym size) long))

pub returns-then-eq-clause-test : goal.returns-then-eq-clause-test
returns-then-eq-clause-test c name bytes long read =
    let first = c.args.first.now in
    let headed : is_header bytes ≡ true = sym (first_header first bytes read) ∙ sym c.in-Some.ensures.exact in
    let its = c.in-Some.ensures.value ∙ header_is first bytes read in
    let formed : not_database bytes ≡ None = c.in_ok-pages.ensures.test bytes headed (sym (size_is bytes c.in-Some.header its)) long in
    let says : OnApply c.in-Some.header.state case.WrongState = subst (OnApply c.in-Some.header.state) (same_true the_type (search rules) c.case_of-case.result case.WrongState (sym c.eq.ensures ∙ c.if-eq.true)) c.case_of-case.ensures in
    says name bytes (formed, sym (state_is bytes c.in-Some.header its)) ∙ ap (λ (n : ℕ). Some (WrongState n)) (sym c.from-found.ensures)

pub returns-clause-test : goal.returns-clause-test
returns-clause-test c name bytes long read =
    let first = c.args.first.now in
    let headed : is_header bytes ≡ true = sym (first_header first bytes read) ∙ sym c.in-Some.ensures.exact in
    let its = c.in-Some.ensures.value ∙ header_is first bytes read in
    let formed : not_database bytes ≡ None = c.in_ok-pages.ensures.test bytes headed (sym (size_is bytes c.in-Some.header its)) long in
    let other = same_false the_type c.case_of-case.result case.WrongState (sym c.eq.ensures ∙ c.if-eq.false) in
    (case_is c.in-Some.header.state name bytes (formed, sym (state_is bytes c.in-Some.header its)) c.case_of-case.result c.case_of-case.ensures other).0

pub returns-clause-value : goal.returns-clause-value
returns-clause-value c bytes long read =
    let first = c.args.first.now in
    let headed : is_header bytes ≡ true = sym (first_header first bytes read) ∙ sym c.in-Some.ensures.exact in
    let its = c.in-Some.ensures.value ∙ header_is first bytes read in
    let state = state_is bytes c.in-Some.header its in
    let formed : not_database bytes ≡ None = c.in_ok-pages.ensures.test bytes headed (sym (size_is bytes c.in-Some.header its)) long in
    let other = same_false the_type c.case_of-case.result case.WrongState (sym c.eq.ensures ∙ c.if-eq.false) in
    record {
      header = its;
      read_only = ap (λ (n : ℕ). not (nat_eq n 0)) c.get.ensures.value ∙ access_is first bytes read formed;
      begun = begun_is c.in-Some.header.state c.case_of-case.result c.eq-2.result (case_is c.in-Some.header.state bytes bytes (formed, sym state) c.case_of-case.result c.case_of-case.ensures other).1
          (λ so. same_true the_type (search rules) c.case_of-case.result case.GoOrUnfinished (sym c.eq-2.ensures ∙ so))
          (λ not_so. same_false the_type c.case_of-case.result case.GoOrUnfinished (sym c.eq-2.ensures ∙ not_so))
          ∙ ap (λ (n : ℕ). n == 3) state;
      pages = long ∙ c.in_ok-pages.ensures.pages;
    }
