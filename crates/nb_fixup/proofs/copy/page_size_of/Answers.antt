use Rattle.std.proofs.Common.{◌≡◌, ℕ, [], sym, ap, subst, ◌∙◌, rules, true, Some, None}
use Rattle.nb_fixup.proofs.Common.{is_header, WrongState, not_database, OnFixup, unheaded}
use denote.Enum.Bare.{same_true, same_false}
use Rattle.nb_cases.specs.contracts.events.Case.{the_type}
use Rattle.nb_cases.specs.declared.events.Case.TheVariants as case
use Rattle.nb_fixup.proofs.AnswerLaws.{refused}
use Rattle.nb_fixup.proofs.CauseLaws.{first_header, too_short, size_is, state_is, page_short, broken, alone}
use Rattle.nb_fixup.proofs.StateLaws.{may_be_fixed}
use Rattle.nb_fixup.proofs.copy.page_size_of.Goals as goal

pub returns-then-first-lt-LENGTH-clause-test : goal.returns-then-first-lt-LENGTH-clause-test
returns-then-first-lt-LENGTH-clause-test c bytes long read = refused ℕ _ _ _ c.no_database.ensures (broken bytes _ (too_short c.args.first.now bytes read c.if-first-lt-LENGTH.true))

pub returns-in_default-clause-test : goal.returns-in_default-clause-test
returns-in_default-clause-test c bytes long read =
    refused ℕ _ _ _ c.no_database-in_default.ensures (broken bytes _ (unheaded bytes (sym (first_header c.args.first.now bytes read) ∙ sym c.in_default.ensures.exact)))

-- after a header
pub returns-then-first-header-clause-test : goal.returns-then-first-header-clause-test
returns-then-first-header-clause-test c bytes long read =
    let first = c.args.first.now in
    let headed : is_header bytes ≡ true = sym (first_header first bytes read) ∙ sym c.in-Some.ensures.exact in
    refused ℕ _ _ _ c.no_database-then-first-header.ensures
    (broken bytes _ (page_short first bytes read c.in-Some.header c.in-Some.ensures.value headed c.in-Some.ensures.form.size c.if-first-header.true))

pub returns-in-Some-broken_page-clause-test : goal.returns-in-Some-broken_page-clause-test
returns-in-Some-broken_page-clause-test c bytes long read =
    let first = c.args.first.now in
    let headed : is_header bytes ≡ true = sym (first_header first bytes read) ∙ sym c.in-Some.ensures.exact in
    let size = size_is first bytes read c.in-Some.header c.in-Some.ensures.value in
    refused ℕ _ _ _ c.no_database-in-Some-broken_page.ensures (broken bytes _ (c.in-Some-broken_page.ensures bytes headed (sym size) long))

pub returns-then-eq-clause-test : goal.returns-then-eq-clause-test
returns-then-eq-clause-test c bytes long read =
    let first = c.args.first.now in
    let headed : is_header bytes ≡ true = sym (first_header first bytes read) ∙ sym c.in-Some.ensures.exact in
    let size = size_is first bytes read c.in-Some.header c.in-Some.ensures.value in
    let state = state_is first bytes read c.in-Some.header c.in-Some.ensures.value in
    let formed : not_database bytes ≡ None = c.in_default-broken_page.ensures bytes headed (sym size) long in
    let says : OnFixup c.in-Some.header.state case.WrongState = subst (OnFixup c.in-Some.header.state) (same_true the_type (search rules) c.case_of.result case.WrongState (sym c.eq.ensures ∙ c.if-eq.true)) c.case_of.ensures in
    sym (alone bytes []) ∙ says [] bytes None (formed, sym state) ∙ ap (λ (n : ℕ). Some (WrongState n)) (sym c.from-found.ensures)

pub returns-clause-test : goal.returns-clause-test
returns-clause-test c bytes long read =
    let first = c.args.first.now in
    let headed : is_header bytes ≡ true = sym (first_header first bytes read) ∙ sym c.in-Some.ensures.exact in
    let size = size_is first bytes read c.in-Some.header c.in-Some.ensures.value in
    let state = state_is first bytes read c.in-Some.header c.in-Some.ensures.value in
    let formed : not_database bytes ≡ None = c.in_default-broken_page.ensures bytes headed (sym size) long in
    let other = same_false the_type c.case_of.result case.WrongState (sym c.eq.ensures ∙ c.if-eq.false) in
    sym (alone bytes []) ∙ may_be_fixed c.in-Some.header.state c.case_of.result c.case_of.ensures other [] bytes (formed, sym state)

pub returns-clause-size : goal.returns-clause-size
returns-clause-size c bytes read = size_is c.args.first.now bytes read c.in-Some.header c.in-Some.ensures.value
