use Rattle.std.proofs.Common.{◌≡◌, ℕ, length, ap, sym, subst, ◌∙◌, rules, arith, true, None, Err}
use Rattle.nb_base.proofs.Common.{same_true, same_false, length-take, is_header, size_of, not_database, OnAttach, the_type, unfinished_applying, opened_not_applying, Start, Tested, length_cause, unheaded}
use Rattle.nb_cases.specs.declared.events.Case.TheVariants as case
use Rattle.nb_base.proofs.AttachLaws.{refusal_passed, headed, start_broken, start_unfinished, start_is, start_short, first_header, block_size, block_state, length_refused}
use Rattle.nb_base.proofs.attach.start_of.Goals as goal

pub returns-then-first-lt-LENGTH-clause-test : goal.returns-then-first-lt-LENGTH-clause-test
returns-then-first-lt-LENGTH-clause-test c bytes long read = start_short bytes (omega (arith, c.if-first-lt-LENGTH.true, ap length read, length-take 64 bytes))

pub returns-in_default-clause-test : goal.returns-in_default-clause-test
returns-in_default-clause-test c bytes long read = start_broken bytes _ (unheaded bytes (sym (first_header c.args.first.now bytes read) ∙ sym c.in_default.ensures.exact))

-- after a header the length decides
pub returns-in_err-pages-clause-test : goal.returns-in_err-pages-clause-test
returns-in_err-pages-clause-test c bytes long read =
    let header : is_header bytes ≡ true = sym (first_header c.args.first.now bytes read) ∙ sym c.in-Some.ensures.exact in
    let size = block_size c.args.first.now bytes read c.in-Some.block c.in-Some.ensures.value in
    refusal_passed ℕ Start c.from_residual.result c.in_err-pages.field-0.0 _ c.from_residual.ensures
    (length_refused bytes c.in-Some.block.page_size c.in_err-pages.field-0.0 header size
    (subst (λ (n : ℕ). Tested {T = ℕ} (Err c.in_err-pages.field-0.0) (length_cause n c.in-Some.block.page_size)) (sym long) c.in_err-pages.ensures.test))

pub returns-then-eq-clause-test : goal.returns-then-eq-clause-test
returns-then-eq-clause-test c bytes long read =
    let header : is_header bytes ≡ true = sym (first_header c.args.first.now bytes read) ∙ sym c.in-Some.ensures.exact in
    let size = block_size c.args.first.now bytes read c.in-Some.block c.in-Some.ensures.value in
    let state = block_state c.args.first.now bytes read c.in-Some.block c.in-Some.ensures.value in
    let formed : not_database bytes ≡ None = headed bytes header ∙ ap (λ (n : ℕ). length_cause n (size_of bytes)) long ∙ ap (length_cause c.args.len) (sym size) ∙ c.in_ok-pages.ensures.test in
    let says : OnAttach c.in-Some.block.state case.Unfinished = subst (OnAttach c.in-Some.block.state) (same_true the_type (search rules) c.case_of.result case.Unfinished (sym c.eq.ensures ∙ c.if-eq.true)) c.case_of.ensures in
    start_unfinished bytes formed (sym state ∙ unfinished_applying c.in-Some.block.state c.in-Some.ensures.form.state says)

pub returns-clause-test : goal.returns-clause-test
returns-clause-test c bytes long read =
    let header : is_header bytes ≡ true = sym (first_header c.args.first.now bytes read) ∙ sym c.in-Some.ensures.exact in
    let size = block_size c.args.first.now bytes read c.in-Some.block c.in-Some.ensures.value in
    let state = block_state c.args.first.now bytes read c.in-Some.block c.in-Some.ensures.value in
    let formed : not_database bytes ≡ None = headed bytes header ∙ ap (λ (n : ℕ). length_cause n (size_of bytes)) long ∙ ap (length_cause c.args.len) (sym size) ∙ c.in_ok-pages.ensures.test in
    let other = same_false the_type c.case_of.result case.Unfinished (sym c.eq.ensures ∙ c.if-eq.false) in
    start_is bytes formed (λ e. opened_not_applying c.in-Some.block.state c.case_of.result c.case_of.ensures other (state ∙ e))

pub returns-clause-start : goal.returns-clause-start
returns-clause-start c bytes long read =
    let first = c.args.first.now in
    let header : is_header bytes ≡ true = sym (first_header first bytes read) ∙ sym c.in-Some.ensures.exact in
    let size = block_size first bytes read c.in-Some.block c.in-Some.ensures.value in
    let other = same_false the_type c.case_of.result case.Unfinished (sym c.eq.ensures ∙ c.if-eq.false) in
    record {
      formed = headed bytes header ∙ ap (λ (n : ℕ). length_cause n (size_of bytes)) long ∙ ap (length_cause c.args.len) (sym size) ∙ c.in_ok-pages.ensures.test;
      state = block_state first bytes read c.in-Some.block c.in-Some.ensures.value;
      opened = omega (arith, opened_not_applying c.in-Some.block.state c.case_of.result c.case_of.ensures other, c.in-Some.ensures.form.state);
      page_size = size;
      pages = long ∙ c.in_ok-pages.ensures.whole;
    }

pub returns-clause-opened : goal.returns-clause-opened
returns-clause-opened c =
    let other = same_false the_type c.case_of.result case.Unfinished (sym c.eq.ensures ∙ c.if-eq.false) in
    omega (arith, opened_not_applying c.in-Some.block.state c.case_of.result c.case_of.ensures other, c.in-Some.ensures.form.state)
