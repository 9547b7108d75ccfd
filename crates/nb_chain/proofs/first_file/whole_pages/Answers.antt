use Rattle.std.proofs.Common.{◌≡◌, ℕ, ap, sym, ◌∙◌, true, Some}
use Rattle.nb_chain.proofs.Common.{is_header, is_header-short, BadLevel, First, is_bad_count}
use Rattle.nb_chain.proofs.StartLaws.{refused, first_header, header_same, size_is, state_is, unheaded, unstalled, unfit, fit}
use Rattle.nb_chain.proofs.first_file.whole_pages.Goals as goal

pub returns-then-first-lt-LENGTH-clause-test : goal.returns-then-first-lt-LENGTH-clause-test
returns-then-first-lt-LENGTH-clause-test c bytes long read =
    refused First _ _ _ c.broken.ensures (unheaded _ bytes (sym (first_header c.args.first.now bytes read) ∙ is_header-short c.args.first.now c.if-first-lt-LENGTH.true))

pub returns-in_default-clause-test : goal.returns-in_default-clause-test
returns-in_default-clause-test c bytes long read =
    refused First _ _ _ c.broken-in_default.ensures (unheaded _ bytes (sym (first_header c.args.first.now bytes read) ∙ sym c.in_default.ensures.exact))

pub returns-then-header-ne1-clause-test : goal.returns-then-header-ne1-clause-test
returns-then-header-ne1-clause-test c bytes long read =
    let first = c.args.first.now in
    let header : is_header bytes ≡ true = sym (first_header first bytes read) ∙ sym c.in-Some.ensures.exact in
    let state = state_is bytes c.in-Some.header (c.in-Some.ensures.value ∙ header_same first bytes read) in
    refused First _ _ _ c.broken-then-header-ne1.ensures (unstalled _ bytes header (λ e. c.if-header-ne1.true (state ∙ e)) ∙ ap (λ (p : ℕ × ℕ). Some (BadLevel c.args.name.now p.0)) (sym c.place.ensures))

pub returns-in-Some-pages_in-clause-test : goal.returns-in-Some-pages_in-clause-test
returns-in-Some-pages_in-clause-test c bytes long read =
    let first = c.args.first.now in
    let header : is_header bytes ≡ true = sym (first_header first bytes read) ∙ sym c.in-Some.ensures.exact in
    let is = c.in-Some.ensures.value ∙ header_same first bytes read in
    let state = state_is bytes c.in-Some.header is in
    fit _ bytes header (sym state ∙ c.if-header-ne1.false) c.in-Some.header.page_size (size_is bytes c.in-Some.header is)
    (ap (λ (n : ℕ). is_bad_count n c.in-Some.header.page_size) long ∙ c.in-Some-pages_in.ensures.0)

pub returns-in-Some-pages_in-clause-value : goal.returns-in-Some-pages_in-clause-value
returns-in-Some-pages_in-clause-value c bytes read = c.in-Some.ensures.value ∙ header_same c.args.first.now bytes read

pub returns-in-None-clause-test : goal.returns-in-None-clause-test
returns-in-None-clause-test c bytes long read =
    let first = c.args.first.now in
    let header : is_header bytes ≡ true = sym (first_header first bytes read) ∙ sym c.in-Some.ensures.exact in
    let is = c.in-Some.ensures.value ∙ header_same first bytes read in
    let state = state_is bytes c.in-Some.header is in
    refused First _ _ _ c.broken-in-None.ensures
    (unfit _ bytes header (sym state ∙ c.if-header-ne1.false) c.in-Some.header.page_size (size_is bytes c.in-Some.header is)
    (ap (λ (n : ℕ). is_bad_count n c.in-Some.header.page_size) long ∙ c.in-None.ensures)
    ∙ ap (λ (n : ℕ). Some (BadLevel c.args.name.now n)) long)
