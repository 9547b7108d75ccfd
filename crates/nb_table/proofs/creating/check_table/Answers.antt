use Rattle.std.proofs.Common.{ℕ, List, sym, ap, ◌∙◌, arith, Option}
use Rattle.nb_table.proofs.Common.{broken_at, Catalogue, pages_of, spots, tested_on, Place, Table, Walked, new_cause, gathered}
use Rattle.nb_table.proofs.CreateTurnLaws.{not_whole, exists, too_many, may, table_there, many_used, few_used}
use Rattle.nb_table.proofs.creating.check_table.Goals as goal

pub returns-in_err-walked-clause-test : goal.returns-in_err-walked-clause-test
returns-in_err-walked-clause-test g c t tells is =
    let image = t.base.image in
    tested_on (Walked × ℕ) (Option Place × ℕ) _ _ (broken_at (pages_of Catalogue image)) (new_cause image c.args.table.now) c.from_residual.ensures (not_whole image c.args.table.now) (c.in_err-walked.ensures.test t tells is)

pub returns-then-is_some-clause-test : goal.returns-then-is_some-clause-test
returns-then-is_some-clause-test g c t tells is =
    let image = t.base.image in
    let table : List ℕ = c.args.table.now in
    let walked = c.in_ok-walked.ensures in
    let came = walked.walked t tells is ∙ ap (λ (n : List ℕ). gathered (Table n) (spots Catalogue image)) c.copied.ensures in
    exists image table (walked.test t tells is) (sym (table_there image table c.in_ok-walked.walked came) ∙ sym c.is_some.ensures ∙ c.if-is_some.true)

pub returns-then-walked-ge-MOST_TABLES-clause-test : goal.returns-then-walked-ge-MOST_TABLES-clause-test
returns-then-walked-ge-MOST_TABLES-clause-test g c t tells is =
    let image = t.base.image in
    let table : List ℕ = c.args.table.now in
    let walked = c.in_ok-walked.ensures in
    let came = walked.walked t tells is ∙ ap (λ (n : List ℕ). gathered (Table n) (spots Catalogue image)) c.copied.ensures in
    too_many image table (walked.test t tells is) (sym (table_there image table c.in_ok-walked.walked came) ∙ sym c.is_some.ensures ∙ c.if-is_some.false)
    (many_used image table c.in_ok-walked.walked came (omega (arith, c.if-walked-ge-MOST_TABLES.true)))

pub returns-clause-test : goal.returns-clause-test
returns-clause-test g c t tells is =
    let image = t.base.image in
    let table : List ℕ = c.args.table.now in
    let walked = c.in_ok-walked.ensures in
    let came = walked.walked t tells is ∙ ap (λ (n : List ℕ). gathered (Table n) (spots Catalogue image)) c.copied.ensures in
    may image table (walked.test t tells is) (sym (table_there image table c.in_ok-walked.walked came) ∙ sym c.is_some.ensures ∙ c.if-is_some.false)
    (few_used image table c.in_ok-walked.walked came (omega (arith, c.if-walked-ge-MOST_TABLES.false)))
