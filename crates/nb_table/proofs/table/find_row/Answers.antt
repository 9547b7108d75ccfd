use Rattle.std.proofs.Common.{ℕ, sym, ap, ◌∙◌}
use Rattle.nb_table.proofs.Common.{NoKey, broken_at, RowsFrom, pages_of, spots, row_spot, tested_on, Found, Walked, spot_of}
use Rattle.nb_table.proofs.FindLaws.{search_cause, search_broken, search_missing, search_found, found_some, found_none}
use Rattle.nb_table.proofs.table.find_row.Goals as goal

pub returns-in_err-walked-clause-test : goal.returns-in_err-walked-clause-test
returns-in_err-walked-clause-test g c t tells is =
    let broken = broken_at (pages_of (RowsFrom c.args.first) t.base.image) in
    tested_on (Walked × ℕ) Found _ _ broken (search_cause broken (row_spot c.args.key (spots (RowsFrom c.args.first) t.base.image)) (NoKey c.args.key)) c.from_residual.ensures
    (search_broken broken (row_spot c.args.key (spots (RowsFrom c.args.first) t.base.image)) (NoKey c.args.key)) (c.in_err-walked.ensures.test t tells is)

pub returns-in-Some-clause-found : goal.returns-in-Some-clause-found
unfolding row_spot
returns-in-Some-clause-found g c t tells is =
    found_some (row_spot c.args.key (spots (RowsFrom c.args.first) t.base.image)) c.in-Some.found (sym c.in-Some.is ∙ ap (λ (w : Walked). w.found) (c.in_ok-walked.ensures.walked t tells is))

pub returns-in-Some-clause-test : goal.returns-in-Some-clause-test
returns-in-Some-clause-test g c t tells is =
    search_found (broken_at (pages_of (RowsFrom c.args.first) t.base.image)) (row_spot c.args.key (spots (RowsFrom c.args.first) t.base.image)) (NoKey c.args.key) (spot_of c.in-Some.found) (c.in_ok-walked.ensures.test t tells is) (returns-in-Some-clause-found g c t tells is)

pub returns-in-None-clause-test : goal.returns-in-None-clause-test
unfolding row_spot
returns-in-None-clause-test g c t tells is =
    search_missing (broken_at (pages_of (RowsFrom c.args.first) t.base.image)) (row_spot c.args.key (spots (RowsFrom c.args.first) t.base.image)) (NoKey c.args.key) (c.in_ok-walked.ensures.test t tells is)
    (found_none (row_spot c.args.key (spots (RowsFrom c.args.first) t.base.image)) (sym c.in-None.is ∙ ap (λ (w : Walked). w.found) (c.in_ok-walked.ensures.walked t tells is)))
