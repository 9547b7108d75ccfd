use Rattle.std.proofs.Common.{ℕ, List, sym, ap, ◌∙◌}
use Rattle.nb_table.proofs.Common.{NoTable, broken_at, Catalogue, pages_of, table_spot, tested_on, Found, Walked, spot_of}
use Rattle.nb_table.proofs.FindLaws.{search_cause, search_broken, search_missing, search_found, found_some, found_none}
use Rattle.nb_table.proofs.table.find_table.Goals as goal

pub returns-in_err-walked-clause-test : goal.returns-in_err-walked-clause-test
returns-in_err-walked-clause-test g c t tells is =
    let broken = broken_at (pages_of Catalogue t.base.image) in
    tested_on (Walked × ℕ) Found _ _ broken (search_cause broken (table_spot c.args.table.now t.base.image) NoTable) c.from_residual.ensures
    (search_broken broken (table_spot c.args.table.now t.base.image) NoTable) (c.in_err-walked.ensures.test t tells is)

pub returns-in-Some-clause-found : goal.returns-in-Some-clause-found
unfolding table_spot
returns-in-Some-clause-found g c t tells is =
    ap (λ (n : List ℕ). table_spot n t.base.image) (sym c.copied.ensures) ∙ found_some (table_spot c.copied.result t.base.image) c.in-Some.found (sym c.in-Some.is ∙ ap (λ (w : Walked). w.found) (c.in_ok-walked.ensures.walked t tells is))

pub returns-in-Some-clause-test : goal.returns-in-Some-clause-test
returns-in-Some-clause-test g c t tells is =
    search_found (broken_at (pages_of Catalogue t.base.image)) (table_spot c.args.table.now t.base.image) NoTable (spot_of c.in-Some.found) (c.in_ok-walked.ensures.test t tells is) (returns-in-Some-clause-found g c t tells is)

pub returns-in-None-clause-test : goal.returns-in-None-clause-test
unfolding table_spot
returns-in-None-clause-test g c t tells is =
    search_missing (broken_at (pages_of Catalogue t.base.image)) (table_spot c.args.table.now t.base.image) NoTable (c.in_ok-walked.ensures.test t tells is)
    (ap (λ (n : List ℕ). table_spot n t.base.image) (sym c.copied.ensures) ∙ found_none (table_spot c.copied.result t.base.image) (sym c.in-None.is ∙ ap (λ (w : Walked). w.found) (c.in_ok-walked.ensures.walked t tells is)))
