use Rattle.std.proofs.Common.{◌∙◌, ℕ, ap, sym, refl, [], List, Option, option_map, unwrap_or, Bor}
use Rattle.nb_words.proofs.Common.{IfOk-weaker, Word, job_in, IsJobOf, words_of}
use Rattle.nb_words.proofs.Found.{job_by_table, same_job, column_is}
use Rattle.nb_words.proofs.reading.job_found.Goals as goal

pub returns-in-Some-clause-exact : goal.returns-in-Some-clause-exact
returns-in-Some-clause-exact c =
    let plain = words_of c.in-Some.plain.now in
    let given : Option (Bor (List (Bor Word))) → List Word = λ o. unwrap_or (option_map (λ (w : Bor (List (Bor Word))). words_of w.now) o) [] in
    IfOk-weaker c.of_cell.result _ (IsJobOf c.args.found.now)
    (λ job e. same_job c.args.found.now job _ (e ∙ ap (λ (k : ℕ). job_in k plain) c.at.ensures)
    (job_by_table c.table.result c.args.found.now c.counts.result c.row-row.result c.min.result plain c.table.ensures.meaning c.counts.ensures c.row-row.ensures.row (ap given (sym c.in-Some.is) ∙ c.plain_words.ensures) (c.min.ensures ∙ column_is c.in-Some.plain.now)))
    c.of_cell.ensures.exact

pub returns-in-None-clause-exact : goal.returns-in-None-clause-exact
returns-in-None-clause-exact c =
    let given : Option (Bor (List (Bor Word))) → List Word = λ o. unwrap_or (option_map (λ (w : Bor (List (Bor Word))). words_of w.now) o) [] in
    IfOk-weaker c.of_cell-in-None.result _ (IsJobOf c.args.found.now)
    (λ job e. same_job c.args.found.now job _ (e ∙ ap (λ (k : ℕ). job_in k []) c.at-in-None.ensures)
    (job_by_table c.table-in-None.result c.args.found.now c.counts.result c.row-row.result 0 [] c.table-in-None.ensures.meaning c.counts.ensures c.row-row.ensures.row (ap given (sym c.in-None.is) ∙ c.plain_words.ensures) refl))
    c.of_cell-in-None.ensures.exact
