use Rattle.std.proofs.Common.{◌≡◌, ℕ, sym, ap, ◌∙◌, subst}
use Rattle.nb_cases.proofs.Common.{cell, IsTheCase, case_at}
use Rattle.nb_cases.specs.Events.{column_of}
use Rattle.nb_cases.proofs.events.case_of.Goals as goal

pub returns : goal.returns
returns c =
    let there : c.at.result ≡ cell c.table.result c.args.state (column_of c.args.event) =
    c.at.ensures ∙ ap (λ (row : ℕ). cell c.table.result row c.column.result) c.from.ensures ∙ ap (cell c.table.result c.args.state) c.column.ensures.column in
    subst (IsTheCase c.args.state c.args.event) (sym (c.of_cell.ensures ∙ ap case_at there)) (c.table.ensures c.args.state c.args.event c.requires)
