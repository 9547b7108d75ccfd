use Rattle.std.proofs.Common.{◌≡◌, ℕ, sym, ap, subst, ◌∙◌}
use Rattle.nb_ship.proofs.Common.{IsFor}
use Rattle.nb_fields.specs.Cases.{cell}
use Rattle.nb_ship.specs.Steps.{column_of, row_of, step_at}
use Rattle.nb_ship.specs.declared.steps.Step.{Step}
use Rattle.nb_ship.proofs.FindsLaws.{what_is_found}
use Rattle.nb_ship.proofs.StepLaws.{step_is_for}
use Rattle.nb_ship.proofs.steps.decide.Goals.{then-known, else-known}
use Rattle.nb_ship.proofs.steps.decide.Goals as goal

pub returns-clause-value : goal.returns-clause-value
returns-clause-value c =
    let found = c.args.look.now.found in
    let known = c.args.known in
    let column : c.if-known.column ≡ column_of known = elim c.if-known.branch [
      | then-known w ↦ w.column-is ∙ sym (ap column_of w.if-known.true)
      | else-known w ↦ w.column-is ∙ sym (ap column_of w.if-known.false)
    ] in
    let there : c.at.result ≡ cell c.table.result (row_of found) (column_of known) =
    c.at.ensures ∙ ap (λ (row : ℕ). cell c.table.result row c.if-known.column) c.row.ensures.row ∙ ap (cell c.table.result (row_of found)) column in
    c.of_cell.ensures ∙ ap step_at there ∙ c.table.ensures found known

pub returns-clause-reason : goal.returns-clause-reason
returns-clause-reason c files standby is =
    let look = c.args.look.now in
    let known = c.args.known in
    let found = what_is_found files standby look is in
    (found.0, found.1, subst (λ (step : Step). IsFor files standby found.0 known step) (sym (returns-clause-value c)) (step_is_for files standby found.0 known look.found found.2))
