use Rattle.std.proofs.Common.{◌≡◌, ℕ, sym, ap, ◌∙◌, subst}
use Rattle.nb_cases.proofs.Common.{cell, SyncsOf, syncs_at, row_of, column_of}
use Rattle.nb_cases.proofs.syncs.syncs_of.Goals.{then-kept, else-kept}
use Rattle.nb_cases.proofs.syncs.syncs_of.Goals as goal

pub returns : goal.returns
returns c =
    let column : c.if-kept.column ≡ column_of c.args.kept = elim c.if-kept.branch [
      | then-kept w ↦ w.column-is ∙ sym (ap column_of w.if-kept.true)
      | else-kept w ↦ w.column-is ∙ sym (ap column_of w.if-kept.false)
    ] in
    let row = row_of c.args.state c.args.has_entry in
    let there : c.at.result ≡ cell c.table.result row (column_of c.args.kept) =
    c.at.ensures ∙ ap (λ (row : ℕ). cell c.table.result row c.if-kept.column) c.row.ensures.row ∙ ap (cell c.table.result row) column in
    subst (SyncsOf c.args.state c.args.has_entry c.args.kept) (sym (c.of_cell.ensures ∙ ap syncs_at there))
    (c.table.ensures c.args.state c.args.has_entry c.args.kept c.requires.state c.requires.normal)
