use Rattle.std.proofs.Common.{◌+◌, [], ◌∷◌, ◌++◌, drop, ap, sym, ◌∙◌, arith}
use Rattle.nb_script.proofs.Common.{Bytes, line_text, statements_text}
use Rattle.nb_script.proofs.Prints.{next_written, all_written, no_statements, first_statement}
use Rattle.nb_script.proofs.printing.put_statements.Goals as goal

pub loop-statement-preserved : goal.loop-statement-preserved
loop-statement-preserved c =
    let l = c.loop-statement in
    let i = l.statement-index in
    let xs = c.args.statements.now in
    let x = c.statement-item.result in
    let session = c.args.session in
    ap (λ (t : Bytes). t ++ statements_text session (drop (i + 1) xs)) c.in_ok-put_line.ensures
    ∙ next_written (statements_text session) l.out.items (line_text session x ++ 10 ∷ []) xs i x x (omega arith) (sym c.statement-item.is) (first_statement session x (drop (i + 1) xs)) ∙ l.invariant

pub returns : goal.returns
returns c = all_written (statements_text c.args.session) c.loop-statement.out.items c.args.statements.now c.loop-statement.statement-index (omega arith) (no_statements c.args.session) ∙ c.loop-statement.invariant
