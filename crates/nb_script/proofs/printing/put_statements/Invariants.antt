use Rattle.std.proofs.Common.{◌≡◌, ◌++◌, drop}
use Rattle.nb_script.proofs.Common.{statements_text}
use Rattle.nb_script.proofs.printing.put_statements.Given as goal

abbrev pub invariant-loop-statement : goal.invariant-loop-statement
invariant-loop-statement l = l.out.items ++ statements_text l.session (drop l.statement-index l.statements) ≡ l.fn.out.items ++ statements_text l.session l.statements
