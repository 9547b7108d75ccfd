use Rattle.std.proofs.Common.{refl}
use Rattle.nb_script.proofs.Common.{of_table}
use Rattle.nb_script.proofs.statements.of_table.Goals as goal

pub returns-in-Some : goal.returns-in-Some
unfolding of_table
returns-in-Some c = rw (← c.in-Some.ensures, ← c.in_ok-table.ensures) refl

pub returns-in_err-rest : goal.returns-in_err-rest
unfolding of_table
returns-in_err-rest c = rw (← c.in_default.ensures, ← c.in_err-rest.ensures) c.from_residual-in_err-rest.ensures

pub returns-in_err-table-2 : goal.returns-in_err-table-2
unfolding of_table
returns-in_err-table-2 c = rw (← c.in_default.ensures, ← c.in_ok-rest.ensures, ← c.in_err-table-2.ensures) c.from_residual-in_err-table-2.ensures

pub returns : goal.returns
unfolding of_table
returns c = rw (← c.in_default.ensures, ← c.in_ok-rest.ensures, ← c.in_ok-table-2.ensures) refl
