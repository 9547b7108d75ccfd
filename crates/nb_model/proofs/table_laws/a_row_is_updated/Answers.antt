use Rattle.nb_model.proofs.RowLaws.{update_there, update_rows}
use Rattle.nb_model.proofs.table_laws.a_row_is_updated.Goals as goal

pub returns-clause-there : goal.returns-clause-there
returns-clause-there c = update_there

pub returns-clause-rows : goal.returns-clause-rows
returns-clause-rows c = λ s session table key text header is neat low done. update_rows s session table key header is neat text low done
