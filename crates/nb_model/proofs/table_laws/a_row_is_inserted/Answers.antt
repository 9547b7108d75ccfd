use Rattle.nb_model.proofs.RowLaws.{insert_new, insert_rows}
use Rattle.nb_model.proofs.table_laws.a_row_is_inserted.Goals as goal

pub returns-clause-new : goal.returns-clause-new
returns-clause-new c = insert_new

pub returns-clause-rows : goal.returns-clause-rows
returns-clause-rows c = λ s session table key text header is neat low done. insert_rows s session table key header is neat text low done
