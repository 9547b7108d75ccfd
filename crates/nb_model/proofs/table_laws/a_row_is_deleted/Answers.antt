use Rattle.nb_model.proofs.RowLaws.{delete_there, delete_rows}
use Rattle.nb_model.proofs.table_laws.a_row_is_deleted.Goals as goal

pub returns-clause-there : goal.returns-clause-there
returns-clause-there c = delete_there

pub returns-clause-rows : goal.returns-clause-rows
returns-clause-rows c = λ s session table key header is neat done. delete_rows s session table key header is neat done
