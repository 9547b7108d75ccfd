use Rattle.nb_model.proofs.RowLaws.{drop_there, drop_rows}
use Rattle.nb_model.proofs.table_laws.a_table_is_dropped.Goals as goal

pub returns-clause-gone : goal.returns-clause-gone
returns-clause-gone c = λ s session table header is neat done. drop_there s session table header is neat done

pub returns-clause-rows : goal.returns-clause-rows
returns-clause-rows c = λ s session table header is neat done. drop_rows s session table header is neat done
