use Rattle.nb_model.proofs.RowLaws.{create_in, create_rows}
use Rattle.nb_model.proofs.table_laws.a_table_is_created.Goals as goal

pub returns-clause-there : goal.returns-clause-there
returns-clause-there c = λ s session table header is neat named done. create_in s session table header is neat named done

pub returns-clause-rows : goal.returns-clause-rows
returns-clause-rows c = λ s session table header is neat named done. create_rows s session table header is neat named done
