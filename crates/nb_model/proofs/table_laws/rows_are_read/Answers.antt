use Rattle.nb_model.proofs.RowLaws.{get_value, scan_rows}
use Rattle.nb_model.proofs.table_laws.rows_are_read.Goals as goal

pub returns-clause-get : goal.returns-clause-get
returns-clause-get c = get_value

pub returns-clause-scan : goal.returns-clause-scan
returns-clause-scan c = λ s session table rs e. scan_rows s session table 0 rs e
