use Rattle.nb_model.proofs.RowLaws.{table_rises}
use Rattle.nb_model.proofs.RowMaps.{same_maps}
use Rattle.nb_model.proofs.table_laws.rows_rise.Goals as goal

pub returns-clause-rise : goal.returns-clause-rise
returns-clause-rise c = table_rises

pub returns-clause-same : goal.returns-clause-same
returns-clause-same c = same_maps
