use Rattle.nb_model.proofs.StrokeLaws.{base_after-append, records_after-append}
use Rattle.nb_model.proofs.laws.strokes_join.Goals as goal

pub returns-clause-base : goal.returns-clause-base
returns-clause-base c = base_after-append

pub returns-clause-records : goal.returns-clause-records
returns-clause-records c = records_after-append
