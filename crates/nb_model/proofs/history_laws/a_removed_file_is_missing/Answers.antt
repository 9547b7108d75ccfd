use Rattle.nb_model.proofs.RemovedLaws.{removed_stands}
use Rattle.nb_model.proofs.history_laws.a_removed_file_is_missing.Goals as goal

pub returns : goal.returns
returns c = removed_stands
