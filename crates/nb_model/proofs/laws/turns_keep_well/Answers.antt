use Rattle.nb_model.proofs.MadeTurns.{front_well, files_of_kept}
use Rattle.nb_model.proofs.laws.turns_keep_well.Goals as goal

pub returns-clause-well : goal.returns-clause-well
returns-clause-well c = front_well

pub returns-clause-files : goal.returns-clause-files
returns-clause-files c = files_of_kept
