use Rattle.nb_model.proofs.RunApart.{run_named}
use Rattle.nb_model.proofs.history_laws.a_named_backup_stays_named.Goals as goal

pub returns : goal.returns
returns c = run_named
