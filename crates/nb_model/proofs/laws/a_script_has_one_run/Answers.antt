use Rattle.nb_model.proofs.RunLaws.{one_run}
use Rattle.nb_model.proofs.laws.a_script_has_one_run.Goals as goal

pub returns : goal.returns
returns c = one_run
