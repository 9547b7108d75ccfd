use Rattle.nb_model.proofs.RunApart.{run_apart}
use Rattle.nb_model.proofs.history_laws.no_run_leaves_a_page_in_danger.Goals as goal

pub returns : goal.returns
returns c = run_apart
