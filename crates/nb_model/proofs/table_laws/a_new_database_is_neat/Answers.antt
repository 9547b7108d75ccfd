use Rattle.nb_model.proofs.FreshNeat.{fresh_neat}
use Rattle.nb_model.proofs.table_laws.a_new_database_is_neat.Goals as goal

pub returns : goal.returns
returns c = fresh_neat
