use Rattle.nb_catalog.proofs.DistinctLaws.{listed_distinct}
use Rattle.nb_catalog.proofs.TurnLaws.{keeps_listed}
use Rattle.nb_catalog.proofs.laws.a_plan_of_a_list_keeps_its_files.Goals as goal

pub returns : goal.returns
returns c = λ files list names heads keep plan listed is read. keeps_listed files names keep heads plan is read (listed_distinct list (files list) names listed)
