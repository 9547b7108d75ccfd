use Rattle.nb_ship.proofs.MergedLaws.{applied_found}
use Rattle.nb_ship.proofs.laws.a_merged_ship_file_is_found.Goals as goal

pub returns : goal.returns
returns c = applied_found
