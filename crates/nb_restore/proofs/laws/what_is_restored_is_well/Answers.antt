use Rattle.nb_restore.proofs.KeptLaws.{restored_well}
use Rattle.nb_restore.proofs.laws.what_is_restored_is_well.Goals as goal

pub returns : goal.returns
returns c = restored_well
