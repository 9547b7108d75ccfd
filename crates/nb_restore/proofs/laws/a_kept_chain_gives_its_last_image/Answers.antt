use Rattle.nb_restore.proofs.KeptLaws.{chain_kept}
use Rattle.nb_restore.proofs.laws.a_kept_chain_gives_its_last_image.Goals as goal

pub returns : goal.returns
returns c = chain_kept
