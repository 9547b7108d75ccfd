use Rattle.nb_fixup.proofs.KeptLaws.{copy_kept}
use Rattle.nb_fixup.proofs.laws.a_kept_copy_has_its_image.Goals as goal

pub returns : goal.returns
returns c = copy_kept
