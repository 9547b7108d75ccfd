use Rattle.nb_model.proofs.OwnerLaws.{merge_kept}
use Rattle.nb_model.proofs.laws.a_merge_changes_no_image.Goals as goal

pub returns : goal.returns
returns c = merge_kept
