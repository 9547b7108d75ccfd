use Rattle.nb_fold.proofs.SameLaws.{same_image}
use Rattle.nb_fold.proofs.laws.a_fold_gives_the_same_image.Goals as goal

pub returns : goal.returns
returns c files names cs before e = same_image files names cs before e
