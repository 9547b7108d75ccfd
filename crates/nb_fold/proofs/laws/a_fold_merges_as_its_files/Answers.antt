use Rattle.nb_fold.proofs.MergedLaws.{merged_folds}
use Rattle.nb_fold.proofs.laws.a_fold_merges_as_its_files.Goals as goal

pub returns : goal.returns
returns c files name names cs image e into = merged_folds files name names cs image e into
