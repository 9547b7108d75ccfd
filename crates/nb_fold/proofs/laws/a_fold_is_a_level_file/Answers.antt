use Rattle.nb_fold.proofs.AcceptLaws.{fold_read}
use Rattle.nb_fold.proofs.laws.a_fold_is_a_level_file.Goals as goal

pub returns : goal.returns
returns c files name names cs e = fold_read files name names cs e
