use Rattle.nb_fold.proofs.AcceptLaws.{give_the_same}
use Rattle.nb_fold.proofs.laws.a_fold_ends_a_chain_as_its_files.Goals as goal

pub returns : goal.returns
returns c files name names out cs before fold = give_the_same files name names out cs fold before
