use Rattle.nb_restore.proofs.KeptChains.{chain_of}
use Rattle.nb_restore.proofs.laws.a_chain_of_kept_backups_is_accepted.Goals as goal

pub returns : goal.returns
returns c = λ files account name names r rs stands chain. chain_of files account stands name names r rs chain
