use Rattle.nb_model.proofs.WholeLaws.{chain_accepted, chain_gives}
use Rattle.nb_model.proofs.laws.a_kept_chain_is_accepted.Goals as goal

pub returns-clause-accepted : goal.returns-clause-accepted
returns-clause-accepted c = chain_accepted

pub returns-clause-gives : goal.returns-clause-gives
returns-clause-gives c = chain_gives
