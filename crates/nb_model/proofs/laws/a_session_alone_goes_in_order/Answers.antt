use Rattle.nb_model.proofs.SessionLaws.{alone_rounds}
use Rattle.nb_model.proofs.laws.a_session_alone_goes_in_order.Goals as goal

pub returns : goal.returns
returns c = alone_rounds
