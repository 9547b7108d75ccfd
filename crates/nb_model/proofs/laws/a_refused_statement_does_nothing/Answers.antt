use Rattle.nb_model.proofs.TurnLaws.{first_quiet}
use Rattle.nb_model.proofs.laws.a_refused_statement_does_nothing.Goals as goal

pub returns : goal.returns
returns c = λ s session statement r e. (first_quiet s session statement).quiet r e
