use Rattle.nb_model.proofs.CoveredLaws.{earlier_itself, earlier_joins}
use Rattle.nb_model.proofs.EarlierLaws.{settled_sound, write_goes_on, trail_goes_on}
use Rattle.nb_model.proofs.laws.trails_stay_sound.Goals as goal

pub returns-clause-settled : goal.returns-clause-settled
returns-clause-settled c = settled_sound

pub returns-clause-write : goal.returns-clause-write
returns-clause-write c = write_goes_on

pub returns-clause-stroke : goal.returns-clause-stroke
returns-clause-stroke c = trail_goes_on

pub returns-clause-itself : goal.returns-clause-itself
returns-clause-itself c = earlier_itself

pub returns-clause-joins : goal.returns-clause-joins
returns-clause-joins c = earlier_joins
