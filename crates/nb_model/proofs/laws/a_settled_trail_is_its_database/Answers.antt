use Rattle.nb_model.proofs.TrailLaws.{settled_shows, shows_settled, shows_stands}
use Rattle.nb_model.proofs.laws.a_settled_trail_is_its_database.Goals as goal

pub returns-clause-shows : goal.returns-clause-shows
returns-clause-shows c = settled_shows

pub returns-clause-stands : goal.returns-clause-stands
returns-clause-stands c = shows_settled

pub returns-clause-last : goal.returns-clause-last
returns-clause-last c = shows_stands
