use Rattle.nb_model.proofs.DangerLaws.{danger_each, neat_none, none_apart, none_free}
use Rattle.nb_model.proofs.history_laws.pages_in_danger_are_shared_or_free.Goals as goal

pub returns-clause-each : goal.returns-clause-each
returns-clause-each c = danger_each

pub returns-clause-neat : goal.returns-clause-neat
returns-clause-neat c = neat_none

pub returns-clause-apart : goal.returns-clause-apart
returns-clause-apart c = none_apart

pub returns-clause-taken : goal.returns-clause-taken
returns-clause-taken c = none_free
