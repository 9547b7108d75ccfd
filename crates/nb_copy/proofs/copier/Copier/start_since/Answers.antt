use Rattle.nb_copy.proofs.copier.Copier.start_since.Goals as goal

pub returns-clause-turn : goal.returns-clause-turn
returns-clause-turn g c s t tells same runs is free plain given = c.start_from.ensures.turn s t tells same runs is free plain given
