use Rattle.nb_model.proofs.MixtureLaws.{mixture_pagewise, mixture_mixed}
use Rattle.nb_model.proofs.CoveredLaws.{firm_agrees}
use Rattle.nb_model.proofs.laws.mixtures_are_pagewise.Goals as goal

pub returns-clause-pagewise : goal.returns-clause-pagewise
returns-clause-pagewise c = λ bases now image diverted mixed there. mixture_pagewise bases now image mixed there diverted

pub returns-clause-agrees : goal.returns-clause-agrees
returns-clause-agrees c = firm_agrees

pub returns-clause-lineage : goal.returns-clause-lineage
returns-clause-lineage c = λ bases s now image mixed there. mixture_mixed bases now image mixed there s
