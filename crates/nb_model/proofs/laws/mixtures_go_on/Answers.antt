use Rattle.std.proofs.Common.{arith}
use Rattle.nb_model.proofs.MixtureWrites.{mixture_put, mixture_lost}
use Rattle.nb_model.proofs.laws.mixtures_go_on.Goals as goal

pub returns-clause-put : goal.returns-clause-put
returns-clause-put c = λ bases now image new p page mixed low is. mixture_put bases now image mixed p page low new is

pub returns-clause-lost : goal.returns-clause-lost
returns-clause-lost c = λ bases now image new p page mixed below some is. mixture_lost bases now image mixed p page (omega arith) new is below some
