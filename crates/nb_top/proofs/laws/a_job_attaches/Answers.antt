use Rattle.std.proofs.Common.{refl}
use Rattle.nb_top.proofs.JobLaws.{attaches_performed, performed_attaches}
use Rattle.nb_top.proofs.laws.a_job_attaches.Goals as goal

pub returns-clause-asks : goal.returns-clause-asks
returns-clause-asks c = λ files db ask. refl

pub returns-clause-attaches : goal.returns-clause-attaches
returns-clause-attaches c = λ files db ask before last given left events done. attaches_performed files before last given events db ask left done

pub returns-clause-performs : goal.returns-clause-performs
returns-clause-performs c = λ files db ask before last given events attaching. performed_attaches files before last given events db ask attaching
