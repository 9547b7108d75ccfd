use Rattle.std.proofs.Common.{refl, sym, subst, Bool, Result, Ok, Err}
use Rattle.nb_top.proofs.Common.{CountsRun, RunError, Status, EndsAs}
use Rattle.nb_session.proofs.StepLaws.{counts_handed}
use Rattle.nb_top.proofs.script.ended_as.Goals as goal

pub returns-in-Ok-clause-ended : goal.returns-in-Ok-clause-ended
returns-in-Ok-clause-ended c = subst (λ (r : Result Bool RunError). EndsAs r (Ok c.ended.result)) (sym c.in-Ok.is) c.ended.ensures.number

pub returns-in-Err-clause-ended : goal.returns-in-Err-clause-ended
returns-in-Err-clause-ended c = subst (λ (r : Result Bool RunError). EndsAs r (Err c.in-Err.error)) (sym c.in-Err.is) refl

pub returns-in-Ok-clause-cause : goal.returns-in-Ok-clause-cause
returns-in-Ok-clause-cause c before after counts = subst (λ (r : Result Bool RunError). CountsRun r before after) c.in-Ok.is counts

pub returns-in-Err-clause-cause : goal.returns-in-Err-clause-cause
returns-in-Err-clause-cause c before after counts =
    counts_handed {S = Status} c.in-Err.error Bool (Err c.in-Err.error) before after (refl, refl) (subst (λ (r : Result Bool RunError). CountsRun r before after) c.in-Err.is counts)
