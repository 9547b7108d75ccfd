use Rattle.std.proofs.Common.{refl, sym, subst, Result, Err}
use Rattle.nb_session.proofs.Common.{CountsDevice, Fault, Reply, done, Replies}
use Rattle.nb_session.proofs.StepLaws.{counts_as}
use Rattle.nb_session.proofs.replies.done.Goals as goal

pub returns-in-Err-clause-reply : goal.returns-in-Err-clause-reply
returns-in-Err-clause-reply c = subst (λ (r : Result (Unit {0}) Fault). Replies done r (Err c.in-Err.fault)) (sym c.in-Err.is) refl

pub returns-in-Err-clause-cause : goal.returns-in-Err-clause-cause
returns-in-Err-clause-cause c before after counts =
    counts_as (Unit {0}) Reply c.in-Err.fault before after (subst (λ (r : Result (Unit {0}) Fault). CountsDevice r before after) c.in-Err.is counts)
