use Rattle.std.proofs.Common.{◌≡◌, ◌∙◌, ℕ, List, refl, sym, subst, Err}
use Rattle.nb_top.proofs.Common.{Fault, Usage, quiet_begun, Goes, IsAskedBy, IsReadJob, Runs, request_asked, IsShownOf}
use Rattle.nb_host.specs.declared.faults.RunError.TheVariants.{Memory as MemoryError}
use Rattle.nb_top.proofs.GoesLaws.{goes_refused, goes_undone}
use Rattle.nb_top.proofs.JobRuns.{usage_number}
use Rattle.nb_top.proofs.RequestLaws.{CanBeMet, can_be_asked}
use Rattle.nb_top.proofs.ShownLaws.{unshown, unshown_early, usage_unbroken}
use Rattle.nb_top.proofs.DangerLaws.{read_danger, unread_danger}
use Rattle.nb_top.proofs.program.do_job.Goals as goal

pub run_job-requires : goal.run_job-requires
run_job-requires g c = record { fits = subst IsReadJob c.in-Ok.is c.requires.read; none = c.requires.none }

pub returns-in-Ok-clause-goes : goal.returns-in-Ok-clause-goes
returns-in-Ok-clause-goes g c asked by =
    let old = g.H.Host.world c.args.host.now in
    subst (λ a. Goes g.H.Host.world g.H.Host.tells c.run_job.result c.args.host.now c.run_job.new.host a) (sym (subst (λ r. IsAskedBy r old.files asked) c.in-Ok.is by)) c.run_job.ensures.goes

pub returns-in-Ok-clause-shown : goal.returns-in-Ok-clause-shown
returns-in-Ok-clause-shown g c asked tells by =
    let old = g.H.Host.world c.args.host.now in
    subst (λ a. IsShownOf c.run_job.result c.run_job.new.broken a) (sym (subst (λ r. IsAskedBy r old.files asked) c.in-Ok.is by)) (c.run_job.ensures.shown tells)

pub returns-in-Refused-clause-goes : goal.returns-in-Refused-clause-goes
returns-in-Refused-clause-goes g c asked by =
    let old = g.H.Host.world c.args.host.now in
    let is : asked ≡ Runs (Err Usage) = subst (λ (f : Fault). IsAskedBy (Err f) old.files asked) c.in-Refused.is (subst (λ r. IsAskedBy r old.files asked) c.in-Err.is by) in
    subst (λ a. Goes g.H.Host.world g.H.Host.tells c.refuse_words.result c.args.host.now c.refuse_words.new.host a) (sym is)
    (goes_refused g.H.Host.world g.H.Host.tells c.args.host.now c.refuse_words.new.host (Err Usage) Usage c.refuse_words.result refl c.refuse_words.ensures.gave c.refuse_words.ensures.line (λ told. usage_number c.refuse_words.result c.refuse_words.ensures.usage))

pub returns-in-Memory-clause-goes : goal.returns-in-Memory-clause-goes
returns-in-Memory-clause-goes g c asked by =
    let old = g.H.Host.world c.args.host.now in
    let is : (words : List (List ℕ)) × (asked ≡ request_asked old.files words) = subst (λ (f : Fault). IsAskedBy (Err f) old.files asked) c.in-Memory.is (subst (λ r. IsAskedBy r old.files asked) c.in-Err.is by) in
    goes_undone g.H.Host.world g.H.Host.tells c.args.host.now c.args.host.now asked (Err MemoryError) (subst CanBeMet (sym is.1) (can_be_asked old.files is.0)) refl (quiet_begun old (g.met.H.Host.timely c.args.host.now))

pub returns-in-Refused-clause-shown : goal.returns-in-Refused-clause-shown
returns-in-Refused-clause-shown g c asked tells by =
    let old = g.H.Host.world c.args.host.now in
    let is : asked ≡ Runs (Err Usage) = subst (λ (f : Fault). IsAskedBy (Err f) old.files asked) c.in-Refused.is (subst (λ r. IsAskedBy r old.files asked) c.in-Err.is by) in
    unshown c.refuse_words.result c.args.broken.now asked c.requires.none (λ line h. usage_unbroken line (sym is ∙ h))

pub returns-in-Memory-clause-shown : goal.returns-in-Memory-clause-shown
returns-in-Memory-clause-shown g c asked tells by = unshown_early (Err MemoryError) c.args.broken.now asked c.requires.none refl

pub returns-in-Ok-clause-danger : goal.returns-in-Ok-clause-danger
returns-in-Ok-clause-danger g c tells = read_danger c.run_job.new.danger (g.H.Host.world c.args.host.now).files c.run_job.result c.args.job.now c.in-Ok.job c.in-Ok.is (c.run_job.ensures.danger tells)

pub returns-in-Refused-clause-danger : goal.returns-in-Refused-clause-danger
returns-in-Refused-clause-danger g c tells = unread_danger c.args.danger.now (g.H.Host.world c.args.host.now).files c.refuse_words.result c.args.job.now c.in-Err.fault c.in-Err.is
