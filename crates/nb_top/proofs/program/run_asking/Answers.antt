use Rattle.std.proofs.Common.{◌≡◌, ◌∙◌, ap, subst, Ok, IfOk}
use Rattle.nb_top.proofs.Common.{quiet_begun, asks_of, Goes, Runs, ToRun, attached, plan_of}
use Rattle.nb_top.proofs.GoesLaws.{goes_undone}
use Rattle.nb_top.proofs.ScriptRuns.{settled_value}
use Rattle.nb_model.specs.Jobs.{usual_cache}
use Rattle.nb_model.specs.declared.job.Ask.{Ask}
use Rattle.nb_model.specs.declared.job.Ask.TheVariants.{Check as CheckAsk}
use Rattle.nb_model.specs.declared.statement.Statement.TheVariants.{Check}
use Rattle.nb_script.specs.Scripts.{Plan}
use Rattle.nb_top.proofs.program.run_asking.Goals as goal

pub returns-in_err-script-clause-goes : goal.returns-in_err-script-clause-goes
returns-in_err-script-clause-goes g c =
    let old = g.H.Host.world c.args.host.now in
    goes_undone g.H.Host.world g.H.Host.tells c.args.host.now c.args.host.now (Runs (Ok (attached c.args.db.now c.args.ask.now))) c.from_residual.result c.requires.askable c.from_residual.ensures.0 (quiet_begun old (g.met.H.Host.timely c.args.host.now))

pub returns-clause-goes : goal.returns-clause-goes
returns-clause-goes g c =
    let plan = plan_of c.args.db.now (asks_of c.args.ask.now) in
    let is = settled_value c.in_ok-script.field-0 c.in-Ok.script (λ value. c.script_asking.result ≡ Ok value) c.in-Ok.is c.in_ok-script.ensures.value in
    let same : c.in-Ok.script ≡ plan = subst (λ r. IfOk r (λ script. script ≡ plan)) is c.script_asking.ensures.script in
    subst (λ t. Goes g.H.Host.world g.H.Host.tells c.run_script.result c.args.host.now c.run_script.new.host (Runs (Ok (ToRun plan t)))) c.telling_of-telling.ensures
    (subst (λ p. Goes g.H.Host.world g.H.Host.tells c.run_script.result c.args.host.now c.run_script.new.host (Runs (Ok (ToRun p c.telling_of-telling.result)))) same c.run_script.ensures.goes)

pub returns-clause-danger : goal.returns-clause-danger
returns-clause-danger g c tells check =
    let plan = plan_of c.args.db.now (asks_of c.args.ask.now) in
    let is = settled_value c.in_ok-script.field-0 c.in-Ok.script (λ value. c.script_asking.result ≡ Ok value) c.in-Ok.is c.in_ok-script.ensures.value in
    let same : c.in-Ok.script ≡ plan = subst (λ r. IfOk r (λ script. script ≡ plan)) is c.script_asking.ensures.script in
    let checked : c.in-Ok.script ≡ plan_of c.args.db.now (asks_of CheckAsk) = same ∙ ap (λ (a : Ask). plan_of c.args.db.now (asks_of a)) check in
    c.run_script.ensures.danger c.args.db.now usual_cache Check tells (ap (λ (p : Plan). p.first) checked) (ap (λ (p : Plan). p.sessions) checked)
