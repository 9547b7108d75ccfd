use Rattle.std.proofs.Common.{◌≡◌, ℕ, List, sym, subst, Ok, IfOk}
use Rattle.nb_top.proofs.Common.{quiet_begun, asks_of, BackupSince, IsAskable, Plan, Runs, Sparingly, ToRun, plan_of}
use Rattle.nb_top.specs.Done.{GoesOn}
use Rattle.nb_top.specs.Shipped.{copying}
use Rattle.nb_top.proofs.GoesLaws.{goes_undone}
use Rattle.nb_top.proofs.RequestLaws.{attach_askable}
use Rattle.nb_top.proofs.ScriptRuns.{settled_value}
use Rattle.nb_top.proofs.ship.copy.Goals as goal

pub run_script-requires : goal.run_script-requires
run_script-requires g c =
    let plan = plan_of c.args.primary.now (asks_of (BackupSince c.args.since.now c.args.ship.now)) in
    let is = settled_value c.in_ok-script.field-0 c.in-Ok.script (λ value. c.script_asking.result ≡ Ok value) c.in-Ok.is c.in_ok-script.ensures.value in
    let made = subst (λ (n : List ℕ). IfOk c.script_asking.result (λ script. script ≡ plan_of c.args.primary.now (asks_of (BackupSince c.args.since.now n)))) c.copied.ensures c.script_asking.ensures.script in
    let same : c.in-Ok.script ≡ plan = subst (λ r. IfOk r (λ script. script ≡ plan)) is made in
    record { askable = subst (λ (p : Plan). IsAskable p) (sym same) (attach_askable c.args.primary.now (BackupSince c.args.since.now c.args.ship.now) c.requires.primary c.requires.ship) }

pub returns-in_err-script-clause-goes : goal.returns-in_err-script-clause-goes
returns-in_err-script-clause-goes g c =
    let old = g.H.Host.world c.args.host.now in
    goes_undone g.H.Host.world g.H.Host.tells c.args.host.now c.args.host.now (copying c.args.primary.now c.args.since.now c.args.ship.now) c.from_residual.result
    (attach_askable c.args.primary.now (BackupSince c.args.since.now c.args.ship.now) c.requires.primary c.requires.ship) c.from_residual.ensures.0 (quiet_begun old (g.met.H.Host.timely c.args.host.now))

pub returns-clause-goes : goal.returns-clause-goes
returns-clause-goes g c =
    let plan = plan_of c.args.primary.now (asks_of (BackupSince c.args.since.now c.args.ship.now)) in
    let is = settled_value c.in_ok-script.field-0 c.in-Ok.script (λ value. c.script_asking.result ≡ Ok value) c.in-Ok.is c.in_ok-script.ensures.value in
    let made = subst (λ (n : List ℕ). IfOk c.script_asking.result (λ script. script ≡ plan_of c.args.primary.now (asks_of (BackupSince c.args.since.now n)))) c.copied.ensures c.script_asking.ensures.script in
    let same : c.in-Ok.script ≡ plan = subst (λ r. IfOk r (λ script. script ≡ plan)) is made in
    subst (λ p. GoesOn g.H.Host.world g.H.Host.tells c.run_script.result c.args.host.now c.run_script.new.host (Runs (Ok (ToRun p Sparingly)))) same c.run_script.ensures.goes
