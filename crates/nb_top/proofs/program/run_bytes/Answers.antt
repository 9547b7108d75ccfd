use Rattle.std.proofs.Common.{[], ◌≡◌, ap, refl, sym, subst, Some, Ok, Err}
use Rattle.nb_top.proofs.Common.{Refused, quiet_begun, IsAnswer, script_of, Goes, IsShownOf, Runs, to_run}
use Rattle.nb_top.proofs.GoesLaws.{goes_refused, goes_undone}
use Rattle.nb_top.proofs.JobRuns.{script_number}
use Rattle.nb_top.proofs.RequestLaws.{spelled_can}
use Rattle.nb_top.proofs.ScriptRuns.{settled_refusal, settled_value}
use Rattle.nb_top.proofs.ShownLaws.{shown_by}
use Rattle.nb_top.proofs.program.run_bytes.Goals as goal

pub returns-in_err-script-clause-goes : goal.returns-in_err-script-clause-goes
returns-in_err-script-clause-goes g c =
    let old = g.H.Host.world c.args.host.now in
    let bytes = c.args.bytes.now in
    goes_undone g.H.Host.world g.H.Host.tells c.args.host.now c.args.host.now (Runs (to_run (script_of bytes))) c.from_residual.result (spelled_can bytes (script_of bytes) refl) c.from_residual.ensures.0 (quiet_begun old (g.met.H.Host.timely c.args.host.now))

pub returns-in_err-broken-in-Err-clause-goes : goal.returns-in_err-broken-in-Err-clause-goes
returns-in_err-broken-in-Err-clause-goes g c =
    let old = g.H.Host.world c.args.host.now in
    let bytes = c.args.bytes.now in
    goes_undone g.H.Host.world g.H.Host.tells c.args.host.now c.args.host.now (Runs (to_run (script_of bytes))) c.from_residual-in_err-broken-in-Err.result (spelled_can bytes (script_of bytes) refl) c.from_residual-in_err-broken-in-Err.ensures.0
    (quiet_begun old (g.met.H.Host.timely c.args.host.now))

pub returns-in-Ok-clause-goes : goal.returns-in-Ok-clause-goes
returns-in-Ok-clause-goes g c =
    let is = settled_value c.in_ok-script.field-0 c.in-Ok.script (λ value. c.parse.result ≡ Ok value) c.in-Ok.is c.in_ok-script.ensures.value in
    let read = subst (λ answer. IsAnswer answer (script_of c.args.bytes.now)) is c.parse.ensures.exact in
    subst (λ s. Goes g.H.Host.world g.H.Host.tells c.run_script.result c.args.host.now c.run_script.new.host (Runs (to_run s))) (sym read) c.run_script.ensures.goes

pub returns-in_ok-broken-in-Err-clause-goes : goal.returns-in_ok-broken-in-Err-clause-goes
returns-in_ok-broken-in-Err-clause-goes g c =
    let bytes = c.args.bytes.now in
    let refusal = c.in-Err.refusal in
    let is = settled_refusal c.in_ok-script.field-0 refusal (λ r. c.parse.result ≡ Err (Refused r)) c.in-Err.is c.in_ok-script.ensures.refusal in
    let read = subst (λ answer. IsAnswer answer (script_of bytes)) is c.parse.ensures.exact in
    goes_refused g.H.Host.world g.H.Host.tells c.args.host.now c.refuse.new.host (to_run (script_of bytes)) refusal c.refuse.result (ap to_run read) c.refuse.ensures.gave c.refuse.ensures.line (λ told. script_number [] (Some bytes) refusal read c.refuse.result c.refuse.ensures.ok)

pub returns-in_ok-broken-in-Err-clause-shown : goal.returns-in_ok-broken-in-Err-clause-shown
returns-in_ok-broken-in-Err-clause-shown g c =
    let refusal = c.in-Err.refusal in
    let is = settled_refusal c.in_ok-script.field-0 refusal (λ r. c.parse.result ≡ Err (Refused r)) c.in-Err.is c.in_ok-script.ensures.refusal in
    let read = subst (λ answer. IsAnswer answer (script_of c.args.bytes.now)) is c.parse.ensures.exact in
    subst (λ r. IsShownOf c.refuse.result c.in_ok-broken-in-Err.field-0 (Runs (to_run r))) (sym read) (shown_by c.refuse.result _ refusal c.in_ok-broken-in-Err.ensures.names)
