use Rattle.std.proofs.Common.{◌≡◌, ◌≤◌, [], length, refl, sym, subst, Some, Ok, Err, IfOk}
use Rattle.nb_top.proofs.Common.{Refused, quiet_begun, Says, list_of, Goes, to_plan, IsShownOf}
use Rattle.nb_top.proofs.GoesLaws.{goes_refused, goes_undone}
use Rattle.nb_top.proofs.Lists.{list_number}
use Rattle.nb_top.proofs.RequestLaws.{list_can}
use Rattle.nb_top.proofs.ScriptRuns.{settled_refusal, settled_value}
use Rattle.nb_top.proofs.ShownLaws.{plan_unbroken, shown_by, unshown}
use Rattle.nb_top.proofs.program.plan_bytes.Goals as goal

pub run_turn-requires : goal.run_turn-requires
run_turn-requires g c =
    let is = settled_value c.in_ok-names.field-0 c.in-Ok.names (λ value. c.read_list.result ≡ Ok value) c.in-Ok.is c.in_ok-names.ensures.value in
    subst (λ r. IfOk r (λ names. length names ≤ 1000)) is c.read_list.ensures.most

pub returns-in_err-names-clause-goes : goal.returns-in_err-names-clause-goes
returns-in_err-names-clause-goes g c =
    let old = g.H.Host.world c.args.host.now in
    goes_undone g.H.Host.world g.H.Host.tells c.args.host.now c.args.host.now (to_plan c.args.keep (list_of c.args.bytes.now)) c.from_residual.result (list_can c.args.keep c.args.bytes.now) c.from_residual.ensures.0 (quiet_begun old (g.met.H.Host.timely c.args.host.now))

pub returns-in_err-broken-in-Err-clause-goes : goal.returns-in_err-broken-in-Err-clause-goes
returns-in_err-broken-in-Err-clause-goes g c =
    let old = g.H.Host.world c.args.host.now in
    goes_undone g.H.Host.world g.H.Host.tells c.args.host.now c.args.host.now (to_plan c.args.keep (list_of c.args.bytes.now)) c.from_residual-in_err-broken-in-Err.result (list_can c.args.keep c.args.bytes.now) c.from_residual-in_err-broken-in-Err.ensures.0
    (quiet_begun old (g.met.H.Host.timely c.args.host.now))

pub returns-in-Ok-clause-goes : goal.returns-in-Ok-clause-goes
returns-in-Ok-clause-goes g c =
    let is = settled_value c.in_ok-names.field-0 c.in-Ok.names (λ value. c.read_list.result ≡ Ok value) c.in-Ok.is c.in_ok-names.ensures.value in
    let read = subst (λ answer. Says (list_of c.args.bytes.now) answer) is c.read_list.ensures.exact in
    subst (λ r. Goes g.H.Host.world g.H.Host.tells c.run_turn.result c.args.host.now c.run_turn.new.host (to_plan c.args.keep r)) (sym read) c.run_turn.ensures.goes

pub returns-in-Ok-clause-shown : goal.returns-in-Ok-clause-shown
returns-in-Ok-clause-shown g c =
    let is = settled_value c.in_ok-names.field-0 c.in-Ok.names (λ value. c.read_list.result ≡ Ok value) c.in-Ok.is c.in_ok-names.ensures.value in
    let read = subst (λ answer. Says (list_of c.args.bytes.now) answer) is c.read_list.ensures.exact in
    subst (λ r. IsShownOf c.run_turn.result c.args.broken.now (to_plan c.args.keep r)) (sym read) (unshown c.run_turn.result c.args.broken.now _ c.requires (plan_unbroken c.args.keep c.in-Ok.names))

pub returns-in_ok-broken-in-Err-clause-goes : goal.returns-in_ok-broken-in-Err-clause-goes
returns-in_ok-broken-in-Err-clause-goes g c =
    let bytes = c.args.bytes.now in
    let refusal = c.in-Err.refusal in
    let is = settled_refusal c.in_ok-names.field-0 refusal (λ r. c.read_list.result ≡ Err (Refused r)) c.in-Err.is c.in_ok-names.ensures.refusal in
    let read = subst (λ answer. Says (list_of bytes) answer) is c.read_list.ensures.exact in
    subst (λ r. Goes g.H.Host.world g.H.Host.tells c.refuse.result c.args.host.now c.refuse.new.host (to_plan c.args.keep r)) (sym read)
    (goes_refused g.H.Host.world g.H.Host.tells c.args.host.now c.refuse.new.host (Err refusal) refusal c.refuse.result refl c.refuse.ensures.gave c.refuse.ensures.line (λ told. list_number [] (Some bytes) refusal read c.refuse.result c.refuse.ensures.ok))

pub returns-in_ok-broken-in-Err-clause-shown : goal.returns-in_ok-broken-in-Err-clause-shown
returns-in_ok-broken-in-Err-clause-shown g c =
    let refusal = c.in-Err.refusal in
    let is = settled_refusal c.in_ok-names.field-0 refusal (λ r. c.read_list.result ≡ Err (Refused r)) c.in-Err.is c.in_ok-names.ensures.refusal in
    let read = subst (λ answer. Says (list_of c.args.bytes.now) answer) is c.read_list.ensures.exact in
    subst (λ r. IsShownOf c.refuse.result c.in_ok-broken-in-Err.field-0 (to_plan c.args.keep r)) (sym read) (shown_by c.refuse.result _ refusal c.in_ok-broken-in-Err.ensures.names)
