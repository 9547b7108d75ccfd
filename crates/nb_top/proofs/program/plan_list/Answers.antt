use Rattle.std.proofs.Common.{◌≡◌, ◌≢◌, ◌∙◌, ℕ, List, ap, refl, sym, subst, Ok, Err, IsTrue}
use Rattle.nb_top.proofs.Common.{Refused, Refusal, BadScript, list_of, names_in, Goes, IsFileRead, Runs, to_plan, IsShownOf}
use Rattle.nb_top.proofs.GoesLaws.{goes_refused, goes_same, goes_undone}
use Rattle.nb_top.proofs.Lists.{list_number, plan_quietly, unread_list}
use Rattle.nb_top.proofs.RequestLaws.{listed_can}
use Rattle.nb_top.proofs.ScriptRuns.{settled_refusal, settled_value}
use Rattle.nb_top.proofs.ShownLaws.{same_refusal, unshown}
use Rattle.nb_top.proofs.program.plan_list.Goals as goal

pub returns-in_err-bytes-clause-goes : goal.returns-in_err-bytes-clause-goes
returns-in_err-bytes-clause-goes g c =
    let old = g.H.Host.world c.args.host.now in
    let list = c.args.list.now in
    goes_undone g.H.Host.world g.H.Host.tells c.args.host.now c.read_file.new.host (to_plan c.args.keep (names_in list (old.files list))) c.from_residual.result (listed_can c.args.keep list (old.files list))
    c.from_residual.ensures.0 c.read_file.ensures.quiet

pub returns-in-Ok-clause-goes : goal.returns-in-Ok-clause-goes
returns-in-Ok-clause-goes g c =
    let old = g.H.Host.world c.args.host.now in
    let list = c.args.list.now in
    let keep = c.args.keep in
    let file = old.files list in
    let bytes = c.in-Ok.bytes in
    let is = settled_value c.in_ok-bytes.field-0 bytes (λ value. c.read_file.result ≡ Ok value) c.in-Ok.is c.in_ok-bytes.ensures.value in
    plan_quietly g.H.Host.world g.H.Host.tells c.args.host.now c.read_file.new.host c.plan_bytes.new.host keep (names_in list file) c.plan_bytes.result c.read_file.ensures.quiet
    (goes_same g.H.Host.world g.H.Host.tells c.read_file.new.host c.plan_bytes.new.host (to_plan keep (names_in list file)) (to_plan keep (list_of bytes.items)) c.plan_bytes.result
    (λ told. ap (λ f. to_plan keep (names_in list f)) (subst (λ r. IsFileRead r list file) is (c.read_file.ensures.read told)))
    (subst (λ (b : List ℕ). Goes g.H.Host.world g.H.Host.tells c.plan_bytes.result c.read_file.new.host c.plan_bytes.new.host (to_plan keep (list_of b))) c.deref.ensures.value c.plan_bytes.ensures.goes))

pub returns-in-Ok-clause-shown : goal.returns-in-Ok-clause-shown
returns-in-Ok-clause-shown g c told =
    let list = c.args.list.now in
    let file = (g.H.Host.world c.args.host.now).files list in
    let bytes = c.in-Ok.bytes in
    let is = settled_value c.in_ok-bytes.field-0 bytes (λ value. c.read_file.result ≡ Ok value) c.in-Ok.is c.in_ok-bytes.ensures.value in
    subst (λ f. IsShownOf c.plan_bytes.result c.plan_bytes.new.broken (to_plan c.args.keep (names_in list f))) (sym (subst (λ r. IsFileRead r list file) is (c.read_file.ensures.read told)))
    (subst (λ (b : List ℕ). IsShownOf c.plan_bytes.result c.plan_bytes.new.broken (to_plan c.args.keep (list_of b))) c.deref.ensures.value c.plan_bytes.ensures.shown)

pub returns-in-Err-clause-goes : goal.returns-in-Err-clause-goes
returns-in-Err-clause-goes g c =
    let old = g.H.Host.world c.args.host.now in
    let list = c.args.list.now in
    let keep = c.args.keep in
    let file = old.files list in
    let refusal = c.in-Err.refusal in
    let is = settled_refusal c.in_ok-bytes.field-0 refusal (λ r. c.read_file.result ≡ Err (Refused r)) c.in-Err.is c.in_ok-bytes.ensures.refusal in
    let other : (line : ℕ) → refusal ≢ BadScript line = λ line same. c.read_file.ensures.unbroken line (subst (λ (r : Refusal). c.read_file.result ≡ Err (Refused r)) same is) in
    let read : IsTrue g.H.Host.tells → names_in list file ≡ Err refusal = λ told. unread_list list file refusal other (subst (λ r. IsFileRead r list file) is (c.read_file.ensures.read told)) in
    plan_quietly g.H.Host.world g.H.Host.tells c.args.host.now c.read_file.new.host c.refuse.new.host keep (names_in list file) c.refuse.result c.read_file.ensures.quiet
    (goes_same g.H.Host.world g.H.Host.tells c.read_file.new.host c.refuse.new.host (to_plan keep (names_in list file)) (Runs (Err refusal)) c.refuse.result (λ told. ap (to_plan keep) (read told))
    (goes_refused g.H.Host.world g.H.Host.tells c.read_file.new.host c.refuse.new.host (Err refusal) refusal c.refuse.result refl c.refuse.ensures.gave c.refuse.ensures.line (λ told. list_number list file refusal (read told) c.refuse.result c.refuse.ensures.ok)))

pub returns-in-Err-clause-shown : goal.returns-in-Err-clause-shown
returns-in-Err-clause-shown g c told =
    let list = c.args.list.now in
    let file = (g.H.Host.world c.args.host.now).files list in
    let refusal = c.in-Err.refusal in
    let is = settled_refusal c.in_ok-bytes.field-0 refusal (λ r. c.read_file.result ≡ Err (Refused r)) c.in-Err.is c.in_ok-bytes.ensures.refusal in
    let other : (line : ℕ) → refusal ≢ BadScript line = λ line same. c.read_file.ensures.unbroken line (subst (λ (r : Refusal). c.read_file.result ≡ Err (Refused r)) same is) in
    let read = unread_list list file refusal other (subst (λ r. IsFileRead r list file) is (c.read_file.ensures.read told)) in
    unshown c.refuse.result c.args.broken.now (to_plan c.args.keep (names_in list file)) c.requires (λ line h. other line (same_refusal refusal (BadScript line) (sym (ap (to_plan c.args.keep) read) ∙ h)))
