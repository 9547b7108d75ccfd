use Rattle.std.proofs.Common.{◌≡◌, ◌∙◌, ℕ, List, ap, refl, sym, subst, Ok, Err, IsTrue}
use Rattle.nb_top.proofs.Common.{Refused, Refusal, BadScript, script_of, Goes, IsFileRead, Runs, script_in, to_run, IsShownOf}
use Rattle.nb_top.proofs.GoesLaws.{goes_quietly, goes_refused, goes_same, goes_undone}
use Rattle.nb_top.proofs.JobRuns.{script_number}
use Rattle.nb_top.proofs.RequestLaws.{script_can}
use Rattle.nb_top.proofs.ShownLaws.{same_refusal, unshown}
use Rattle.nb_top.proofs.ScriptRuns.{settled_refusal, settled_value}
use Rattle.nb_top.proofs.program.run_file.Goals as goal

pub returns-in_err-bytes-clause-goes : goal.returns-in_err-bytes-clause-goes
returns-in_err-bytes-clause-goes g c =
    let old = g.H.Host.world c.args.host.now in
    let name = c.args.name.now in
    goes_undone g.H.Host.world g.H.Host.tells c.args.host.now c.read_file.new.host (Runs (to_run (script_in name (old.files name)))) c.from_residual.result (script_can old.files name (script_in name (old.files name)) refl)
    c.from_residual.ensures.0 c.read_file.ensures.quiet

pub returns-in-Ok-clause-goes : goal.returns-in-Ok-clause-goes
returns-in-Ok-clause-goes g c =
    let old = g.H.Host.world c.args.host.now in
    let name = c.args.name.now in
    let file = old.files name in
    let bytes = c.in-Ok.bytes in
    let is = settled_value c.in_ok-bytes.field-0 bytes (λ value. c.read_file.result ≡ Ok value) c.in-Ok.is c.in_ok-bytes.ensures.value in
    goes_quietly g.H.Host.world g.H.Host.tells c.args.host.now c.read_file.new.host c.run_bytes.new.host (to_run (script_in name file)) c.run_bytes.result c.read_file.ensures.quiet
    (goes_same g.H.Host.world g.H.Host.tells c.read_file.new.host c.run_bytes.new.host (Runs (to_run (script_in name file))) (Runs (to_run (script_of bytes.items))) c.run_bytes.result
    (λ told. ap (λ f. Runs (to_run (script_in name f))) (subst (λ r. IsFileRead r name file) is (c.read_file.ensures.read told)))
    (subst (λ (b : List ℕ). Goes g.H.Host.world g.H.Host.tells c.run_bytes.result c.read_file.new.host c.run_bytes.new.host (Runs (to_run (script_of b)))) c.deref.ensures.value c.run_bytes.ensures.goes))

pub returns-in-Ok-clause-shown : goal.returns-in-Ok-clause-shown
returns-in-Ok-clause-shown g c told =
    let name = c.args.name.now in
    let file = (g.H.Host.world c.args.host.now).files name in
    let bytes = c.in-Ok.bytes in
    let is = settled_value c.in_ok-bytes.field-0 bytes (λ value. c.read_file.result ≡ Ok value) c.in-Ok.is c.in_ok-bytes.ensures.value in
    subst (λ f. IsShownOf c.run_bytes.result c.run_bytes.new.broken (Runs (to_run (script_in name f)))) (sym (subst (λ r. IsFileRead r name file) is (c.read_file.ensures.read told)))
    (subst (λ (b : List ℕ). IsShownOf c.run_bytes.result c.run_bytes.new.broken (Runs (to_run (script_of b)))) c.deref.ensures.value c.run_bytes.ensures.shown)

pub returns-in-Err-clause-goes : goal.returns-in-Err-clause-goes
returns-in-Err-clause-goes g c =
    let old = g.H.Host.world c.args.host.now in
    let name = c.args.name.now in
    let file = old.files name in
    let refusal = c.in-Err.refusal in
    let is = settled_refusal c.in_ok-bytes.field-0 refusal (λ r. c.read_file.result ≡ Err (Refused r)) c.in-Err.is c.in_ok-bytes.ensures.refusal in
    let read : IsTrue g.H.Host.tells → script_in name file ≡ Err refusal = λ told. subst (λ r. IsFileRead r name file) is (c.read_file.ensures.read told) in
    goes_quietly g.H.Host.world g.H.Host.tells c.args.host.now c.read_file.new.host c.refuse.new.host (to_run (script_in name file)) c.refuse.result c.read_file.ensures.quiet
    (goes_same g.H.Host.world g.H.Host.tells c.read_file.new.host c.refuse.new.host (Runs (to_run (script_in name file))) (Runs (Err refusal)) c.refuse.result (λ told. ap (λ s. Runs (to_run s)) (read told))
    (goes_refused g.H.Host.world g.H.Host.tells c.read_file.new.host c.refuse.new.host (Err refusal) refusal c.refuse.result refl c.refuse.ensures.gave c.refuse.ensures.line (λ told. script_number name file refusal (read told) c.refuse.result c.refuse.ensures.ok)))

pub returns-in-Err-clause-shown : goal.returns-in-Err-clause-shown
returns-in-Err-clause-shown g c told =
    let name = c.args.name.now in
    let file = (g.H.Host.world c.args.host.now).files name in
    let refusal = c.in-Err.refusal in
    let is = settled_refusal c.in_ok-bytes.field-0 refusal (λ r. c.read_file.result ≡ Err (Refused r)) c.in-Err.is c.in_ok-bytes.ensures.refusal in
    let read = subst (λ r. IsFileRead r name file) is (c.read_file.ensures.read told) in
    unshown c.refuse.result c.args.broken.now (Runs (to_run (script_in name file))) c.requires
    (λ line h. c.read_file.ensures.unbroken line
    (subst (λ (r : Refusal). c.read_file.result ≡ Err (Refused r)) (same_refusal refusal (BadScript line) (sym (ap (λ s. Runs (to_run s)) read) ∙ h)) is))
