use Rattle.std.proofs.Common.{[], ◌≡◌, refl, sym, ap, subst, ◌∙◌, Some, Ok, Err}
use Rattle.nb_top.proofs.Common.{Files, Refused, FileExists, SaysLine, Changes, Only, Remade, is_free_name, generated, line_text, IsKept, IsUnfinishedOr, IsAnswer, script_of, grows_none, grows_joined, IsScriptText, generated_text, ending_by, Runs, ToGenerate, quiet_gave}
use Rattle.nb_host.specs.declared.faults.RunError.TheVariants.{Memory}
use Rattle.nb_model.specs.declared.reply.Reply.TheVariants.{Refused as RefusedReply}
use Rattle.nb_top.proofs.ByTurnsLaws.{number_taken}
use Rattle.nb_top.proofs.GeneratedGoes.{writing_goes, written_goes}
use Rattle.nb_top.proofs.GeneratedRuns.{taken_refused}
use Rattle.nb_top.proofs.GoesLaws.{goes_quietly, goes_refused, goes_undone}
use Rattle.nb_top.proofs.JobRuns.{script_number}
use Rattle.nb_top.proofs.ScriptRuns.{settled_value, settled_refusal}
use Rattle.nb_top.proofs.generating.run_generated.Goals as goal

pub returns-in_err-is_free-clause-goes : goal.returns-in_err-is_free-clause-goes
returns-in_err-is_free-clause-goes g c =
    goes_undone g.H.Host.world g.H.Host.tells c.args.host.now c.is_free.new.host (Runs (Ok (ToGenerate c.args.number c.args.name.now))) c.from_residual.result c.requires c.from_residual.ensures.0 c.is_free.ensures.quiet

pub returns-then-not-branch-clause-goes : goal.returns-then-not-branch-clause-goes
returns-then-not-branch-clause-goes g c = record {
  does = λ tells. (
    [],
    λ account given knows may told.
        let old = g.H.Host.world c.args.host.now in
        let mid = g.H.Host.world c.is_free.new.host in
        let new = g.H.Host.world c.refuse.new.host in
        let name = c.args.name.now in
        let taken = sym (knows name c.requires) ∙ sym (c.in_ok-is_free.ensures.answer tells) ∙ c.if-not-branch.true in
        let says = subst (λ n. SaysLine c.refuse.result mid new (line_text 1 (RefusedReply (FileExists n)))) c.copied-name.ensures (c.refuse.ensures.line tells) in
        record {
          whole = taken_refused old c.args.number name account given c.requires knows taken c.refuse.result c.refuse.result mid new c.is_free.ensures.quiet says c.refuse.ensures.ok says.said;
          turns = number_taken g.H.Host.world (ending_by c.refuse.result) c.args.number name account given c.args.host.now c.refuse.new.host taken (says.still.files ∙ c.is_free.ensures.quiet.still.files);
        },
  );
  grows = λ account tells knows. let old = g.H.Host.world c.args.host.now in
      let mid = g.H.Host.world c.is_free.new.host in
      let new = g.H.Host.world c.refuse.new.host in
      grows_joined old mid new (grows_none old mid (quiet_gave old mid c.is_free.ensures.quiet)) (grows_none mid new c.refuse.ensures.gave);
}

pub returns-in_default-clause-goes : goal.returns-in_default-clause-goes
returns-in_default-clause-goes g c =
    goes_undone g.H.Host.world g.H.Host.tells c.args.host.now c.is_free.new.host (Runs (Ok (ToGenerate c.args.number c.args.name.now))) (Err Memory) c.requires refl c.is_free.ensures.quiet

pub returns-in_err-script-clause-goes : goal.returns-in_err-script-clause-goes
returns-in_err-script-clause-goes g c =
    goes_undone g.H.Host.world g.H.Host.tells c.args.host.now c.is_free.new.host (Runs (Ok (ToGenerate c.args.number c.args.name.now))) c.from_residual-in_err-script.result c.requires c.from_residual-in_err-script.ensures.0 c.is_free.ensures.quiet

pub write_script-requires : goal.write_script-requires
write_script-requires g c = subst IsScriptText (sym (c.deref-2.ensures.value ∙ c.in-Ok.ensures.script)) (generated_text c.args.number)

pub returns-in_err-write_script-clause-goes : goal.returns-in_err-write_script-clause-goes
returns-in_err-write_script-clause-goes g c =
    let asked = g.H.Host.world c.is_free.new.host in
    let name = c.args.name.now in
    let quiet = c.is_free.ensures.quiet in
    let text = c.deref-2.ensures.value ∙ c.in-Ok.ensures.script in
    goes_quietly g.H.Host.world g.H.Host.tells c.args.host.now c.is_free.new.host c.write_script.new.host (Ok (ToGenerate c.args.number name)) c.from_residual-in_err-write_script.result quiet
    (writing_goes g.H.Host.world g.H.Host.tells c.is_free.new.host c.write_script.new.host c.args.number name c.requires
    (λ told. ap (λ (fs : Files). is_free_name fs name) quiet.still.files ∙ sym (c.in_ok-is_free.ensures.answer told) ∙ c.if-not-branch.false)
    (λ told. subst (λ bytes. Changes asked (g.H.Host.world c.write_script.new.host) (Only name) (Remade asked name (IsUnfinishedOr bytes))) text (c.write_script.ensures.left told)) c.write_script.ensures.gave
    c.from_residual-in_err-write_script.result c.from_residual-in_err-write_script.ensures.0)

pub returns-in-Ok-script-clause-goes : goal.returns-in-Ok-script-clause-goes
returns-in-Ok-script-clause-goes g c =
    let asked = g.H.Host.world c.is_free.new.host in
    let name = c.args.name.now in
    let quiet = c.is_free.ensures.quiet in
    let text = c.deref-2.ensures.value ∙ c.in-Ok.ensures.script in
    let plan = c.in-Ok-script.script in
    let parsed = settled_value c.in_ok-script.script plan (λ value. c.parse.result ≡ Ok value) c.in-Ok-script.is c.in_ok-script.ensures.value in
    let read = ap script_of (sym (c.deref.ensures.value ∙ c.in-Ok.ensures.script)) ∙ subst (λ answer. IsAnswer answer (script_of c.deref.result.now)) parsed c.parse.ensures.exact in
    goes_quietly g.H.Host.world g.H.Host.tells c.args.host.now c.is_free.new.host c.run_script.new.host (Ok (ToGenerate c.args.number name)) c.run_script.result quiet
    (written_goes g.H.Host.world g.H.Host.tells c.is_free.new.host c.write_script.new.host c.args.number name c.requires
    (λ told. ap (λ (fs : Files). is_free_name fs name) quiet.still.files ∙ sym (c.in_ok-is_free.ensures.answer told) ∙ c.if-not-branch.false)
    (λ told. subst (λ bytes. Changes asked (g.H.Host.world c.write_script.new.host) (Only name) (Remade asked name (IsUnfinishedOr bytes))) text (c.write_script.ensures.left told)) c.write_script.ensures.gave
    (λ told. subst (IsKept (g.H.Host.world c.write_script.new.host) name) text (c.in_ok-write_script.ensures.kept told)) (Ok plan) read c.run_script.new.host (g.met.H.Host.timely c.run_script.new.host) (λ told. g.met.H.Host.reads_left c.run_script.new.host told)
    c.run_script.result c.run_script.ensures.goes)

pub returns-clause-goes : goal.returns-clause-goes
returns-clause-goes g c =
    let asked = g.H.Host.world c.is_free.new.host in
    let name = c.args.name.now in
    let quiet = c.is_free.ensures.quiet in
    let text = c.deref-2.ensures.value ∙ c.in-Ok.ensures.script in
    let refusal = c.in-Err.refusal in
    let parsed = settled_refusal c.in_ok-script.script refusal (λ r. c.parse.result ≡ Err (Refused r)) c.in-Err.is c.in_ok-script.ensures.refusal in
    let read = ap script_of (sym (c.deref.ensures.value ∙ c.in-Ok.ensures.script)) ∙ subst (λ answer. IsAnswer answer (script_of c.deref.result.now)) parsed c.parse.ensures.exact in
    goes_quietly g.H.Host.world g.H.Host.tells c.args.host.now c.is_free.new.host c.refuse-in-Err.new.host (Ok (ToGenerate c.args.number name)) c.refuse-in-Err.result quiet
    (written_goes g.H.Host.world g.H.Host.tells c.is_free.new.host c.write_script.new.host c.args.number name c.requires
    (λ told. ap (λ (fs : Files). is_free_name fs name) quiet.still.files ∙ sym (c.in_ok-is_free.ensures.answer told) ∙ c.if-not-branch.false)
    (λ told. subst (λ bytes. Changes asked (g.H.Host.world c.write_script.new.host) (Only name) (Remade asked name (IsUnfinishedOr bytes))) text (c.write_script.ensures.left told)) c.write_script.ensures.gave
    (λ told. subst (IsKept (g.H.Host.world c.write_script.new.host) name) text (c.in_ok-write_script.ensures.kept told)) (Err refusal) read c.refuse-in-Err.new.host (g.met.H.Host.timely c.refuse-in-Err.new.host) (λ told. g.met.H.Host.reads_left c.refuse-in-Err.new.host told) c.refuse-in-Err.result
    (goes_refused g.H.Host.world g.H.Host.tells c.write_script.new.host c.refuse-in-Err.new.host (Err refusal) refusal c.refuse-in-Err.result refl c.refuse-in-Err.ensures.gave c.refuse-in-Err.ensures.line
    (λ told. script_number name (Some (generated c.args.number)) refusal read c.refuse-in-Err.result c.refuse-in-Err.ensures.ok)))
