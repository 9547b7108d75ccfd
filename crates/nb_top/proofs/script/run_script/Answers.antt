use Rattle.std.proofs.Common.{[], ◌≡◌, ap, sym, subst, ◌∙◌, Ok, Err, IfOk, IsTrue, Result}
use Rattle.nb_top.proofs.Common.{CountsRun, FaultCount, Refused, GaveNothing, Account, Foretells, line_text, Given, grows_none, grows_joined, says_other, Knows, MayBeGiven, RunsTo, cache_asked, ToRun, ending_by, Fault}
use Rattle.nb_model.specs.declared.reply.Reply.TheVariants.{Refused as RefusedReply}
use Rattle.nb_top.proofs.Beginnings.{Beginning, script_refused, script_now, script_todo, script_given, script_ready, script_making, script_trail, script_ran, script_by_turns}
use Rattle.nb_top.proofs.ByTurnsLaws.{early_err, ended_so, script_early, script_none}
use Rattle.nb_top.proofs.BegunRuns.{start}
use Rattle.nb_top.proofs.QuietRuns.{foretold_from, no_given}
use Rattle.nb_top.proofs.ScriptRuns.{runs_err, settled_value, settled_refusal, script_begins, first_gave}
use Rattle.nb_state.specs.Beginnings.{Attaches}
use Rattle.nb_state.specs.Open.{Held}
use Rattle.nb_top.proofs.DangerLaws.{found_shown, none_shown}
use Rattle.nb_top.proofs.script.run_script.Goals as goal
use Rattle.nb_top.proofs.script.run_script.Goals.{After-open}

-- What the call of the first statement gives to the run, whatever it answered.
module _ (g : _) (c : goal.After-open g) (tells : IsTrue g.H.Host.tells) (account : Account) (knows : Knows (g.H.Host.world c.args.host.now).files account (Ok (ToRun c.args.script.now c.args.telling))) where
  begins : (given : Given) → MayBeGiven given → Beginning (g.H.Host.world c.args.host.now) account given c.args.script.now c.args.telling c.requires.askable (g.H.Host.world c.open.new.host) c.open.result
  begins given may =
      script_begins (g.H.Host.world c.args.host.now) account given c.args.script.now c.args.telling c.requires.askable knows may (g.H.Host.world c.open.new.host) c.open.result
      (λ name size raw cache is. c.open.ensures.creates name size raw cache tells (c.first.ensures ∙ is)) (λ name cache is. c.open.ensures.attaches name cache tells (c.first.ensures ∙ is))
      (λ name cache is. c.open.ensures.quiet name cache (c.first.ensures ∙ is)) c.open.ensures.scn
      (subst (λ s. IfOk c.open.result (λ h. h.cap ≡ cache_asked s)) c.first.ensures c.open.ensures.cap)

  gave : GaveNothing (g.H.Host.world c.args.host.now) (g.H.Host.world c.open.new.host)
  gave =
      first_gave (g.H.Host.world c.args.host.now) account no_given c.args.script.now c.args.telling c.requires.askable knows (g.H.Host.world c.open.new.host) c.open.result
      (λ name size raw cache is. c.open.ensures.creates name size raw cache tells (c.first.ensures ∙ is)) (λ name cache is. c.open.ensures.quiet name cache (c.first.ensures ∙ is))

pub returns-in_err-engine-clause-goes : goal.returns-in_err-engine-clause-goes
returns-in_err-engine-clause-goes g c =
    let at = (goal.at.returns-in_err-engine-clause-goes g c).After-open in
    let old = g.H.Host.world c.args.host.now in
    let mid = g.H.Host.world c.open.new.host in
    let plan = c.args.script.now in
    record {
      does = λ tells. (
        [],
        λ account given knows may told.
            let begun = begins g at tells account knows given may in
            record {
              whole = runs_err c.from_residual.result c.from_residual.ensures.0 (λ r. RunsTo r old mid (Ok (ToRun plan c.args.telling)) account given) begun.fails;
              turns = script_early g.H.Host.world (ending_by c.from_residual.result) account given plan c.args.telling c.args.host.now c.open.new.host (early_err c.from_residual.result c.from_residual.ensures.0) begun.beside;
            },
      );
      grows = λ account tells knows. grows_none old mid (gave g at tells account knows);
    }

pub returns-in-Ok-clause-goes : goal.returns-in-Ok-clause-goes
returns-in-Ok-clause-goes g c =
    let at = (goal.at.returns-in-Ok-clause-goes g c).After-open in
    let old = g.H.Host.world c.args.host.now in
    let mid = g.H.Host.world c.open.new.host in
    let new = g.H.Host.world c.run_opened.new.host in
    let plan = c.args.script.now in
    let asks = c.requires.askable in
    let held = c.in-Ok.engine in
    let opened = settled_value c.in_ok-engine.field-0 held (λ value. c.open.result ≡ Ok value) c.in-Ok.is c.in_ok-engine.ensures.value in
    record {
      does = λ tells. (
        (c.run_opened.ensures.plays tells).0,
        λ account given knows may told.
            let begun = begins g at tells account knows given may in
            let done = begun.done held opened in
            let later = subst (λ x. Foretells x ((c.run_opened.ensures.plays tells).0) mid new) (sym (script_given old account given plan c.args.telling asks mid held done)) (foretold_from old mid new given _ done.gave told) in
            let runs = (c.run_opened.ensures.plays tells).1 (script_now old account given plan c.args.telling asks mid held done) (start old account given plan c.args.telling asks done.first) done.first.strokes
            (script_ready old account given plan c.args.telling asks mid held done) (script_todo old account given plan c.args.telling asks mid held done)
            (script_making old account given plan c.args.telling asks mid held done) later (script_trail old account given plan c.args.telling asks mid held done) in
            record {
              whole = script_ran old account given plan c.args.telling asks mid held done new (g.met.H.Host.timely c.run_opened.new.host) (g.met.H.Host.reads_left c.run_opened.new.host tells) c.run_opened.new.engine c.run_opened.result c.ended_as.result c.ended_as.ensures.ended c.run_opened.ensures.none_waits runs.whole;
              turns = script_by_turns g.H.Host.world c.args.host.now c.open.new.host account given plan c.args.telling asks begun.beside held done (ending_by c.ended_as.result) _ (ended_so c.run_opened.result c.ended_as.result c.ended_as.ensures.ended) c.run_opened.new.host runs.turns;
            },
      );
      grows = λ account tells knows.
          let done = (begins g at tells account knows no_given tt).done held opened in
          grows_joined old mid new (grows_none old mid done.gave)
          (c.run_opened.ensures.grows (script_now old account no_given plan c.args.telling asks mid held done) tells (script_ready old account no_given plan c.args.telling asks mid held done)
          (script_todo old account no_given plan c.args.telling asks mid held done) (script_making old account no_given plan c.args.telling asks mid held done));
    }

pub returns-in-Ok-clause-cause : goal.returns-in-Ok-clause-cause
returns-in-Ok-clause-cause g c =
    let same : g.H.Host.faults c.open.new.host ≡ g.H.Host.faults c.args.host.now = c.in_ok-engine.ensures.cause _ _ c.open.ensures.cause in
    c.ended_as.ensures.cause _ _ (subst (λ (n : FaultCount). CountsRun c.run_opened.result n (g.H.Host.faults c.run_opened.new.host)) same c.run_opened.ensures.cause)

pub returns-in-Err-clause-goes : goal.returns-in-Err-clause-goes
returns-in-Err-clause-goes g c =
    let at = (goal.at.returns-in-Err-clause-goes g c).After-open in
    let old = g.H.Host.world c.args.host.now in
    let mid = g.H.Host.world c.open.new.host in
    let new = g.H.Host.world c.refuse.new.host in
    let plan = c.args.script.now in
    let refusal = c.in-Err.refusal in
    record {
      does = λ tells. (
        [],
        λ account given knows may told.
            let begun = begins g at tells account knows given may in
            let is = begun.refused refusal (settled_refusal c.in_ok-engine.field-0 refusal (λ r. c.open.result ≡ Err (Refused r)) c.in-Err.is c.in_ok-engine.ensures.refusal) in
            let says = says_other _ _ _ _ _ (ap (λ s. line_text s (RefusedReply refusal)) c.first_session.ensures.value) (c.refuse.ensures.line tells) in
            record {
              whole = script_refused old account given plan c.args.telling c.requires.askable mid refusal is new c.refuse.result c.refuse.result says c.refuse.ensures.ok says.said;
              turns = script_none g.H.Host.world (ending_by c.refuse.result) account given plan c.args.telling c.args.host.now c.refuse.new.host is.ends (says.still.files ∙ is.quiet.still.files);
            },
      );
      grows = λ account tells knows. grows_joined old mid new (grows_none old mid (gave g at tells account knows)) (grows_none mid new c.refuse.ensures.gave);
    }

pub returns-in-Ok-clause-danger : goal.returns-in-Ok-clause-danger
returns-in-Ok-clause-danger g c name cache statement tells first sessions =
    let old = g.H.Host.world c.args.host.now in
    let mid = g.H.Host.world c.open.new.host in
    let held = c.in-Ok.engine in
    let opened = settled_value c.in_ok-engine.field-0 held (λ value. c.open.result ≡ Ok value) c.in-Ok.is c.in_ok-engine.ensures.value in
    let attached = subst (λ (a : Result Held Fault). Attaches a old mid name) opened (c.open.ensures.attaches name cache tells (c.first.ensures ∙ first)) in
    found_shown old.files name attached.base statement c.run_opened.new.danger c.run_opened.result c.ended_as.result c.ended_as.ensures.ended attached.stands
    (c.run_opened.ensures.danger statement _ tells attached.opened sessions)

pub returns-in-Err-clause-danger : goal.returns-in-Err-clause-danger
returns-in-Err-clause-danger g c name cache statement tells first sessions =
    let refusal = c.in-Err.refusal in
    none_shown (g.H.Host.world c.args.host.now) (g.H.Host.world c.open.new.host) name c.open.result refusal statement c.args.danger.now c.refuse.result
    (settled_refusal c.in_ok-engine.field-0 refusal (λ r. c.open.result ≡ Err (Refused r)) c.in-Err.is c.in_ok-engine.ensures.refusal) (c.open.ensures.attaches name cache tells (c.first.ensures ∙ first))
