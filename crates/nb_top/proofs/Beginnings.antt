-- What the call of the first statement gives to a run, whether it creates a database or opens one.
use Rattle.std.proofs.Common.{◌≡◌, ◌≢◌, ℕ, List, [], ◌++◌, Bool, sym, ap, subst, ◌∙◌, Result, Ok, Err, None, Some, IfOk, OnOk, if◌then◌else◌}
use Rattle.nb_top.proofs.Common.{World, Leaves, Untouched, AtEachMoment, IsTimely, Fault, Refused, Refusal, Usage, RunError, Other, GaveNothing, Quiet, Reply, Account, Base, IsMaking, line_text, Given, status_after, Event, Now, base_now, begun, opening, after_steps, steps_in, settled, status_refused, OfFiles, Held, NoPageWaits, name_of, IsAskable, Plan, IsReady, SaysLine, Status, EndsAs, number_of, ScriptByTurns, TurnsFrom, RunsTo, HasSmallScn, PlaysOpened, first_event, opened_reply, pages_first, refused_at, told_first, told_later, Telling, ToRun}
use Rattle.nb_model.specs.declared.reply.Reply.TheVariants.{Refused as RefusedReply}
use Rattle.nb_ended.specs.declared.status.Status.TheVariants.{Refused as RefusedStatus}
use Rattle.nb_top.proofs.BegunRuns.{Left, start, first_one, begun_fails, begun_runs}
use Rattle.nb_session.specs.ByTurns.{Ending}
use Rattle.nb_top.proofs.ByTurnsLaws.{IsAs, OpensBeside, script_turns}
use Rattle.nb_top.proofs.FirstLaws.{First}
use Rattle.nb_top.proofs.QuietRuns.{runs_quietly}
use Rattle.nb_top.proofs.ToldLaws.{Ran, performed_refused}
use Rattle.nb_top.proofs.RefusedRuns.{refused_runs}

-- It was done: the database is open, no other file was touched, and nothing was said or given.
pub record FirstDone (old mid : World) (account : Account) (given : Given) (plan : Plan) (telling : Telling) (askable : IsAskable plan) (held : Held) : Type 0 where
  pub first : First account given plan
  pub says : first.reply ≡ opened_reply plan.first held.files.count held.files.state
  pub counted : held.files.count ≡ pages_first account plan.first
  pub ready : IsReady mid held (settled (base_now first.now)) first.now
  pub making : IsMaking first.now
  pub named : name_of held ≡ first.target.name
  pub small : HasSmallScn account (Some first.target)
  pub alone : Untouched old mid (Other (OfFiles first.target.name))
  pub read : (m : List ℕ) → Other (OfFiles first.target.name) m → mid.files m ≡ old.files m
  pub silent : mid.said ≡ old.said
  pub gave : GaveNothing old mid
  pub opens : first.strokes ≡ [] → mid.files ≡ old.files
  pub stops : (n : ℕ) → AtEachMoment old mid (Left old account given plan telling askable first n)

-- It was refused, and nothing happened.
pub record FirstRefused (old mid : World) (account : Account) (given : Given) (plan : Plan) (refusal : Refusal) : Type 0 where
  pub quiet : Quiet old mid
  pub ran : Ran account given plan (refused_at plan.first_session refusal) account given
  pub ends : (opening account given plan.sessions plan.first_session plan.first).now ≡ None
  pub not_usage : refusal ≢ Usage

pub record Beginning (old : World) (account : Account) (given : Given) (plan : Plan) (telling : Telling) (askable : IsAskable plan) (mid : World) (result : Result Held Fault) : Type 0 where
  pub fails : (e : RunError) → RunsTo (Err e) old mid (Ok (ToRun plan telling)) account given
  pub refused : (refusal : Refusal) → result ≡ Err (Refused refusal) → FirstRefused old mid account given plan refusal
  pub done : (held : Held) → result ≡ Ok held → FirstDone old mid account given plan telling askable held
  -- whatever it ended as
  pub beside : OpensBeside old mid account given plan

module _ (old : World) (account : Account) (given : Given) (plan : Plan) (telling : Telling) (askable : IsAskable plan) (mid : World) where
  -- a refusal is said
  pub script_refused : (refusal : Refusal) → FirstRefused old mid account given plan refusal → (new : World) {S E : Type 0} (told : Result S E) (status : Result Status RunError) → SaysLine told mid new (line_text plan.first_session (RefusedReply refusal))
      → IfOk status (λ s. s ≡ RefusedStatus) → OnOk status (new.said ≡ mid.said ++ line_text plan.first_session (RefusedReply refusal)) → RunsTo status old new (Ok (ToRun plan telling)) account given
  script_refused refusal is new told status says ended said =
      runs_quietly status old mid new (Ok (ToRun plan telling)) account given is.quiet
      (refused_runs mid new plan.first_session refusal account given (Ok (ToRun plan telling)) told status (performed_refused telling plan account given plan.first_session refusal account given is.ran) says (numbered status ended)
      said)
    where
      numbered : (s : Result Status RunError) → IfOk s (λ x. x ≡ RefusedStatus) → IfOk s (λ x. number_of x ≡ status_after (RefusedReply refusal))
      numbered (Ok x) e = ap number_of e ∙ sym (status_refused refusal is.not_usage)
      numbered (Err x) e = tt

  module _ (held : Held) (is : FirstDone old mid account given plan telling askable held) where
    pub script_now : Now
    script_now = is.first.now

    pub script_todo : script_now.todo ≡ begun plan.sessions
    unfolding script_now
    script_todo = is.first.todo

    pub script_given : script_now.given ≡ given
    unfolding script_now
    script_given = is.first.given_is

    pub script_ready : IsReady mid held (settled (base_now script_now)) script_now
    unfolding script_now
    script_ready = is.ready

    pub script_making : IsMaking script_now
    unfolding script_now
    script_making = is.making

    -- the first statement with its reply
    abbrev done_first : Event
    done_first = first_event plan.first_session is.first.strokes (opened_reply plan.first held.files.count held.files.state)

    -- as it is told
    abbrev said_first : Event
    said_first = told_first telling done_first

    pub script_trail : after_steps (settled (start old account given plan telling askable is.first)) (steps_in done_first) ≡ settled (base_now script_now)
    unfolding script_now
    script_trail = ap (λ (r : Reply). after_steps (settled (start old account given plan telling askable is.first)) (steps_in (first_event plan.first_session is.first.strokes r))) (sym is.says) ∙ is.first.trail

    abbrev its_start : Base
    its_start = start old account given plan telling askable is.first

    says_it : {r : Result Bool RunError} (new : World) (after : Held) → PlaysOpened r mid new held after its_start said_first telling held.files.count is.first.now plan
        → PlaysOpened r mid new held after its_start (first_one old account given plan telling askable is.first) telling (pages_first account plan.first) is.first.now plan
    says_it {r} new after plays =
        subst (λ (n : ℕ). PlaysOpened r mid new held after its_start (first_one old account given plan telling askable is.first) telling n is.first.now plan) is.counted
        (subst (λ (x : Reply). PlaysOpened r mid new held after its_start (told_first telling (first_event plan.first_session is.first.strokes x)) telling held.files.count is.first.now plan) (sym is.says) plays)

    -- the turns ended early
    pub script_ends_early : (new : World) → IsTimely new → ((m : List ℕ) → Leaves new m (new.files m)) → (after : Held) (e : RunError) {f : RunError} → PlaysOpened (Err f) mid new held after (start old account given plan telling askable is.first) said_first telling held.files.count script_now plan → RunsTo (Err e) old new (Ok (ToRun plan telling)) account given
    unfolding script_now
    script_ends_early new timely reads after e plays =
        begun_fails old account given plan telling askable is.first mid new is.alone is.read is.silent is.gave is.opens is.stops held after is.named is.small timely reads e (says_it new after plays)

    -- all turns were taken
    pub script_ends : (new : World) → IsTimely new → ((m : List ℕ) → Leaves new m (new.files m)) → (after : Held) (refused : Bool) (status : Status) → number_of status ≡ (if refused then 1 else 0) → NoPageWaits after
        → PlaysOpened (Ok refused) mid new held after (start old account given plan telling askable is.first) said_first telling held.files.count script_now plan → RunsTo (Ok status) old new (Ok (ToRun plan telling)) account given
    unfolding script_now
    script_ends new timely reads after refused status number none plays =
        begun_runs old account given plan telling askable is.first mid new is.alone is.read is.silent is.gave is.opens is.stops held after is.named is.small timely reads refused status number none (says_it new after plays)

    -- they were taken, to the end or to what stopped them
    pub script_ran : (new : World) → IsTimely new → ((m : List ℕ) → Leaves new m (new.files m)) → (after : Held) (played : Result Bool RunError) (status : Result Status RunError) → EndsAs played status → IfOk played (λ refused. NoPageWaits after)
        → PlaysOpened played mid new held after (start old account given plan telling askable is.first) said_first telling held.files.count script_now plan → RunsTo status old new (Ok (ToRun plan telling)) account given
    script_ran new timely reads after (Ok refused) (Ok status) ends none plays = script_ends new timely reads after refused status ends none plays
    script_ran new timely reads after (Ok refused) (Err error) ends none plays = absurd ends
    script_ran new timely reads after (Err error) (Ok status) ends none plays = absurd ends
    script_ran new timely reads after (Err error) (Err same) ends none plays = script_ends_early new timely reads after same plays

-- Turn by turn.
module _ {H : Type 0} (world : H → World) (old mid : H) (account : Account) (given : Given) (plan : Plan) (telling : Telling) (askable : IsAskable plan) (beside : OpensBeside (world old) (world mid) account given plan) (held : Held)
    (is : FirstDone (world old) (world mid) account given plan telling askable held) where
  pub script_by_turns : (early ended : Ending) → IsAs ended early → (new : H)
      → TurnsFrom world ended plan.first (told_later telling held.files.count) mid new (script_now (world old) account given plan telling askable (world mid) held is) plan.schedule → ScriptByTurns world early old new plan telling account given
  unfolding script_now
  script_by_turns early ended so new turns =
      script_turns world early account given plan telling old mid new is.first.now ended so is.first.goes_on beside
      (subst (λ (n : ℕ). TurnsFrom world ended plan.first (told_later telling n) mid new is.first.now plan.schedule) is.counted turns)
