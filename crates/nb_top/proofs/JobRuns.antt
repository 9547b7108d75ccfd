-- A job is done, from the words to its end.
use Rattle.std.proofs.Common.{◌≡◌, ◌≢◌, inl, ⊎_elim, ℕ, List, [], ◌++◌, length, take, refl, sym, ap, subst, ◌∙◌, arith, Result, Ok, Err, IfOk, IfErr, OnOk}
use Rattle.nb_top.proofs.Common.{File, Files, World, Leaves, IsNow, IsTimely, AtEachMoment, Refusal, Usage, RunError, left_before, weaker, Quiet, Deed, Account, line_text, Given, status_after, IsNoneOf, Event, files_made, steps_of, status_refused, SaysLine, Status, number_of, HasSmallScn, RunLeft, RunReads, RunStands, RunsTo, GoesTo, KnowsAsked, Performs, PerformsRun, StandsAfter, Finished, IsPerformed, IsSure, IsUndone, Knows, MayBeGiven, kept_after, target_of, first_event, refused_job, HoldsKept, StandsFor, Request, ToRun, ToGenerate, Asked, Runs, Does, Ships, script_in, DoesTurn, FitsDeed, TurnEnded, one_turn, TurnsTo}
use Rattle.nb_model.specs.declared.reply.Reply.TheVariants.{Refused as RefusedReply}
use Rattle.nb_ended.specs.declared.status.Status.TheVariants.{Refused as RefusedStatus, Usage as UsageStatus, Device, Memory}
use Rattle.nb_top.proofs.Deeds.{sound_deed}
use Rattle.nb_top.proofs.GeneratedRuns.{generated_unbegun}
use Rattle.nb_top.proofs.GeneratedSure.{generated_after, generated_left, generated_end}
use Rattle.nb_top.proofs.LeftLaws.{left_first, first_count}
use Rattle.nb_top.proofs.MadeRuns.{none_alone}
use Rattle.nb_top.proofs.QuietRuns.{left_quietly}
use Rattle.nb_top.proofs.ReadsLaws.{reads_quiet}
use Rattle.nb_top.proofs.RefusedRuns.{refused_runs}
use Rattle.nb_top.proofs.RequestLaws.{CanBeAsked, CanBeMet}
use Rattle.nb_top.proofs.ScriptRead.{refused_script}
use Rattle.nb_top.proofs.ScriptRuns.{script_unbegun}
use Rattle.nb_top.proofs.SureFiles.{kept_none, still_stands}
use Rattle.nb_top.proofs.SureRuns.{script_after, script_left, script_end}
use Rattle.nb_top.proofs.Turns.{quiet_turn}
use Rattle.nb_top.proofs.TurnsStand.{turn_stands}

-- Nothing was done.
module _ (old new : World) (account : Account) (given : Given) (e : RunError) (quiet : Quiet old new) where
  refused_undone : (refusal : Refusal) → RunsTo (Err e) old new (Err refusal) account given
  refused_undone refusal = record {
    events = refused_job refusal;
    last = account;
    left = given;
    performed = (refl, refl, refl);
    opened = inl tt;
    stops = left_quietly old new account (target_of (Err refusal) (refused_job refusal)) (refused_job refusal) quiet;
    reads = reads_quiet old new quiet account (target_of (Err refusal) (refused_job refusal)) (refused_job refusal);
    finished = tt;
  }

  request_undone : (r : Request) → CanBeAsked r → Knows old.files account (Ok r) → RunsTo (Err e) old new (Ok r) account given
  request_undone (ToRun plan telling) can knows = script_unbegun old account given plan telling can knows new e quiet
  request_undone (ToGenerate number name) can knows = generated_unbegun old number name account given can knows new e quiet

  pub undone_goes : (asked : Asked) → CanBeMet asked → KnowsAsked old.files account asked → GoesTo (Err e) old new asked account given
  undone_goes (Runs (Err refusal)) can knows = refused_undone refusal
  undone_goes (Runs (Ok r)) can knows = request_undone r can knows
  undone_goes (Does deed) can knows = quiet_turn old new (one_turn old.files deed) ((one_turn old.files deed).turn account) quiet account refl e
  undone_goes (Ships primary standby) can knows = tt

-- a refusal to session 0
pub job_refused : {S E : Type 0} (told : Result S E) (result : Result Status RunError) (old new : World) (asked : Result Request Refusal) (refusal : Refusal) (account : Account) (given : Given) → asked ≡ Err refusal
    → SaysLine told old new (line_text 0 (RefusedReply refusal)) → IfOk result (λ status. number_of status ≡ status_after (RefusedReply refusal)) → OnOk result (new.said ≡ old.said ++ line_text 0 (RefusedReply refusal)) → RunsTo result old new asked account given
job_refused told result old new asked refusal account given is says number said =
    subst (λ (a : Result Request Refusal). RunsTo result old new a account given) (sym is) (refused_runs old new 0 refusal account given (Err refusal) told result (refl, refl, refl) says number said)

-- of a script
pub script_number : (name : List ℕ) (file : File) (refusal : Refusal) → script_in name file ≡ Err refusal → (result : Result Status RunError) → IfOk result (λ status. status ≡ RefusedStatus) → IfOk result (λ status. number_of status ≡ status_after (RefusedReply refusal))
script_number name file refusal is (Ok status) ended = ap number_of ended ∙ sym (status_refused refusal (refused_script name file refusal is))
script_number name file refusal is (Err e) ended = tt

-- of words that name no job
pub usage_number : (result : Result Status RunError) → IfOk result (λ status. status ≡ UsageStatus) → IfOk result (λ status. number_of status ≡ status_after (RefusedReply Usage))
usage_number (Ok status) ended = ap number_of ended
usage_number (Err e) ended = tt

-- a refusal makes no file
none_refused : (events : List Event) (refusal : Refusal) → events ≡ refused_job refusal → (m : List ℕ) → IsNoneOf (files_made events) m
none_refused events refusal is m = subst (λ (es : List Event). IsNoneOf (files_made es) m) (sym is) (none_alone (first_event 0 [] (RefusedReply refusal)) refl m)

-- Where it is sure, what a crash leaves stands for an account.
module _ (old : World) (account : Account) (given : Given) (sixteen : MayBeGiven given) (before : (name : List ℕ) → Leaves old name (old.files name)) (events : List Event) (last : Account) (left : Given) where
  sure_left : (asked : Result Request Refusal) → CanBeMet (Runs asked) → IsPerformed old.files asked account given events last left → IsSure old account events → HasSmallScn account (target_of asked events)
      → (files : Files) (said : List ℕ) (l : RunLeft old account (target_of asked events) events files said) → HoldsKept files (kept_after account (target_of asked events) (take l.count (steps_of events)))
  sure_left (Err refusal) can performed sure small files said l = sure.stands.left files (λ m. l.others m tt (none_refused events refusal performed.0 m))
  sure_left (Ok (ToRun plan telling)) can performed sure small files said l = script_left old plan telling can account given before events last left performed sixteen sure small files said l
  sure_left (Ok (ToGenerate number name)) can performed sure small files said l =
      generated_left old number name account given can before sixteen events last left performed sure files said l

  -- after it, however it ended
  sure_after : (asked : Result Request Refusal) → CanBeMet (Runs asked) → IsPerformed old.files asked account given events last left → IsSure old account events → HasSmallScn account (target_of asked events)
      → (new : World) → IsTimely new → ((name : List ℕ) → Leaves new name (new.files name)) → AtEachMoment old new (RunLeft old account (target_of asked events) events) → RunReads old new account (target_of asked events) events
      → (later : Account) × StandsFor new later × (later.kept ≡ kept_after account (target_of asked events) (take (length (steps_of events)) (steps_of events)))
  sure_after (Err refusal) can performed sure small new timely reads stops beside = (
    account,
    still_stands old new account sure.stands reads (λ m. beside.others m tt (none_refused events refusal performed.0 m))
        (λ files leaves m. (stops.each files new.said (timely.counts_now old.moment files stops.later leaves)).others m tt (none_refused events refusal performed.0 m)),
    refl,
  )
  sure_after (Ok (ToRun plan telling)) can performed sure small new timely reads stops beside = script_after old plan telling can account given before events last left performed sixteen sure small new timely reads stops beside
  sure_after (Ok (ToGenerate number name)) can performed sure small new timely reads stops beside =
      generated_after old number name account given can before sixteen events last left performed sure new timely reads stops beside

  -- at its end
  sure_end : (asked : Result Request Refusal) → CanBeMet (Runs asked) → IsPerformed old.files asked account given events last left → IsSure old account events → HasSmallScn account (target_of asked events)
      → (new : World) → IsTimely new → ((name : List ℕ) → Leaves new name (new.files name)) → AtEachMoment old new (RunLeft old account (target_of asked events) events)
      → RunReads old new account (target_of asked events) events → (status : Status) → Finished status old new account (target_of asked events) events given left → StandsFor new last
  sure_end (Err refusal) can performed sure small new timely reads stops beside status done =
      subst (StandsFor new) (sym performed.1)
      (still_stands old new account sure.stands reads (λ m. beside.others m tt (none_refused events refusal performed.0 m))
      (λ files leaves m. (stops.each files new.said (timely.counts_now old.moment files stops.later leaves)).others m tt (none_refused events refusal performed.0 m)))
  sure_end (Ok (ToRun plan telling)) can performed sure small new timely reads stops beside status done =
      script_end old plan telling can account given before events last left performed sixteen sure small new timely reads stops beside status done
  sure_end (Ok (ToGenerate number name)) can performed sure small new timely reads stops beside status done =
      generated_end old number name account given can before sixteen events last left performed sure new timely reads stops beside status done

module _ (old new : World) (asked : Result Request Refusal) (can : CanBeMet (Runs asked)) (account : Account) (given : Given) (sixteen : MayBeGiven given)
    (before : (name : List ℕ) → Leaves old name (old.files name)) (timely : IsTimely new) (reads : (name : List ℕ) → Leaves new name (new.files name)) where
  abbrev Goes : Result Status RunError → Type 0
  Goes result = RunsTo result old new asked account given

  undone_quiet : (result : Result Status RunError) → IsUndone result old new → Quiet old new
  undone_quiet (Ok status) undone = absurd undone
  undone_quiet (Err e) undone = undone

  never_ended : {P : Type 0} (result : Result Status RunError) → IsUndone result old new → IfErr result (λ e. ⊥) → P
  never_ended (Ok status) undone ended = absurd undone
  never_ended (Err e) undone ended = absurd ended

  -- what is left now is what reads now
  performs : (status : Status) (result : Result Status RunError) (runs : Goes result)
      → (status ≢ Device → status ≢ Memory → IfErr result (λ e. ⊥) × Finished status old new account (target_of asked runs.events) runs.events given runs.left) → PerformsRun status old new asked account given
  performs status result runs ends = ⊎_elim
      (λ small.
      with_stops (weaker old new _ _ runs.stops (λ files said left. record { left = left; stands = λ sure. sure_left old account given sixteen before runs.events runs.last runs.left asked can runs.performed sure small files said left }))
      (λ sure.
      let its = sure_after old account given sixteen before runs.events runs.last runs.left asked can runs.performed sure small new timely reads runs.stops runs.reads in
      record {
        count = length (steps_of runs.events);
        last = λ files leaves. let l = runs.stops.each files new.said (timely.counts_now old.moment files runs.stops.later leaves) in (l, l.front.most);
        later = its.0;
        stands = its.1;
        kept = its.2;
      })
      (λ d m sure. sure_end old account given sixteen before runs.events runs.last runs.left asked can runs.performed sure small new timely reads runs.stops runs.reads status (ends d m).1))
      (λ undone.
      with_stops (weaker old new _ _ (undone_quiet result undone).moments nothing_left) (nothing_after (undone_quiet result undone))
      (λ d m. never_ended result undone (ends d m).0))
      runs.opened
    where
      At : Files → List ℕ → Type 0
      At = RunStands old account asked runs.events

      with_stops : AtEachMoment old new At → (IsSure old account runs.events → StandsAfter old new account (target_of asked runs.events) runs.events) → (status ≢ Device → status ≢ Memory → IsSure old account runs.events → StandsFor new runs.last) → PerformsRun status old new asked account given
      with_stops stops behind ended = record {
        events = runs.events;
        last = runs.last;
        left = runs.left;
        performed = runs.performed;
        stops = stops;
        now = stops.each new.files new.said (timely.counts_now old.moment new.files stops.later reads);
        reads = runs.reads;
        after = behind;
        finished = λ d m. (ends d m).1;
        stands = ended;
      }

      nothing_left : (files : Files) (said : List ℕ) → IsNow old files said → At files said
      nothing_left files said is = record {
        left = left_first old account (target_of asked runs.events) runs.events files said is;
        stands = λ sure. subst (HoldsKept files)
            (sym (ap (λ (n : ℕ). kept_after account (target_of asked runs.events) (take n (steps_of runs.events))) (first_count old account (target_of asked runs.events) runs.events files said is) ∙ kept_none account (target_of asked runs.events)))
            (sure.stands.left files is.left);
      }

      -- what stood before stands then
      nothing_after : Quiet old new → IsSure old account runs.events → StandsAfter old new account (target_of asked runs.events) runs.events
      nothing_after quiet sure = record {
        count = 0;
        last = λ files leaves.
            let is : IsNow old files new.said = record { left = λ m. left_before old new _ quiet.still.left m (files m) tt (leaves m); output = quiet.said } in
            (left_first old account (target_of asked runs.events) runs.events files new.said is, omega (arith, first_count old account (target_of asked runs.events) runs.events files new.said is));
        later = account;
        stands = still_stands old new account sure.stands reads (λ m. ap (λ (f : Files). f m) quiet.still.files) (λ files leaves m. left_before old new _ quiet.still.left m (files m) tt (leaves m));
        kept = sym (kept_none account (target_of asked runs.events));
      }

  run_ended : (status : Status) → Goes (Ok status) → PerformsRun status old new asked account given
  run_ended status runs = performs status (Ok status) runs (λ d m. (tt, runs.finished))

  run_device : (e : RunError) → Goes (Err e) → PerformsRun Device old new asked account given
  run_device e runs = performs Device (Err e) runs (λ d m. absurd (d refl))

  run_memory : (e : RunError) → Goes (Err e) → PerformsRun Memory old new asked account given
  run_memory e runs = performs Memory (Err e) runs (λ d m. absurd (m refl))

-- What is done of what is asked for, by the status that ends it.
module _ (old new : World) (account : Account) (given : Given) (sixteen : MayBeGiven given) (before : (name : List ℕ) → Leaves old name (old.files name)) (timely : IsTimely new) (reads : (name : List ℕ) → Leaves new name (new.files name)) where
  does_turn : (deed : Deed) → FitsDeed deed → (status : Status) (result : Result Status RunError) → TurnsTo result old new (one_turn old.files deed) account
      → (status ≢ Device → status ≢ Memory → TurnEnded status old new (one_turn old.files deed) ((one_turn old.files deed).turn account)) → DoesTurn status old new (one_turn old.files deed) account
  does_turn deed fits status result turns ends = record {
    stops = turns.stops;
    reads = turns.reads;
    gave = turns.gave;
    ended = ends;
    stands = λ stands takes. turn_stands old account (one_turn old.files deed) stands before ((sound_deed deed fits).stands old account stands takes) new timely reads turns.stops turns.reads status ends;
  }

  pub performs_ended : (asked : Asked) → CanBeMet asked → (status : Status) → GoesTo (Ok status) old new asked account given → Performs status old new asked account given
  performs_ended (Runs asked) can status runs = run_ended old new asked can account given sixteen before timely reads status runs
  performs_ended (Does deed) can status turns = does_turn deed can status (Ok status) turns (λ d m. turns.ended)
  performs_ended (Ships primary standby) can status none = tt

  pub performs_device : (asked : Asked) → CanBeMet asked → (e : RunError) → GoesTo (Err e) old new asked account given → Performs Device old new asked account given
  performs_device (Runs asked) can e runs = run_device old new asked can account given sixteen before timely reads e runs
  performs_device (Does deed) can e turns = does_turn deed can Device (Err e) turns (λ d m. absurd (d refl))
  performs_device (Ships primary standby) can e none = tt

  pub performs_memory : (asked : Asked) → CanBeMet asked → (e : RunError) → GoesTo (Err e) old new asked account given → Performs Memory old new asked account given
  performs_memory (Runs asked) can e runs = run_memory old new asked can account given sixteen before timely reads e runs
  performs_memory (Does deed) can e turns = does_turn deed can Memory (Err e) turns (λ d m. absurd (m refl))
  performs_memory (Ships primary standby) can e none = tt
