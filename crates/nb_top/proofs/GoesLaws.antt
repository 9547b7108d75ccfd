-- What is done of what is asked for, put together.
use Rattle.std.proofs.Common.{◌≡◌, List, [], ℕ, sym, subst, Bool, IsTrue, Result, Ok, Err, IsErr, IfErr, IfOk, true, false, refl}
use Rattle.nb_top.proofs.Common.{Files, World, Leaves, LeavesAll, IsTimely, Fault, Refusal, RunError, GaveNothing, Quiet, Deed, Reply, Account, line_text, Given, status_after, SaysLine, grows_none, grows_joined, Status, Done, AskedByTurns, Goes, IsDone, number_of, OneTurn, one_turn, GoesTo, KnowsAsked, MayBeGiven, Performs, Request, Asked, Runs, Does, Serves, TurnsTo, reply_told, status_told, quiet_gave, true≢false, EndsSo, Ships}
use Rattle.nb_host.specs.declared.faults.Fault.TheVariants.{Refused as RefusedFault}
use Rattle.nb_model.specs.declared.reply.Reply.TheVariants.{Refused as RefusedReply}
use Rattle.nb_ended.specs.declared.status.Status.TheVariants.{Device, Memory}
use Rattle.nb_host.specs.declared.faults.RunError.TheVariants.{Device as DeviceError, Memory as MemoryError}
use Rattle.nb_host.specs.declared.faults.Fault.TheVariants.{Device as DeviceFault, Memory as MemoryFault}
use Rattle.nb_top.specs.Done.{GoesOn}
use Rattle.nb_top.specs.Goes.{IsRun}
use Rattle.nb_top.specs.ByTurns.{ending_by}
use Rattle.nb_top.proofs.ByTurnsLaws.{asked_so, device_so, early_err, memory_so, run_quietly, run_undone}
use Rattle.nb_top.specs.Shipped.{ShipsByPlan, status_of_end}
use Rattle.nb_top.proofs.JobRuns.{job_refused, performs_device, performs_ended, performs_memory, undone_goes}
use Rattle.nb_top.proofs.QuietRuns.{foretold_from, knows_quietly, runs_quietly}
use Rattle.nb_top.proofs.RequestLaws.{CanBeMet}
use Rattle.nb_top.proofs.ScriptRuns.{runs_err}
use Rattle.nb_top.proofs.Turns.{turn_done, turn_fails, turn_quietly, turn_refused, turn_unsaid}

-- a run that begins with calls that change nothing
pub goes_quietly : {H : Type 0} (world : H → World) (tells : Bool) (old mid new : H) (asked : Result Request Refusal) (result : Result Status RunError) → Quiet (world old) (world mid) → Goes world tells result mid new (Runs asked)
    → Goes world tells result old new (Runs asked)
goes_quietly world tells old mid new asked result quiet goes = record {
  does = λ told. (
    (goes.does told).0,
    λ account given knows may foretold.
        let done = (goes.does told).1 account given (knows_quietly (world old) (world mid) account asked quiet knows) may (foretold_from (world old) (world mid) (world new) given _ (quiet_gave (world old) (world mid) quiet) foretold) in
        record {
          whole = runs_quietly result (world old) (world mid) (world new) asked account given quiet done.whole;
          turns = run_quietly world (ending_by result) old mid new quiet account given asked done.turns;
        },
  );
  grows = λ account told knows.
      grows_joined (world old) (world mid) (world new) (grows_none (world old) (world mid) (quiet_gave (world old) (world mid) quiet))
      (goes.grows account told (knows_quietly (world old) (world mid) account asked quiet knows));
}

-- What is asked for is another thing, where the host tells, of which all of this is known.
pub goes_same : {H : Type 0} (world : H → World) (tells : Bool) (old new : H) (asked known : Asked) (result : Result Status RunError) → (IsTrue tells → asked ≡ known) → Goes world tells result old new known → Goes world tells result old new asked
goes_same world true old new asked known result same goes = subst (λ (a : Asked). Goes world true result old new a) (sym (same refl)) goes
goes_same world false old new asked known result same goes = untold asked
  where
    never : IsTrue false → ⊥
    never told = true≢false (sym told)

    untold : (a : Asked) → Goes world false result old new a
    untold (Runs request) = record { does = λ told. absurd (never told); grows = λ account told knows. absurd (never told) }
    untold (Does deed) = record { does = λ told. absurd (never told); grows = λ account told knows. absurd (never told) }
    untold (Ships primary standby) = λ told. absurd (never told)

-- nothing was done
goes_on_undone : {H : Type 0} (world : H → World) (tells : Bool) (old new : H) (asked : Asked) (result : Result Status RunError) → CanBeMet asked → IsErr result → Quiet (world old) (world new) → GoesOn world tells result old new asked
goes_on_undone world tells old new asked result can failed quiet = record {
  does = λ told. (
    [],
    λ account given knows may foretold. record {
      whole = runs_err result failed (λ r. GoesTo r (world old) (world new) asked account given) (λ e. undone_goes (world old) (world new) account given e quiet asked can knows);
      turns = turns_undone account given asked;
    },
  );
  grows = λ account told knows. grows_none (world old) (world new) (quiet_gave (world old) (world new) quiet);
}
  where
    turns_undone : (account : Account) (given : Given) (a : Asked) → AskedByTurns world (ending_by result) old new a account given
    turns_undone account given (Runs a) = run_undone world (ending_by result) (early_err result failed) old new quiet account given a
    turns_undone account given (Does deed) = tt
    turns_undone account given (Ships primary standby) = tt

ship_undone : {H : Type 0} (world : H → World) (tells : Bool) (old new : H) (primary standby : List ℕ) (result : Result Status RunError) → IsErr result → Quiet (world old) (world new) → ShipsByPlan world tells result old new primary standby
ship_undone world tells old new primary standby (Ok status) failed quiet = absurd (true≢false (sym failed))
ship_undone world tells old new primary standby (Err DeviceError) failed quiet = record { planned = Err DeviceFault; mid = new; quiet = quiet; plan = tt; after = (refl, refl) }
ship_undone world tells old new primary standby (Err MemoryError) failed quiet = record { planned = Err MemoryFault; mid = new; quiet = quiet; plan = tt; after = (refl, refl) }

pub goes_undone : {H : Type 0} (world : H → World) (tells : Bool) (old new : H) (asked : Asked) (result : Result Status RunError) → CanBeMet asked → IsErr result → Quiet (world old) (world new) → Goes world tells result old new asked
goes_undone world tells old new (Runs request) result can failed quiet = goes_on_undone world tells old new (Runs request) result can failed quiet
goes_undone world tells old new (Does deed) result can failed quiet = goes_on_undone world tells old new (Does deed) result can failed quiet
goes_undone world tells old new (Ships primary standby) result can failed quiet = λ told. ship_undone world tells old new primary standby result failed quiet

-- a refusal is said to session 0, and that is all
pub goes_refused : {H : Type 0} (world : H → World) (tells : Bool) (old new : H) (asked : Result Request Refusal) (refusal : Refusal) (result : Result Status RunError) → asked ≡ Err refusal → GaveNothing (world old) (world new) → (IsTrue tells → SaysLine result (world old) (world new) (line_text 0 (RefusedReply refusal)))
    → (IsTrue tells → IfOk result (λ status. number_of status ≡ status_after (RefusedReply refusal))) → Goes world tells result old new (Runs asked)
goes_refused world tells old new asked refusal result is gave says number = record {
  does = λ tell. (
    [],
    λ account given knows may foretold. record {
      whole = job_refused result result (world old) (world new) asked refusal account given is (says tell) (number tell) (says tell).said;
      turns = subst (λ (a : Result Request Refusal). AskedByTurns world (ending_by result) old new (Runs a) account given) (sym is) (says tell).still.files;
    },
  );
  grows = λ account tell knows. grows_none (world old) (world new) gave;
}

-- a job of one turn
pub turn_goes : {H : Type 0} (world : H → World) (tells : Bool) (old new : H) (deed : Deed) (result : Result Status RunError)
    → ((account : Account) → IsTrue tells → (one_turn (world old).files deed).knows account → TurnsTo result (world old) (world new) (one_turn (world old).files deed) account) → Goes world tells result old new (Does deed)
turn_goes world tells old new deed result turns = record {
  does = λ told. ([], λ account given knows may foretold. record { whole = turns account told knows; turns = tt });
  grows = λ account told knows. grows_none (world old) (world new) (turns account told knows).gave;
}

-- Its turn was taken.
module _ {H : Type 0} (world : H → World) (tells : Bool) (old mid : H) (deed : Deed) (taken : Result Reply Fault)
    (serves : (account : Account) → IsTrue tells → (one_turn (world old).files deed).knows account → Serves taken (world old) (world mid) (one_turn (world old).files deed) ((one_turn (world old).files deed).turn account)) where
  abbrev its_job : OneTurn
  its_job = one_turn (world old).files deed

  -- it ended early
  pub taken_fails : (result : Result Status RunError) → IsErr result → Goes world tells result old mid (Does deed)
  taken_fails result failed =
      turn_goes world tells old mid deed result
      (λ account told knows. runs_err result failed (λ r. TurnsTo r (world old) (world mid) its_job account) (turn_fails (world old) (world mid) its_job account taken (serves account told knows)))

  -- its reply is said, or its refusal
  pub taken_said : (new : H) → IsTimely (world new) → (IsTrue tells → LeavesAll (world new) (world new).files) → (answer : Result Reply Refusal) → IfOk answer (λ reply. taken ≡ Ok reply) → IfErr answer (λ refusal. taken ≡ Err (RefusedFault refusal))
      → (result : Result Status RunError) → (IsTrue tells → SaysLine result (world mid) (world new) (line_text 1 (reply_told answer))) → IfOk result (λ status. status ≡ status_told answer) → Goes world tells result old new (Does deed)
  taken_said new timely reads (Ok reply) same none (Ok status) says ended =
      subst (λ (s : Status). Goes world tells (Ok s) old new (Does deed)) (sym ended)
      (turn_goes world tells old new deed (Ok Done)
      (λ account told knows. turn_done (world old) (world mid) its_job account taken (serves account told knows) reply same (world new) timely (reads told) (Ok status) (says told) (says told).said))
  taken_said new timely reads (Ok reply) same none (Err e) says ended =
      turn_goes world tells old new deed (Err e)
      (λ account told knows. turn_unsaid (world old) (world mid) its_job account taken (serves account told knows) reply same (world new) timely (reads told) (Err e) (says told) e)
  taken_said new timely reads (Err refusal) none same result says ended =
      turn_goes world tells old new deed result
      (λ account told knows. turn_refused (world old) (world mid) its_job account taken (serves account told knows) refusal same (world new) timely (reads told) result (says told) result ended (says told).said)

-- The files that a job of one turn reads are those that stood before calls that change nothing.
pub goes_turn_quietly : {H : Type 0} (world : H → World) (tells : Bool) (old mid new : H) (deed : Deed) (result : Result Status RunError) → Quiet (world old) (world mid) → Goes world tells result mid new (Does deed) → Goes world tells result old new (Does deed)
goes_turn_quietly world tells old mid new deed result quiet goes = record {
  does = λ told. (
    (goes.does told).0,
    λ account given knows may foretold. record {
      whole =
          turn_quietly (world old) (world mid) (world new) quiet (job (world old).files) account result
          (subst (λ (f : Files). TurnsTo result (world mid) (world new) (job f) account) same
          ((goes.does told).1 account given (subst (λ (f : Files). (job f).knows account) (sym same) knows) may (foretold_from (world old) (world mid) (world new) given _ (quiet_gave (world old) (world mid) quiet) foretold)).whole);
      turns = tt;
    },
  );
  grows = λ account told knows.
      grows_joined (world old) (world mid) (world new) (grows_none (world old) (world mid) (quiet_gave (world old) (world mid) quiet)) (goes.grows account told (subst (λ (f : Files). (job f).knows account) (sym same) knows));
}
  where
    job : Files → OneTurn
    job files = one_turn files deed

    same : (world mid).files ≡ (world old).files
    same = quiet.still.files

-- What a run does that ends so.
module _ {H : Type 0} (world : H → World) (tells : Bool) (old new : H) (asked : Asked) (can : CanBeMet asked) (before : IsTrue tells → (name : List ℕ) → Leaves (world old) name ((world old).files name)) (timely : IsTimely (world new))
    (reads : IsTrue tells → (name : List ℕ) → Leaves (world new) name ((world new).files name)) where
  run_as : (result : Result Status RunError) (status : Status) → ((account : Account) (given : Given) → MayBeGiven given → IsTrue tells → GoesTo result (world old) (world new) asked account given → Performs status (world old) (world new) asked account given)
      → ((account : Account) (given : Given) → AskedByTurns world (ending_by result) old new asked account given → AskedByTurns world (ending_by (Ok status)) old new asked account given) → GoesOn world tells result old new asked → EndsSo world tells status old new asked
  run_as result status performs turns goes = record {
    does = λ told. (
      (goes.does told).0,
      λ account given knows may foretold.
          let done = (goes.does told).1 account given knows may foretold in
          record { whole = performs account given may told done.whole; turns = turns account given done.turns },
    );
    grows = goes.grows;
  }

  -- by what ended it
  pub ended_so : (result : Result Status RunError) → GoesOn world tells result old new asked → EndsSo world tells (status_of_end result) old new asked
  ended_so (Ok status) goes =
      run_as (Ok status) status (λ account given may told. performs_ended (world old) (world new) account given may (before told) timely (reads told) asked can status) (λ account given turns. turns) goes
  ended_so (Err DeviceError) goes =
      run_as (Err DeviceError) Device (λ account given may told. performs_device (world old) (world new) account given may (before told) timely (reads told) asked can DeviceError) (λ account given. asked_so world (ending_by (Err DeviceError)) (ending_by (Ok Device)) (device_so DeviceError) old new asked account given) goes
  ended_so (Err MemoryError) goes =
      run_as (Err MemoryError) Memory (λ account given may told. performs_memory (world old) (world new) account given may (before told) timely (reads told) asked can MemoryError) (λ account given. asked_so world (ending_by (Err MemoryError)) (ending_by (Ok Memory)) memory_so old new asked account given) goes

pub run_ends : {H : Type 0} (world : H → World) (tells : Bool) (old new : H) (asked : Asked) → CanBeMet asked → (IsTrue tells → (name : List ℕ) → Leaves (world old) name ((world old).files name)) → IsTimely (world new)
    → (IsTrue tells → (name : List ℕ) → Leaves (world new) name ((world new).files name)) → (result : Result Status RunError) → Goes world tells result old new asked → IsRun world tells (status_of_end result) old new asked
run_ends world tells old new (Runs request) can before timely reads result goes = ended_so world tells old new (Runs request) can before timely reads result goes
run_ends world tells old new (Does deed) can before timely reads result goes = ended_so world tells old new (Does deed) can before timely reads result goes
run_ends world tells old new (Ships primary standby) can before timely reads result goes = record { result = result; ended = refl; goes = goes }
