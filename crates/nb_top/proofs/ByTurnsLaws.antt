-- A run turn by turn, put together from the calls that it makes.
use Rattle.std.proofs.Common.{◌≡◌, inl, inr, ⊎_elim, ℕ, ◌-◌, List, [], ◌∷◌, ◌++◌, sym, ap, subst, ◌∙◌, Bool, true, false, not, Option, None, Some, Result, Ok, Err, IsErr}
use Rattle.nb_top.proofs.Common.{World, LeavesAll, IsTimely, Refusal, FileExists, RunError, Only, Quiet, Plain, Account, with_entry, Cause, is_free_entry, not_free, generated, Given, output, Event, Now, Played, opening, play, rounds, files_made, Trail, OfFiles, Held, name_of, Plan, script_of, IsSaid, LeavesOthers, SaysLine, Statement, OpenDb, Plays, leaves_line, leaves_quiet, leaves_then, Status, Telling, Sparingly, AskedByTurns, EndsEarly, ReadByTurns, RunByTurns, ScriptByTurns, StillWhereOpened, TakesTold, TurnsFrom, WrittenByTurns, EndsAs, pages_first, told_later, Request, ToRun, ToGenerate, no_err}
use Rattle.std.specs.List.{slice_index_or}
use Rattle.nb_host.specs.declared.faults.RunError.TheVariants.{Device as DeviceError, Memory as MemoryError}
use Rattle.nb_model.specs.Outcomes.{Turn}
use Rattle.nb_model.specs.Run.{base_now, one_turn}
use Rattle.nb_model.specs.Steps.{steps_of, after_steps}
use Rattle.nb_model.specs.Trail.{settled}
use Rattle.nb_ended.specs.declared.status.Status.TheVariants.{Done, Refused, Usage, Device, Memory}
use Rattle.nb_session.specs.ByTurns.{ByTurns, Ending, EndsInLast, GoesByTurns, SaidInLast, ending_of}
use Rattle.nb_session.specs.Ended.{EndsFirst}
use Rattle.nb_top.specs.ByTurns.{ending_by}
use Rattle.nb_top.specs.Requests.{Asked, Runs, Does, Ships}
use Rattle.nb_session.specs.Todo.{PlaysInTurn}
use Rattle.nb_session.specs.Told.{told_events}
use Rattle.nb_session.specs.declared.told.Told.{Told}
use Rattle.nb_session.proofs.ByTurnsLaws.{goes_by}

-- an error is an early end
pub early_err : (result : Result Status RunError) → IsErr result → EndsEarly result
early_err (Ok status) is = absurd (no_err Status RunError status is)
early_err (Err e) is = tt

-- a value is no early end
pub never_err : {T : Type 0} (value : T) (P : Type 0) → IsErr {T = T} {E = RunError} (Ok value) → P
never_err value P is = absurd (cc is)

-- what ended one run early did so of the other, and memory ran out in that one only where it did in this one
pub record IsAs (one other : Ending) : Type 0 where
  pub early : one.early → other.early
  pub ran_out : other.ran_out → one.ran_out

as_itself : (e : Ending) → IsAs e e
as_itself e = record { early = λ x. x; ran_out = λ x. x }

-- a run ended as its turns did
pub ended_so : (played : Result Bool RunError) (status : Result Status RunError) → EndsAs played status → IsAs (ending_of played) (ending_by status)
ended_so (Ok refused) (Ok Done) ends = record { early = never_err refused _; ran_out = λ x. absurd x }
ended_so (Ok refused) (Ok Refused) ends = record { early = never_err refused _; ran_out = λ x. absurd x }
ended_so (Ok refused) (Ok Usage) ends = record { early = never_err refused _; ran_out = λ x. absurd x }
ended_so (Ok refused) (Ok Device) ends = record { early = never_err refused _; ran_out = λ x. absurd x }
ended_so (Ok true) (Ok Memory) ends = absurd cc
ended_so (Ok false) (Ok Memory) ends = absurd cc
ended_so (Ok refused) (Err error) ends = absurd ends
ended_so (Err error) (Ok status) ends = absurd ends
ended_so (Err DeviceError) (Err same) ends = subst (λ (e : RunError). IsAs (ending_of {T = Bool} (Err DeviceError)) (ending_by (Err e))) (sym ends) (record { early = λ x. tt; ran_out = λ x. x })
ended_so (Err MemoryError) (Err same) ends = subst (λ (e : RunError). IsAs (ending_of {T = Bool} (Err MemoryError)) (ending_by (Err e))) (sym ends) (record { early = λ x. tt; ran_out = λ x. x })

-- of a status that tells why it stopped
pub device_so : (stop : RunError) → IsAs (ending_by (Err stop)) (ending_by (Ok Device))
device_so stop = record { early = λ x. tt; ran_out = λ x. absurd x }

pub memory_so : IsAs (ending_by (Err MemoryError)) (ending_by (Ok Memory))
memory_so = record { early = λ x. tt; ran_out = λ x. tt }

-- Turns that are told as others, event by event, are told so.
module _ {H : Type 0} (world : H → World) (f g : List Event → List Event) (same : (events : List Event) → f events ≡ g events) where
  told_so : (order : List ℕ) (old new : H) (t : Trail) (now : Now) → ByTurns world f order old new t now → ByTurns world g order old new t now
  told_so [] old new t now is = is
  told_so (x ∷ order) old new t now (inl idle) = inl (idle.0, told_so order old new t now idle.1)
  told_so (x ∷ order) old new t now (inr taken) = inr (
    taken.0,
    record {
      said = taken.1.said ∙ ap (λ (events : List Event). (world old).said ++ output events) (same (one_turn x now).0);
      leaves = taken.1.leaves;
      unchanged = taken.1.unchanged;
      ends = taken.1.ends;
    },
    told_so order taken.0 new (after_steps t (steps_of (one_turn x now).0)) (one_turn x now).1 taken.2,
  )

  said_so : (rest : List ℕ) (now : Now) (old new : World) → SaidInLast f rest now old new → SaidInLast g rest now old new
  said_so [] now old new said = said
  said_so (x ∷ rest) now old new said = subst (λ (events : List Event). IsSaid old events new.said) (same (one_turn x now).0) said

  goes_told : (ending : Ending) (old new : H) (t : Trail) (now : Now) (schedule : List ℕ) → GoesByTurns world ending f old new t now schedule → GoesByTurns world ending g old new t now schedule
  goes_told ending old new t now schedule goes = record {
    how_often = goes.how_often;
    front = goes.front;
    rest = goes.rest;
    is = goes.is;
    to_end = goes.to_end;
    mid = goes.mid;
    taken = told_so goes.front old goes.mid t now goes.taken;
    last = goes.last;
    ends = goes.ends;
    said = said_so goes.rest (play goes.front now).1 (world goes.mid) (world new) goes.said;
  }

-- where memory ran out the turn that ended early lacks its last operation
turn_as : (old new : World) (name : List ℕ) (t : Trail) (now : Now) (session : ℕ) (one other : Type 0) → (other → one) → (turns : List Turn) → EndsFirst one ⊥ old new name t now session turns → EndsFirst other ⊥ old new name t now session turns
turn_as old new name t now session one other so [] none = none
turn_as old new name t now session one other so (turn ∷ rest) ends = record { unchanged = ends.unchanged; short = λ ran done. ends.short (so ran) done; files = ends.files }

last_as : (rest : List ℕ) (t : Trail) (now : Now) (old new : World) (one other : Type 0) → (other → one) → EndsInLast one rest t now old new → EndsInLast other rest t now old new
last_as [] t now old new one other so ends = ends
last_as (session ∷ rest) t now old new one other so ends = turn_as old new now.name t now session one other so (slice_index_or now.todo (session - 1) []) ends

-- a run ended as its turns did
goes_so : {H : Type 0} (world : H → World) (told : List Event → List Event) (one other : Ending) → IsAs one other → (old new : H) (t : Trail) (now : Now) (schedule : List ℕ) → GoesByTurns world one told old new t now schedule → GoesByTurns world other told old new t now schedule
goes_so world told one other so old new t now schedule goes = record {
  how_often = goes.how_often;
  front = goes.front;
  rest = goes.rest;
  is = goes.is;
  to_end = ⊎_elim (λ e. inl (so.early e)) inr goes.to_end;
  mid = goes.mid;
  taken = goes.taken;
  last = goes.last;
  ends = last_as goes.rest (after_steps t (steps_of (play goes.front now).0)) (play goes.front now).1 (world goes.mid) (world new) one.ran_out other.ran_out so.ran_out goes.ends;
  said = goes.said;
}

turns_so : {H : Type 0} (world : H → World) (told : List Event → List Event) (one other : Ending) → IsAs one other → (first : Statement) (old new : H) (now : Now) (schedule : List ℕ) → TurnsFrom world one first told old new now schedule → TurnsFrom world other first told old new now schedule
turns_so world told one other so first old new now schedule (inl goes) =
    inl (record { opened = goes.opened; leaves = goes.leaves; still = goes.still; goes = goes_so world told one other so goes.opened new (settled (base_now now)) now schedule goes.goes })
turns_so world told one other so first old new now schedule (inr ends) = inr (record { ended = so.early ends.ended; leaves = ends.leaves; still = ends.still })

-- Turns that sessions told are told so.
pub told_as : {H : Type 0} (world : H → World) → ((h : H) → IsTimely (world h)) → ((h : H) → LeavesAll (world h) (world h).files) → (result : Result Bool RunError) (old new : H) (before after : Held) (t : Trail) (how : Told) (telling : Telling) (pages : ℕ)
    (now : Now) (schedule : List ℕ) → ((events : List Event) → told_events how events ≡ told_later telling pages events) → name_of before ≡ now.name → PlaysInTurn world result old new before after t how now schedule
    → TakesTold world result old new before after t telling pages now schedule
told_as world timely reads result old new before after t how telling pages now schedule same named plays =
    let often : ℕ = plays.whole.how_often in
    let played : Played = play (schedule ++ rounds often) now in
    record {
      whole = record {
        how_often = often;
        plays = subst (λ (events : List Event). Plays result (world old) (world new) before after t now (events, played.1) (files_made played.0)) (same played.0) plays.whole.plays;
        finished = plays.whole.finished;
        guids = plays.guids;
      };
      turns = goes_told world (told_events how) (told_later telling pages) same (ending_of result) old new t now schedule (goes_by world timely reads how result old new before after t now schedule named plays);
    }

-- What opening does to other files, where the sessions go on after it, and to all files, where they don't.
abbrev pub OpensBeside : (old mid : World) → Account → Given → Plan → Type 0
OpensBeside old mid account given plan = elim (opening account given plan.sessions plan.first_session plan.first).now as (λ now. Type 0) [ None ↦ mid.files ≡ old.files | Some now ↦ LeavesOthers old mid (OfFiles now.name) × StillWhereOpened plan.first old mid ]

-- a call that changes nothing
still_opened : (first : Statement) (old new : World) → new.files ≡ old.files → StillWhereOpened first old new
still_opened (OpenDb name cache) old new same = same
still_opened other old new same = tt

-- and one after the other
still_then : (first : Statement) (old mid new : World) → StillWhereOpened first old mid → StillWhereOpened first mid new → StillWhereOpened first old new
still_then (OpenDb name cache) old mid new before behind = behind ∙ before
still_then other old mid new before behind = tt

pub beside_quiet : (old mid : World) (account : Account) (given : Given) (plan : Plan) → Quiet old mid → OpensBeside old mid account given plan
beside_quiet old mid account given plan quiet = by (opening account given plan.sessions plan.first_session plan.first).now
  where
    by : (now : Option Now) → elim now as (λ z. Type 0) [ None ↦ mid.files ≡ old.files | Some n ↦ LeavesOthers old mid (OfFiles n.name) × StillWhereOpened plan.first old mid ]
    by None = quiet.still.files
    by (Some n) = (leaves_quiet old mid (OfFiles n.name) quiet, still_opened plan.first old mid quiet.still.files)

pub beside_now : (old mid : World) (account : Account) (given : Given) (plan : Plan) (now : Now) → (opening account given plan.sessions plan.first_session plan.first).now ≡ Some now → LeavesOthers old mid (OfFiles now.name)
    → StillWhereOpened plan.first old mid → OpensBeside old mid account given plan
beside_now old mid account given plan now goes_on leaves still =
    subst (λ (n : Option Now). elim n as (λ z. Type 0) [ None ↦ mid.files ≡ old.files | Some x ↦ LeavesOthers old mid (OfFiles x.name) × StillWhereOpened plan.first old mid ]) (sym goes_on) (leaves, still)

pub beside_none : (old mid : World) (account : Account) (given : Given) (plan : Plan) → (opening account given plan.sessions plan.first_session plan.first).now ≡ None → mid.files ≡ old.files → OpensBeside old mid account given plan
beside_none old mid account given plan ends same = subst (λ (n : Option Now). elim n as (λ z. Type 0) [ None ↦ mid.files ≡ old.files | Some x ↦ LeavesOthers old mid (OfFiles x.name) × StillWhereOpened plan.first old mid ]) (sym ends) same

-- The calls of a script, and what comes before them.
module _ {H : Type 0} (world : H → World) (early : Ending) (account : Account) (given : Given) (plan : Plan) (telling : Telling) where
  abbrev By : (old new : H) → Option Now → Type 0
  By old new now = elim now as (λ z. Type 0) [ None ↦ (world new).files ≡ (world old).files | Some n ↦ TurnsFrom world early plan.first (told_later telling (pages_first account plan.first)) old new n plan.schedule ]

  abbrev first_now : Option Now
  first_now = (opening account given plan.sessions plan.first_session plan.first).now

  -- turns behind calls that leave other files alone, and all where a database is opened
  turns_behind : (old mid new : H) (now : Now) (ended : Ending) → IsAs ended early → LeavesOthers (world old) (world mid) (OfFiles now.name) → StillWhereOpened plan.first (world old) (world mid)
      → TurnsFrom world ended plan.first (told_later telling (pages_first account plan.first)) mid new now plan.schedule → TurnsFrom world early plan.first (told_later telling (pages_first account plan.first)) old new now plan.schedule
  turns_behind old mid new now ended so leaves still (inl goes) = inl (record {
    opened = goes.opened;
    leaves = leaves_then (world old) (world mid) (world goes.opened) (OfFiles now.name) leaves goes.leaves;
    still = still_then plan.first (world old) (world mid) (world goes.opened) still goes.still;
    goes = goes_so world (told_later telling (pages_first account plan.first)) ended early so goes.opened new (settled (base_now now)) now plan.schedule goes.goes;
  })
  turns_behind old mid new now ended so leaves still (inr ends) = inr (record {
    ended = so.early ends.ended;
    leaves = leaves_then (world old) (world mid) (world new) (OfFiles now.name) leaves ends.leaves;
    still = still_then plan.first (world old) (world mid) (world new) still ends.still;
  })

  -- it ended early while the database was opened
  pub script_early : (old new : H) → early.early → OpensBeside (world old) (world new) account given plan → ScriptByTurns world early old new plan telling account given
  script_early old new ends beside = by first_now beside
    where
      by : (now : Option Now) → elim now as (λ z. Type 0) [ None ↦ (world new).files ≡ (world old).files | Some n ↦ LeavesOthers (world old) (world new) (OfFiles n.name) × StillWhereOpened plan.first (world old) (world new) ] → By old new now
      by None same = same
      by (Some n) both = inr (record { ended = ends; leaves = both.0; still = both.1 })

  -- its first statement was refused
  pub script_none : (old new : H) → first_now ≡ None → (world new).files ≡ (world old).files → ScriptByTurns world early old new plan telling account given
  script_none old new ends same = subst (By old new) (sym ends) same

  -- its turns were taken after it
  pub script_turns : (old mid new : H) (now : Now) (ended : Ending) → IsAs ended early → first_now ≡ Some now → OpensBeside (world old) (world mid) account given plan
      → TurnsFrom world ended plan.first (told_later telling (pages_first account plan.first)) mid new now plan.schedule → ScriptByTurns world early old new plan telling account given
  script_turns old mid new now ended so goes_on beside turns = subst (By old new) (sym goes_on) (by turns)
    where
      first : LeavesOthers (world old) (world mid) (OfFiles now.name) × StillWhereOpened plan.first (world old) (world mid)
      first = subst (λ (n : Option Now). elim n as (λ z. Type 0) [ None ↦ (world mid).files ≡ (world old).files | Some x ↦ LeavesOthers (world old) (world mid) (OfFiles x.name) × StillWhereOpened plan.first (world old) (world mid) ]) goes_on beside

      by : TurnsFrom world ended plan.first (told_later telling (pages_first account plan.first)) mid new now plan.schedule → TurnsFrom world early plan.first (told_later telling (pages_first account plan.first)) old new now plan.schedule
      by turns = turns_behind old mid new now ended so first.0 first.1 turns

  pub script_quietly : (old mid new : H) → Quiet (world old) (world mid) → ScriptByTurns world early mid new plan telling account given → ScriptByTurns world early old new plan telling account given
  script_quietly old mid new quiet turns = by first_now turns
    where
      by : (now : Option Now) → By mid new now → By old new now
      by None same = same ∙ quiet.still.files
      by (Some n) turns = turns_behind old mid new n early (as_itself early) (leaves_quiet (world old) (world mid) (OfFiles n.name) quiet) (still_opened plan.first (world old) (world mid) quiet.still.files) turns

  -- nothing happened
  pub script_undone : (old new : H) → early.early → Quiet (world old) (world new) → ScriptByTurns world early old new plan telling account given
  script_undone old new ends quiet = script_early old new ends (beside_quiet (world old) (world new) account given plan quiet)

-- The reply of a first statement, and the turns after it.
module _ {H : Type 0} (world : H → World) (timely : (h : H) → IsTimely (world h)) (reads : (h : H) → LeavesAll (world h) (world h).files) (first : Statement) (told : List Event → List Event) (now : Now) (schedule : List ℕ) where
  pub reply_unsaid_by : {S E : Type 0} (said : Result S E) (line : List ℕ) (early : Ending) → early.early → (old new : H) → SaysLine said (world old) (world new) line → TurnsFrom world early first told old new now schedule
  reply_unsaid_by said line early ends old new says = inr (record {
    ended = ends;
    leaves = leaves_line said (world old) (world new) line (OfFiles now.name) (timely new) (reads new) says;
    still = still_opened first (world old) (world new) says.still.files;
  })

  pub reply_said_by : {S E : Type 0} (said : Result S E) (line : List ℕ) (early : Ending) → (old mid new : H) → SaysLine said (world old) (world mid) line → GoesByTurns world early told mid new (settled (base_now now)) now schedule → TurnsFrom world early first told old new now schedule
  reply_said_by said line early old mid new says goes = inl (record {
    opened = mid;
    leaves = leaves_line said (world old) (world mid) line (OfFiles now.name) (timely mid) (reads mid) says;
    still = still_opened first (world old) (world mid) says.still.files;
    goes = goes;
  })

-- What is asked for, after calls that change nothing.
module _ {H : Type 0} (world : H → World) (early : Ending) (old mid new : H) (quiet : Quiet (world old) (world mid)) (account : Account) (given : Given) where
  pub run_quietly : (asked : Result Request Refusal) → RunByTurns world early mid new asked account given → RunByTurns world early old new asked account given
  run_quietly (Err refusal) same = same ∙ quiet.still.files
  run_quietly (Ok (ToRun plan telling)) turns = script_quietly world early account given plan telling old mid new quiet turns
  run_quietly (Ok (ToGenerate number name)) turns = by (not_free name (account.entry name)) turns
    where
      by : (cause : Cause) → elim cause as (λ z. Type 0) [ Some refusal ↦ (world new).files ≡ (world mid).files | None ↦ WrittenByTurns world early mid new name (generated number) account given ]
          → elim cause as (λ z. Type 0) [ Some refusal ↦ (world new).files ≡ (world old).files | None ↦ WrittenByTurns world early old new name (generated number) account given ]
      by (Some refusal) same = same ∙ quiet.still.files
      by None (inl goes) = inl (record {
        written = goes.written;
        leaves = leaves_then (world old) (world mid) (world goes.written) (Only name) (leaves_quiet (world old) (world mid) (Only name) quiet) goes.leaves;
        goes = goes.goes;
      })
      by None (inr ends) = inr (ends.0, leaves_then (world old) (world mid) (world new) (Only name) (leaves_quiet (world old) (world mid) (Only name) quiet) ends.1)

-- Nothing was done.
module _ {H : Type 0} (world : H → World) (early : Ending) (ends : early.early) (old new : H) (quiet : Quiet (world old) (world new)) (account : Account) (given : Given) where
  pub run_undone : (asked : Result Request Refusal) → RunByTurns world early old new asked account given
  run_undone (Err refusal) = quiet.still.files
  run_undone (Ok (ToRun plan telling)) = script_undone world early account given plan telling old new ends quiet
  run_undone (Ok (ToGenerate number name)) = by (not_free name (account.entry name))
    where
      by : (cause : Cause) → elim cause as (λ z. Type 0) [ Some refusal ↦ (world new).files ≡ (world old).files | None ↦ WrittenByTurns world early old new name (generated number) account given ]
      by (Some refusal) = quiet.still.files
      by None = inr (ends, leaves_quiet (world old) (world new) (Only name) quiet)

-- The script of a number, which is written first.
module _ {H : Type 0} (world : H → World) (early : Ending) (number : ℕ) (name : List ℕ) (account : Account) (given : Given) where
  abbrev cause_by : Bool → Cause
  cause_by free = elim (not free) as (λ z. Option Refusal) [ true ↦ Some (FileExists name) | false ↦ None ]

  abbrev written_by : (old new : H) → Cause → Type 0
  written_by old new cause = elim cause as (λ z. Type 0) [ Some refusal ↦ (world new).files ≡ (world old).files | None ↦ WrittenByTurns world early old new name (generated number) account given ]

  -- its name isn't free
  pub number_taken : (old new : H) → is_free_entry (account.entry name) ≡ false → (world new).files ≡ (world old).files → RunByTurns world early old new (Ok (ToGenerate number name)) account given
  number_taken old new taken same = subst (λ (free : Bool). written_by old new (cause_by free)) (sym taken) same

  -- it is
  free_by : (old new : H) → is_free_entry (account.entry name) ≡ true → WrittenByTurns world early old new name (generated number) account given → RunByTurns world early old new (Ok (ToGenerate number name)) account given
  free_by old new free turns = subst (λ (free : Bool). written_by old new (cause_by free)) (sym free) turns

  pub number_early : (old new : H) → is_free_entry (account.entry name) ≡ true → early.early → LeavesOthers (world old) (world new) (Only name) → RunByTurns world early old new (Ok (ToGenerate number name)) account given
  number_early old new free ends leaves = free_by old new free (inr (ends, leaves))

  pub number_then : (old written new : H) → is_free_entry (account.entry name) ≡ true → LeavesOthers (world old) (world written) (Only name) → (read : Result Plan Refusal) → script_of (generated number) ≡ read
      → ReadByTurns world early written new read Sparingly (with_entry name (Plain (generated number) None) account) given → RunByTurns world early old new (Ok (ToGenerate number name)) account given
  number_then old written new free leaves read is goes = free_by old new free (inl (record {
    written = written;
    leaves = leaves;
    goes = subst (λ (r : Result Plan Refusal). ReadByTurns world early written new r Sparingly (with_entry name (Plain (generated number) None) account) given) (sym is) goes;
  }))

-- A run ended as another did.
module _ {H : Type 0} (world : H → World) (one other : Ending) (so : IsAs one other) where
  abbrev script_under : Ending → (old new : H) → Plan → Telling → Account → Option Now → Type 0
  script_under ending old new plan telling account now =
      elim now as (λ z. Type 0) [ None ↦ (world new).files ≡ (world old).files | Some n ↦ TurnsFrom world ending plan.first (told_later telling (pages_first account plan.first)) old new n plan.schedule ]

  under_so : (old new : H) (plan : Plan) (telling : Telling) (account : Account) (now : Option Now) → script_under one old new plan telling account now → script_under other old new plan telling account now
  under_so old new plan telling account None same = same
  under_so old new plan telling account (Some n) turns = turns_so world (told_later telling (pages_first account plan.first)) one other so plan.first old new n plan.schedule turns

  script_so : (old new : H) (plan : Plan) (telling : Telling) (account : Account) (given : Given) → ScriptByTurns world one old new plan telling account given → ScriptByTurns world other old new plan telling account given
  script_so old new plan telling account given turns = under_so old new plan telling account (opening account given plan.sessions plan.first_session plan.first).now turns

  read_so : (old new : H) (read : Result Plan Refusal) (telling : Telling) (account : Account) (given : Given) → ReadByTurns world one old new read telling account given → ReadByTurns world other old new read telling account given
  read_so old new (Err refusal) telling account given same = same
  read_so old new (Ok plan) telling account given turns = script_so old new plan telling account given turns

  written_so : (old new : H) (name bytes : List ℕ) (account : Account) (given : Given) → WrittenByTurns world one old new name bytes account given → WrittenByTurns world other old new name bytes account given
  written_so old new name bytes account given (inl goes) =
      inl (record { written = goes.written; leaves = goes.leaves; goes = read_so goes.written new (script_of bytes) Sparingly (with_entry name (Plain bytes None) account) given goes.goes })
  written_so old new name bytes account given (inr ends) = inr (so.early ends.0, ends.1)

  abbrev number_under : Ending → (old new : H) → (number : ℕ) (name : List ℕ) → Account → Given → Cause → Type 0
  number_under ending old new number name account given cause =
      elim cause as (λ z. Type 0) [ Some refusal ↦ (world new).files ≡ (world old).files | None ↦ WrittenByTurns world ending old new name (generated number) account given ]

  number_so : (old new : H) (number : ℕ) (name : List ℕ) (account : Account) (given : Given) (cause : Cause) → number_under one old new number name account given cause → number_under other old new number name account given cause
  number_so old new number name account given (Some refusal) same = same
  number_so old new number name account given None turns = written_so old new name (generated number) account given turns

  run_so : (old new : H) (asked : Result Request Refusal) (account : Account) (given : Given) → RunByTurns world one old new asked account given → RunByTurns world other old new asked account given
  run_so old new (Err refusal) account given same = same
  run_so old new (Ok (ToRun plan telling)) account given turns = script_so old new plan telling account given turns
  run_so old new (Ok (ToGenerate number name)) account given turns = number_so old new number name account given (not_free name (account.entry name)) turns

  pub asked_so : (old new : H) (asked : Asked) (account : Account) (given : Given) → AskedByTurns world one old new asked account given → AskedByTurns world other old new asked account given
  asked_so old new (Runs asked) account given turns = run_so old new asked account given turns
  asked_so old new (Does deed) account given turns = tt
  asked_so old new (Ships primary standby) account given turns = tt
