-- What a run promises, from the words of the command line to its last reply.
--
-- The words ask for the run of a script, which may be written first, for a restore, for a fixup, or for a refusal. Each tells the events of
-- the run one by one: whose turn, which strokes, which reply.
-- Whatever stops the run, at each moment a front of its lines was said, and both files of its database can be opened and hold what may be
-- left after a front of its steps, with each acknowledged one among them, and none past the first turn whose line wasn't said whole. A file
-- that a backup or a copy makes, or that of a script which is written, is as it was, unfinished or whole, and whole once that is acknowledged,
-- and before the first step of the turn that makes it whole. No other file changes. At its end all lines were said,
-- all steps stand, and all files are whole. Where the files stood for an account with the records of its backups, and the GUIDs that the outside gives are new, they stand for
-- one at each moment, with the records of the backups that have begun by then.
use Rattle.std.specs.Prelude.{◌≡◌, ◌≢◌, ◌⊎◌, ℕ, ◌<◌, ◌≤◌, List, [], ◌∷◌, ◌++◌, length, take, Bool, true, false, ◌&&◌, Option, None, Some, Result, Ok, Err, IfOk}
use Rattle.std.specs.Global.{Vec}
use Rattle.std.specs.List.{AllByRecursion, list_all}
use Rattle.nb_fields.specs.Free.{is_free_file}
use Rattle.nb_fields.specs.Fresh.{fresh_count}
use Rattle.nb_host.specs.Files.{File, Files}
use Rattle.nb_host.specs.Names.{is_delta}
use Rattle.nb_host.specs.World.{World}
use Rattle.nb_host.specs.Crash.{Leaves, LeavesAll}
use Rattle.nb_host.specs.Moments.{AtEachMoment}
use Rattle.nb_host.specs.declared.faults.Fault.{Fault}
use Rattle.nb_host.specs.declared.faults.Fault.TheVariants.{Refused as RefusedFault, Device as DeviceFault, Memory as MemoryFault}
use Rattle.nb_host.specs.declared.refusals.Refusal.{Refusal}
use Rattle.nb_host.specs.declared.faults.RunError.{RunError}
use Rattle.nb_change.specs.Changes.{Other}
use Rattle.nb_page.specs.Free.{is_free_name}
use Rattle.nb_page.specs.Quiet.{Quiet}
use Rattle.nb_model.specs.declared.reply.Reply.{Reply}
use Rattle.nb_model.specs.declared.reply.Reply.TheVariants.{Refused, Pages, Opened as OpenedReply}
use Rattle.nb_model.specs.declared.statement.Statement.{Statement}
use Rattle.nb_model.specs.declared.statement.Statement.TheVariants.{CreateDb, OpenDb}
use Rattle.nb_model.specs.Account.{Kept, Base, Plain, Account, with_entry}
use Rattle.nb_model.specs.Causes.{is_free_entry, not_free}
use Rattle.nb_model.specs.Gifts.{WasGiven}
use Rattle.nb_model.specs.Image.{image_scn}
use Rattle.nb_model.specs.NewGuids.{AreNew, guids_in}
use Rattle.nb_model.specs.Generated.{generated, last_or_refusal, said_by_generated}
use Rattle.nb_model.specs.Jobs.{all_sized, quiet, refusal_in}
use Rattle.nb_model.specs.Outcomes.{Given}
use Rattle.nb_model.specs.Output.{output, status_of}
use Rattle.nb_model.specs.Owner.{delta_name, entry_in}
use Rattle.nb_model.specs.Making.{IsNoneOf}
use Rattle.nb_model.specs.Run.{Event, Now, Played, IsRun, AreFinished, play, rounds, strokes_of, replies_of, files_made}
use Rattle.nb_model.specs.Steps.{Step, steps_of, strokes_in, after_steps, acked_turns}
use Rattle.nb_model.specs.Strokes.{Stroke, base_in, records_after}
use Rattle.nb_model.specs.Trail.{Trail, StandsIn, ShowsIn, settled}
use Rattle.nb_base.specs.Open.{OfFiles}
use Rattle.nb_state.specs.Open.{Held}
use Rattle.nb_gen.specs.Texts.{generated_first}
use Rattle.nb_script.specs.Scripts.{Plan, script_of}
use Rattle.nb_state.specs.Does.{only_tells}
use Rattle.nb_session.specs.Replies.{is_refusal, only_told}
use Rattle.nb_session.specs.Acts.{MadeLeft, AreKept as AreFilesKept, AreWhole}
use Rattle.nb_session.specs.HowFar.{begun_turns}
use Rattle.nb_session.specs.Stops.{IsSaid, IsFront, Plays}
use Rattle.nb_ended.specs.Numbers.{number_of}
use Rattle.nb_ended.specs.declared.status.Status.{Status}
use Rattle.nb_ended.specs.declared.status.Status.TheVariants.{Device, Memory}
use Rattle.nb_top.specs.declared.telling.Telling.{Telling}
use Rattle.nb_top.specs.declared.telling.Telling.TheVariants.{All, Quietly, WithSize, Sparingly}
use Rattle.nb_top.specs.OneTurn.{DoesTurn, one_turn}
use Rattle.nb_top.specs.Requests.{Request, ToRun, ToGenerate, Asked, Runs, Does, Ships, script_in}
use Rattle.nb_top.specs.Served.{TurnsTo}
use Rattle.nb_top.specs.Standing.{HoldsKept, StandsFor}

-- what the first statement of a run did, or what is said in place of a run
abbrev pub first_event : (session : ℕ) → List Stroke → Reply → Event
first_event session strokes reply = record { session = session; strokes = strokes; reply = Some reply; made = None; syncs = true }

-- a refusal to that session, and that is all
abbrev pub refused_at : (session : ℕ) → Refusal → List Event
refused_at session refusal = first_event session [] (Refused refusal) ∷ []

-- the job is refused
abbrev pub refused_job : Refusal → List Event
refused_job refusal = refused_at 0 refusal

-- how many pages of the database may be in memory
abbrev pub cache_asked : (first : Statement) → ℕ
cache_asked (CreateDb name page_size raw cache) = cache
cache_asked (OpenDb name cache) = cache
cache_asked other = 0

-- how many pages the database has as a run begins: those of a new one, or those of the one that is opened
abbrev pub pages_first : (before : Account) → (first : Statement) → ℕ
pages_first before (CreateDb name page_size raw cache) = fresh_count page_size raw
pages_first before (OpenDb name cache) = length (base_in (before.entry name)).image
pages_first before other = 0

-- What is told of events: all, or of the first one only why it is refused, or the same and with each begin so many pages, or only refusals
-- and the pages by kind.
abbrev pub told : Telling → (pages : ℕ) → List Event → List Event
told All pages whole = whole
told Quietly pages whole = quiet whole
told WithSize pages whole = all_sized pages (quiet whole)
told Sparingly pages whole = said_by_generated whole

-- every reply is told
abbrev pub is_all : Telling → Bool
is_all All = true
is_all Quietly = false
is_all WithSize = false
is_all Sparingly = false

-- the first event as a run tells it, and those after it
abbrev pub told_first : Telling → Event → Event
told_first All e = e
told_first Quietly e = record e { reply = refusal_in e.reply }
told_first WithSize e = record e { reply = refusal_in e.reply }
told_first Sparingly e = record e { reply = last_or_refusal e.reply }

abbrev pub told_later : Telling → (pages : ℕ) → List Event → List Event
told_later All pages es = es
told_later Quietly pages es = es
told_later WithSize pages es = all_sized pages es
told_later Sparingly pages es = said_by_generated es

-- The run of a script, with what is told of it.
pub record IsScriptRun (plan : Plan) (telling : Telling) (before : Account) (given : Given) (events : List Event) (last : Account) (left : Given) : Type 0 where
  pub whole : List Event
  pub run : IsRun before given plan.first_session plan.first plan.schedule plan.sessions whole last left
  pub said : events ≡ told telling (pages_first before plan.first) whole

-- The run of a script as it is read, or why there is none, which is said to session 0.
abbrev pub IsReadRun : Result Plan Refusal → Telling → (before : Account) → Given → List Event → (last : Account) → (left : Given) → Type 0
IsReadRun (Err refusal) telling before given events last left = (events ≡ refused_job refusal) × (last ≡ before) × (left ≡ given)
IsReadRun (Ok plan) telling before given events last left = IsScriptRun plan telling before given events last left

-- the file of a script is made, of which nothing is said
abbrev pub script_made : (name bytes : List ℕ) → Event
script_made name bytes = record { session = 1; strokes = []; reply = None; made = Some (name, bytes); syncs = false }

-- The file of a script is made, and then the script is run on the account that has the file.
pub record IsWrittenRun (name bytes : List ℕ) (before : Account) (given : Given) (events : List Event) (last : Account) (left : Given) : Type 0 where
  pub rest : List Event
  pub is : events ≡ script_made name bytes ∷ rest
  pub run : IsReadRun (script_of bytes) Sparingly (with_entry name (Plain bytes None) before) given rest last left

-- What is asked for is done: the run of a script, that of one which is written under a free name first, or one refusal. `left` is what it leaves
-- of what may be given.
abbrev pub IsPerformed : Files → Result Request Refusal → (before : Account) → Given → List Event → (last : Account) → (left : Given) → Type 0
IsPerformed files (Err refusal) before given events last left = (events ≡ refused_job refusal) × (last ≡ before) × (left ≡ given)
IsPerformed files (Ok (ToRun plan telling)) before given events last left = IsScriptRun plan telling before given events last left
IsPerformed files (Ok (ToGenerate number name)) before given events last left = elim (not_free name (before.entry name)) as (λ cause. Type 0) [
  | Some refusal ↦ (events ≡ refused_at 1 refusal) × (last ≡ before) × (left ≡ given)
  | None ↦ IsWrittenRun name (generated number) before given events last left
]

-- the database of a run, which it creates or opens
pub record Target : Type 0 where
  pub name : List ℕ
  pub creates : Bool

abbrev pub target_named : (first : Statement) → Option Target
target_named first = elim first [
  | CreateDb name page_size raw cache ↦ Some (record { name = name; creates = true })
  | OpenDb name cache ↦ Some (record { name = name; creates = false })
  | _ ↦ None
]

-- the first reply is a refusal
abbrev pub begins_refused : List Event → Bool
begins_refused [] = false
begins_refused (e ∷ es) = elim e.reply [ None ↦ false | Some reply ↦ is_refusal reply ]

-- the database that is asked for
abbrev pub target_asked : Request → Option Target
target_asked (ToRun plan telling) = target_named plan.first
target_asked (ToGenerate number name) = target_named generated_first

-- the events after the file of a script that is made first
abbrev pub behind_file : List Event → List Event
behind_file [] = []
behind_file (e ∷ es) = elim e.made [ None ↦ e ∷ es | Some file ↦ es ]

-- the events of the run, without that file's
abbrev pub run_in : Request → List Event → List Event
run_in (ToRun plan telling) events = events
run_in (ToGenerate number name) events = behind_file events

-- the database of a run, if it isn't refused at once
abbrev pub target_of : Result Request Refusal → List Event → Option Target
target_of (Err refusal) events = None
target_of (Ok request) events = elim (begins_refused (run_in request events)) [ true ↦ None | false ↦ target_asked request ]

-- the account has under the name what the files hold there
abbrev pub HoldsUnder : Files → Account → (name : List ℕ) → Type 0
HoldsUnder files account name = account.entry name ≡ entry_in files name

-- of each name that a database or a backup may have the account knows whether it is free
abbrev pub KnowsNames : Files → Account → Type 0
KnowsNames files account = (name : List ℕ) → is_delta name ≡ false → is_free_name files name ≡ is_free_entry (account.entry name)

-- of a database that is opened it has what the files hold
abbrev pub KnowsOpened : Files → Account → (first : Statement) → Type 0
KnowsOpened files account (OpenDb name cache) = HoldsUnder files account name
KnowsOpened files account other = Unit {0}

-- A run asks the account for what the files tell: whether names are free, and for the database that it opens.
abbrev pub Knows : Files → Account → Result Request Refusal → Type 0
Knows files account (Err refusal) = Unit {0}
Knows files account (Ok (ToRun plan telling)) = KnowsNames files account × KnowsOpened files account plan.first
Knows files account (Ok (ToGenerate number name)) = KnowsNames files account

-- the name isn't that of the database, nor of its difference file
abbrev pub IsUnasked : Option Target → List ℕ → Type 0
IsUnasked None m = Unit {0}
IsUnasked (Some target) m = Other (OfFiles target.name) m

-- what was seen of the database after steps of a run
abbrev pub seen_after : Account → (name : List ℕ) → List Step → Trail
seen_after account name steps = after_steps (settled (base_in (account.entry name))) steps

-- the records of backups after them
abbrev pub kept_after : Account → Option Target → List Step → List Kept
kept_after account None steps = account.kept
kept_after account (Some target) steps = account.kept ++ records_after (base_in (account.entry target.name)) (strokes_in steps)

-- The run hasn't begun to change its database: nothing was said, and both files are as a crash would have left them before. Only
-- where the run creates the database, the creation may also be stopped half way, and then the name is free.
pub record IsUnbegun (old : World) (target : Target) (said count : ℕ) (files : Files) : Type 0 where
  pub none : count ≡ 0
  pub unsaid : said ≡ 0
  pub main : Leaves old target.name (files target.name) ⊎ ((target.creates ≡ true) × (is_free_file (files target.name) ≡ true))
  pub delta : Leaves old (delta_name target.name) (files (delta_name target.name))

-- The files hold what may be left of what was seen of the database after so many steps, or the run hasn't begun.
abbrev pub StandsAsked : (old : World) → Account → Option Target → List Event → (said count : ℕ) → Files → Type 0
StandsAsked old account None events said count files = Unit {0}
StandsAsked old account (Some target) events said count files = StandsIn target.name (seen_after account target.name (take count (steps_of events))) files ⊎ IsUnbegun old target said count files

-- The database is left as after some of the steps of these turns, with no stroke of a later one.
abbrev pub StandsWithin : (old : World) → Account → Option Target → List Event → (said : ℕ) → Files → Type 0
StandsWithin old account target events said files = (count : ℕ) × (count ≤ length (steps_of events)) × StandsAsked old account target events said count files

-- At a moment of a run: a front of its lines was said, and a crash leaves the database after so many of its steps, with each
-- acknowledged one among them, and none past the first turn whose line wasn't said whole. A file that the run makes is as it was, unfinished or
-- whole, and whole once its turn is acknowledged, or a step of that turn or of a later one stands. Other files are as a crash would have left
-- them before.
pub record RunLeft (old : World) (account : Account) (target : Option Target) (events : List Event) (files : Files) (said : List ℕ) : Type 0 where
  pub out : IsSaid old events said
  pub count : ℕ
  pub front : IsFront events (length out.part) count
  pub database : StandsAsked old account target events (length out.part) count files
  pub each : MadeLeft old (files_made events) files
  pub whole : AreWhole (files_made (take (acked_turns events (length out.part)) events)) files
  pub begun : AreWhole (files_made (take (begun_turns events count) events)) files
  pub others : (m : List ℕ) → IsUnasked target m → IsNoneOf (files_made events) m → Leaves old m (files m)

-- The premise of what follows: the files stand for the account as the run begins, and the GUIDs that its backups take are new. The GUIDs are
-- those that were given in the call, and where it ended early also those that may still come.
pub record IsSure (old : World) (account : Account) (events : List Event) : Type 0 where
  pub stands : StandsFor old account
  pub new : AreNew old account.kept (guids_in (strokes_of events))

-- At a moment of a run: what a crash leaves is what may be left after a front of its steps. Where the run is sure, it stands for an account
-- with the records of the backups that have begun in the same front.
pub record RunStands (old : World) (account : Account) (asked : Result Request Refusal) (events : List Event) (files : Files) (said : List ℕ) : Type 0 where
  pub left : RunLeft old account (target_of asked events) events files said
  pub stands : IsSure old account events → HoldsKept files (kept_after account (target_of asked events) (take left.count (steps_of events)))

-- the files as they read show what was seen last, and a crash leaves what may be left of all that was seen
pub record IsEnded (new : World) (name : List ℕ) (t : Trail) : Type 0 where
  pub shows : ShowsIn name t.base new.files
  pub left : (files : Files) → LeavesAll new files → StandsIn name t files

-- so it is of the database of a run after all of its steps
abbrev pub EndsIn : (new : World) → Account → Option Target → List Event → Type 0
EndsIn new account None events = Unit {0}
EndsIn new account (Some target) events = IsEnded new target.name (seen_after account target.name (steps_of events))

-- a first turn that makes no file and no stroke, and of which nothing is told, or what only tells something
abbrev pub only_opens : Event → Bool
only_opens e = elim e.made [ Some file ↦ false | None ↦ elim e.strokes [ [] ↦ elim e.reply [ None ↦ true | Some reply ↦ only_tells reply ] | s ∷ ss ↦ false ] ]

-- the turns of a run only tell something: they open, they read, or they are refused
abbrev pub only_tell : List Event → Bool
only_tell [] = true
only_tell (e ∷ es) = only_opens e && list_all only_told es

-- A run to its end: all of its lines were said, the status is the one that they give, just what the run asks for was given, the database
-- stands after all of its steps, and each file that it made is whole and kept for good. Where more GUIDs could have been given, just those of
-- the backups that it began were given, in order.
pub record Finished (status : Status) (old new : World) (account : Account) (target : Option Target) (events : List Event) (given left : Given) : Type 0 where
  pub said : new.said ≡ old.said ++ output events
  pub ended : number_of status ≡ status_of (replies_of events)
  pub gave : WasGiven old new given left
  pub database : EndsIn new account target events
  pub kept : AreFilesKept new (files_made events)
  pub guids : left.guids ≢ [] → new.guids ≡ old.guids ++ guids_in (strokes_of events)

-- The run hasn't begun to change its database: both files read as before. Only where the run creates the database, its main file may also
-- be one whose name is free.
pub record ReadsUnbegun (old new : World) (target : Target) : Type 0 where
  pub main : (new.files target.name ≡ old.files target.name) ⊎ ((target.creates ≡ true) × (is_free_file (new.files target.name) ≡ true))
  pub delta : new.files (delta_name target.name) ≡ old.files (delta_name target.name)

-- The files as they read hold what may be left of what was seen of the database after some of the steps, or the run hasn't begun.
abbrev pub ReadsAsked : (old new : World) → Account → Option Target → List Event → Type 0
ReadsAsked old new account None events = Unit {0}
ReadsAsked old new account (Some target) events = ((count : ℕ) × StandsIn target.name (seen_after account target.name (take count (steps_of events))) new.files) ⊎ ReadsUnbegun old new target

-- What reads after a run, however it ended: each file but the database's two and those that the run makes reads as before, and so do the two where
-- the run hasn't begun. Where its turns only tell something no byte of any file has changed.
pub record RunReads (old new : World) (account : Account) (target : Option Target) (events : List Event) : Type 0 where
  pub others : (m : List ℕ) → IsUnasked target m → IsNoneOf (files_made events) m → new.files m ≡ old.files m
  pub database : ReadsAsked old new account target events
  pub unchanged : only_tell events ≡ true → new.files ≡ old.files

-- each GUID that may be given has 16 bytes
abbrev pub MayBeGiven : Given → Type 0
MayBeGiven given = AllByRecursion (λ (guid : List ℕ). length guid ≡ 16) given.guids

-- the SCN of a database that the run opens is a number of 32 bits
abbrev pub HasSmallScn : Account → Option Target → Type 0
HasSmallScn account None = Unit {0}
HasSmallScn account (Some target) = target.creates ≡ false → image_scn (base_in (account.entry target.name)).image < 4294967296

-- it ended before anything was done
abbrev pub IsUndone : Result Status RunError → (old new : World) → Type 0
IsUndone (Ok status) old new = ⊥
IsUndone (Err stop) old new = Quiet old new

-- What a run does that a script asks for, where the account knows of the database what the files tell, and these are the GUIDs and times
-- that were given and may still be: its events are those that the script must have. At each moment a crash leaves a front of them, after it
-- other files read as before, and at its end all is done.
pub record RunsTo (result : Result Status RunError) (old new : World) (asked : Result Request Refusal) (account : Account) (given : Given) : Type 0 where
  pub events : List Event
  pub last : Account
  pub left : Given
  pub performed : IsPerformed old.files asked account given events last left
  pub opened : HasSmallScn account (target_of asked events) ⊎ IsUndone result old new
  pub stops : AtEachMoment old new (RunLeft old account (target_of asked events) events)
  pub reads : RunReads old new account (target_of asked events) events
  pub finished : IfOk result (λ status. Finished status old new account (target_of asked events) events given left)

-- After a run, however it ended, the world stands for an account with the records of the backups that begin in a front of its steps. What a crash leaves now
-- is behind no longer front. So the next run may begin.
pub record StandsAfter (old new : World) (account : Account) (target : Option Target) (events : List Event) : Type 0 where
  pub count : ℕ
  pub last : (files : Files) → LeavesAll new files → (l : RunLeft old account target events files new.said) × (l.count ≤ count)
  pub later : Account
  pub stands : StandsFor new later
  pub kept : later.kept ≡ kept_after account target (take count (steps_of events))

-- What is done of a run. Its events are those that it asks for, with the account after it and what is left to give.
-- At each moment a crash leaves a front of it. So do the files as they read now, where it ended early too, and other files read as before. Where it
-- was sure, the next run may begin. Where no call of the host failed and memory was enough, it came to its end, and where it was sure the files
-- stand for the account after.
pub record PerformsRun (status : Status) (old new : World) (asked : Result Request Refusal) (account : Account) (given : Given) : Type 0 where
  pub events : List Event
  pub last : Account
  pub left : Given
  pub performed : IsPerformed old.files asked account given events last left
  pub stops : AtEachMoment old new (RunStands old account asked events)
  pub now : RunStands old account asked events new.files new.said
  pub reads : RunReads old new account (target_of asked events) events
  pub after : IsSure old account events → StandsAfter old new account (target_of asked events) events
  pub finished : status ≢ Device → status ≢ Memory → Finished status old new account (target_of asked events) events given left
  pub stands : status ≢ Device → status ≢ Memory → IsSure old account events → StandsFor new last

-- What is asked for asks the account for what the files tell. Each part of a ship asks its own.
abbrev pub KnowsAsked : Files → Account → Asked → Type 0
KnowsAsked files account (Runs asked) = Knows files account asked
KnowsAsked files account (Does deed) = (one_turn files deed).knows account
KnowsAsked files account (Ships primary standby) = Unit {0}

-- what is done of it; a ship is told by its parts
abbrev pub GoesTo : (result : Result Status RunError) (old new : World) → Asked → Account → Given → Type 0
GoesTo result old new (Runs asked) account given = RunsTo result old new asked account given
GoesTo result old new (Does deed) account given = TurnsTo result old new (one_turn old.files deed) account
GoesTo result old new (Ships primary standby) account given = Unit {0}

-- What `run` does on these words: a run, or a job of one turn.
abbrev pub Performs : (status : Status) (old new : World) → Asked → Account → Given → Type 0
Performs status old new (Runs asked) account given = PerformsRun status old new asked account given
Performs status old new (Does deed) account given = DoesTurn status old new (one_turn old.files deed) account
Performs status old new (Ships primary standby) account given = Unit {0}

-- what is said of a database of so many pages, in that state, that a first statement has created or opened
abbrev pub opened_reply : (first : Statement) (pages state : ℕ) → Reply
opened_reply first pages state = elim first [ OpenDb name cache ↦ OpenedReply pages state | _ ↦ Pages pages ]

-- the first event and then all turns
abbrev pub played_behind : Event → Played → Played
played_behind event played = (event ∷ played.0, played.1)

-- turns as a run tells them
abbrev pub told_turns : Telling → (pages : ℕ) → Played → Played
told_turns telling pages played = (told_later telling pages played.0, played.1)

-- The script's turns were taken to their end and told, or some of them. Where more GUIDs could have been given, just those of the backups that they
-- began were given, in order.
pub record PlaysTold (result : Result Bool RunError) (old new : World) (before after : Held) (t : Trail) (telling : Telling) (pages : ℕ) (now : Now) (schedule : List ℕ) : Type 0 where
  pub how_often : ℕ
  pub plays : Plays result old new before after t now (told_turns telling pages (play (schedule ++ rounds how_often) now)) (files_made (play (schedule ++ rounds how_often) now).0)
  pub finished : AreFinished (play (schedule ++ rounds how_often) now).1.todo
  pub guids : IfOk result (λ refused. (play (schedule ++ rounds how_often) now).1.given.guids ≢ [] → new.guids ≡ old.guids ++ guids_in (strokes_of (play (schedule ++ rounds how_often) now).0))

-- The reply of the first statement was said, and then the script's turns were taken to their end, or some of them. `start` stood before
-- the strokes of the first statement.
pub record PlaysOpened (result : Result Bool RunError) (old new : World) (before after : Held) (start : Base) (first : Event) (telling : Telling) (pages : ℕ) (now : Now) (plan : Plan) : Type 0 where
  pub how_often : ℕ
  pub plays : Plays result old new before after (settled start) now (played_behind first (told_turns telling pages (play (plan.schedule ++ rounds how_often) now))) (files_made (play (plan.schedule ++ rounds how_often) now).0)
  pub finished : AreFinished (play (plan.schedule ++ rounds how_often) now).1.todo
  pub unchanged : list_all only_told (told_later telling pages (play (plan.schedule ++ rounds how_often) now).0) ≡ true → new.files ≡ old.files
  pub guids : IfOk result (λ refused. (play (plan.schedule ++ rounds how_often) now).1.given.guids ≢ [] → new.guids ≡ old.guids ++ guids_in (strokes_of (play (plan.schedule ++ rounds how_often) now).0))

-- what is read of a script's file: its bytes, or that it isn't there or is too long
abbrev pub IsFileRead : Result (Vec ℕ) Fault → (name : List ℕ) → File → Type 0
IsFileRead (Ok bytes) name file = file ≡ Some bytes.items
IsFileRead (Err (RefusedFault refusal)) name file = script_in name file ≡ Err refusal
IsFileRead (Err DeviceFault) name file = Unit
IsFileRead (Err MemoryFault) name file = Unit
