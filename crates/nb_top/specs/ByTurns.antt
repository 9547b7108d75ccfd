-- A run turn by turn: its database is opened, its turns are taken one by one, and what waits is written out.
--
-- What is said of a whole run leaves open in which of its turns a file has changed. Here each turn stands by itself, from the host at which the one
-- before it ended: it leaves alone every file but the database's two and those that this turn may touch, and where it only tells something, as a
-- refusal, all files read after it as before it, byte for byte. So a file that a later statement makes stays as it is until the first turn of that
-- statement has come.
use Rattle.std.specs.Prelude.{◌≡◌, ◌⊎◌, ℕ, List, Bool, None, Some, Result, Ok, Err}
use Rattle.nb_host.specs.World.{World}
use Rattle.nb_host.specs.declared.refusals.Refusal.{Refusal}
use Rattle.nb_host.specs.declared.faults.RunError.{RunError}
use Rattle.nb_host.specs.declared.faults.RunError.TheVariants.{Memory as MemoryError}
use Rattle.nb_change.specs.Changes.{Only}
use Rattle.nb_model.specs.declared.statement.Statement.{Statement}
use Rattle.nb_model.specs.declared.statement.Statement.TheVariants.{OpenDb}
use Rattle.nb_model.specs.Account.{Plain, Account, Base, with_entry}
use Rattle.nb_model.specs.Causes.{not_free}
use Rattle.nb_model.specs.Generated.{generated}
use Rattle.nb_model.specs.Outcomes.{Given}
use Rattle.nb_model.specs.Run.{Event, Now, base_now, opening}
use Rattle.nb_model.specs.Trail.{Trail, settled}
use Rattle.nb_base.specs.Open.{OfFiles}
use Rattle.nb_state.specs.Open.{Held}
use Rattle.nb_script.specs.Scripts.{Plan, script_of}
use Rattle.nb_session.specs.ByTurns.{Ending, GoesByTurns, ending_of}
use Rattle.nb_session.specs.Others.{LeavesOthers}
use Rattle.nb_ended.specs.declared.status.Status.{Status}
use Rattle.nb_ended.specs.declared.status.Status.TheVariants.{Device, Memory}
use Rattle.nb_top.specs.declared.telling.Telling.{Telling}
use Rattle.nb_top.specs.declared.telling.Telling.TheVariants.{Sparingly}
use Rattle.nb_top.specs.Performed.{PlaysOpened, PlaysTold, pages_first, told_later}
use Rattle.nb_top.specs.Requests.{Request, ToRun, ToGenerate, Asked, Runs, Does, Ships}

-- a call of the host failed, or memory ran out
abbrev pub EndsEarly : Result Status RunError → Type 0
EndsEarly (Ok Device) = Unit {0}
EndsEarly (Ok Memory) = Unit {0}
EndsEarly (Ok other) = ⊥
EndsEarly (Err stop) = Unit {0}

-- memory ran out
abbrev pub RanOut : Result Status RunError → Type 0
RanOut (Ok Memory) = Unit {0}
RanOut (Err MemoryError) = Unit {0}
RanOut other = ⊥

-- how it ended
abbrev pub ending_by : Result Status RunError → Ending
ending_by result = record { early = EndsEarly result; ran_out = RanOut result }

-- opening a database changes no byte; a statement that creates one may
abbrev pub StillWhereOpened : (first : Statement) → (old new : World) → Type 0
StillWhereOpened (OpenDb name cache) old new = new.files ≡ old.files
StillWhereOpened other old new = Unit {0}

-- The database was created or opened, and its first reply said, with every other file left alone, and with no byte changed where it was opened.
-- Then the turns were taken.
pub record OpensAndGoes {H : Type 0} (world : H → World) (ending : Ending) (first : Statement) (told : List Event → List Event) (old new : H) (now : Now) (schedule : List ℕ) : Type 0 where
  pub opened : H
  pub leaves : LeavesOthers (world old) (world opened) (OfFiles now.name)
  pub still : StillWhereOpened first (world old) (world opened)
  pub goes : GoesByTurns world ending told opened new (settled (base_now now)) now schedule

-- It ended early, before the first turn: every other file was left alone, and no byte changed where the database was to be opened.
pub record OpensEarly {H : Type 0} (world : H → World) (ending : Ending) (first : Statement) (old new : H) (now : Now) : Type 0 where
  pub ended : ending.early
  pub leaves : LeavesOthers (world old) (world new) (OfFiles now.name)
  pub still : StillWhereOpened first (world old) (world new)

-- one or the other
abbrev pub TurnsFrom : {H : Type 0} → (world : H → World) → (ending : Ending) → (first : Statement) → (told : List Event → List Event) → (old new : H) → Now → (schedule : List ℕ) → Type 0
TurnsFrom world ending first told old new now schedule = OpensAndGoes world ending first told old new now schedule ⊎ OpensEarly world ending first old new now

-- So it is of a script. Where its first statement is refused no byte changes.
abbrev pub ScriptByTurns : {H : Type 0} → (world : H → World) → (ending : Ending) → (old new : H) → Plan → Telling → Account → Given → Type 0
ScriptByTurns world ending old new plan telling account given = elim (opening account given plan.sessions plan.first_session plan.first).now as (λ now. Type 0) [
  | None ↦ (world new).files ≡ (world old).files
  | Some now ↦ TurnsFrom world ending plan.first (told_later telling (pages_first account plan.first)) old new now plan.schedule
]

-- of one that is read
abbrev pub ReadByTurns : {H : Type 0} → (world : H → World) → (ending : Ending) → (old new : H) → Result Plan Refusal → Telling → Account → Given → Type 0
ReadByTurns world ending old new (Err refusal) telling account given = (world new).files ≡ (world old).files
ReadByTurns world ending old new (Ok plan) telling account given = ScriptByTurns world ending old new plan telling account given

-- The file of a script was made, with every other file left alone, and then the script was run.
pub record WritesAndGoes {H : Type 0} (world : H → World) (ending : Ending) (old new : H) (name bytes : List ℕ) (account : Account) (given : Given) : Type 0 where
  pub written : H
  pub leaves : LeavesOthers (world old) (world written) (Only name)
  pub goes : ReadByTurns world ending written new (script_of bytes) Sparingly (with_entry name (Plain bytes None) account) given

-- So it was, or it ended early while the file was made.
abbrev pub WrittenByTurns : {H : Type 0} → (world : H → World) → (ending : Ending) → (old new : H) → (name bytes : List ℕ) → Account → Given → Type 0
WrittenByTurns world ending old new name bytes account given = WritesAndGoes world ending old new name bytes account given ⊎ (ending.early × LeavesOthers (world old) (world new) (Only name))

-- What is asked for, turn by turn. Where it is refused at once no byte changes.
abbrev pub RunByTurns : {H : Type 0} → (world : H → World) → (ending : Ending) → (old new : H) → Result Request Refusal → Account → Given → Type 0
RunByTurns world ending old new (Err refusal) account given = (world new).files ≡ (world old).files
RunByTurns world ending old new (Ok (ToRun plan telling)) account given = ScriptByTurns world ending old new plan telling account given
RunByTurns world ending old new (Ok (ToGenerate number name)) account given = elim (not_free name (account.entry name)) as (λ cause. Type 0) [
  | Some refusal ↦ (world new).files ≡ (world old).files
  | None ↦ WrittenByTurns world ending old new name (generated number) account given
]

-- a job of one turn is told by its own promise, and so is a ship
abbrev pub AskedByTurns : {H : Type 0} → (world : H → World) → (ending : Ending) → (old new : H) → Asked → Account → Given → Type 0
AskedByTurns world ending old new (Runs asked) account given = RunByTurns world ending old new asked account given
AskedByTurns world ending old new (Does deed) account given = Unit {0}
AskedByTurns world ending old new (Ships primary standby) account given = Unit {0}

-- The script's turns were taken and told: what is said of all of them, and of each.
pub record TakesTold {H : Type 0} (world : H → World) (result : Result Bool RunError) (old new : H) (before after : Held) (t : Trail) (telling : Telling) (pages : ℕ) (now : Now) (schedule : List ℕ) : Type 0 where
  pub whole : PlaysTold result (world old) (world new) before after t telling pages now schedule
  pub turns : GoesByTurns world (ending_of result) (told_later telling pages) old new t now schedule

-- The reply of the first statement was said, and then they were taken.
pub record RunsOpened {H : Type 0} (world : H → World) (result : Result Bool RunError) (old new : H) (before after : Held) (start : Base) (first : Event) (telling : Telling) (pages : ℕ) (now : Now) (plan : Plan) : Type 0 where
  pub whole : PlaysOpened result (world old) (world new) before after start first telling pages now plan
  pub turns : TurnsFrom world (ending_of result) plan.first (told_later telling pages) old new now plan.schedule
