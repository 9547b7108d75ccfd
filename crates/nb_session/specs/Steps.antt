-- What one turn of a session does.
use Rattle.std.specs.Prelude.{◌≡◌, ℕ, ◌-◌, List, [], ◌∷◌, ◌++◌, ◌||◌, Bool, IsTrue, Option, Some, None, Result, Ok, Err, OnOk, IfOk}
use Rattle.std.specs.List.{slice_index_or}
use Rattle.nb_host.specs.World.{World}
use Rattle.nb_host.specs.declared.faults.RunError.{RunError}
use Rattle.nb_host.specs.Causes.{CountsRun, FaultCount}
use Rattle.nb_model.specs.declared.statement.Statement.TheVariants.{Backup as BackupTo, BackupSince}
use Rattle.nb_model.specs.Gifts.{Foretells}
use Rattle.nb_model.specs.Going.{IsMaking}
use Rattle.nb_model.specs.Making.{MadeFile, making, making_by}
use Rattle.nb_model.specs.Outcomes.{Turn, Begins}
use Rattle.nb_model.specs.Run.{Now, base_now, outcome, take_turn, one_turn}
use Rattle.nb_model.specs.Strokes.{base_after}
use Rattle.nb_model.specs.Trail.{Trail}
use Rattle.nb_state.specs.Open.{Held, name_of}
use Rattle.nb_session.specs.Acts.{Grows, shown_by}
use Rattle.nb_session.specs.declared.task.Left.{Left}
use Rattle.nb_session.specs.declared.task.Task.{Task}
use Rattle.nb_session.specs.declared.told.Told.{Told}
use Rattle.nb_session.specs.Askers.{Asker, HasTodo, KeepsOthers, left_refused, left_task, task_first, task_rest, task_todo, todo_of}
use Rattle.nb_session.specs.Dangers.{Finds}
use Rattle.nb_session.specs.Ready.{IsReady, TaskGoes}
use Rattle.nb_session.specs.Ended.{EndsTurn, EndsNext}
use Rattle.nb_session.specs.Short.{RanOut, CameToEnd}
use Rattle.nb_session.specs.Stops.{Plays}
use Rattle.nb_session.specs.Told.{told_turns}

-- an answer as that of turns: whether a statement was refused, or why they ended early
abbrev pub as_played : {T : Type 0} → (T → Bool) → Result T RunError → Result Bool RunError
as_played refused (Ok value) = Ok (refused value)
as_played refused (Err error) = Err error

-- the files that are still to be made after that turn
abbrev pub left_making : (session : ℕ) → Turn → Now → List MadeFile
left_making session turn now = making (base_after (base_now now) (outcome session turn now).strokes).frozen (outcome session turn now).next

-- the file of a backup that begins in that turn, which is made then
abbrev pub begun_in : (session : ℕ) → Turn → Now → List MadeFile
begun_in session (Begins (BackupTo level name)) now = left_making session (Begins (BackupTo level name)) now
begun_in session (Begins (BackupSince guid name)) now = left_making session (Begins (BackupSince guid name)) now
begun_in session other now = []

-- the files that a turn may touch, where `tail` stands after it: that of a backup that begins, and those that its statement is still to make
abbrev pub touching : (session : ℕ) → Turn → (tail : List Turn) → Now → List MadeFile
touching session turn tail now = begun_in session turn now ++ making (base_now now).frozen (turn ∷ tail)

-- and those that the next turn of a session may
abbrev pub begun_first : (session : ℕ) → List Turn → Now → List MadeFile
begun_first session [] now = []
begun_first session (turn ∷ rest) now = begun_in session turn now

abbrev pub touching_by : (session : ℕ) → Now → List MadeFile
touching_by session now = begun_first session (slice_index_or now.todo (session - 1) []) now ++ making_by session now

-- the numbers that the next turn of a session shows
abbrev pub shown_first : List Turn → Held → List ℕ
shown_first [] held = []
shown_first (turn ∷ rest) held = shown_by turn held

abbrev pub shown_next : Asker → Held → List ℕ
shown_next asker held = shown_first (todo_of asker) held

-- What a turn leaves of its statement, where `tail` stood after it: what is under way then, and that it goes on from where it is.
pub record IsBehind (w : World) (held : Held) (session : ℕ) (turn : Turn) (tail : List Turn) (now : Now) (task : Option Task) : Type 0 where
  pub next : (outcome session turn now).next ++ tail ≡ task_todo task
  pub goes : TaskGoes session w held (base_after (base_now now) (outcome session turn now).strokes).frozen task

-- A turn was taken, and what is told of it said, where the outside gave what it may give. `tail` is what its statement has to do after it, and `more` what its session has after that.
pub record Turns {T : Type 0} (told : Told) (refused : T → Bool) (task : T → Option Task) (result : Result T RunError) (old new : World) (before after : Held) (t : Trail) (now : Now) (session : ℕ) (turn : Turn) (tail more : List Turn) : Type 0 where
  pub grows : Grows old new
  pub plays : Foretells now.given (shown_by turn before) old new
      → Plays (as_played refused result) old new before after t now (told_turns told (take_turn session (turn ∷ (tail ++ more)) now)) (touching session turn tail now)
  pub ends : Foretells now.given (shown_by turn before) old new → EndsTurn (RanOut result) (CameToEnd result) old new (name_of before) t now session turn
  pub behind : Foretells now.given (shown_by turn before) old new → IfOk result (λ value. IsBehind new after session turn tail now (task value))

-- What is under way took its next turn, where the session has that to do and it goes on from where it is. It is `now_task` then, where it goes on.
abbrev pub GoesFurther : (told : Told) (task now_task : Option Task) (result : Result Left RunError) (old new : World) (before after : Held) (t : Trail) (now : Now) (session : ℕ) (more : List Turn) → Type 0
GoesFurther told None now_task result old new before after t now session more = Unit {0}
GoesFurther told (Some task) now_task result old new before after t now session more =
    slice_index_or now.todo (session - 1) [] ≡ task_first task ∷ (task_rest task ++ more) → TaskGoes session old before t.base.frozen (Some task)
    → Turns told left_refused (left_task now_task) result old new before after t now session (task_first task) (task_rest task) more

-- The next turn of a session was taken, what it has to do then is left, and what is under way of it goes on.
pub record TakesNext (refused : Bool) (result : Result (Unit {0}) RunError) (old new : World) (before after : Held) (t : Trail) (now : Now) (asker moved : Asker) : Type 0 where
  pub grows : Grows old new
  pub plays : Foretells now.given (shown_next asker before) old new → Plays (as_played (λ done. refused) result) old new before after t now (told_turns asker.told (one_turn asker.number now)) (touching_by asker.number now)
  pub ends : Foretells now.given (shown_next asker before) old new → EndsNext (RanOut result) (CameToEnd result) old new (name_of before) t now asker.number
  pub todo : Foretells now.given (shown_next asker before) old new → OnOk result (HasTodo moved (one_turn asker.number now).1)
  pub goes : Foretells now.given (shown_next asker before) old new → OnOk result (TaskGoes asker.number new after (base_now (one_turn asker.number now).1).frozen moved.task)

-- One turn of a session on a database that is open. Whatever the host tells, other sessions have what they need, and the count of faults
-- is as the answer says.
pub record Steps (tells : Bool) (result : Result (Unit {0}) RunError) (old new : World) (faults faults' : FaultCount) (before after : Held) (asker moved : Asker) : Type 0 where
  pub refused : Bool
  pub noted : OnOk result (moved.refused ≡ (asker.refused || refused))
  pub told : moved.told ≡ asker.told
  pub danger : OnOk result (Finds tells old before asker.task asker.statements asker.danger moved.danger)
  pub takes : (now : Now) (t : Trail) → IsTrue tells → IsReady old before t now → IsMaking now → HasTodo asker now → TaskGoes asker.number old before t.base.frozen asker.task
      → TakesNext refused result old new before after t now asker moved
  pub others : KeepsOthers asker.number before after
  pub cause : CountsRun result faults faults'
