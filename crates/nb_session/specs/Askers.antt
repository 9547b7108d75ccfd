-- A session of a script between two of its turns.
use Rattle.std.proofs.Common.{sym, ◌∙◌}
use Rattle.std.specs.Prelude.{◌≡◌, ◌≢◌, ◌<◌, ◌^◌, ℕ, zero, suc, ◌+◌, ◌-◌, Bool, false, List, [], ◌∷◌, ◌++◌, length, map, replicate, Option, Some, None}
use Rattle.std.specs.List.{AllByRecursion, list_any, slice_index_or}
use Rattle.nb_fields.specs.States.{normal_state, merge_state}
use Rattle.nb_model.specs.declared.statement.Statement.{Statement}
use Rattle.nb_model.specs.declared.statement.Statement.TheVariants.{EndBackup, Activate, Backup as BackupTo, BackupSince, CopyTo, Check, Reclaim, CreateTable, DropTable, Insert, Update, Delete, Get, Scan}
use Rattle.nb_model.specs.Outcomes.{Turn, Begins, Copies, ClosesBackup, ClosesCopy, Ends, Merges, Finishes}
use Rattle.nb_model.specs.Run.{Now, all_sessions}
use Rattle.nb_copy.specs.FileCopying.{file_count, file_next}
use Rattle.nb_script.specs.Asked.{IsFurther}
use Rattle.nb_script.specs.Scripts.{Plan, statements_of}
use Rattle.nb_state.specs.Open.{Held}
use Rattle.nb_session.specs.Replies.{is_refusal}
use Rattle.nb_session.specs.declared.task.Left.{Left}
use Rattle.nb_session.specs.declared.task.Left.TheVariants.{Same, Other}
use Rattle.nb_session.specs.declared.task.Task.{Task}
use Rattle.nb_session.specs.declared.told.Told.{Told}
use Rattle.nb_session.specs.declared.task.Task.TheVariants.{Backup, Copy, End, Merge}

-- the statement is done in one turn
abbrev pub IsOneTurn : Statement → Type 0
IsOneTurn EndBackup = ⊥
IsOneTurn Activate = ⊥
IsOneTurn (BackupTo level name) = ⊥
IsOneTurn (BackupSince guid name) = ⊥
IsOneTurn (CopyTo name) = ⊥
IsOneTurn other = Unit {0}

-- the statement is one on tables
abbrev pub IsOnTables : Statement → Type 0
IsOnTables (CreateTable table) = Unit {0}
IsOnTables (DropTable table) = Unit {0}
IsOnTables (Insert table key text) = Unit {0}
IsOnTables (Update table key text) = Unit {0}
IsOnTables (Delete table key) = Unit {0}
IsOnTables (Get table key) = Unit {0}
IsOnTables (Scan table) = Unit {0}
IsOnTables other = ⊥

-- the statement checks the database, or gives its leaked pages back
abbrev pub IsCheck : Statement → Type 0
IsCheck Check = Unit {0}
IsCheck Reclaim = Unit {0}
IsCheck other = ⊥

-- the statement ends a backup of the open database, unless it is refused: in the normal state `activate` ends none
abbrev pub IsEnd : Statement → Held → Type 0
IsEnd EndBackup held = Unit {0}
IsEnd Activate held = held.files.state ≢ normal_state
IsEnd other held = ⊥

-- the statement asks for a backup
abbrev pub IsBackup : Statement → Type 0
IsBackup (BackupTo level name) = Unit {0}
IsBackup (BackupSince guid name) = Unit {0}
IsBackup other = ⊥

-- and for it into a file of that name
abbrev pub file_asked : Statement → List ℕ
file_asked (BackupTo level name) = name
file_asked (BackupSince guid name) = name
file_asked other = []

-- What a contract sees of a session.
pub record Asker : Type 0 where
  pub number : ℕ
  -- how much of its replies is said
  pub told : Told
  -- the statements that it has not begun
  pub statements : List Statement
  -- its statement of many turns that is under way
  pub task : Option Task
  -- whether a statement of it was refused
  pub refused : Bool
  -- the pages in danger that its last check has found, if one was done
  pub danger : Option (List ℕ)

-- so many turns, and then a last one: the first of them, and those after it
abbrev pub copy_first : (left : ℕ) → (last : Turn) → Turn
copy_first zero last = last
copy_first (suc left) last = Copies

abbrev pub copy_rest : (left : ℕ) → (last : Turn) → List Turn
copy_rest zero last = []
copy_rest (suc left) last = replicate left Copies ++ last ∷ []

abbrev pub merge_first : (left : ℕ) → (last : Turn) → Turn
merge_first zero last = last
merge_first (suc left) last = Merges

abbrev pub merge_rest : (left : ℕ) → (last : Turn) → List Turn
merge_rest zero last = []
merge_rest (suc left) last = replicate left Merges ++ last ∷ []

-- the next turn of a statement that is under way, and those after it
abbrev pub task_first : Task → Turn
task_first (Backup c) = copy_first (file_count c.file - file_next c.file) (ClosesBackup c.backing)
task_first (Copy c) = copy_first (c.count - c.next) (ClosesCopy c.name)
task_first (End reply) = Ends reply
task_first (Merge m) = merge_first m.left (Finishes m.reply)

abbrev pub task_rest : Task → List Turn
task_rest (Backup c) = copy_rest (file_count c.file - file_next c.file) (ClosesBackup c.backing)
task_rest (Copy c) = copy_rest (c.count - c.next) (ClosesCopy c.name)
task_rest (End reply) = []
task_rest (Merge m) = merge_rest m.left (Finishes m.reply)

-- all of them, if one is under way
abbrev pub task_todo : Option Task → List Turn
task_todo None = []
task_todo (Some task) = task_first task ∷ task_rest task

-- what the session has still to do
abbrev pub todo_of : Asker → List Turn
todo_of asker = task_todo asker.task ++ map Begins asker.statements

-- it is what stands for it between two turns
abbrev pub HasTodo : Asker → Now → Type 0
HasTodo asker now = slice_index_or now.todo (asker.number - 1) [] ≡ todo_of asker

-- How much is left of a statement that is under way. Each turn of it lowers this: a copy comes before an end, and an end before a merge.
abbrev pub task_left : Option Task → ℕ
task_left None = 0
task_left (Some (Backup c)) = 17179869184 + (file_count c.file - file_next c.file)
task_left (Some (Copy c)) = 17179869184 + (c.count - c.next)
task_left (Some (End reply)) = 8589934592
task_left (Some (Merge m)) = m.left + 1

-- what a turn left of what was under way and is `task` now
abbrev pub left_task : (task : Option Task) → Left → Option Task
left_task task Same = task
left_task task (Other taken) = taken.task

-- and whether its statement was refused
abbrev pub left_refused : Left → Bool
left_refused Same = false
left_refused (Other taken) = taken.refused

-- its statements that are left, and then that
abbrev pub left_of : Asker → ℕ × ℕ
left_of asker = (length asker.statements, task_left asker.task)

-- A merge of this session is under way, and so many entries are not merged yet.
pub record IsMerging (session left : ℕ) (held : Held) : Type 0 where
  pub state : held.files.state ≡ merge_state
  pub running : held.running ≡ Some session
  pub rest : length held.files.entries ≡ held.merged + left

-- What a statement that is under way needs of the database: a copy has room for its pages, and a merge is as the session left it. What is
-- said once all is merged is no refusal.
abbrev pub TaskFits : (session : ℕ) → Option Task → Held → Type 0
TaskFits session None held = Unit {0}
TaskFits session (Some (Backup c)) held = c.page_size ≡ held.files.page_size
TaskFits session (Some (Copy c)) held = c.size ≡ held.files.page_size
TaskFits session (Some (End reply)) held = is_refusal reply ≡ false
TaskFits session (Some (Merge m)) held = IsMerging session m.left held × (is_refusal m.reply ≡ false)

-- What a session needs: its statements can be asked, and what is under way of it fits. How much is left of it is a number of 64 bits.
pub record IsFit (asker : Asker) (held : Held) : Type 0 where
  pub asks : AllByRecursion IsFurther asker.statements
  pub task : TaskFits asker.number asker.task held
  pub in_range : task_left asker.task < 2 ^ 64

-- The page size stays, and a merge of another session that is under way stays as it is.
pub record KeepsOthers (session : ℕ) (before after : Held) : Type 0 where
  pub page_size : after.files.page_size ≡ before.files.page_size
  pub merging : (other left : ℕ) → other ≢ session → IsMerging other left before → IsMerging other left after

-- so each other session has what it needs
pub keeps_fit : (session : ℕ) (other : Asker) (before after : Held) → other.number ≢ session → KeepsOthers session before after → IsFit other before → IsFit other after
keeps_fit session other before after apart keeps fit = record { asks = fit.asks; task = by other.task fit.task; in_range = fit.in_range }
  where
    by : (task : Option Task) → TaskFits other.number task before → TaskFits other.number task after
    by None is = tt
    by (Some (Backup c)) is = is ∙ sym keeps.page_size
    by (Some (Copy c)) is = is ∙ sym keeps.page_size
    by (Some (End reply)) is = is
    by (Some (Merge m)) is = (keeps.merging other.number m.left apart is.0, is.1)

-- a session that has all of its statements to do
abbrev pub fresh_asker : Told → Plan → (session : ℕ) → Asker
fresh_asker told plan session = record { number = session; told = told; statements = statements_of plan session; task = None; refused = false; danger = None }

-- the sessions of a script before their first turns
abbrev pub first_askers : Told → Plan → List Asker
first_askers told plan = map (fresh_asker told plan) all_sessions

-- whether a statement of one of the sessions was refused
abbrev pub any_refused : List Asker → Bool
any_refused askers = list_any (λ (a : Asker). a.refused) askers
