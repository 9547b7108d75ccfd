-- What the jobs of the command line do, by their kinds. A job that attaches a database is the script of one session that opens it. Restore,
-- fixup and merging in place are one turn without an opening.
use Rattle.std.specs.Prelude.{◌≡◌, ℕ, Bool, List, [], ◌∷◌, length, replicate, Option, Some, None, is_some, Ok, Err, true, false, not, ◌==◌}
use Rattle.nb_fields.specs.Header.{state_of}
use Rattle.nb_fields.specs.States.{stalled_state}
use Rattle.nb_host.specs.Files.{File, Files, bytes_of}
use Rattle.nb_host.specs.declared.refusals.Refusal.{Refusal}
use Rattle.nb_host.specs.declared.refusals.Refusal.TheVariants.{NoFile, WrongState, DeltaPresent}
use Rattle.nb_model.specs.declared.job.Ask.{Ask}
use Rattle.nb_model.specs.declared.job.Ask.TheVariants.{Stat, Check, Reclaim, Backup, BackupSince, Lock, LockWithSize, Unlock, Activate}
use Rattle.nb_model.specs.declared.job.Deed.{Deed}
use Rattle.nb_model.specs.declared.job.Deed.TheVariants.{Restore, Fixup, Apply}
use Rattle.nb_model.specs.declared.reply.Reply.{Reply}
use Rattle.nb_model.specs.declared.reply.Reply.TheVariants.{Done, Pages, Scn, ScnPages, Refused}
use Rattle.nb_model.specs.declared.statement.Statement.{Statement}
use Rattle.nb_model.specs.declared.statement.Statement.TheVariants.{OpenDb, BeginBackup, EndBackup, Activate as ActivateIt, Check as CheckIt, Reclaim as ReclaimIt, ShowHeader, ShowPages}
use Rattle.nb_model.specs.declared.statement.Statement.TheVariants.{Backup as BackupTo, BackupSince as BackupOf}
use Rattle.nb_model.specs.Image.{image_in}
use Rattle.nb_model.specs.Account.{Account}
use Rattle.nb_model.specs.Strokes.{Stroke, make, fix, merge, fixed, merged, base_in}
use Rattle.nb_model.specs.Causes.{Cause, first_cause, when, not_database, not_free}
use Rattle.nb_model.specs.Outcomes.{Given}
use Rattle.nb_model.specs.Owner.{delta_name}
use Rattle.nb_model.specs.Restoring.{verdict, applied}
use Rattle.nb_model.specs.InPlace.{in_place}
use Rattle.nb_model.specs.Run.{Event, account_after, with_made, IsRun}

-- how many pages the cache of such a job holds
abbrev pub usual_cache : ℕ
usual_cache = 64

-- what is asked, as the statements of session 1
abbrev pub asks_of : Ask → List Statement
asks_of Stat = ShowHeader ∷ ShowPages ∷ []
asks_of Check = CheckIt ∷ []
asks_of Reclaim = ReclaimIt ∷ []
asks_of (Backup level file) = BackupTo level file ∷ []
asks_of (BackupSince guid file) = BackupOf guid file ∷ []
asks_of Lock = BeginBackup ∷ []
asks_of LockWithSize = BeginBackup ∷ []
asks_of Unlock = EndBackup ∷ []
asks_of Activate = ActivateIt ∷ []

-- it may write to the database
abbrev pub writes : Ask → Bool
writes Stat = false
writes Check = false
writes other = true

-- the file that it makes, if it makes one
abbrev pub file_made : Ask → Option (List ℕ)
file_made (Backup level file) = Some file
file_made (BackupSince guid file) = Some file
file_made other = None

-- of the first statement only a refusal is said
abbrev pub refusal_in : Option Reply → Option Reply
refusal_in (Some (Refused refusal)) = Some (Refused refusal)
refusal_in other = None

abbrev pub quiet : List Event → List Event
quiet [] = []
quiet (e ∷ es) = record e { reply = refusal_in e.reply } ∷ es

-- a begin also says the number of pages
abbrev pub sized : (pages : ℕ) → Option Reply → Option Reply
sized pages (Some (Scn scn)) = Some (ScnPages scn pages)
sized pages other = other

unfoldable pub all_sized : (pages : ℕ) → List Event → List Event
all_sized pages [] = []
all_sized pages (e ∷ es) = record e { reply = sized pages e.reply } ∷ all_sized pages es

-- the number of pages is asked for too
abbrev pub asks_size : Ask → Bool
asks_size LockWithSize = true
asks_size other = false

-- what such a job says
abbrev pub said_by : (db : List ℕ) → Ask → Account → List Event → List Event
said_by db ask before events = elim (asks_size ask) [ true ↦ all_sized (length (base_in (before.entry db)).image) (quiet events) | false ↦ quiet events ]

-- a job that attaches: the run of its script, whose opening it doesn't say
pub record IsAttaching (before : Account) (given : Given) (db : List ℕ) (ask : Ask) (events : List Event) (after : Account) : Type 0 where
  pub whole : List Event
  pub left : Given
  pub run : IsRun before given 1 (OpenDb db usual_cache) [] (asks_of ask ∷ replicate 15 []) whole after left
  pub said : events ≡ said_by db ask before whole

-- one turn of session 1
abbrev pub only_turn : Reply → List Stroke → Event
only_turn reply strokes = record { session = 1; strokes = strokes; reply = Some reply; made = None; syncs = true }

abbrev pub only_refusal : Refusal → Event
only_refusal refusal = only_turn (Refused refusal) []

-- `-R`: the target has to be free, and the files have to be a chain
unfoldable pub restore_turn : Files → Account → (db : List ℕ) → (names : List (List ℕ)) → Event
restore_turn files account db names = elim (not_free db (account.entry db)) [
  | Some refusal ↦ only_refusal refusal
  | None ↦ elim (verdict files names) [
    | Err refusal ↦ only_refusal refusal
    | Ok links ↦ only_turn (Pages (length (applied links))) (make (fixed (applied links)) ∷ [])
  ]
]

-- why a fixup is refused
unfoldable pub not_fixable : (name : List ℕ) → (main delta : File) → Cause
not_fixable name None delta = Some (NoFile name)
not_fixable name (Some bytes) delta = first_cause (
    not_database bytes
    ∷ when (not (state_of bytes == stalled_state)) (WrongState (state_of bytes))
    ∷ when (is_some delta) (DeltaPresent (delta_name name))
    ∷ [])

-- `-F`
unfoldable pub fixup_turn : Files → (db : List ℕ) → Event
fixup_turn files db = elim (not_fixable db (files db) (files (delta_name db))) [ Some refusal ↦ only_refusal refusal | None ↦ only_turn Done (fix ∷ []) ]

-- `-I -R`
unfoldable pub apply_turn : Files → (db name : List ℕ) → Event
apply_turn files db name = elim (in_place files db name) [
  | Err refusal ↦ only_refusal refusal
  | Ok c ↦ only_turn (Pages (length (merged c.pages (image_in (bytes_of (files db)))))) (merge c.pages ∷ [])
]

-- the turn of a deed on a database
unfoldable pub turn_of : Files → Account → Deed → Option (List ℕ × Event)
turn_of files account (Restore db names) = Some (db, restore_turn files account db names)
turn_of files account (Apply db file) = Some (db, apply_turn files db file)
turn_of files account (Fixup db) = Some (db, fixup_turn files db)
turn_of files account other = None

-- the account after a turn on the file of that name: with its strokes, and with the file that it made
unfoldable pub account_behind : (name : List ℕ) → Event → Account → Account
account_behind name e account = with_made e.made (elim e.strokes [ [] ↦ account | s ∷ ss ↦ account_after name e.strokes None account ])
