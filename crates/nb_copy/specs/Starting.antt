-- The start of a backup.
use Rattle.std.specs.Prelude.{◌≡◌, ◌⊎◌, ℕ, zero, suc, ◌<◌, ◌≤◌, List, [], ◌∷◌, ◌++◌, length, replicate, true, Option, Some, None, is_none, nat_eq, Result, OnOk, IfOk, IfErr, ◌≢◌}
use Rattle.nb_fields.specs.States.{normal_state, stalled_state}
use Rattle.nb_host.specs.Files.{Files}
use Rattle.nb_host.specs.World.{World}
use Rattle.nb_host.specs.declared.faults.Fault.{Fault}
use Rattle.nb_host.specs.declared.faults.Fault.TheVariants.{Memory}
use Rattle.nb_host.specs.Names.{same_name}
use Rattle.nb_host.specs.declared.refusals.Refusal.{Refusal}
use Rattle.nb_host.specs.declared.refusals.Refusal.TheVariants.{NoHistory, NoGuid}
use Rattle.nb_change.specs.Changes.{Names, Changes, Reached, Remade}
use Rattle.nb_page.specs.Free.{is_free_name}
use Rattle.nb_page.specs.Quiet.{Quiet}
use Rattle.nb_level.specs.declared.head.LevelHead.{LevelHead}
use Rattle.nb_model.specs.Image.{Image, image_state, image_scn}
use Rattle.nb_model.specs.Account.{Ask}
use Rattle.nb_model.specs.Backups.{ask_of, level_behind, room_in, backup_turn, since_turn}
use Rattle.nb_model.specs.Causes.{Cause, Tested, first_cause, when, read_only, not_state, not_free, is_free_entry, broken_at}
use Rattle.nb_model.specs.Chains.{History, Spot, pages_of, backup_spot, level_in, guid_in}
use Rattle.nb_model.specs.Levels.{file_of, count_in}
use Rattle.nb_model.specs.Making.{kept_of}
use Rattle.nb_model.specs.Strokes.{Stroke, begin}
use Rattle.nb_model.specs.Outcomes.{Backing, Copies, ClosesBackup, Seen, Outcome}
use Rattle.nb_model.specs.Trail.{Trail, StandsIn, after_stroke}
use Rattle.nb_base.specs.Open.{OfFiles}
use Rattle.nb_base.specs.Takes.{Strikes, after_strokes}
use Rattle.nb_base.specs.Stays.{FileIs, GrowsWithin}
use Rattle.nb_state.specs.Open.{Held, IsOpen, name_of}
use Rattle.nb_state.specs.Does.{WhereEnded, has_only_told, unless_by}
use Rattle.nb_alloc.specs.Tries.{StopsEarly, WhereMemory}
use Rattle.nb_engine.specs.Turns.{SaysNone, starting_cause}
use Rattle.nb_copy.specs.declared.file_copy.FileCopy.{FileCopy}
use Rattle.nb_copy.specs.declared.since.Since.{Since}
use Rattle.nb_copy.specs.declared.since.Since.TheVariants.{Level, Guid}
use Rattle.nb_copy.specs.FileCopying.{file_name, file_count, file_next, whole_file, whole_count, IsFileCopying}
use Rattle.nb_gather.specs.Making.{IsEmpty, IsMade}

-- What a contract sees of a copier: what its close needs, the size of each page, and the file that it makes.
pub record Backed : Type 0 where
  pub backing : Backing
  pub page_size : ℕ
  pub file : FileCopy

-- A backup goes on: its file is a copy of this frozen image, and whole it is the file of what the begin has kept, with its pages.
pub record IsBackingUp (w : World) (copier : Backed) (frozen : Image) : Type 0 where
  pub name : file_name copier.file ≡ copier.backing.name
  pub whole : whole_file copier.file frozen ≡ file_of 102 (kept_of copier.backing frozen)
  pub count : whole_count copier.file frozen ≡ count_in (kept_of copier.backing frozen) copier.backing.ask
  pub goes : IsFileCopying w copier.file frozen

-- A copier that was started: its session has one turn left for each frozen page, and one for the close.
pub record IsStarted (w : World) (held : Held) (t : Trail) (copier : Backed) (turn : Outcome) : Type 0 where
  pub turns : turn.next ≡ replicate (file_count copier.file) Copies ++ ClosesBackup copier.backing ∷ []
  pub first : file_next copier.file ≡ 0
  pub stalled : held.files.state ≡ stalled_state
  pub below : copier.backing.page < length t.base.image
  pub goes : IsBackingUp w copier t.base.frozen

-- the two files of the database, and, where nothing refuses the backup, its own
abbrev pub OfStart : (name db : List ℕ) → Outcome → Names
OfStart name db turn m = OfFiles db m ⊎ ((m ≡ name) × (turn.reply ≡ None))

-- What a crash leaves: the database after a front of these strokes, and the file of the backup as it was, or empty.
pub record StartLeft (old : World) (name db : List ℕ) (t : Trail) (strokes : List Stroke) (files : Files) : Type 0 where
  pub database : Reached after_stroke (StandsIn db) t strokes files
  pub file : Remade old name IsEmpty files

-- No strokes were made but these, and no file was touched but those of the start.
abbrev pub StartMakes : (old new : World) (name db : List ℕ) → Trail → Outcome → List Stroke → Type 0
StartMakes old new name db t turn strokes = Changes old new (OfStart name db turn) (StartLeft old name db t strokes)

-- Nothing has begun: no GUID was given, and no strokes were made but those that make room in the history.
pub record HasNotBegun (old new : World) (name db : List ℕ) (t : Trail) (turn : Outcome) : Type 0 where
  pub guids : new.guids ≡ old.guids
  pub room : StartMakes old new name db t turn (room_in t.base.image).draft.strokes

-- memory isn't short
abbrev pub IsNotMemory : {T : Type 0} → Result T Fault → Type 0
IsNotMemory result = IfErr result (λ fault. fault ≢ Memory)

-- A backup into the file of that name is started, as its turn says; or that is a refusal, and nothing changes, whatever is answered. However the call
-- ends, nothing has begun, or the file was made; where memory is short nothing has begun.
pub record StartsBackup (result : Result Backed Fault) (old new : World) (before after : Held) (t : Trail) (file guid : List ℕ) (turn : Outcome) : Type 0 where
  pub says : SaysNone result turn.reply
  pub left : StartMakes old new file (name_of before) t turn turn.strokes
  pub long : GrowsWithin old new (name_of before) before.files.page_size t turn.strokes
  -- the main file is durable once it has begun, byte for byte
  pub frozen : OnOk result (FileIs new (name_of before) (λ file. file ≡ new.files (name_of before)))
  -- memory runs out before the last stroke, and before the file is made
  pub stops : WhereMemory result (StopsEarly old new before after t turn.strokes)
  pub begun : HasNotBegun old new file (name_of before) t turn ⊎ (IsMade new file × IsNotMemory result)
  pub opened : WhereEnded result (IsOpen new after (after_strokes t turn.strokes))
  pub running : WhereEnded result (after.running ≡ turn.running)
  pub gave : OnOk result (new.guids ≡ old.guids ++ guid ∷ [])
  pub times : new.times ≡ old.times
  pub idle : has_only_told turn.reply ≡ true → Quiet old new
  pub name : name_of after ≡ name_of before
  pub started : IfOk result (λ copier. IsStarted new after (after_strokes t turn.strokes) copier turn)

-- the row of the history that a backup goes on from
abbrev pub earlier_row : Since → Image → Option Spot
earlier_row (Level zero) image = None
earlier_row (Level (suc below)) image = backup_spot (λ row. nat_eq (level_in row) below) image
earlier_row (Guid guid) image = backup_spot (λ row. same_name (guid_in row) guid) image

-- its level, where it goes on from that row
abbrev pub level_of : Since → Option Spot → ℕ
level_of (Level level) row = level
level_of (Guid guid) row = level_behind row

-- what is asked of its copy
abbrev pub ask_in : Since → Image → Ask
ask_in since image = ask_of (level_of since (earlier_row since image)) (earlier_row since image)

-- why there is none to go on from: the history breaks the form, or has no such row
abbrev pub row_cause : Image → Option Spot → (missing : Refusal) → Cause
row_cause image row missing = first_cause (broken_at (pages_of History image) ∷ when (is_none row) missing ∷ [])

abbrev pub earlier_cause : Since → Image → Cause
earlier_cause (Level zero) image = None
earlier_cause (Level (suc below)) image = row_cause image (earlier_row (Level (suc below)) image) (NoHistory below)
earlier_cause (Guid guid) image = row_cause image (earlier_row (Guid guid) image) (NoGuid guid)

-- a level that is asked for is 9 at most
abbrev pub IsNineAtMost : Since → Type 0
IsNineAtMost (Level level) = level ≤ 9
IsNineAtMost (Guid guid) = Unit {0}

-- and is that of the backup
abbrev pub IsItsLevel : Since → (level : ℕ) → Type 0
IsItsLevel (Level asked) level = level ≡ asked
IsItsLevel (Guid guid) level = level ≤ 9

-- the first turn of the statement that asks for it
abbrev pub turn_since : Seen → (session : ℕ) → Since → (name : List ℕ) → Outcome
turn_since s session (Level level) name = backup_turn s session level name
turn_since s session (Guid guid) name = since_turn s session guid name

-- in the state of that number the account knows whether the name is free
abbrev pub KnowsFree : (state : ℕ) → Files → Seen → (name : List ℕ) → Type 0
KnowsFree state files s name = image_state s.base.image ≡ state → is_free_name files name ≡ is_free_entry (s.entry name)

-- why no backup into a file of that name may begin
abbrev pub file_cause : Seen → (name : List ℕ) → Cause
file_cause s name = first_cause (read_only s.base.image ∷ not_state normal_state s.base.image ∷ not_free name (s.entry name) ∷ [])

-- what a head says of the backup that it goes on from
abbrev pub ask_by : LevelHead → Ask
ask_by head = record { level = head.level; previous = head.previous; previous_scn = head.previous_scn }

-- A backup whose head has no GUID and SCN yet begins for the session, with this GUID and whatever is asked of its copy; or there is a cause to
-- refuse it, and nothing changes, whatever is answered.
pub record BeginsFor (result : Result LevelHead Fault) (old new : World) (before after : Held) (t : Trail) (guid : List ℕ) (ask : Option Ask) (session : ℕ) (bare : LevelHead) : Type 0 where
  pub test : Tested result (starting_cause t.base.image)
  pub left : Strikes old new (name_of before) t (unless_by (starting_cause t.base.image) (begin guid ask ∷ []))
  pub long : GrowsWithin old new (name_of before) before.files.page_size t (unless_by (starting_cause t.base.image) (begin guid ask ∷ []))
  pub frozen : OnOk result (FileIs new (name_of before) (λ file. file ≡ new.files (name_of before)))
  pub opened : OnOk result (IsOpen new after (after_strokes t (begin guid ask ∷ [])))
  pub head : IfOk result (λ begun. begun ≡ record bare { guid = guid; scn = image_scn t.base.image })
  pub gave : OnOk result (new.guids ≡ old.guids ++ guid ∷ [])
  pub times : new.times ≡ old.times
  pub idle : (r : Refusal) → starting_cause t.base.image ≡ Some r → Quiet old new
  pub running : OnOk result (after.running ≡ Some session)
  pub name : name_of after ≡ name_of before
