-- The further turns of a backup: its pages, and its close.
use Rattle.std.specs.Prelude.{◌≡◌, ◌⊎◌, ◌+◌, ◌<◌, ◌≤◌, ℕ, List, [], ◌∷◌, ◌++◌, Some, Result, Ok, Err, OnOk, IfErr}
use Rattle.nb_host.specs.Files.{Files}
use Rattle.nb_host.specs.World.{World}
use Rattle.nb_host.specs.declared.faults.Fault.{Fault}
use Rattle.nb_change.specs.Changes.{Names, Changes, Only, Reached, Remade}
use Rattle.nb_change.specs.Gave.{GaveNothing}
use Rattle.nb_model.specs.Levels.{count_in}
use Rattle.nb_model.specs.Strokes.{Stroke}
use Rattle.nb_model.specs.Trail.{Trail, StandsIn, after_stroke}
use Rattle.nb_model.specs.Owner.{delta_name}
use Rattle.nb_base.specs.Takes.{StrikesIn, after_strokes, IsNoRefusal}
use Rattle.nb_state.specs.Open.{Held, IsOpen, name_of}
use Rattle.nb_alloc.specs.Tries.{StopsShort, WhereMemory}
use Rattle.nb_state.specs.declared.turns.Progress.{Progress}
use Rattle.nb_state.specs.declared.turns.Progress.TheVariants.{More, Finished}
use Rattle.nb_model.specs.Making.{kept_of}
use Rattle.nb_gather.specs.Making.{IsKept, IsUnfinishedOr}
use Rattle.nb_copy.specs.FileCopying.{file_count, file_next, file_written, whole_file}
use Rattle.nb_copy.specs.Starting.{Backed, IsBackingUp}

-- the file of a backup, and the difference file of its database: the main file is frozen, and isn't touched
abbrev pub OfBackup : (name db : List ℕ) → Names
OfBackup name db m = (m ≡ name) ⊎ (m ≡ delta_name db)

-- this time was given, or none
abbrev pub GaveTimeAtMost : (old new : World) (time : ℕ) → Type 0
GaveTimeAtMost old new time = (new.times ≡ old.times) ⊎ (new.times ≡ old.times ++ time ∷ [])

-- What a crash leaves: while the file isn't kept for good, it is as it was, or unfinished, or whole, and the database stands as it was
-- seen; then the file is whole, and the database stands after a front of the strokes.
abbrev pub CloseLeft : (old : World) (name whole db : List ℕ) → Trail → List Stroke → Files → Type 0
CloseLeft old name whole db t strokes files =
    (Remade old name (IsUnfinishedOr whole) files × StandsIn db t files)
    ⊎ ((files name ≡ Some whole) × Reached after_stroke (StandsIn db) t strokes files)

-- one page more was dealt with: the file alone was touched
pub record CopiesOn (old new : World) (before after : Held) (copier later : Backed) (t : Trail) : Type 0 where
  pub left : Changes old new (Only copier.backing.name) (Remade old copier.backing.name (IsUnfinishedOr (whole_file copier.file t.base.frozen)))
  pub same : after ≡ before
  pub opened : IsOpen new after t
  pub gave : GaveNothing old new
  pub goes : IsBackingUp new later t.base.frozen

-- the file is whole and kept for good, and the strokes of the close were made
pub record CloseDone (old new : World) (before after : Held) (copier later : Backed) (t : Trail) (time : ℕ) (strokes : List Stroke) : Type 0 where
  pub kept : IsKept new copier.backing.name (whole_file copier.file t.base.frozen)
  pub opened : IsOpen new after (after_strokes t strokes)
  pub times : new.times ≡ old.times ++ time ∷ []
  pub written : file_written later.file ≡ count_in (kept_of copier.backing t.base.frozen) copier.backing.ask

-- what a turn answers
abbrev pub BackupAnswers : Result Progress Fault → (old new : World) (before after : Held) (copier later : Backed) (t : Trail) (time : ℕ) (strokes : List Stroke) → Type 0
BackupAnswers (Ok More) old new before after copier later t time strokes = CopiesOn old new before after copier later t
BackupAnswers (Ok Finished) old new before after copier later t time strokes = CloseDone old new before after copier later t time strokes
BackupAnswers (Err fault) old new before after copier later t time strokes = Unit {0}

-- Memory ran out in the close: a prefix of its strokes that lacks the last was made, and the database is open after it.
pub record ClosesShort (old new : World) (before after : Held) (copier : Backed) (t : Trail) (strokes : List Stroke) : Type 0 where
  pub made : List Stroke
  pub next : Stroke
  pub rest : List Stroke
  pub whole : made ++ next ∷ rest ≡ strokes
  pub left : Changes old new (OfBackup copier.backing.name before.files.name) (CloseLeft old copier.backing.name (whole_file copier.file t.base.frozen) before.files.name t made)
  pub opened : IsOpen new after (after_strokes t made)

-- A turn of a backup: a page more, or the close with these strokes at that time.
pub record BackupTurn (result : Result Progress Fault) (old new : World) (before after : Held) (copier later : Backed) (t : Trail) (time : ℕ) (strokes : List Stroke) : Type 0 where
  pub left : Changes old new (OfBackup copier.backing.name before.files.name) (CloseLeft old copier.backing.name (whole_file copier.file t.base.frozen) before.files.name t strokes)
  -- while pages are left the file alone is touched
  pub alone : file_next copier.file < file_count copier.file → Changes old new (Only copier.backing.name) (Remade old copier.backing.name (IsUnfinishedOr (whole_file copier.file t.base.frozen)))
  pub answer : BackupAnswers result old new before after copier later t time strokes
  pub guids : new.guids ≡ old.guids
  pub sure : IfErr result IsNoRefusal
  -- memory runs out in the close alone, and before its last stroke
  pub stops : WhereMemory result (ClosesShort old new before after copier t strokes)

-- whether a page was left, and that the next one follows
abbrev pub BackupCounts : Result Progress Fault → (copier later : Backed) → Type 0
BackupCounts (Ok More) copier later = (file_next copier.file < file_count copier.file) × (file_next later.file ≡ file_next copier.file + 1) × (file_count later.file ≡ file_count copier.file)
BackupCounts (Ok Finished) copier later = (file_next copier.file ≡ file_count copier.file) × (file_next later.file ≡ file_next copier.file)
BackupCounts (Err fault) copier later = Unit {0}

-- The close of a backup makes these strokes at that time, and isn't refused.
pub record Closes (result : Result (Unit {0}) Fault) (old new : World) (before after : Held) (t : Trail) (time : ℕ) (strokes : List Stroke) : Type 0 where
  pub left : StrikesIn old new before.files.state (name_of before) t strokes
  pub opened : OnOk result (IsOpen new after (after_strokes t strokes))
  pub times : OnOk result (new.times ≡ old.times ++ time ∷ [])
  pub guids : new.guids ≡ old.guids
  pub sure : IfErr result IsNoRefusal
  pub stops : WhereMemory result (StopsShort old new before after t strokes)

-- a turn that deals with a page reads two pages at most
abbrev pub ReadsTwo : Result Progress Fault → (old new : World) → Type 0
ReadsTwo (Ok More) old new = new.reads ≤ old.reads + 2
ReadsTwo (Ok Finished) old new = Unit {0}
ReadsTwo (Err fault) old new = Unit {0}
