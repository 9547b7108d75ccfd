-- A database is created or opened.
use Rattle.std.specs.Prelude.{◌≡◌, ◌⊎◌, ℕ, true, false, List, length, Result, Ok, Err}
use Rattle.nb_fields.specs.Free.{is_free_file}
use Rattle.nb_host.specs.Files.{Files}
use Rattle.nb_host.specs.World.{World}
use Rattle.nb_host.specs.Crash.{Leaves, LeavesAll}
use Rattle.nb_host.specs.declared.faults.Fault.{Fault}
use Rattle.nb_host.specs.declared.faults.Fault.TheVariants.{Refused, Device, Memory}
use Rattle.nb_host.specs.declared.refusals.Refusal.TheVariants.{FileExists}
use Rattle.nb_change.specs.Changes.{Changes, Only}
use Rattle.nb_change.specs.Gave.{GaveNothing}
use Rattle.nb_page.specs.Free.{is_free_name}
use Rattle.nb_page.specs.Quiet.{Quiet}
use Rattle.nb_model.specs.Image.{Image}
use Rattle.nb_model.specs.Account.{Base, base_of}
use Rattle.nb_model.specs.Owner.{delta_name, owner}
use Rattle.nb_model.specs.Trail.{ShowsIn, settled}
use Rattle.nb_base.specs.Open.{Held, IsOpen}

-- what is held is the database that the two files were as the call began, and each crash from now on leaves it
pub record IsAttached (held : Held) (old new : World) (name : List ℕ) : Type 0 where
  pub base : Base
  pub stands : ShowsIn name base old.files
  pub named : held.name ≡ name
  pub opened : IsOpen new held (settled base)

-- what a call answers, without what it answers beside it
abbrev pub first_of : {A B : Type 0} → Result (A × B) Fault → Result A Fault
first_of (Ok value) = Ok value.0
first_of (Err fault) = Err fault

-- it answers the database, or why there is none to open
abbrev pub Attaches : Result Held Fault → (old new : World) (name : List ℕ) → Type 0
Attaches (Ok held) old new name = IsAttached held old new name
Attaches (Err (Refused refusal)) old new name = owner name (old.files name) (old.files (delta_name name)) ≡ Err refusal
Attaches (Err Device) old new name = Unit {0}
Attaches (Err Memory) old new name = Unit {0}

-- while a database is created its file is as it was, or unfinished so that its name is free, or whole
abbrev pub CreateLeft : (old : World) (name : List ℕ) (image : Image) → Files → Type 0
CreateLeft old name image files = Leaves old name (files name) ⊎ (is_free_file (files name) ≡ true) ⊎ ShowsIn name (base_of image) files

-- so it reads, however the creation ended: as before, or unfinished so that its name is free, or whole
abbrev pub CreateReads : (old : World) (name : List ℕ) (image : Image) → Files → Type 0
CreateReads old name image files = (files name ≡ old.files name) ⊎ (is_free_file (files name) ≡ true) ⊎ ShowsIn name (base_of image) files

-- it answers the new database, or that the name is not free
abbrev pub CreateAnswers : Result Held Fault → (old new : World) (name : List ℕ) (image : Image) → Type 0
CreateAnswers (Ok held) old new name image = (is_free_name old.files name ≡ true) × (held.name ≡ name) × IsOpen new held (settled (base_of image))
CreateAnswers (Err (Refused refusal)) old new name image = (is_free_name old.files name ≡ false) × (refusal ≡ FileExists name)
CreateAnswers (Err Device) old new name image = Unit {0}
CreateAnswers (Err Memory) old new name image = Unit {0}

pub record Creates (result : Result Held Fault) (old new : World) (name : List ℕ) (image : Image) : Type 0 where
  pub answer : CreateAnswers result old new name image
  pub left : Changes old new (Only name) (CreateLeft old name image)
  pub reads : CreateReads old name image new.files
  pub gave : GaveNothing old new
  -- where the name isn't free, nothing changes
  pub taken : is_free_name old.files name ≡ false → Quiet old new

-- whatever a crash now leaves of its two files, they are those of this database, and so they read
pub record IsSettled (w : World) (name : List ℕ) (b : Base) : Type 0 where
  pub left : (files : Files) → LeavesAll w files → ShowsIn name b files
  pub shows : ShowsIn name b w.files

-- the main file of a new database is made, or the name is not free
abbrev pub FileAnswers : Result ℕ Fault → (old new : World) (name : List ℕ) (image : Image) → Type 0
FileAnswers (Ok count) old new name image = (is_free_name old.files name ≡ true) × (count ≡ length image) × IsSettled new name (base_of image)
FileAnswers (Err (Refused refusal)) old new name image = (is_free_name old.files name ≡ false) × (refusal ≡ FileExists name)
FileAnswers (Err Device) old new name image = Unit {0}
FileAnswers (Err Memory) old new name image = ⊥

pub record CreatesFile (result : Result ℕ Fault) (old new : World) (name : List ℕ) (image : Image) : Type 0 where
  pub answer : FileAnswers result old new name image
  pub left : Changes old new (Only name) (CreateLeft old name image)
  pub reads : CreateReads old name image new.files
  pub taken : is_free_name old.files name ≡ false → Quiet old new
