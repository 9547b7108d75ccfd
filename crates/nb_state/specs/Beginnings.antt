-- A database is created or opened.
use Rattle.std.specs.Prelude.{◌≡◌, ℕ, ◌*◌, length, true, false, List, [], None, Result, Ok, Err}
use Rattle.nb_host.specs.World.{World}
use Rattle.nb_host.specs.declared.faults.Fault.{Fault}
use Rattle.nb_host.specs.declared.faults.Fault.TheVariants.{Refused, Device, Memory}
use Rattle.nb_host.specs.declared.refusals.Refusal.TheVariants.{FileExists}
use Rattle.nb_change.specs.Changes.{Changes, Only}
use Rattle.nb_change.specs.Gave.{GaveNothing}
use Rattle.nb_page.specs.Free.{is_free_name}
use Rattle.nb_page.specs.Quiet.{Quiet}
use Rattle.nb_model.specs.Image.{Image}
use Rattle.nb_model.specs.Account.{Base, base_of}
use Rattle.nb_model.specs.Owner.{delta_name, owner}
use Rattle.nb_model.specs.Trail.{ShowsIn, settled}
use Rattle.nb_base.specs.Beginnings.{CreateLeft, CreateReads}
use Rattle.nb_base.specs.Stays.{FileIs, EndsWithin}
use Rattle.nb_state.specs.Open.{Held, IsOpen, name_of}

-- what is held is the database that the two files were as the call began, and each crash from now on leaves it
pub record IsAttached (held : Held) (old new : World) (name : List ℕ) : Type 0 where
  pub base : Base
  pub stands : ShowsIn name base old.files
  pub named : name_of held ≡ name
  pub nothing_runs : held.running ≡ None
  pub opened : IsOpen new held (settled base)
  -- the main file is durable, byte for byte
  pub durable : FileIs new name (λ file. file ≡ old.files name)

-- it answers the database, or why there is none to open
abbrev pub Attaches : Result Held Fault → (old new : World) (name : List ℕ) → Type 0
Attaches (Ok held) old new name = IsAttached held old new name
Attaches (Err (Refused refusal)) old new name = owner name (old.files name) (old.files (delta_name name)) ≡ Err refusal
Attaches (Err Device) old new name = Unit {0}
Attaches (Err Memory) old new name = Unit {0}

-- no page is in memory yet, and so many may be
pub record HoldsNone (pages : ℕ) (held : Held) : Type 0 where
  pub none : held.pages ≡ []
  pub cap : held.cap ≡ pages

-- the new database
pub record IsCreated (held : Held) (old new : World) (name : List ℕ) (image : Image) : Type 0 where
  pub was_free : is_free_name old.files name ≡ true
  pub named : name_of held ≡ name
  pub nothing_runs : held.running ≡ None
  pub opened : IsOpen new held (settled (base_of image))
  -- it ends with its last page
  pub long : FileIs new name (EndsWithin (length image * held.files.page_size))

-- it answers the new database, or that the name is not free
abbrev pub CreateAnswers : Result Held Fault → (old new : World) (name : List ℕ) (image : Image) → Type 0
CreateAnswers (Ok held) old new name image = IsCreated held old new name image
CreateAnswers (Err (Refused refusal)) old new name image = (is_free_name old.files name ≡ false) × (refusal ≡ FileExists name)
CreateAnswers (Err Device) old new name image = Unit {0}
CreateAnswers (Err Memory) old new name image = Unit {0}

pub record Creates (result : Result Held Fault) (old new : World) (name : List ℕ) (image : Image) : Type 0 where
  pub answer : CreateAnswers result old new name image
  pub left : Changes old new (Only name) (CreateLeft old name image)
  pub reads : CreateReads old name image new.files
  pub gave : GaveNothing old new
  -- where the name isn't free, nothing changes
  pub taken : is_free_name old.files name ≡ false → Quiet old new
