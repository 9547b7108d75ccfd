-- What is open is the database as it stands between two turns.
use Rattle.std.specs.Prelude.{◌≡◌, ◌≢◌, ℕ, List, Option, Some, None, false}
use Rattle.nb_host.specs.Names.{is_delta}
use Rattle.nb_host.specs.World.{World}
use Rattle.nb_page.specs.Free.{is_free_name}
use Rattle.nb_model.specs.Account.{IsBase}
use Rattle.nb_model.specs.Causes.{is_free_entry}
use Rattle.nb_model.specs.Image.{Image}
use Rattle.nb_model.specs.Making.{IsNoneOf, under_way}
use Rattle.nb_model.specs.Run.{Now, base_now}
use Rattle.nb_model.specs.Trail.{Trail}
use Rattle.nb_copy.specs.FileCopies.{IsCopyingTo}
use Rattle.nb_copy.specs.Starting.{IsBackingUp}
use Rattle.nb_state.specs.Open.{Held, IsOpen, name_of}
use Rattle.nb_session.specs.declared.task.Task.{Task}
use Rattle.nb_session.specs.declared.task.Task.TheVariants.{Backup, Copy, End, Merge}

-- The database is open under its name, with so many pages in memory at most. Of each other name, but those of files in the making, the account knows whether it is free.
pub record IsReady (w : World) (held : Held) (t : Trail) (now : Now) : Type 0 where
  pub opened : IsOpen w held t
  pub base : t.base ≡ base_now now
  pub there : now.account.entry now.name ≡ IsBase (base_now now)
  pub named : name_of held ≡ now.name
  pub running : held.running ≡ now.running
  pub cache : held.cap ≡ now.cache
  pub known : (m : List ℕ) → is_delta m ≡ false → IsNoneOf (under_way now) m → is_free_name w.files m ≡ is_free_entry (now.account.entry m)

-- the name isn't that of the database, nor that of a difference file
pub record IsApart (held : Held) (name : List ℕ) : Type 0 where
  pub plain : is_delta name ≡ false
  pub other : name ≢ name_of held

-- A copy that is under way goes on from where it is, into a file of its own. Up to the end after it its session runs.
abbrev pub TaskGoes : (session : ℕ) → World → Held → (frozen : Image) → Option Task → Type 0
TaskGoes session w held frozen None = Unit {0}
TaskGoes session w held frozen (Some (Backup c)) = IsBackingUp w c frozen × IsApart held c.backing.name × (held.running ≡ Some session)
TaskGoes session w held frozen (Some (Copy c)) = IsCopyingTo w c frozen × IsApart held c.name × (held.running ≡ Some session)
TaskGoes session w held frozen (Some (End reply)) = held.running ≡ Some session
TaskGoes session w held frozen (Some (Merge m)) = Unit {0}
