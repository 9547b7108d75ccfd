-- With forced writes on a crash leaves the database after a prefix of its operations.
use Rattle.std.specs.Prelude.{◌⊎◌, ℕ, ◌≤◌, List, length, take}
use Rattle.nb_host.specs.Files.{Files}
use Rattle.nb_host.specs.World.{World}
use Rattle.nb_host.specs.Crash.{LeavesAll}
use Rattle.nb_model.specs.Account.{Account, Base}
use Rattle.nb_model.specs.Output.{acked}
use Rattle.nb_model.specs.Run.{Event, strokes_of}
use Rattle.nb_model.specs.Steps.{AreForced}
use Rattle.nb_model.specs.Strokes.{base_in, base_after}
use Rattle.nb_model.specs.Trail.{ShowsIn}
use Rattle.nb_session.specs.Stops.{IsSaid}
use Rattle.nb_top.specs.Performed.{Target, IsUnbegun}

-- the database of a run after so many of its operations
abbrev pub base_at : Account → Target → List Event → (count : ℕ) → Base
base_at account target events count = base_after (base_in (account.entry target.name)) (take count (strokes_of events))

-- Each page is written with forced writes on; in a run that creates its database, from the creation on.
abbrev pub AreForcedIn : Account → Target → List Event → Type 0
AreForcedIn account target events = AreForced (base_in (account.entry target.name)) (strokes_of events)

-- The database is the one after a prefix of the operations, each acknowledged one among them.
pub record ShowsPrefix (account : Account) (target : Target) (events : List Event) (said : ℕ) (files : Files) : Type 0 where
  pub count : ℕ
  pub most : count ≤ length (strokes_of events)
  pub acknowledged : acked events said ≤ count
  pub shows : ShowsIn target.name (base_at account target events count) files

-- At a moment: a prefix of the lines was said, and the database is so, or the run hasn't begun to change it.
pub record PrefixLeft (old : World) (account : Account) (target : Target) (events : List Event) (files : Files) (said : List ℕ) : Type 0 where
  pub out : IsSaid old events said
  pub database : ShowsPrefix account target events (length out.part) files ⊎ IsUnbegun old target (length out.part) 0 files

-- The database is the one after all operations, as it reads and whatever a crash leaves.
pub record StandsWhole (new : World) (account : Account) (target : Target) (events : List Event) : Type 0 where
  pub now : ShowsIn target.name (base_at account target events (length (strokes_of events))) new.files
  pub left : (files : Files) → LeavesAll new files → ShowsIn target.name (base_at account target events (length (strokes_of events))) files
