-- What a stop of a ship leaves, at each moment of it.
use Rattle.std.specs.Prelude.{◌≡◌, ℕ, List, [], ◌∷◌, ◌++◌, length, take, true, false, Some, Ok}
use Rattle.std.specs.List.{slice_index_or}
use Rattle.nb_fields.specs.Header.{pending_of, state_of}
use Rattle.nb_fields.specs.States.{applying_state}
use Rattle.nb_host.specs.Files.{Files}
use Rattle.nb_host.specs.World.{World}
use Rattle.nb_host.specs.Crash.{Leaves}
use Rattle.nb_inplace.specs.Apply.{IsHalfIn, base_with}
use Rattle.nb_inplace.specs.Verdict.{IsMergeable}
use Rattle.nb_model.specs.declared.job.Ask.TheVariants.{BackupSince}
use Rattle.nb_model.specs.Account.{Account, Base, Kept}
use Rattle.nb_model.specs.Jobs.{asks_of}
use Rattle.nb_model.specs.Levels.{Contents}
use Rattle.nb_model.specs.NewGuids.{IsNewGuid}
use Rattle.nb_model.specs.Outcomes.{Given}
use Rattle.nb_model.specs.Owner.{delta_name}
use Rattle.nb_model.specs.Run.{Event}
use Rattle.nb_model.specs.Stands.{nil}
use Rattle.nb_model.specs.Steps.{steps_of}
use Rattle.nb_model.specs.Trail.{ShowsIn, StandsIn}
use Rattle.nb_ship.specs.Names.{ship_of}
use Rattle.nb_top.specs.declared.telling.Telling.TheVariants.{Sparingly}
use Rattle.nb_top.specs.Performed.{IsPerformed, Target, kept_after, seen_after}
use Rattle.nb_top.specs.Requests.{ToRun, plan_of}
use Rattle.nb_top.specs.ShipDone.{BacksUp}
use Rattle.nb_top.specs.Shipping.{names_backup}
use Rattle.nb_top.specs.Standing.{HoldsKept}

-- The GUID that is given first between two worlds, or that one where none is given, is new in the first.
pub record GivesFirstNew (old new : World) (kept : List Kept) (further : List ℕ) : Type 0 where
  pub sixteen : length further ≡ 16
  pub first : (ids : List (List ℕ)) → new.guids ≡ old.guids ++ ids → IsNewGuid old kept (slice_index_or (ids ++ further ∷ []) 0 nil)

-- ---- the primary

-- the database of the copy's run
abbrev pub opened_target : (primary : List ℕ) → Target
opened_target primary = record { name = primary; creates = false }

-- The primary is as the run of a copy leaves it after so many of its steps, and the files hold the records of before and those of the backups that have
-- begun in them. The run began with the primary and the records of before.
pub record IsInItsRun (account : Account) (primary ship : List ℕ) (files : Files) : Type 0 where
  pub since : List ℕ
  pub start : Files
  pub before : Account
  pub same : before.entry primary ≡ account.entry primary
  pub kept : before.kept ≡ account.kept
  pub given : Given
  pub left : Given
  pub events : List Event
  pub after : Account
  pub performed : IsPerformed start (Ok (ToRun (plan_of primary (asks_of (BackupSince since ship))) Sparingly)) before given events after left
  pub count : ℕ
  pub database : StandsIn primary (seen_after before primary (take count (steps_of events))) files
  pub stands : HoldsKept files (kept_after before (Some (opened_target primary)) (take count (steps_of events)))

-- It is as it was, or in its run.
pub data PrimaryLeft (old : World) (account : Account) (primary ship : List ℕ) (files : Files) : Type 0 where
  is_unbegun : Leaves old primary (files primary) → Leaves old (delta_name primary) (files (delta_name primary)) → HoldsKept files account.kept → PrimaryLeft old account primary ship files
  in_its_run : IsInItsRun account primary ship files → PrimaryLeft old account primary ship files

-- ---- the standby

-- The backup of that GUID is one whose merge was begun as the job began, or one that the history of the primary named then, or that of the job's own copy.
pub data IsShipsOwn {H : Type 0} (world : H → World) (old : H) (primary standby : List ℕ) (guid : List ℕ) : Type 0 where
  was_begun : (bytes : List ℕ) → (world old).files standby ≡ Some bytes → state_of bytes ≡ applying_state → pending_of bytes ≡ guid → IsShipsOwn world old primary standby guid
  was_named : (b : Base) → ShowsIn primary b (world old).files → names_backup b.image guid ≡ true → IsShipsOwn world old primary standby guid
  is_own : (from to : H) (before : Account) (since : List ℕ) (copy : BacksUp (world from) (world to) before primary since (ship_of standby)) → copy.backup.guid ≡ guid → IsShipsOwn world old primary standby guid

-- The standby is as it was; or half way, in the applying state with the GUID of that ship file pending; or merged with it. The ship file is accepted for the
-- standby as its merge begins, and is whole then.
pub data StandbyLeft {H : Type 0} (world : H → World) (old : H) (primary standby : List ℕ) (files : Files) : Type 0 where
  as_it_was : Leaves (world old) standby (files standby) → StandbyLeft world old primary standby files
  is_half : (from : H) (bytes : List ℕ) (c : Contents) → IsMergeable (world from).files standby (ship_of standby) bytes c → IsShipsOwn world old primary standby c.head.guid → IsHalfIn standby bytes c files → StandbyLeft world old primary standby files
  is_merged : (from : H) (bytes : List ℕ) (c : Contents) → IsMergeable (world from).files standby (ship_of standby) bytes c → IsShipsOwn world old primary standby c.head.guid → ShowsIn standby (base_with bytes c) files
      → StandbyLeft world old primary standby files

-- ---- both

-- At a moment of a ship: the primary is left as its run would leave it, the standby so, and the files stand for an account with the records of before and of
-- the backups that have begun.
pub record IsStopped {H : Type 0} (world : H → World) (old : H) (account : Account) (primary standby : List ℕ) (files : Files) : Type 0 where
  pub primary_left : PrimaryLeft (world old) account primary (ship_of standby) files
  pub standby_left : StandbyLeft world old primary standby files
