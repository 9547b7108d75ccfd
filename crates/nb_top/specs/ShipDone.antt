-- What a ship leaves that was done, where the files stood for an account as it began.
use Rattle.std.specs.Prelude.{◌≡◌, ◌≢◌, ◌⊎◌, ℕ, ◌≤◌, List, [], ◌∷◌, ◌++◌, length, false, Some, Ok}
use Rattle.nb_fields.specs.Header.{guid_of, pending_of, state_of}
use Rattle.nb_fields.specs.States.{applying_state, normal_state}
use Rattle.nb_host.specs.Files.{Files}
use Rattle.nb_host.specs.World.{World}
use Rattle.nb_host.specs.Crash.{LeavesAll}
use Rattle.nb_host.specs.Moments.{AtEachMoment}
use Rattle.nb_gather.specs.Making.{IsKept}
use Rattle.nb_model.specs.declared.job.Ask.TheVariants.{BackupSince}
use Rattle.nb_model.specs.declared.reply.Reply.TheVariants.{ScnPages}
use Rattle.nb_model.specs.Account.{Account, Ask, Kept, base_of}
use Rattle.nb_model.specs.Jobs.{asks_of}
use Rattle.nb_model.specs.Levels.{file_of}
use Rattle.nb_model.specs.Lines.{line_text}
use Rattle.nb_model.specs.NewGuids.{IsNewGuid}
use Rattle.nb_model.specs.Outcomes.{Given}
use Rattle.nb_model.specs.Run.{Event}
use Rattle.nb_model.specs.Stands.{IsKeptAs, nil}
use Rattle.nb_model.specs.Steps.{steps_of}
use Rattle.nb_model.specs.Strokes.{as_standby}
use Rattle.nb_model.specs.Trail.{ShowsIn}
use Rattle.nb_ship.specs.Names.{ship_of}
use Rattle.nb_top.specs.declared.telling.Telling.TheVariants.{Sparingly}
use Rattle.nb_top.specs.Performed.{IsEnded, IsPerformed, kept_after, seen_after}
use Rattle.nb_top.specs.Requests.{ToRun, plan_of}
use Rattle.nb_top.specs.Shipped.{IsGone}
use Rattle.nb_top.specs.Standing.{StandsFor}

-- ---- what is asked of the standby and of the GUIDs

-- A standby of these bytes names the backup that it was restored from; where a merge into it was begun, that is one of a kept backup.
pub record IsOfKept (kept : List Kept) (bytes : List ℕ) : Type 0 where
  pub restored : state_of bytes ≡ normal_state → guid_of bytes ≢ nil
  pub begun : state_of bytes ≡ applying_state → (r : Kept) × IsKeptAs kept (pending_of bytes) r

-- so does the one of that name
abbrev pub HasStandby : Files → List Kept → (standby : List ℕ) → Type 0
HasStandby files kept standby = (bytes : List ℕ) → files standby ≡ Some bytes → IsOfKept kept bytes

-- the GUID that was given between two worlds is new in the first
abbrev pub GivesNew : (old new : World) → List Kept → Type 0
GivesNew old new kept = (guid : List ℕ) → new.guids ≡ old.guids ++ guid ∷ [] → IsNewGuid old kept guid

-- ---- the copy

-- The primary was backed up into the ship file since the backup of that GUID: its run came to its end, and the files stand for the account after
-- it. Its begin kept one record, which the ship file holds for good, and took one GUID and one time. Nothing was said.
pub record BacksUp (old new : World) (account : Account) (primary since ship : List ℕ) : Type 0 where
  pub given : Given
  pub left : Given
  pub events : List Event
  pub after : Account
  pub performed : IsPerformed old.files (Ok (ToRun (plan_of primary (asks_of (BackupSince since ship))) Sparingly)) account given events after left
  pub database : IsEnded new primary (seen_after account primary (steps_of events))
  pub stands : StandsFor new after
  pub backup : Kept
  pub kept : after.kept ≡ account.kept ++ backup ∷ []
  pub begun : kept_after account (Some (record { name = primary; creates = false })) (steps_of events) ≡ after.kept
  pub goes_on : (ask : Ask) × (backup.ask ≡ Some ask) × (ask.previous ≡ since)
  pub level : (1 ≤ goes_on.0.level) × (goes_on.0.level ≤ 9)
  pub parent : (r : Kept) × IsKeptAs account.kept since r
  pub file : IsKept new ship (file_of 102 backup)
  pub guid : new.guids ≡ old.guids ++ backup.guid ∷ []
  pub time : (time : ℕ) × (new.times ≡ old.times ++ time ∷ [])
  pub silent : new.said ≡ old.said
  pub quiet : AtEachMoment old new (λ files said. said ≡ old.said)

-- ---- all of it

-- The standby is the image that the begin of this backup kept, in the normal state, read-only and with nothing pending.
abbrev pub IsStandbyOf : (standby : List ℕ) → Kept → Files → Type 0
IsStandbyOf standby backup files = ShowsIn standby (base_of (as_standby backup.image)) files

-- A ship that was done. Its own copy backed the primary up, from a world in which the primary and the records were those of before; the primary is as
-- that run left it, for good. The standby is what the begin of that backup kept, for good. One GUID and one time were given. The ship file is gone for good.
-- The reply tells the SCN of that backup and the pages of the standby, and once a byte of it was said a crash leaves the standby so. The files stand for an
-- account with the records of before and that of this backup.
pub record IsShipped {H : Type 0} (world : H → World) (old new : H) (account : Account) (primary standby : List ℕ) : Type 0 where
  pub since : List ℕ
  pub from : H
  pub to : H
  pub before : Account
  pub same : before.entry primary ≡ account.entry primary
  pub kept : before.kept ≡ account.kept
  pub copy : BacksUp (world from) (world to) before primary since (ship_of standby)
  pub database : IsEnded (world new) primary (seen_after before primary (steps_of copy.events))
  pub standby_reads : IsStandbyOf standby copy.backup (world new).files
  pub standby_left : (files : Files) → LeavesAll (world new) files → IsStandbyOf standby copy.backup files
  pub gone : IsGone (world new) (ship_of standby)
  pub guid : (world new).guids ≡ (world old).guids ++ copy.backup.guid ∷ []
  pub time : (time : ℕ) × ((world new).times ≡ (world old).times ++ time ∷ [])
  pub said : (world new).said ≡ (world old).said ++ line_text 1 (ScnPages copy.backup.scn (length (as_standby copy.backup.image)))
  pub acknowledged : AtEachMoment (world old) (world new) (λ files said. (said ≡ (world old).said) ⊎ IsStandbyOf standby copy.backup files)
  pub later : Account
  pub stands : StandsFor (world new) later
  pub records : later.kept ≡ account.kept ++ copy.backup ∷ []
