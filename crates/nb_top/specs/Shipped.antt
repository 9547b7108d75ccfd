-- A ship, part by part.
--
-- Each part has the promise that its own job has, from the host at which the one before it ended: the copy that of the run of a script which opens the
-- primary and backs it up since a GUID, of which refusals alone are told; the merge that of a job of one turn, before its reply is said. The steps
-- are those of the plan, and no others. A part that is refused ends the job, and so does a call that fails; what was done before it stays.
use Rattle.std.specs.Prelude.{◌≡◌, ◌⊎◌, ℕ, List, [], ◌∷◌, length, Bool, IsTrue, Option, None, Some, Result, Ok, Err, IfOk}
use Rattle.nb_host.specs.Files.{Files, bytes_of}
use Rattle.nb_host.specs.World.{World}
use Rattle.nb_host.specs.Crash.{IsDurable}
use Rattle.nb_host.specs.declared.faults.Fault.{Fault}
use Rattle.nb_host.specs.declared.faults.Fault.TheVariants.{Refused, Device, Memory}
use Rattle.nb_host.specs.declared.faults.RunError.{RunError}
use Rattle.nb_host.specs.declared.faults.RunError.TheVariants.{Device as DeviceError, Memory as MemoryError}
use Rattle.nb_host.specs.declared.refusals.Refusal.{Refusal}
use Rattle.nb_change.specs.Changes.{Changes, Only, Remade}
use Rattle.nb_change.specs.Gave.{GaveNothing}
use Rattle.nb_page.specs.Quiet.{Quiet}
use Rattle.nb_model.specs.declared.job.Ask.TheVariants.{BackupSince}
use Rattle.nb_model.specs.declared.reply.Reply.{Reply}
use Rattle.nb_model.specs.declared.reply.Reply.TheVariants.{Refused as RefusedReply, ScnPages}
use Rattle.nb_model.specs.Image.{image_in}
use Rattle.nb_model.specs.InPlace.{in_place}
use Rattle.nb_model.specs.Jobs.{asks_of, only_refusal, only_turn}
use Rattle.nb_model.specs.Levels.{Contents}
use Rattle.nb_model.specs.Lines.{line_text}
use Rattle.nb_model.specs.Run.{Event}
use Rattle.nb_model.specs.Strokes.{merge, merged}
use Rattle.nb_session.specs.Says.{SaysLine}
use Rattle.nb_ended.specs.declared.status.Status.{Status}
use Rattle.nb_ended.specs.declared.status.Status.TheVariants.{Done, Refused as RefusedStatus, Device as DeviceStatus, Memory as MemoryStatus}
use Rattle.nb_ship.specs.Answers.{Says}
use Rattle.nb_ship.specs.Names.{ship_of}
use Rattle.nb_ship.specs.Steps.{steps_from}
use Rattle.nb_ship.specs.declared.steps.Step.{Step}
use Rattle.nb_ship.specs.declared.steps.Step.TheVariants.{Copy, Apply, Discard}
use Rattle.nb_top.specs.declared.ship_plan.ShipPlan.{ShipPlan}
use Rattle.nb_top.specs.declared.telling.Telling.TheVariants.{Sparingly}
use Rattle.nb_top.specs.Done.{GoesOn}
use Rattle.nb_top.specs.OneTurn.{merging}
use Rattle.nb_top.specs.Requests.{Asked, Runs, ToRun, plan_of}
use Rattle.nb_top.specs.Served.{Serves}
use Rattle.nb_top.specs.Shipping.{ship_plan}

-- ---- how a part ends

-- the job ends with this, and nothing comes after the part
abbrev pub Stops : {H : Type 0} → (ended result : Result Status RunError) → (mid new : H) → Type 0
Stops ended result mid new = (result ≡ ended) × (new ≡ mid)

-- the job ends with this refusal, which is said
pub record Refuses (result : Result Status RunError) (old new : World) (refusal : Refusal) : Type 0 where
  pub line : SaysLine result old new (line_text 1 (RefusedReply refusal))
  pub ended : IfOk result (λ status. status ≡ RefusedStatus)

-- the job is done, and this reply is said
pub record Replies (result : Result Status RunError) (old new : World) (reply : Reply) : Type 0 where
  pub line : SaysLine result old new (line_text 1 reply)
  pub ended : IfOk result (λ status. status ≡ Done)

-- ---- the copy

-- the run that the copy is
abbrev pub copying : (primary since ship : List ℕ) → Asked
copying primary since ship = Runs (Ok (ToRun (plan_of primary (asks_of (BackupSince since ship))) Sparingly))

-- After a run that was done comes what is next.
abbrev pub AfterCopy : {H : Type 0} → (next : H → Type 0) → (ended result : Result Status RunError) → (mid new : H) → Type 0
AfterCopy next (Ok Done) result mid new = next mid
AfterCopy next (Ok other) result mid new = Stops (Ok other) result mid new
AfterCopy next (Err stop) result mid new = Stops (Err stop) result mid new

-- The primary was backed up into the ship file, since that backup.
pub record Copies {H : Type 0} (world : H → World) (tells : Bool) (result : Result Status RunError) (old new : H) (primary since ship : List ℕ) (next : H → Type 0) : Type 0 where
  pub ended : Result Status RunError
  pub mid : H
  pub goes : GoesOn world tells ended old mid (copying primary since ship)
  pub after : AfterCopy next ended result mid new

-- ---- the merge

-- the turn of a merge in place, which tells the SCN of the backup too
unfoldable pub merge_turn : Files → (standby ship : List ℕ) → Event
merge_turn files standby ship = elim (in_place files standby ship) [
  | Err refusal ↦ only_refusal refusal
  | Ok c ↦ only_turn (ScnPages c.head.scn (length (merged c.pages (image_in (bytes_of (files standby)))))) (merge c.pages ∷ [])
]

-- the SCN of the backup in a level file
abbrev pub ScnSays : Contents → Result ℕ Fault → Type 0
ScnSays c (Ok scn) = scn ≡ c.head.scn
ScnSays c (Err (Refused refusal)) = ⊥
ScnSays c (Err Device) = Unit {0}
ScnSays c (Err Memory) = Unit {0}

-- After a turn that was taken comes what is next, with its reply.
abbrev pub AfterMerge : {H : Type 0} → (world : H → World) → (next : Reply → H → Type 0) → Result Reply Fault → (result : Result Status RunError) → (mid new : H) → Type 0
AfterMerge world next (Ok reply) result mid new = next reply mid
AfterMerge world next (Err (Refused refusal)) result mid new = Refuses result (world mid) (world new) refusal
AfterMerge world next (Err Device) result mid new = Stops (Err DeviceError) result mid new
AfterMerge world next (Err Memory) result mid new = Stops (Err MemoryError) result mid new

-- The ship file was merged into the standby.
pub record Merges {H : Type 0} (world : H → World) (result : Result Status RunError) (old new : H) (standby ship : List ℕ) (next : Reply → H → Type 0) : Type 0 where
  pub taken : Result Reply Fault
  pub mid : H
  pub serves : Serves taken (world old) (world mid) (merging (world old).files standby ship) (merge_turn (world old).files standby ship)
  pub after : AfterMerge world next taken result mid new

-- ---- the removal

-- a file of that name is gone for good
pub record IsGone (w : World) (name : List ℕ) : Type 0 where
  pub durable : IsDurable w name None
  pub reads : w.files name ≡ None

-- It is removed, or there still: no other file is touched.
pub record Removes (old new : World) (name : List ℕ) : Type 0 where
  pub left : Changes old new (Only name) (Remade old name (λ file. file ≡ None))
  pub reads : (new.files name ≡ old.files name) ⊎ (new.files name ≡ None)
  pub gave : GaveNothing old new

-- The ship file was removed for good, and what is next came after it; or the host failed.
pub record Discards {H : Type 0} (world : H → World) (result : Result Status RunError) (old new : H) (ship : List ℕ) (next : H → Type 0) : Type 0 where
  pub mid : H
  pub removes : Removes (world old) (world mid) ship
  pub after : (IsGone (world mid) ship × next mid) ⊎ Stops (Err DeviceError) result mid new

-- ---- all of it

-- These steps were taken, each from the host at which the one before it ended, up to one that ended the job. At their end the reply of the last merge is
-- said.
abbrev pub TakesSteps : {H : Type 0} → (world : H → World) → (tells : Bool) → (primary standby since : List ℕ) → List Step → Option Reply → (result : Result Status RunError) → (old new : H) → Type 0
TakesSteps world tells primary standby since [] None result old new = ⊥
TakesSteps world tells primary standby since [] (Some reply) result old new = Replies result (world old) (world new) reply
TakesSteps world tells primary standby since (Copy ∷ steps) merged result old new =
    Copies world tells result old new primary since (ship_of standby) (λ mid. TakesSteps world tells primary standby since steps merged result mid new)
TakesSteps world tells primary standby since (Apply ∷ steps) merged result old new =
    Merges world result old new standby (ship_of standby) (λ reply mid. TakesSteps world tells primary standby since steps (Some reply) result mid new)
TakesSteps world tells primary standby since (Discard ∷ steps) merged result old new =
    Discards world result old new (ship_of standby) (λ mid. TakesSteps world tells primary standby since steps merged result mid new)

-- After the plan come its steps.
abbrev pub AfterPlan : {H : Type 0} → (world : H → World) → (tells : Bool) → (primary standby : List ℕ) → Result ShipPlan Fault → (result : Result Status RunError) → (mid new : H) → Type 0
AfterPlan world tells primary standby (Ok plan) result mid new = TakesSteps world tells primary standby plan.since (steps_from plan.first) None result mid new
AfterPlan world tells primary standby (Err (Refused refusal)) result mid new = Refuses result (world mid) (world new) refusal
AfterPlan world tells primary standby (Err Device) result mid new = Stops (Err DeviceError) result mid new
AfterPlan world tells primary standby (Err Memory) result mid new = Stops (Err MemoryError) result mid new

-- A plan was made, which changes nothing, and its steps were taken.
pub record ShipsByPlan {H : Type 0} (world : H → World) (tells : Bool) (result : Result Status RunError) (old new : H) (primary standby : List ℕ) : Type 0 where
  pub planned : Result ShipPlan Fault
  pub mid : H
  pub quiet : Quiet (world old) (world mid)
  pub plan : Says (ship_plan (world old).files primary standby) planned
  pub after : AfterPlan world tells primary standby planned result mid new

-- what is done of a ship within a run
abbrev pub ShipGoes : {H : Type 0} → (world : H → World) → (tells : Bool) → (result : Result Status RunError) → (old new : H) → (primary standby : List ℕ) → Type 0
ShipGoes world tells result old new primary standby = IsTrue tells → ShipsByPlan world tells result old new primary standby

-- the status of a run that ended so
abbrev pub status_of_end : Result Status RunError → Status
status_of_end (Ok status) = status
status_of_end (Err DeviceError) = DeviceStatus
status_of_end (Err MemoryError) = MemoryStatus

-- what a run does of a ship that ends so
pub record ShipEnds {H : Type 0} (world : H → World) (tells : Bool) (status : Status) (old new : H) (primary standby : List ℕ) : Type 0 where
  pub result : Result Status RunError
  pub ended : status ≡ status_of_end result
  pub goes : ShipGoes world tells result old new primary standby
