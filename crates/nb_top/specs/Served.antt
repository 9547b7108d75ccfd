-- What the call does that takes the turn of a job, before its reply is said.
use Rattle.std.specs.Prelude.{◌≡◌, ◌≢◌, Some, Result, Ok, Err, IfOk, true, false}
use Rattle.nb_host.specs.World.{World}
use Rattle.nb_host.specs.Crash.{Leaves}
use Rattle.nb_host.specs.Moments.{AtEachMoment}
use Rattle.nb_host.specs.declared.faults.Fault.{Fault}
use Rattle.nb_host.specs.declared.faults.Fault.TheVariants.{Refused, Device, Memory}
use Rattle.nb_host.specs.declared.refusals.Refusal.{Refusal}
use Rattle.nb_host.specs.declared.refusals.Refusal.TheVariants.{Usage}
use Rattle.nb_host.specs.declared.faults.RunError.{RunError}
use Rattle.nb_change.specs.Changes.{Changes}
use Rattle.nb_change.specs.Gave.{GaveNothing}
use Rattle.nb_page.specs.Quiet.{Quiet}
use Rattle.nb_model.specs.declared.reply.Reply.{Reply}
use Rattle.nb_model.specs.declared.reply.Reply.TheVariants.{Refused as RefusedReply}
use Rattle.nb_model.specs.Account.{Account}
use Rattle.nb_model.specs.Jobs.{only_refusal}
use Rattle.nb_model.specs.Output.{status_after}
use Rattle.nb_model.specs.Run.{Event}
use Rattle.nb_ended.specs.declared.status.Status.{Status}
use Rattle.nb_ended.specs.declared.status.Status.TheVariants.{Done as DoneStatus, Refused as RefusedStatus}
use Rattle.nb_top.specs.OneTurn.{OneTurn, OfName, IsDoneFor, IsOnItsWay, Read, TurnEnded, TurnLeft, leaves_all}

-- The turn says this reply to session 1, which is no refusal; where it changes its file, that was done for good.
pub record IsServed (reply : Reply) (new : World) (job : OneTurn) (turn : Event) : Type 0 where
  pub session : turn.session ≡ 1
  pub says : turn.reply ≡ Some reply
  pub fine : status_after reply ≡ 0
  pub done : leaves_all turn ≡ false → IsDoneFor new job

-- the turn is this refusal
pub record IsRefusedWith (refusal : Refusal) (old new : World) (turn : Event) : Type 0 where
  pub is : turn ≡ only_refusal refusal
  pub other : refusal ≢ Usage
  pub quiet : Quiet old new

abbrev pub ServedAs : Result Reply Fault → (old new : World) → OneTurn → Event → Type 0
ServedAs (Ok reply) old new job turn = IsServed reply new job turn
ServedAs (Err (Refused refusal)) old new job turn = IsRefusedWith refusal old new turn
ServedAs (Err Device) old new job turn = Unit {0}
ServedAs (Err Memory) old new job turn = Unit {0}

pub record Serves (result : Result Reply Fault) (old new : World) (job : OneTurn) (turn : Event) : Type 0 where
  pub answer : ServedAs result old new job turn
  pub left : Changes old new (OfName job.name) (IsOnItsWay (Leaves old) job)
  pub reads : IsOnItsWay (Read old.files) job new.files
  pub gave : GaveNothing old new
  -- where the turn leaves all nothing changes, also where the device fails
  pub idle : leaves_all turn ≡ true → Quiet old new

-- what is said of a turn that was taken
abbrev pub reply_told : Result Reply Refusal → Reply
reply_told (Ok reply) = reply
reply_told (Err refusal) = RefusedReply refusal

-- and how the run ends then
abbrev pub status_told : Result Reply Refusal → Status
status_told (Ok reply) = DoneStatus
status_told (Err refusal) = RefusedStatus

-- What a run does of the job.
pub record TurnsTo (result : Result Status RunError) (old new : World) (job : OneTurn) (account : Account) : Type 0 where
  pub stops : AtEachMoment old new (TurnLeft (Leaves old) old job (job.turn account))
  pub reads : TurnLeft (Read old.files) old job (job.turn account) new.files new.said
  pub gave : GaveNothing old new
  pub ended : IfOk result (λ status. TurnEnded status old new job (job.turn account))
