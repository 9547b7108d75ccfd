-- What a call does that is one turn of the table of turns.
use Rattle.std.specs.Prelude.{◌≡◌, ◌≤◌, List, [], Bool, true, false, Option, Some, None, Result, Ok, Err}
use Rattle.nb_fields.specs.States.{merge_state}
use Rattle.nb_host.specs.World.{World}
use Rattle.nb_host.specs.declared.faults.Fault.{Fault}
use Rattle.nb_host.specs.declared.faults.Fault.TheVariants.{Refused, Device, Memory}
use Rattle.nb_page.specs.Quiet.{Quiet}
use Rattle.nb_model.specs.declared.reply.Reply.{Reply}
use Rattle.nb_model.specs.declared.reply.Reply.TheVariants.{Done, Pages, PageMade, Scn, ScnPages, Activated, Level, Freed, Planned, Refused as RefusedBy}
use Rattle.nb_model.specs.Causes.{Cause}
use Rattle.nb_model.specs.Outcomes.{Outcome}
use Rattle.nb_model.specs.Strokes.{Stroke}
use Rattle.nb_model.specs.Trail.{Trail}
use Rattle.nb_change.specs.Gave.{GaveNothing}
use Rattle.nb_base.specs.Takes.{StrikesIn, after_strokes}
use Rattle.nb_base.specs.Stays.{GrowsWithin}
use Rattle.nb_state.specs.Open.{Held, IsOpen, name_of}

-- what is answered is the reply; a failure says nothing of it
abbrev pub Answers : {T : Type 0} → (T → Reply) → Result T Fault → Option Reply → Type 0
Answers reply (Ok value) said = said ≡ Some (reply value)
Answers reply (Err (Refused refusal)) said = said ≡ Some (RefusedBy refusal)
Answers reply (Err Device) said = Unit {0}
Answers reply (Err Memory) said = Unit {0}

-- P holds where the call ended with a value or a refusal
abbrev pub WhereEnded : {T : Type 0} → Result T Fault → Type 0 → Type 0
WhereEnded (Ok value) P = P
WhereEnded (Err (Refused refusal)) P = P
WhereEnded (Err Device) P = Unit {0}
WhereEnded (Err Memory) P = Unit {0}

-- P holds where the call was refused
abbrev pub WhereRefused : {T : Type 0} → Result T Fault → Type 0 → Type 0
WhereRefused (Ok value) P = Unit {0}
WhereRefused (Err (Refused refusal)) P = P
WhereRefused (Err Device) P = Unit {0}
WhereRefused (Err Memory) P = Unit {0}

-- the reply is a refusal, or tells what was read: it is none of what is done
abbrev pub only_tells : Reply → Bool
only_tells Done = false
only_tells (Pages pages) = false
only_tells (PageMade page) = false
only_tells (Scn scn) = false
only_tells (ScnPages scn pages) = false
only_tells (Activated pages scn) = false
only_tells (Level level scn pages guid) = false
only_tells (Freed pages) = false
only_tells (Planned kept dropped orphans) = false
only_tells other = true

-- so it is with what is said, if anything is
abbrev pub has_only_told : Option Reply → Bool
has_only_told None = false
has_only_told (Some reply) = only_tells reply

-- these strokes, or none where there is a cause
abbrev pub unless_by : Cause → List Stroke → List Stroke
unless_by cause strokes = elim cause [ Some refusal ↦ [] | None ↦ strokes ]

-- the name, the state, how many pages may be in memory, whose copy or merge runs, and how far the merge has come, are as they were; no page is
-- lost, and in the merge state no entry is added
pub record Goes (before after : Held) : Type 0 where
  pub name : name_of after ≡ name_of before
  pub page_size : after.files.page_size ≡ before.files.page_size
  pub state : after.files.state ≡ before.files.state
  pub longer : before.files.count ≤ after.files.count
  pub entries : before.files.state ≡ merge_state → after.files.entries ≡ before.files.entries
  pub running : after.running ≡ before.running
  pub merged : after.merged ≡ before.merged
  pub cap : after.cap ≡ before.cap

-- The call makes these operations in order: at each moment a crash leaves what may be left of what was seen after a prefix of them, and
-- once the call has ended the database is open after all of them. The files that the backup state has pages written to are touched alone, and
-- the main file grows no longer than what is seen. It asks for no GUID and no time.
pub record Makes {T : Type 0} (result : Result T Fault) (old new : World) (before after : Held) (t : Trail) (strokes : List Stroke) : Type 0 where
  pub left : StrikesIn old new before.files.state (name_of before) t strokes
  pub long : GrowsWithin old new (name_of before) before.files.page_size t strokes
  pub opened : WhereEnded result (IsOpen new after (after_strokes t strokes))
  pub goes : Goes before after
  pub gave : GaveNothing old new

-- The call answers what the turn says, and makes its strokes. A turn that only tells something, as a refusal, changes nothing, also where a call
-- of the host fails in it.
pub record Does {T : Type 0} (reply : T → Reply) (result : Result T Fault) (old new : World) (before after : Held) (t : Trail) (turn : Outcome) : Type 0 where
  pub answer : Answers reply result turn.reply
  pub makes : Makes result old new before after t turn.strokes
  pub idle : has_only_told turn.reply ≡ true → Quiet old new
