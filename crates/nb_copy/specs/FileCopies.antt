-- A copy of the frozen file of a stalled database, which no history names.
use Rattle.std.specs.Prelude.{◌≡◌, ℕ, ◌≤◌, List, [], ◌∷◌, ◌++◌, replicate, Result, None, IfOk}
use Rattle.nb_fields.specs.States.{stalled_state}
use Rattle.nb_host.specs.Files.{Files}
use Rattle.nb_host.specs.World.{World}
use Rattle.nb_host.specs.declared.faults.Fault.{Fault}
use Rattle.nb_host.specs.declared.faults.HostFault.{HostFault}
use Rattle.nb_change.specs.Changes.{Changes, Only, Remade}
use Rattle.nb_change.specs.Gave.{GaveNothing}
use Rattle.nb_page.specs.Free.{is_free_name}
use Rattle.nb_page.specs.Quiet.{Quiet}
use Rattle.nb_model.specs.Causes.{Cause, first_cause, is_free_entry, not_free, not_state, runs_any}
use Rattle.nb_model.specs.Image.{Image}
use Rattle.nb_model.specs.Levels.{joined}
use Rattle.nb_model.specs.Outcomes.{Copies, ClosesCopy, Outcome, Seen}
use Rattle.nb_model.specs.Trail.{Trail}
use Rattle.nb_state.specs.Open.{Held, IsOpen}
use Rattle.nb_state.specs.Does.{WhereEnded}
use Rattle.nb_state.specs.declared.turns.Progress.{Progress}
use Rattle.nb_engine.specs.Turns.{SaysNone}
use Rattle.nb_copy.specs.Copying.{Copying, IsOf, IsBegun}
use Rattle.nb_gather.specs.Making.{IsUnfinishedOr}
use Rattle.nb_copy.specs.Turns.{CopyTurn}

-- why no copy into a file of that name may begin
abbrev pub copy_cause : Seen → (name : List ℕ) → Cause
copy_cause s name = first_cause (not_state stalled_state s.base.image ∷ runs_any s.running ∷ not_free name (s.entry name) ∷ [])

-- where no copy and no merge runs the account knows whether the name is free
abbrev pub KnowsUnused : Files → Seen → (name : List ℕ) → Type 0
KnowsUnused files s name = s.running ≡ None → is_free_name files name ≡ is_free_entry (s.entry name)

-- A copy that makes its file in its first turn goes on. Before that nothing is said of the file.
pub record IsCopyingTo (w : World) (copy : Copying) (frozen : Image) : Type 0 where
  pub of : IsOf copy frozen
  pub begun : 1 ≤ copy.next → IsBegun w copy frozen

-- A copy that was started: its session has one turn left for each frozen page, and one for the close.
pub record IsCopyStarted (w : World) (held : Held) (t : Trail) (copy : Copying) (name : List ℕ) (turn : Outcome) : Type 0 where
  pub turns : turn.next ≡ replicate copy.count Copies ++ ClosesCopy name ∷ []
  pub first : copy.next ≡ 0
  pub named : copy.name ≡ name
  pub stalled : held.files.state ≡ stalled_state
  pub goes : IsCopyingTo w copy t.base.frozen

-- A copy is started, as its turn says, or it is refused. No file changes either way.
pub record StartsCopy (result : Result Copying Fault) (old new : World) (before after : Held) (t : Trail) (name : List ℕ) (turn : Outcome) : Type 0 where
  pub says : SaysNone result turn.reply
  pub quiet : Quiet old new
  pub held : WhereEnded result (after ≡ record before { running = turn.running })
  pub started : IfOk result (λ copy. IsCopyStarted new after t copy name turn)

-- One page more was dealt with, or the file is whole and kept for good. The file alone was touched.
pub record CopiesFile (result : Result Progress HostFault) (old new : World) (before after : Held) (copy later : Copying) (t : Trail) : Type 0 where
  pub left : Changes old new (Only copy.name) (Remade old copy.name (IsUnfinishedOr (joined t.base.frozen)))
  pub same : after ≡ before
  pub opened : IsOpen new after t
  pub gave : GaveNothing old new
  pub answer : CopyTurn result new copy later t.base.frozen
