-- The turns of a backup: begin, end, and the merge.
use Rattle.std.specs.Prelude.{◌≡◌, ◌⊎◌, ℕ, ◌+◌, ◌<◌, ◌≤◌, List, [], ◌∷◌, ◌++◌, length, Option, Some, None, Result, Ok, Err, OnOk, IfOk, slice_index, ◌==◌}
use Rattle.nb_fields.specs.States.{normal_state, merge_state}
use Rattle.nb_host.specs.Files.{Files}
use Rattle.nb_host.specs.World.{World}
use Rattle.nb_host.specs.declared.faults.Fault.{Fault}
use Rattle.nb_host.specs.declared.faults.HostFault.{HostFault}
use Rattle.nb_host.specs.declared.refusals.Refusal.{Refusal}
use Rattle.nb_host.specs.declared.refusals.Refusal.TheVariants.{WrongState}
use Rattle.nb_page.specs.Quiet.{Quiet}
use Rattle.nb_change.specs.Changes.{Only}
use Rattle.nb_change.specs.Gave.{GaveNothing}
use Rattle.nb_model.specs.Account.{Ask}
use Rattle.nb_model.specs.Image.{Image, image_state, image_scn}
use Rattle.nb_model.specs.Causes.{Cause, Tested, first_cause, when, not_state, no_scn, runs_other}
use Rattle.nb_model.specs.Pages.{end_strokes, end_scn}
use Rattle.nb_model.specs.Strokes.{begin, finish}
use Rattle.nb_model.specs.Owner.{delta_name}
use Rattle.nb_model.specs.Trail.{Trail}
use Rattle.nb_base.specs.Merging.{PutsPage}
use Rattle.nb_base.specs.Takes.{Strikes, StrikesOn, after_strokes}
use Rattle.nb_base.specs.Stays.{FileIs, KeepsFile, HasAfterFirst, GrowsWithin}
use Rattle.nb_state.specs.Open.{Held, IsOpen, name_of}
use Rattle.nb_state.specs.Does.{WhereRefused, unless_by}
use Rattle.nb_state.specs.declared.turns.Progress.{Progress}
use Rattle.nb_state.specs.declared.turns.Progress.TheVariants.{More, Finished}

-- why no backup begins
abbrev pub begin_cause : Image → Cause
begin_cause image = first_cause (not_state normal_state image ∷ no_scn image ∷ [])

-- why no merge begins
abbrev pub end_cause : Image → (running : Option ℕ) → (session : ℕ) → Cause
end_cause image running session = first_cause (when (image_state image == normal_state) (WrongState 0) ∷ runs_other running session ∷ [])

-- this GUID was given, or none
abbrev pub GaveAtMost : (old new : World) (guid : List ℕ) → Type 0
GaveAtMost old new guid = (new.guids ≡ old.guids) ⊎ (new.guids ≡ old.guids ++ guid ∷ [])

-- A backup begins with this GUID; or there is a cause to refuse it, and nothing changes, whatever is answered.
pub record Begins (result : Result ℕ Fault) (old new : World) (before after : Held) (t : Trail) (guid : List ℕ) (ask : Option Ask) : Type 0 where
  pub test : Tested result (begin_cause t.base.image)
  pub left : Strikes old new (name_of before) t (unless_by (begin_cause t.base.image) (begin guid ask ∷ []))
  pub long : GrowsWithin old new (name_of before) before.files.page_size t (unless_by (begin_cause t.base.image) (begin guid ask ∷ []))
  -- the main file is durable then, byte for byte
  pub frozen : OnOk result (FileIs new (name_of before) (λ file. file ≡ new.files (name_of before)))
  pub opened : OnOk result (IsOpen new after (after_strokes t (begin guid ask ∷ [])))
  pub answer : IfOk result (λ scn. scn ≡ image_scn t.base.image + 1)
  pub gave : OnOk result (new.guids ≡ old.guids ++ guid ∷ [])
  pub times : new.times ≡ old.times
  pub refused : WhereRefused result ((after ≡ before) × Quiet old new)
  pub idle : (r : Refusal) → begin_cause t.base.image ≡ Some r → Quiet old new
  pub running : after.running ≡ before.running
  pub name : name_of after ≡ name_of before

-- The stalled state ends, or a stopped merge begins again; or there is a cause to refuse it, and nothing changes, whatever is answered.
pub record Ends (result : Result ℕ Fault) (old new : World) (before after : Held) (t : Trail) (session : ℕ) : Type 0 where
  pub test : Tested result (end_cause t.base.image before.running session)
  pub left : Strikes old new (name_of before) t (unless_by (end_cause t.base.image before.running session) (end_strokes t.base.image))
  pub long : GrowsWithin old new (name_of before) before.files.page_size t (unless_by (end_cause t.base.image before.running session) (end_strokes t.base.image))
  -- of the main file it changes page 0 alone
  pub rest : (bytes : List ℕ) → KeepsFile old new (name_of before) (HasAfterFirst before.files.page_size bytes)
  pub opened : OnOk result (IsOpen new after (after_strokes t (end_strokes t.base.image)))
  pub answer : IfOk result (λ scn. scn ≡ end_scn t.base.image)
  pub begins : OnOk result ((after.running ≡ Some session) × (after.merged ≡ 0))
  pub gave : GaveNothing old new
  pub refused : WhereRefused result ((after ≡ before) × Quiet old new)
  pub idle : (r : Refusal) → end_cause t.base.image before.running session ≡ Some r → Quiet old new
  pub name : name_of after ≡ name_of before

-- How far a merge has come after one turn more, whatever the host tells.
abbrev pub GoesOn : Progress → (before after : Held) → Type 0
GoesOn More before after =
    (before.merged < length before.files.entries) × (after.merged ≡ before.merged + 1) × (after.files.state ≡ merge_state) × (after.running ≡ before.running) × (after.files.entries ≡ before.files.entries)
GoesOn Finished before after = length before.files.entries ≤ before.merged

-- What a turn of a merge changes of the files, whatever they hold: one page of the main file, that of the next entry; or after the last one the
-- difference file is gone.
abbrev pub PutsOn : Progress → (old new : Files) (before : Held) → Type 0
PutsOn More old new before = PutsPage old new (name_of before) before.files.page_size (slice_index before.files.entries before.merged)
PutsOn Finished old new before = new (delta_name (name_of before)) ≡ None

-- One entry more is merged, or all are and the merge is over.
abbrev pub MergesOn : Result Progress HostFault → (new : World) (before after : Held) → Trail → Type 0
MergesOn (Ok More) new before after t = (before.merged < length t.base.diverted) × (after.merged ≡ before.merged + 1) × (after.running ≡ before.running) × IsOpen new after t
MergesOn (Ok Finished) new before after t = (length t.base.diverted ≡ before.merged) × (after.running ≡ None) × IsOpen new after (after_strokes t (finish ∷ []))
MergesOn (Err fault) new before after t = Unit {0}

pub record Merges (result : Result Progress HostFault) (old new : World) (before after : Held) (t : Trail) : Type 0 where
  pub left : Strikes old new (name_of before) t (finish ∷ [])
  pub long : GrowsWithin old new (name_of before) before.files.page_size t (finish ∷ [])
  -- but in its last turn it changes no page of the database, and the main file alone is touched
  pub more : before.merged < length t.base.diverted → StrikesOn old new (Only (name_of before)) (name_of before) t []
  pub puts : IfOk result (λ progress. PutsOn progress old.files new.files before)
  pub on : MergesOn result new before after t
  pub gave : GaveNothing old new
  pub name : name_of after ≡ name_of before
