-- What the calls of a backup do of their turns.
use Rattle.std.specs.Prelude.{◌≡◌, ◌∷◌, ℕ, ◌+◌, List, [], ◌++◌, true, Option, Some, None, Result, Ok, Err, OnOk, IfOk}
use Rattle.nb_fields.specs.States.{normal_state}
use Rattle.nb_host.specs.World.{World}
use Rattle.nb_host.specs.declared.faults.Fault.{Fault}
use Rattle.nb_host.specs.declared.faults.Fault.TheVariants.{Refused, Device, Memory}
use Rattle.nb_host.specs.declared.refusals.Refusal.{Refusal}
use Rattle.nb_page.specs.Quiet.{Quiet}
use Rattle.nb_change.specs.Gave.{GaveNothing}
use Rattle.nb_model.specs.declared.reply.Reply.{Reply}
use Rattle.nb_model.specs.declared.reply.Reply.TheVariants.{Refused as RefusedBy}
use Rattle.nb_model.specs.Account.{Ask}
use Rattle.nb_model.specs.Image.{Image, image_scn}
use Rattle.nb_model.specs.Causes.{Cause, Tested, first_cause, read_only, not_state, no_scn}
use Rattle.nb_model.specs.Strokes.{begin}
use Rattle.nb_model.specs.Outcomes.{Outcome}
use Rattle.nb_model.specs.Trail.{Trail}
use Rattle.nb_base.specs.Takes.{Strikes, after_strokes}
use Rattle.nb_base.specs.Stays.{FileIs, KeepsFile, HasAfterFirst, GrowsWithin}
use Rattle.nb_state.specs.Open.{Held, IsOpen, name_of}
use Rattle.nb_state.specs.Does.{Answers, WhereEnded, WhereRefused, has_only_told, unless_by}
use Rattle.nb_engine.specs.Replies.{scn_is}

-- A backup begins with this GUID, as its turn says; or that is a refusal, and nothing changes, whatever is answered.
pub record DoesBegin (result : Result ℕ Fault) (old new : World) (before after : Held) (t : Trail) (guid : List ℕ) (turn : Outcome) : Type 0 where
  pub answer : Answers scn_is result turn.reply
  pub left : Strikes old new (name_of before) t turn.strokes
  pub long : GrowsWithin old new (name_of before) before.files.page_size t turn.strokes
  -- the main file is durable then, byte for byte
  pub frozen : OnOk result (FileIs new (name_of before) (λ file. file ≡ new.files (name_of before)))
  pub opened : WhereEnded result (IsOpen new after (after_strokes t turn.strokes))
  pub gave : OnOk result (new.guids ≡ old.guids ++ guid ∷ [])
  pub times : new.times ≡ old.times
  pub refused : WhereRefused result ((after ≡ before) × Quiet old new)
  pub idle : has_only_told turn.reply ≡ true → Quiet old new
  pub running : after.running ≡ before.running
  pub name : name_of after ≡ name_of before

-- nothing is said yet, or it is refused
abbrev pub SaysNone : {T : Type 0} → Result T Fault → Option Reply → Type 0
SaysNone (Ok value) said = said ≡ None
SaysNone (Err (Refused refusal)) said = said ≡ Some (RefusedBy refusal)
SaysNone (Err Device) said = Unit {0}
SaysNone (Err Memory) said = Unit {0}

-- The stalled state ends, as its turn says, which leaves the merge to later turns; or that is a refusal, and nothing changes, whatever is answered.
pub record DoesEnd (result : Result ℕ Fault) (old new : World) (before after : Held) (t : Trail) (scn : ℕ) (turn : Outcome) : Type 0 where
  pub says : SaysNone result turn.reply
  pub left : Strikes old new (name_of before) t turn.strokes
  pub long : GrowsWithin old new (name_of before) before.files.page_size t turn.strokes
  -- of the main file it changes page 0 alone
  pub rest : (bytes : List ℕ) → KeepsFile old new (name_of before) (HasAfterFirst before.files.page_size bytes)
  pub opened : WhereEnded result (IsOpen new after (after_strokes t turn.strokes))
  pub running : WhereEnded result (after.running ≡ turn.running)
  -- what is said once all is merged
  pub answer : IfOk result (λ value. value ≡ scn)
  pub merged : OnOk result (after.merged ≡ 0)
  pub gave : GaveNothing old new
  pub refused : WhereRefused result ((after ≡ before) × Quiet old new)
  pub idle : has_only_told turn.reply ≡ true → Quiet old new
  pub name : name_of after ≡ name_of before

-- why no backup begins in a database
abbrev pub starting_cause : Image → Cause
starting_cause image = first_cause (read_only image ∷ not_state normal_state image ∷ no_scn image ∷ [])

-- A backup begins with this GUID and whatever is asked of its copy; or there is a cause to refuse it, and nothing changes, whatever is answered.
pub record Starts (result : Result ℕ Fault) (old new : World) (before after : Held) (t : Trail) (guid : List ℕ) (ask : Option Ask) : Type 0 where
  pub test : Tested result (starting_cause t.base.image)
  pub left : Strikes old new (name_of before) t (unless_by (starting_cause t.base.image) (begin guid ask ∷ []))
  pub long : GrowsWithin old new (name_of before) before.files.page_size t (unless_by (starting_cause t.base.image) (begin guid ask ∷ []))
  -- the main file is durable then, byte for byte
  pub frozen : OnOk result (FileIs new (name_of before) (λ file. file ≡ new.files (name_of before)))
  pub opened : OnOk result (IsOpen new after (after_strokes t (begin guid ask ∷ [])))
  pub answer : IfOk result (λ scn. scn ≡ image_scn t.base.image + 1)
  pub gave : OnOk result (new.guids ≡ old.guids ++ guid ∷ [])
  pub times : new.times ≡ old.times
  pub refused : WhereRefused result ((after ≡ before) × Quiet old new)
  pub idle : (r : Refusal) → starting_cause t.base.image ≡ Some r → Quiet old new
  pub running : after.running ≡ before.running
  pub name : name_of after ≡ name_of before
