-- Replies as they are answered.
use Rattle.std.specs.Prelude.{◌≡◌, ℕ, [], ◌∷◌, length, Option, Some, Result, Ok, Err, Bool, true, false}
use Rattle.nb_host.specs.declared.faults.Fault.{Fault}
use Rattle.nb_host.specs.declared.faults.Fault.TheVariants.{Refused, Device, Memory}
use Rattle.nb_model.specs.declared.reply.Reply.{Reply}
use Rattle.nb_model.specs.declared.reply.Reply.TheVariants.{Scn, Activated, Refused as RefusedBy, HeaderShown}
use Rattle.nb_model.specs.declared.statement.Statement.{Statement}
use Rattle.nb_model.specs.declared.statement.Statement.TheVariants.{Activate}
use Rattle.nb_model.specs.Account.{Base}
use Rattle.nb_model.specs.Image.{image_size, image_state, image_scn, image_guid, is_forced, is_read_only}
use Rattle.nb_model.specs.Lines.{flag}
use Rattle.nb_model.specs.Pages.{delta_count}
use Rattle.nb_model.specs.Run.{Event}
use Rattle.nb_state.specs.Does.{has_only_told}

-- it is said
abbrev pub some_said : Reply → Option Reply
some_said reply = Some reply

-- the reply to what was answered: this of its value, or the same failure
abbrev pub Replies : {T : Type 0} → (T → Reply) → Result T Fault → Result Reply Fault → Type 0
Replies reply (Ok value) (Ok said) = said ≡ reply value
Replies reply (Ok value) (Err fault) = ⊥
Replies reply (Err fault) (Ok said) = ⊥
Replies reply (Err fault) (Err other) = other ≡ fault

-- it ended with a value or a refusal
abbrev pub HasEnded : {T : Type 0} → Result T Fault → Type 0
HasEnded (Ok value) = Unit
HasEnded (Err (Refused refusal)) = Unit
HasEnded (Err Device) = ⊥
HasEnded (Err Memory) = ⊥

-- what a statement that ends a backup says once all is merged
abbrev pub end_reply : Statement → (pages scn : ℕ) → Reply
end_reply Activate pages scn = Activated pages scn
end_reply other pages scn = Scn scn

-- what is shown of a header, and of the difference file beside it
abbrev pub header_of : Base → Reply
header_of b =
    HeaderShown (image_size b.image) (length b.image) (image_state b.image) (image_scn b.image) (image_guid b.image) (is_forced b.image) (flag (is_read_only b.image)) (delta_count b)

-- the reply is a refusal
abbrev pub is_refusal : Reply → Bool
is_refusal reply = elim reply [ RefusedBy refusal ↦ true | _ ↦ false ]

-- a turn that makes no stroke and only tells something
abbrev pub only_told : Event → Bool
only_told e = elim e.strokes [ [] ↦ has_only_told e.reply | s ∷ ss ↦ false ]
