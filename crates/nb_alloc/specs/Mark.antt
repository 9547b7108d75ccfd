-- A bit of an inventory page is written.
use Rattle.std.specs.Prelude.{ℕ, List, [], ◌∷◌, drop, Bool, true, false}
use Rattle.nb_fields.specs.Kinds.{inventory_kind}
use Rattle.nb_model.specs.Image.{Image, page_at}
use Rattle.nb_model.specs.Strokes.{Stroke}
use Rattle.nb_model.specs.Forms.{drafted, set_bit, with_bit, inventory_of, bit_number}
use Rattle.nb_model.specs.Causes.{Cause, first_cause, not_kind}
use Rattle.nb_alloc.specs.Put.{entry_cause, put_stroke}

-- the bit of a page that is free, or taken
abbrev pub bit_for : Bool → ℕ
bit_for free = elim free [ true ↦ 1 | false ↦ 0 ]

-- the inventory page of page p isn't of the form, or the SCN page of that inventory page isn't
abbrev pub mark_cause : Image → ℕ → Cause
mark_cause image p = first_cause (not_kind image inventory_kind (inventory_of image p) ∷ entry_cause image (inventory_of image p) ∷ [])

-- an inventory page is written with one bit so
abbrev pub bit_stroke : Image → (place index bit : ℕ) → Stroke
bit_stroke image place index bit = put_stroke image place 2 (drop 16 (with_bit index bit (page_at image place)))

-- that of page p is written with page p's bit so
abbrev pub mark_stroke : Image → (p bit : ℕ) → Stroke
mark_stroke image p bit = bit_stroke image (inventory_of image p) (bit_number image p) bit

-- the strokes that write the bit of page p
abbrev pub mark_strokes : Image → (p bit : ℕ) → List Stroke
mark_strokes image p bit = (set_bit bit p (drafted image)).strokes
