-- Data pages: what is read, made, written and given back of them.
use Rattle.std.specs.Prelude.{ℕ, List, [], ◌∷◌, drop, Option, Some, None, Bool, not, ◌&&◌, ◌==◌}
use Rattle.nb_fields.specs.Payloads.{data_payload}
use Rattle.nb_fields.specs.Kinds.{data_kind}
use Rattle.nb_host.specs.declared.refusals.Refusal.TheVariants.{NotDatabase}
use Rattle.nb_model.specs.Image.{Page, Image, page_at}
use Rattle.nb_model.specs.Forms.{Draft, drafted, is_kind, put, new_page}
use Rattle.nb_model.specs.Causes.{Cause, first_cause, when, not_kind, too_short, not_of_form, no_room}
use Rattle.nb_model.specs.Chains.{Chain, owner_of, owner_in}
use Rattle.nb_alloc.specs.Behind.{behind_cause}
use Rattle.nb_alloc.specs.Put.{entry_cause}
use Rattle.nb_alloc.specs.Make.{new_of}

-- page p is a data page of that owner
abbrev pub is_data : Image → (owner p : ℕ) → Bool
is_data image owner p = is_kind image data_kind p && owner_in (page_at image p) == owner

abbrev pub not_data : Image → (owner p : ℕ) → Cause
not_data image owner p = when (not (is_data image owner p)) (NotDatabase p)

-- who owns a new page: the one that is named, or the page itself
abbrev pub owner_by : Option ℕ → (number : ℕ) → ℕ
owner_by None number = number
owner_by (Some owner) number = owner

-- a new data page without a next one, with these slots and zeros after them; and its number
abbrev pub new_data : (owner : Option ℕ) (slots : List ℕ) → Image → Draft × ℕ
new_data owner slots image = new_of 5 (λ p. data_payload 0 (owner_by owner p) slots) image

-- a new data page after a chain, with these slots; and its number
abbrev pub new_behind : Chain → (slots : List ℕ) → Image → Draft × ℕ
new_behind chain slots image = new_data (Some (owner_of chain)) slots image

-- a new data page, and then a second one
abbrev pub second_data : (first second : ℕ → List ℕ) → Image → Draft × ℕ
second_data first second image = new_page 5 second (new_page 5 first (drafted image)).0

-- page p becomes a data page with what these bytes have after the head
abbrev pub put_data : (p : ℕ) → Page → Image → Draft
put_data p page image = put p data_kind (drop 16 page) (drafted image)

-- why it doesn't: it is no data page yet, or its SCN page isn't of its kind
abbrev pub data_cause : Image → ℕ → Cause
data_cause image p = first_cause (not_kind image data_kind p ∷ entry_cause image p ∷ [])

-- why a draft of new pages isn't made: the database is too short for it, or what it needs isn't of its kind, or no page is left
abbrev pub unmade : Image → Draft → Cause
unmade image d = first_cause (too_short image ∷ not_of_form d ∷ no_room d ∷ [])

-- and one after which page p, a data page, is written
abbrev pub unmade_behind : Image → Draft → (p : ℕ) → Cause
unmade_behind image d p = first_cause (too_short image ∷ behind_cause d p ∷ [])
