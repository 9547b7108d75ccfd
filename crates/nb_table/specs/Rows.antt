-- The rows of a table, as they are come by before one of them is changed.
use Rattle.std.specs.Prelude.{List, [], ◌∷◌, ℕ, Option, Some, None}
use Rattle.nb_host.specs.declared.refusals.Refusal.TheVariants.{NoTable}
use Rattle.nb_model.specs.Image.{Image}
use Rattle.nb_model.specs.Causes.{Cause, first_cause, broken_at, short_for, not_of_form, no_room}
use Rattle.nb_model.specs.Chains.{Chain, Catalogue, RowsFrom, Slot, Spot, pages_of, found_pages, first_in, spots, free_spot, place_slot, table_spot}
use Rattle.nb_model.specs.Forms.{drafted}

-- why no chain is come by in that slot of the catalogue: there is none, a test before the chain fails, or the chain isn't of the form
abbrev pub chain_cause : Image → (behind : Cause) → Option Spot → Cause
chain_cause image behind None = Some NoTable
chain_cause image behind (Some spot) = first_cause (behind ∷ broken_at (pages_of (RowsFrom (first_in spot.bytes)) image) ∷ [])

-- why the rows of a table aren't come by: a test before the catalogue fails, or the catalogue isn't of the form, or its slot leads to none
abbrev pub rows_cause : Image → (before : Cause) (table : List ℕ) (behind : Cause) → Cause
rows_cause image before table behind = first_cause (before ∷ broken_at (pages_of Catalogue image) ∷ chain_cause image behind (table_spot table image) ∷ [])

-- why a slot isn't put into a chain: the database is too short for a new page, or what is written isn't of its kind, or no page is left
abbrev pub place_cause : Chain → Image → (bytes : Slot) → Cause
place_cause chain image bytes = first_cause (
    short_for (free_spot (spots chain image)) image
    ∷ not_of_form (place_slot chain (found_pages chain image) bytes (drafted image))
    ∷ no_room (place_slot chain (found_pages chain image) bytes (drafted image))
    ∷ [])
