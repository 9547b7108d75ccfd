-- A table that is made.
use Rattle.std.specs.Prelude.{◌≡◌, ℕ, List, [], ◌∷◌, length, true, is_some, nat_le}
use Rattle.nb_fields.specs.Payloads.{data_payload}
use Rattle.nb_fields.specs.Kinds.{data_kind}
use Rattle.nb_host.specs.declared.refusals.Refusal.TheVariants.{TableExists, TooManyTables}
use Rattle.nb_model.specs.Causes.{Cause, first_cause, when, broken_at}
use Rattle.nb_model.specs.Chains.{Catalogue, found_pages, last_of, pages_of, put_slot, grown, spots, table_spot, table_slot}
use Rattle.nb_model.specs.Forms.{Draft, drafted, is_kind, wants, new_page}
use Rattle.nb_model.specs.Image.{Image}
use Rattle.nb_model.specs.Rows.{used}
use Rattle.nb_table.specs.declared.look.Place.{Place}

-- why a table of that name may not be made
abbrev pub new_cause : Image → (table : List ℕ) → Cause
new_cause image table = first_cause (
    broken_at (pages_of Catalogue image)
    ∷ when (is_some (table_spot table image)) TableExists
    ∷ when (nat_le 12 (length (used (spots Catalogue image)))) TooManyTables
    ∷ [])

-- its first page
abbrev pub first_made : Image → Draft × ℕ
first_made image = new_page 5 (λ p. data_payload 0 p []) (drafted image)

-- its slot in the catalogue then, at a place, whose page has to be a data page still, or in a new page after its last one
abbrev pub created_in : Image → (table : List ℕ) → Place → Draft
created_in image table place = wants (first_made image).0.image 5 place.page (put_slot place.page place.slot (table_slot table (first_made image).1) (first_made image).0)

abbrev pub created_behind : Image → (table : List ℕ) → Draft
created_behind image table = (grown Catalogue (found_pages Catalogue image) (table_slot table (first_made image).1) (first_made image).0).0

-- the page is the last of the catalogue, a data page
pub record IsLastOf (image : Image) (last : ℕ) : Type 0 where
  pub is : last ≡ last_of (found_pages Catalogue image)
  pub kind : is_kind image data_kind last ≡ true
