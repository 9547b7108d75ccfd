-- A table that is dropped.
use Rattle.std.specs.Prelude.{◌≡◌, ℕ, ◌≤◌, List, [], ◌∷◌, ◌++◌, true, Some, None}
use Rattle.nb_fields.specs.Kinds.{data_kind}
use Rattle.nb_model.specs.Causes.{broken_at}
use Rattle.nb_model.specs.Chains.{Catalogue, RowsFrom, Spot, first_in, found_pages, free_slot, pages_of, put_slot, table_spot}
use Rattle.nb_model.specs.Forms.{Draft, drafted, is_kind}
use Rattle.nb_model.specs.Image.{Image}
use Rattle.nb_model.specs.Tables.{all_given}
use Rattle.nb_engine.specs.Behind.{give_broken}

-- The slot is that of the table. The chains of the catalogue and of the table are of the form.
pub record IsWholeTable (image : Image) (table : List ℕ) (spot : Spot) : Type 0 where
  pub catalogue : broken_at (pages_of Catalogue image) ≡ None
  pub found : table_spot table image ≡ Some spot
  pub formed : broken_at (pages_of (RowsFrom (first_in spot.bytes)) image) ≡ None

-- its slot becomes free, and then its pages are given back
abbrev pub dropped : Image → Spot → Draft
dropped image spot = all_given (found_pages (RowsFrom (first_in spot.bytes)) image) (put_slot spot.page spot.slot free_slot (drafted image))

-- the pages that aren't of their kind of those that change where these pages are given back, after others
abbrev pub drop_broken : Image → (pages noted : List ℕ) → List ℕ
drop_broken image [] noted = noted
drop_broken image (q ∷ qs) noted = drop_broken image qs (give_broken image q ++ noted)

-- The page is a data page, and all that giving it back changes is of its kind.
pub record IsGivable (x : Image) (q : ℕ) : Type 0 where
  pub some : 1 ≤ q
  pub kind : is_kind x data_kind q ≡ true
  pub given : give_broken x q ≡ []
