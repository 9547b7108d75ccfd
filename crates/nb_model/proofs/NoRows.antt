-- Pages that have no rows of the history.
use Rattle.std.proofs.Common.{◌≡◌, ◌≢◌, ℕ, sym, ◌∙◌, false, ◌==◌}
use Rattle.nb_model.proofs.Common.{and_left, and_right, ne_eqb, kind_of, data_kind, owner_in, Page, is_history_page}
use Rattle.nb_model.proofs.PastLaws.{no_history}

abbrev pub HasNoRows : Page → Type 0
HasNoRows bytes = is_history_page bytes ≡ false

-- a page of another kind
pub no_rows : (kind : ℕ) → kind ≢ 5 → (bytes : Page) → kind_of bytes ≡ kind → HasNoRows bytes
no_rows kind other bytes e = no_history bytes (λ five. other (sym e ∙ five))

-- a page of another owner
pub owner_no_rows : (bytes : Page) → owner_in bytes ≢ 1 → HasNoRows bytes
unfolding is_history_page
owner_no_rows bytes other = and_right (kind_of bytes == data_kind) _ (and_left (owner_in bytes == 1) _ (ne_eqb (owner_in bytes) 1 other))
