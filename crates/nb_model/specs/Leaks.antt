-- Pages that are taken and that nothing reaches: a crash in an insert, a drop or a create leaves them.
use Rattle.std.specs.Prelude.{ℕ, List, length, Bool, ◌&&◌, ◌==◌, not, nat_eq}
use Rattle.std.specs.List.{filter, list_any, range_with_len}
use Rattle.nb_fields.specs.Page.{kind_of}
use Rattle.nb_fields.specs.Kinds.{data_kind}
use Rattle.nb_model.specs.Image.{Image, page_at}
use Rattle.nb_model.specs.Forms.{is_free_page}
use Rattle.nb_model.specs.Rows.{chains, pages_of_all}

-- page p is one of these
abbrev pub is_among : (p : ℕ) → List ℕ → Bool
is_among p ps = list_any (nat_eq p) ps

-- page p is a data page, and taken
abbrev pub is_taken_data : Image → (p : ℕ) → Bool
is_taken_data image p = not (is_free_page image p) && kind_of (page_at image p) == data_kind

-- the pages of the chains of the catalogue, of the history, and of each table of the catalogue
abbrev pub reached : Image → List ℕ
reached image = pages_of_all image (chains image)

-- page p is a data page that is taken, and that none of these chains reaches
abbrev pub is_leaked : Image → (p : ℕ) → Bool
is_leaked image p = is_taken_data image p && not (is_among p (reached image))

-- those below the length, rising
unfoldable pub leaked : Image → List ℕ
leaked image = filter (is_leaked image) (range_with_len 0 (length image))
