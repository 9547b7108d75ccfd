-- Pages in danger: a chain leads to them, and yet a change of something else may write them. A drop, or an insert, that was lost in part with
-- forced writes off leaves some.
use Rattle.std.specs.Prelude.{◌≡◌, ℕ, ◌<◌, List, [], ◌∷◌, length, take, Bool, false, ◌&&◌, ◌||◌, nat_eq}
use Rattle.std.specs.List.{filter, range_with_len}
use Rattle.nb_model.specs.Image.{Image}
use Rattle.nb_model.specs.Forms.{is_free_page}
use Rattle.nb_model.specs.Leaks.{is_among, reached}
use Rattle.nb_model.specs.Account.{Base}
use Rattle.nb_model.specs.HistoryRows.{HasFreeRow}
use Rattle.nb_model.specs.Outcomes.{Turn, Begins, Copies, ClosesBackup, ClosesCopy, Ends, Merges, Finishes}
use Rattle.nb_model.specs.Rows.{IsNeat}
use Rattle.nb_model.specs.Strokes.{Stroke, base_after}
use Rattle.nb_model.specs.declared.statement.Statement.{Statement}
use Rattle.nb_model.specs.declared.statement.Statement.TheVariants.{Insert, Update}

-- page p is there more than once
unfoldable pub is_twice : (p : ℕ) → List ℕ → Bool
is_twice p [] = false
is_twice p (q ∷ qs) = (nat_eq p q && is_among p qs) || is_twice p qs

-- a chain reaches page p, and its bit says free or two chains reach it: a chain of the form has no page twice
abbrev pub is_in_danger : Image → (p : ℕ) → Bool
is_in_danger image p = is_among p (reached image) && (is_free_page image p || is_twice p (reached image))

-- those below the length, rising
unfoldable pub in_danger : Image → List ℕ
in_danger image = filter (is_in_danger image) (range_with_len 0 (length image))

-- At each front of the strokes the image is neat, and no page is in danger.
pub record StaysApart (b : Base) (strokes : List Stroke) : Type 0 where
  pub neat : (k : ℕ) → IsNeat (base_after b (take k strokes)).image
  pub none : (k : ℕ) → in_danger (base_after b (take k strokes)).image ≡ []

-- the key of a row has eight bytes
abbrev pub IsKeyed : Statement → Type 0
IsKeyed (Insert table key text) = key < 18446744073709551616
IsKeyed (Update table key text) = key < 18446744073709551616
IsKeyed other = Unit {0}

-- What a turn needs of the image: a backup that closes has a free slot of the history for its row, and keys have eight bytes.
abbrev pub HasItsPlace : Image → Turn → Type 0
HasItsPlace image (Begins statement) = IsKeyed statement
HasItsPlace image Copies = Unit {0}
HasItsPlace image (ClosesBackup b) = HasFreeRow image b.page b.slot
HasItsPlace image (ClosesCopy name) = Unit {0}
HasItsPlace image (Ends reply) = Unit {0}
HasItsPlace image Merges = Unit {0}
HasItsPlace image (Finishes reply) = Unit {0}
