-- What strokes do to the rows of one table.
use Rattle.std.specs.Prelude.{◌≡◌, ◌≢◌, ◌⊎◌, ℕ, List, take}
use Rattle.nb_model.specs.Account.{Base}
use Rattle.nb_model.specs.Image.{Image}
use Rattle.nb_model.specs.Rows.{RowMap, rows, IsNeat}
use Rattle.nb_model.specs.Strokes.{Stroke, base_after}

-- The image is neat, the table has these rows, and every other table has those that it had before.
pub record GivesRows (before image : Image) (table : List ℕ) (rs : RowMap) : Type 0 where
  pub neat : IsNeat image
  pub its : rows image table ≡ rs
  pub others : (other : List ℕ) → other ≢ table → rows image other ≡ rows before other

-- After the strokes the table has these rows. At each front of them, where a crash may leave the database, it has those rows or its
-- rows from before.
pub record ChangesRows (b : Base) (strokes : List Stroke) (table : List ℕ) (rs : RowMap) : Type 0 where
  pub each : (k : ℕ) → GivesRows b.image (base_after b (take k strokes)).image table (rows b.image table) ⊎ GivesRows b.image (base_after b (take k strokes)).image table rs
  pub behind : GivesRows b.image (base_after b strokes).image table rs

-- At each front of the strokes the image is neat, and every table has its rows.
pub record KeepsRows (b : Base) (strokes : List Stroke) : Type 0 where
  pub neat : (k : ℕ) → IsNeat (base_after b (take k strokes)).image
  pub rows : (k : ℕ) (table : List ℕ) → rows (base_after b (take k strokes)).image table ≡ rows b.image table
