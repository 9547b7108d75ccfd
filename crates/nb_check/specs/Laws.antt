-- What is true of a check and of a reclaim, whoever asks for them.
use Rattle.std.specs.Prelude.{◌≡◌, ℕ, ◌<◌, List, [], drop, take, length, None, false}
use Rattle.nb_fields.specs.Places.{is_system_place}
use Rattle.nb_model.specs.Account.{Base}
use Rattle.nb_model.specs.Chains.{History, spots}
use Rattle.nb_model.specs.Forms.{is_free_page}
use Rattle.nb_model.specs.Image.{Image, page_at, image_size}
use Rattle.nb_model.specs.Rows.{rows}
use Rattle.nb_model.specs.Sound.{IsSoundImage}
use Rattle.nb_model.specs.Strokes.{Stroke, base_after}
use Rattle.nb_model.specs.Leaks.{is_among, leaked}
use Rattle.nb_model.specs.Checks.{check_cause}

-- Every page but the system pages is as it was, and so are the rows of every table and the history. Of the bits only those of leaked
-- pages changed. A check is not refused.
pub record KeepsPages (before image : Image) : Type 0 where
  pub sound : IsSoundImage image
  pub checked : check_cause image ≡ None
  pub same : length image ≡ length before
  pub pages : (p : ℕ) → p < length before → is_system_place (image_size before) p ≡ false → page_at image p ≡ page_at before p
  pub rows : (table : List ℕ) → rows image table ≡ rows before table
  pub history : spots History image ≡ spots History before
  pub bits : (p : ℕ) → p < length before → is_among p (leaked before) ≡ false → is_free_page image p ≡ is_free_page before p

-- After the strokes no page is leaked. At each front of them, where a crash may leave the database, the pages that are leaked are the
-- last of those that were.
pub record Reclaims (b : Base) (strokes : List Stroke) : Type 0 where
  pub keeps : (k : ℕ) → KeepsPages b.image (base_after b (take k strokes)).image
  pub fronts : (k : ℕ) → (j : ℕ) × (leaked (base_after b (take k strokes)).image ≡ drop j (leaked b.image))
  pub none : leaked (base_after b strokes).image ≡ []
