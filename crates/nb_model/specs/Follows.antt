-- Lineage: one image goes on from another where the pages with low stamps are the same.
use Rattle.std.specs.Prelude.{◌≡◌, ℕ, ◌<◌, ◌≤◌, List, length, Contains}
use Rattle.nb_fields.specs.Page.{stamp_of}
use Rattle.nb_model.specs.Image.{Image, page_at, first_page, image_size}

-- b has the page size of a and is no shorter, and each page of b with a stamp of at most s is the page of a of that number
pub record Follows (a : Image) (s : ℕ) (b : Image) : Type 0 where
  pub size : image_size b ≡ image_size a
  pub no_shorter : length a ≤ length b
  pub same : (p : ℕ) → p < length b → stamp_of (page_at b p) ≤ s → (p < length a) × (page_at b p ≡ page_at a p)

-- The image is as long as some of these images, each of its pages but page 0 is that of some of them, and page 0 is stamped above s.
pub record IsMixed (images : List Image) (s : ℕ) (image : Image) : Type 0 where
  pub as_long : (m : Image) × Contains images m × (length image ≡ length m)
  pub head : s < stamp_of (first_page image)
  pub each : (p : ℕ) → 1 ≤ p → p < length image → (m : Image) × Contains images m × (p < length m) × (page_at image p ≡ page_at m p)
