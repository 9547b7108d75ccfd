-- What a crash leaves where forced writes are off: each page by itself is that of some image since the last settled point.
use Rattle.std.specs.Prelude.{◌≡◌, ℕ, ◌<◌, ◌≤◌, List, length, take, drop, Contains, true}
use Rattle.nb_fields.specs.Places.{is_scn_place}
use Rattle.nb_fields.specs.States.{stalled_state}
use Rattle.nb_model.specs.Image.{Image, page_at, first_page, image_size, image_state, image_scn}
use Rattle.nb_model.specs.Sound.{SoundInventory}
use Rattle.nb_model.specs.Stands.{IsRaised}

-- some of the images passes a test
pub record IsOfSome (images : List Image) (test : Image → Type 0) : Type 0 where
  pub image : Image
  pub there : Contains images image
  pub passes : test image

-- The control block and the length are those of one image, and every other page, and page 0 after its control block, is that of
-- some image. The inventories are sound, and in the stalled state what is diverted is raised.
pub record IsPagewise (images : List Image) (image : Image) (diverted : List ℕ) : Type 0 where
  pub control : IsOfSome images (λ m. (length image ≡ length m) × (take 64 (first_page image) ≡ take 64 (first_page m)))
  pub header : IsOfSome images (λ m. drop 64 (first_page image) ≡ drop 64 (first_page m))
  pub each : (p : ℕ) → 1 ≤ p → p < length image → IsOfSome images (λ m. (p < length m) × (page_at image p ≡ page_at m p))
  pub sound : SoundInventory image
  pub raised : image_state image ≡ stalled_state → IsRaised image diverted

-- what a crash leaves agrees with what reads now in its length, its SCN and its SCN pages
pub record AgreesWith (image now : Image) : Type 0 where
  pub long : length image ≡ length now
  pub scn : image_scn image ≡ image_scn now
  pub scn_pages : (p : ℕ) → p < length image → is_scn_place (image_size image) p ≡ true → page_at image p ≡ page_at now p
