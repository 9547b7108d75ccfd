-- The slots of pages: each stands on one of the pages, within it, and holds the bytes that stand there.
use Rattle.std.proofs.Common.{◌≡◌, ℕ, zero, suc, ◌+◌, ◌-◌, ◌*◌, ◌/◌, ◌<◌, ◌≤◌, List, [], ◌∷◌, length, refl, ap, arith, Some}
use Rattle.nb_model.proofs.Common.{AllByRecursion, div-mul-le_self, part, Spot, slots_from, slots_in, spots_on, spots_of, free_spot, Page, Image, page_at, image_size, all_append}
use Rattle.nb_model.proofs.RoomLaws.{first_passes}

-- how many slots a page has
abbrev pub slot_count : Page → ℕ
slot_count page = (length page - 32) / 256

-- The slot stands on such a page, within it, with the bytes that stand there.
pub record IsSpotOn (P : ℕ → Type 0) (image : Image) (s : Spot) : Type 0 where
  pub page : P s.page
  pub within : s.slot < slot_count (page_at image s.page)
  pub there : s.bytes ≡ part (32 + 256 * s.slot) 256 (page_at image s.page)

-- such a slot ends within its page
pub spot_within : (image : Image) (p slot : ℕ) → length (page_at image p) ≡ image_size image → slot < slot_count (page_at image p) → 256 * slot + 288 ≤ image_size image
spot_within image p slot long within = let most = div-mul-le_self (length (page_at image p) - 32) 256 in omega (arith, most, within, long)

module _ (P : ℕ → Type 0) (image : Image) where
  spots_from : (p most count slot at : ℕ) → P p → most ≡ slot_count (page_at image p) → slot + count ≡ most → at ≡ 32 + 256 * slot → AllByRecursion (IsSpotOn P image) (spots_on p slot (slots_from count at (page_at image p)))
  unfolding spots_on slots_from
  spots_from p most zero slot at holds many sum place = tt
  spots_from p most (suc count) slot at holds many sum place = (
    record { page = holds; within = omega (arith, many, sum); there = ap (λ (k : ℕ). part k 256 (page_at image p)) place },
    spots_from p most count (slot + 1) (at + 256) holds many (omega (arith, sum)) (omega (arith, place)),
  )

  -- so of all the slots of such pages
  pub all_on : (ps : List ℕ) → AllByRecursion P ps → AllByRecursion (IsSpotOn P image) (spots_of image ps)
  unfolding spots_of slots_in
  all_on [] all = tt
  all_on (p ∷ ps) all =
      let count : ℕ = slot_count (page_at image p) in
      all_append (IsSpotOn P image) (spots_on p 0 (slots_from count 32 (page_at image p))) (spots_of image ps) (spots_from p count count 0 32 all.0 refl (omega arith) (omega arith)) (all_on ps all.1)

  -- and of the free one that is found
  pub free_on : (ps : List ℕ) (s : Spot) → AllByRecursion P ps → free_spot (spots_of image ps) ≡ Some s → IsSpotOn P image s
  unfolding free_spot
  free_on ps s all is = first_passes _ (IsSpotOn P image) (spots_of image ps) s is (all_on ps all)
