-- The pages of a history that is of the form are data pages below the length.
use Rattle.std.proofs.Common.{◌≡◌, ℕ, ◌<◌, ◌≤◌, length, arith, true, Some, None}
use Rattle.nb_engine.proofs.Common.{kind_of, data_kind, Image, page_at, broken_at, History, Spot, spots, is_in_chain, pages_of, found_pages, last_of, free_spot}
use Rattle.nb_model.proofs.RoomLaws.{in_chain, first_found}
use Rattle.nb_walk.proofs.SpotPages.{spot_on, last_in}

pub record IsData (image : Image) (p : ℕ) : Type 0 where
  pub low : p < length image
  pub kind : kind_of (page_at image p) ≡ data_kind

data_of : (image : Image) (p : ℕ) → is_in_chain History image p ≡ true → IsData image p
data_of image p is = let parts = in_chain History image p is in record { low = parts.0; kind = parts.1 }

module _ (image : Image) (formed : broken_at (pages_of History image) ≡ None) where
  -- the last one
  pub last_data : IsData image (last_of (found_pages History image))
  last_data = data_of image (last_of (found_pages History image)) (last_in History image formed)

  -- that of the first free slot
  pub spot_data : (s : Spot) → free_spot (spots History image) ≡ Some s → IsData image s.page
  unfolding free_spot
  spot_data s found = data_of image s.page (spot_on History image formed _ s found).page

  -- and the first one, so that the database has five pages
  pub history_least : 5 ≤ length image
  history_least = let low = (data_of image 4 (first_found History image formed)).low in omega (arith, low)
