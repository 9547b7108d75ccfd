-- The pages of a chain that is of the form are data pages: those of its slots, and the last.
use Rattle.std.proofs.Common.{◌≡◌, ℕ, List, true, Bool, Some, None}
use Rattle.nb_walk.proofs.Common.{data_kind, Image, not_kind, broken_at, Chain, Spot, is_in_chain, pages_of, found_pages, spots, spots_of, first_such, free_spot, row_spot, last_of}
use Rattle.nb_model.proofs.RoomLaws.{in_chain, pages_found, first_passes, last_of_all}
use Rattle.nb_model.proofs.SpotLaws.{IsSpotOn, all_on}
use Rattle.nb_alloc.proofs.TestLaws.{kind_is}

module _ (chain : Chain) (image : Image) (formed : broken_at (pages_of chain image) ≡ None) where
  -- a slot that is found
  pub spot_on : (test : Spot → Bool) (s : Spot) → first_such test (spots chain image) ≡ Some s → IsSpotOn (λ q. is_in_chain chain image q ≡ true) image s
  unfolding spots
  spot_on test s found =
      let ps : List ℕ = found_pages chain image in
      first_passes test (IsSpotOn (λ q. is_in_chain chain image q ≡ true) image) (spots_of image ps) s found (all_on (λ q. is_in_chain chain image q ≡ true) image ps (pages_found chain image formed).each)

  pub spot_kind : (test : Spot → Bool) (s : Spot) → first_such test (spots chain image) ≡ Some s → not_kind image data_kind s.page ≡ None
  spot_kind test s found = let parts = in_chain chain image s.page (spot_on test s found).page in kind_is image data_kind s.page parts.0 parts.1

  -- a row's, and a free one
  pub row_kind : (key : ℕ) (s : Spot) → row_spot key (spots chain image) ≡ Some s → not_kind image data_kind s.page ≡ None
  unfolding row_spot
  row_kind key s found = spot_kind _ s found

  pub free_kind : (s : Spot) → free_spot (spots chain image) ≡ Some s → not_kind image data_kind s.page ≡ None
  unfolding free_spot
  free_kind s found = spot_kind _ s found

  -- the last page
  pub last_in : is_in_chain chain image (last_of (found_pages chain image)) ≡ true
  last_in = let are = pages_found chain image formed in last_of_all (λ q. is_in_chain chain image q ≡ true) (found_pages chain image) are.some are.each

  pub last_kind : not_kind image data_kind (last_of (found_pages chain image)) ≡ None
  last_kind = let parts = in_chain chain image (last_of (found_pages chain image)) last_in in kind_is image data_kind (last_of (found_pages chain image)) parts.0 parts.1
