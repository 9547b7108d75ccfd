-- A slot of a chain that is found stands on a page of it.
use Rattle.std.proofs.Common.{◌≡◌, ℕ, suc, List, [], ◌∷◌, refl, arith, Bool, Some, Contains}
use Rattle.nb_model.proofs.Common.{AllByRecursion, Chain, Spot, found_pages, first_such, spots_of, spots, Image}
use Rattle.nb_model.proofs.RoomLaws.{first_passes}
use Rattle.nb_model.proofs.SpotLaws.{IsSpotOn, all_on}

pub each_held : (ps : List ℕ) → AllByRecursion (Contains ps) ps
each_held ps = from ps (λ q at. at)
  where
    from : (qs : List ℕ) → ((q : ℕ) → Contains qs q → Contains ps q) → AllByRecursion (Contains ps) qs
    from [] among = tt
    from (q ∷ qs) among = (among q (0, omega arith, refl), from qs (λ r at. among r (later r at)))
      where
        later : (r : ℕ) → Contains qs r → Contains (q ∷ qs) r
        later r (k, low, is) = (suc k, omega (arith, low), is)

-- a spot of a chain that is found stands on a page of it
pub found_there : (c : Chain) (x : Image) (test : Spot → Bool) (s : Spot) → first_such test (spots c x) ≡ Some s → IsSpotOn (Contains (found_pages c x)) x s
unfolding spots
found_there c x test s found = first_passes test (IsSpotOn (Contains (found_pages c x)) x) (spots_of x (found_pages c x)) s found (all_on (Contains (found_pages c x)) x (found_pages c x) (each_held (found_pages c x)))
