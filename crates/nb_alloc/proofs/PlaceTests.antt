-- Which test tells that a system page stands at a place.
use Rattle.std.proofs.Common.{◌≡◌, ℕ, sym, ap, Bool, true, false, ◌||◌}
use Rattle.nb_alloc.proofs.Common.{or_left, is_inventory_place, is_scn_place, is_system_place}

pub system_first : (size p : ℕ) → is_inventory_place size p ≡ true → true ≡ is_system_place size p
unfolding is_system_place
system_first size p e = sym (or_left (is_inventory_place size p) (is_scn_place size p) e)

pub system_second : (size p : ℕ) → is_inventory_place size p ≡ false → is_scn_place size p ≡ is_system_place size p
unfolding is_system_place
system_second size p e = sym (ap (λ (t : Bool). t || is_scn_place size p) e)
