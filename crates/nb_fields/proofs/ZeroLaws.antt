-- The first bytes of zeros, and zeros after others.
use Rattle.std.proofs.Common.{◌≡◌, ℕ, zero, suc, List, [], ◌∷◌, ◌++◌, take, replicate, refl, true, ◌==◌}
use Rattle.nb_fields.proofs.Common.{and_from, and_parts, is_zeros}

pub zeros-take : (k n : ℕ) → is_zeros (take k (replicate n 0)) ≡ true
zeros-take zero n = refl
zeros-take (suc k) zero = refl
zeros-take (suc k) (suc n) = zeros-take k n

pub zeros-behind : (k n : ℕ) (bytes : List ℕ) → is_zeros (take k bytes) ≡ true → is_zeros (take k (bytes ++ replicate n 0)) ≡ true
zeros-behind zero n bytes h = refl
zeros-behind (suc k) n [] h = zeros-take (suc k) n
zeros-behind (suc k) n (b ∷ bs) h = let both = and_parts (b == 0) (is_zeros (take k bs)) h in and_from (b == 0) (is_zeros (take k (bs ++ replicate n 0))) both.0 (zeros-behind k n bs both.1)
