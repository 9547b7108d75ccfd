-- Numbers by a linear congruential generator: the order of turns that a seed means, and the lines of a generated script.
use Rattle.std.specs.Prelude.{ℕ, zero, suc, ◌+◌, ◌*◌, ◌/◌, ◌%◌, ◌^◌, List, [], ◌∷◌}

-- the number after x
unfoldable pub stepped : ℕ → ℕ
stepped x = (x * 6364136223846793005 + 1442695040888963407) % 2 ^ 64

-- the session that a number means, by its upper bits
unfoldable pub session_of : ℕ → ℕ
session_of x = x / 2 ^ 33 % 16 + 1

-- so many sessions, from a seed
unfoldable pub seeded : ℕ → ℕ → List ℕ
seeded zero x = []
seeded (suc count) x = session_of (stepped x) ∷ seeded count (stepped x)
