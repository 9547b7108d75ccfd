-- Parts of an order of turns.
use Rattle.std.specs.Prelude.{◌≡◌, ℕ, List, [], ◌∷◌, ◌⊎◌}

-- these are some of the numbers of the order, one after another as they stand there
abbrev pub IsWithin : (numbers : List ℕ) → (order : List ℕ) → Type 0
IsWithin [] order = Unit {0}
IsWithin (n ∷ numbers) [] = ⊥
IsWithin (n ∷ numbers) (session ∷ order) = ((n ≡ session) × IsWithin numbers order) ⊎ IsWithin (n ∷ numbers) order
