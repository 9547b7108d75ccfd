-- Open files by their names.
use Rattle.std.specs.Prelude.{ℕ, List, IsTrue, IsSomeAnd, slice_get}
use Rattle.nb_host.specs.Names.{same_name}

-- the file at that place of the list has this name
abbrev pub IsNamedAt : {X : Type 0} → List X → (X → List ℕ) → List ℕ → ℕ → Type 0
IsNamedAt files name_of name place = IsSomeAnd (slice_get files place) (λ held. IsTrue (same_name (name_of held) name))
