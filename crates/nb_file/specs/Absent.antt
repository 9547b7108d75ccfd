-- Names that led to no file.
use Rattle.std.specs.Prelude.{ℕ, Bool, List}
use Rattle.std.specs.List.{list_any}
use Rattle.nb_host.specs.Names.{same_name}

-- one of these names is this name
abbrev pub has_name : List (List ℕ) → List ℕ → Bool
has_name names name = list_any (λ own. same_name own name) names
