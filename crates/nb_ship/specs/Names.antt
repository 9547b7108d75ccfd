-- The file in which an increment stands on its way to a standby.
use Rattle.std.specs.Prelude.{ℕ, List, ◌++◌, codes}

-- what its name ends in
abbrev pub ship_suffix : List ℕ
ship_suffix = codes ".ship"

-- the ship file of a standby
abbrev pub ship_of : (standby : List ℕ) → List ℕ
ship_of standby = standby ++ ship_suffix
