-- What the environment asks for.
use Rattle.std.specs.Prelude.{◌≡◌, ℕ, Option, Some, Result, Ok, Err, String}
use Rattle.std.specs.Global.{Global}
use Rattle.std.specs.declared.env.VarError.{VarError}

-- where the variable isn't set, no lock is waited for
abbrev pub WaitsIfSet : Result (String Global) VarError → Option ℕ → Type 0
WaitsIfSet (Ok value) seconds = Unit {0}
WaitsIfSet (Err why) seconds = seconds ≡ Some 0
