-- A page with nothing but its head.
use Rattle.std.specs.Prelude.{◌≡◌, ℕ, ◌-◌, List, length, drop, replicate}

-- zeros stand after the head
abbrev pub IsBlank : List ℕ → Type 0
IsBlank page = drop 16 page ≡ replicate (length page - 16) 0
