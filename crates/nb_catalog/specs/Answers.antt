-- What an answer says.
use Rattle.std.specs.Prelude.{◌≡◌, List, ◌∷◌, Result, Ok, Err}
use Rattle.nb_host.specs.declared.faults.Fault.{Fault}
use Rattle.nb_host.specs.declared.faults.Fault.TheVariants.{Refused, Device, Memory}
use Rattle.nb_host.specs.declared.refusals.Refusal.{Refusal}

-- what is meant is answered, a value or a refusal; a fault of the host and want of memory say nothing
abbrev pub Says : {T : Type 0} → (meant : Result T Refusal) → Result T Fault → Type 0
Says meant (Ok value) = meant ≡ Ok value
Says meant (Err (Refused refusal)) = meant ≡ Err refusal
Says meant (Err Device) = Unit {0}
Says meant (Err Memory) = Unit {0}

-- with one more in front
abbrev pub with_first : {T : Type 0} → T → Result (List T) Refusal → Result (List T) Refusal
with_first x (Ok xs) = Ok (x ∷ xs)
with_first x (Err refusal) = Err refusal
