-- What is answered where nothing may be refused.
use Rattle.std.specs.Prelude.{Result, Ok, Err}
use Rattle.nb_host.specs.declared.faults.Fault.{Fault}
use Rattle.nb_host.specs.declared.faults.Fault.TheVariants.{Refused, Device, Memory}

-- it answers such a value, or the device fails
abbrev pub IsTaken : {T : Type 0} → Result T Fault → (T → Type 0) → Type 0
IsTaken (Ok value) P = P value
IsTaken (Err (Refused refusal)) P = ⊥
IsTaken (Err Device) P = Unit {0}
IsTaken (Err Memory) P = ⊥

-- it answers such a value, or the device fails, or memory is wanted
abbrev pub IsGiven : {T : Type 0} → Result T Fault → (T → Type 0) → Type 0
IsGiven (Ok value) P = P value
IsGiven (Err (Refused refusal)) P = ⊥
IsGiven (Err Device) P = Unit {0}
IsGiven (Err Memory) P = Unit {0}
