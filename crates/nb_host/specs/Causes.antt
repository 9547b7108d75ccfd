-- A fault is told only where the count of faults rose.
use Rattle.std.specs.Prelude.{◌≡◌, ℕ, ◌+◌, ◌-◌, ◌^◌, ◌≤◌, min, List, [], Result, Ok, Err, MatchResult}
use Rattle.nb_host.specs.declared.faults.Fault.{Fault}
use Rattle.nb_host.specs.declared.faults.Fault.TheVariants.{Refused, Device, Memory}
use Rattle.nb_host.specs.declared.faults.RunError.{RunError}
use Rattle.nb_host.specs.declared.faults.RunError.TheVariants.{Device as DeviceError, Memory as MemoryError}

-- how often calls of a host have failed, and whose count it is, which no call changes: a host that works over another names here that one,
-- and the files for which it does more than pass a call on
pub record FaultCount : Type 0 where
  pub whose : List (List ℕ)
  pub count : ℕ

-- the count of a host that works over no other
abbrev pub own_count : ℕ → FaultCount
own_count n = record { whose = []; count = n }

-- the count rose; at the last value of a `u64` it stands still
pub record Rose (before after : FaultCount) : Type 0 where
  pub whose : after.whose ≡ before.whose
  pub risen : min (before.count + 1) (2 ^ 64 - 1) ≤ after.count
  pub no_lower : before.count ≤ after.count

-- at Ok the count stays, and at Err it rose
abbrev pub CountsFault : {T E : Type 0} → Result T E → FaultCount → FaultCount → Type 0
CountsFault result before after = MatchResult result (λ _. after ≡ before) (λ _. Rose before after)

-- Device comes only where the count rose, and with every other answer it stays
abbrev pub CountsDevice : {T : Type 0} → Result T Fault → FaultCount → FaultCount → Type 0
CountsDevice (Ok value) before after = after ≡ before
CountsDevice (Err (Refused refusal)) before after = after ≡ before
CountsDevice (Err Device) before after = Rose before after
CountsDevice (Err Memory) before after = after ≡ before

-- and so where nothing is refused
abbrev pub CountsRun : {T : Type 0} → Result T RunError → FaultCount → FaultCount → Type 0
CountsRun (Ok value) before after = after ≡ before
CountsRun (Err DeviceError) before after = Rose before after
CountsRun (Err MemoryError) before after = after ≡ before
