-- What can't be refused answers as what can.
use Rattle.std.specs.Prelude.{Result, Ok, Err}
use Rattle.nb_host.specs.declared.faults.Fault.{Fault}
use Rattle.nb_host.specs.declared.faults.Fault.TheVariants.{Device, Memory}
use Rattle.nb_host.specs.declared.faults.RunError.{RunError}
use Rattle.nb_host.specs.declared.faults.RunError.TheVariants.{Device as DeviceError, Memory as MemoryError}

-- why it ended early
abbrev pub as_fault : RunError → Fault
as_fault DeviceError = Device
as_fault MemoryError = Memory

abbrev pub as_answer : {T : Type 0} → Result T RunError → Result T Fault
as_answer (Ok value) = Ok value
as_answer (Err error) = Err (as_fault error)
