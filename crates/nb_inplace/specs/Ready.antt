-- What is answered of a standby that is made ready for its merge.
use Rattle.std.specs.Prelude.{◌≡◌, Some, None, Result, Ok, Err}
use Rattle.nb_host.specs.declared.faults.Fault.{Fault}
use Rattle.nb_host.specs.declared.faults.Fault.TheVariants.{Refused, Device, Memory}
use Rattle.nb_model.specs.Causes.{Cause}
use Rattle.nb_model.specs.Image.{Page}

-- It is refused exactly where there is a cause, and for that. Otherwise its page 0 is read as that page.
abbrev pub ReadySays : Cause → (page first : Page) → Result Unit Fault → Type 0
ReadySays cause page first (Ok done) = (cause ≡ None) × (first ≡ page)
ReadySays cause page first (Err (Refused refusal)) = cause ≡ Some refusal
ReadySays cause page first (Err Device) = Unit {0}
ReadySays cause page first (Err Memory) = ⊥
