-- A fault that is passed on where nothing may be refused.
use Rattle.std.proofs.Common.{Err}
use Rattle.nb_host.specs.Answers.{IsTaken, IsGiven}
use Rattle.nb_host.specs.declared.faults.Fault.{Fault}
use Rattle.nb_host.specs.declared.faults.Fault.TheVariants.{Refused, Device, Memory}

-- it says the same whatever was to be answered
pub fails_alike : {S T : Type 0} (P : S → Type 0) (Q : T → Type 0) (fault : Fault) → IsTaken {T = S} (Err fault) P → IsTaken {T = T} (Err fault) Q
fails_alike P Q (Refused refusal) is = is
fails_alike P Q Device is = tt
fails_alike P Q Memory is = is

-- what is taken is given
pub given_by : {S T : Type 0} (fault : Fault) (P : S → Type 0) (Q : T → Type 0) → IsTaken {T = S} (Err fault) P → IsGiven {T = T} (Err fault) Q
given_by (Refused refusal) P Q is = is
given_by Device P Q is = tt
given_by Memory P Q is = absurd is
