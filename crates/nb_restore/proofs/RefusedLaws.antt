-- What is read where nothing refuses: the device failed, or memory.
use Rattle.std.proofs.Common.{ℕ, Err}
use Rattle.nb_restore.proofs.Common.{Fault, Refused, Device, Memory, IsDone, IsGiven}
use Rattle.nb_chain.specs.Most.{RefusedReads}

pub given_refuses : (S T : Type 0) (P : S → Type 0) (fault : Fault) (before most after : ℕ) → IsGiven {T = S} (Err fault) P → RefusedReads {T = T} (Err fault) before most after
given_refuses S T P (Refused refusal) before most after says = absurd says
given_refuses S T P Device before most after says = tt
given_refuses S T P Memory before most after says = tt

pub done_refuses : (S T P : Type 0) (fault : Fault) (before most after : ℕ) → IsDone {T = S} (Err fault) P → RefusedReads {T = T} (Err fault) before most after
done_refuses S T P (Refused refusal) before most after says = absurd says
done_refuses S T P Device before most after says = tt
done_refuses S T P Memory before most after says = absurd says
