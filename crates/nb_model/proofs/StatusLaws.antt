-- The exit status after a reply.
use Rattle.std.proofs.Common.{◌≡◌, ◌≢◌, max, refl, Bool, true, false, ◌||◌, if◌then◌else◌}
use Rattle.nb_model.proofs.Common.{Refusal, Usage, Reply, Refused, status_after}

-- the reply is a refusal
abbrev pub is_refusal : Reply → Bool
is_refusal reply = elim reply [ Refused refusal ↦ true | _ ↦ false ]

-- so the status after it is 1 for a refusal and 0 otherwise.
pub status_plain : (r : Reply) → r ≢ Refused Usage → status_after r ≡ (if is_refusal r then 1 else 0)
status_plain (Refused Usage) other = absurd (other refl)
status_plain r other = refl

pub status_refused : (refusal : Refusal) → refusal ≢ Usage → status_after (Refused refusal) ≡ 1
status_refused Usage other = absurd (other refl)
status_refused refusal other = refl

-- two statuses such as these together
pub status_or : (a b : Bool) → max (if a then 1 else 0) (if b then 1 else 0) ≡ (if a || b then 1 else 0)
status_or true true = refl
status_or true false = refl
status_or false true = refl
status_or false false = refl
