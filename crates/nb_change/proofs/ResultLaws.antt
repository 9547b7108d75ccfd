-- What holds under Ok, and what an error that is passed on is.
use Rattle.std.proofs.Common.{◌≡◌, ap, Result, Ok, Err, IsErr, IsErrAnd, OnOk}
use Rattle.nb_change.proofs.Common.{WholeOrNot}

-- at Ok it was done whole
pub whole_on_ok : {T E X : Type 0} (result : Result T E) (before done after : X) → WholeOrNot result before done after → OnOk result (after ≡ done)
whole_on_ok (Ok x) before done after is = is
whole_on_ok (Err e) before done after is = tt

pub on_ok_then : {T E P Q : Type 0} (result : Result T E) → (P → Q) → OnOk result P → OnOk result Q
on_ok_then (Ok x) f p = f p
on_ok_then (Err e) f p = tt

-- what `?` passes on
pub passed_on : {T E : Type 0} (result : Result T E) (fault : E) → IsErr result × IsErrAnd result (λ e. e ≡ fault) → result ≡ Err fault
passed_on (Ok value) fault is = absurd is.1
passed_on (Err e) fault is = ap Err is.1
