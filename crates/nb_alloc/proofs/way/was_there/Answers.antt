use Rattle.std.proofs.Common.{◌≢◌, refl, sym, subst, Result, Err, IfErr}
use Rattle.nb_alloc.proofs.Common.{Fault, Memory, not_kind, Tested}
use Rattle.nb_alloc.proofs.NeedReads.{kind_refused, kind_found}
use Rattle.nb_alloc.proofs.way.was_there.Goals as goal

pub returns-in-Ok-clause-value : goal.returns-in-Ok-clause-value
returns-in-Ok-clause-value c image kind place tested =
    sym (kind_found image kind place (subst (λ (r : Result (Unit {0}) Fault). Tested r (not_kind image kind place)) c.in-Ok.is tested))

pub returns-in-Refused-clause-value : goal.returns-in-Refused-clause-value
returns-in-Refused-clause-value c image kind place tested =
    sym (kind_refused image kind place c.in-Refused.field-0
    (subst (λ (f : Fault). Tested {T = Unit {0}} (Err f) (not_kind image kind place)) c.in-Refused.is (subst (λ (r : Result (Unit {0}) Fault). Tested r (not_kind image kind place)) c.in-Err.is tested))).0

pub unreachable-requires : goal.unreachable-requires
unreachable-requires c =
    subst (λ (f : Fault). f ≢ Memory) c.in-Memory.is (subst (λ (r : Result (Unit {0}) Fault). IfErr r (λ f. f ≢ Memory)) c.in-Err.is c.requires) refl
