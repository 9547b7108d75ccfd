-- What a check has found in danger, by what it answered.
use Rattle.std.proofs.Common.{◌≡◌, ℕ, List, sym, ap, subst, ◌∙◌, Option, None, Some, Result, Ok, Err, IsErr, IsErrAnd, IfOk}
use Rattle.nb_session.proofs.Common.{Fault, Refused, Device, Memory, RunError, Statement, Image, Cause}
use Rattle.nb_model.specs.declared.statement.Statement.TheVariants.{Check}
use Rattle.nb_model.specs.Causes.{Tested}
use Rattle.nb_model.specs.Danger.{in_danger}
use Rattle.nb_state.specs.Does.{WhereEnded}
use Rattle.nb_model.specs.Checks.{check_cause}
use Rattle.nb_session.specs.Dangers.{danger_after}
use Rattle.nb_session.specs.Replies.{HasEnded}

module _ (image : Image) (before : Option (List ℕ)) (statement : Statement) (is : statement ≡ Check) where
  -- by what there is a cause for
  abbrev found_by : Cause → Option (List ℕ)
  found_by cause = elim cause [ None ↦ Some (in_danger image) | Some refusal ↦ before ]

  found_is : danger_after statement image before ≡ found_by (check_cause image)
  found_is = ap (λ (s : Statement). danger_after s image before) is

  -- a check that isn't refused has found what there is
  pub check_found : (found : Option (List ℕ)) (pages : List ℕ) → check_cause image ≡ None → found ≡ Some pages → pages ≡ in_danger image → found ≡ danger_after statement image before
  check_found found pages none same all = same ∙ ap Some all ∙ sym (ap found_by none) ∙ sym found_is

  -- one that is refused finds nothing more
  pub check_refused : (T : Type 0) {S : Type 0} (fault : Fault) (result : Result S Fault) → IsErr result × IsErrAnd result (λ e. e ≡ fault) → Tested {T = T} (Err fault) (check_cause image)
      → WhereEnded result (before ≡ danger_after statement image before)
  check_refused T fault (Ok value) handed tested = absurd handed.1
  check_refused T {S} fault (Err e) handed tested = subst (λ (f : Fault). WhereEnded {T = S} (Err f) (before ≡ danger_after statement image before)) (sym handed.1) (by fault tested)
    where
      by : (f : Fault) → Tested {T = T} (Err f) (check_cause image) → WhereEnded {T = S} (Err f) (before ≡ danger_after statement image before)
      by (Refused refusal) some = sym (found_is ∙ ap found_by some)
      by Device some = tt
      by Memory some = tt

-- where memory ran out nothing is said
pub memory_ends : {S : Type 0} (fault : Fault) (P : Type 0) (result : Result S Fault) → fault ≡ Memory → IsErr result × IsErrAnd result (λ e. e ≡ fault) → WhereEnded result P
memory_ends fault P (Ok value) short handed = absurd handed.1
memory_ends {S} fault P (Err e) short handed = subst (λ (f : Fault). WhereEnded {T = S} (Err f) P) (sym (handed.1 ∙ short)) tt

-- what holds is so however it ended
pub where_ended : {S : Type 0} (P : Type 0) (result : Result S Fault) → P → WhereEnded result P
where_ended P (Ok value) holds = holds
where_ended P (Err (Refused refusal)) holds = holds
where_ended P (Err Device) holds = tt
where_ended P (Err Memory) holds = tt

-- a statement that is no check finds nothing more
pub found_nothing : {S : Type 0} (statement it : Statement) (image : Image) (before : Option (List ℕ)) (result : Result S Fault) → statement ≡ it → danger_after it image before ≡ before → WhereEnded result (before ≡ danger_after statement image before)
found_nothing statement it image before result is none = where_ended (before ≡ danger_after statement image before) result (sym (ap (λ (s : Statement). danger_after s image before) is ∙ none))

-- what holds where it has ended
pub ended_holds : {S : Type 0} (P : Type 0) (result : Result S Fault) → HasEnded result → WhereEnded result P → P
ended_holds P (Ok value) ended holds = holds
ended_holds P (Err (Refused refusal)) ended holds = holds
ended_holds P (Err Device) ended holds = absurd ended
ended_holds P (Err Memory) ended holds = absurd ended

-- the first turn of a statement of many turns finds nothing
pub begun_nothing : {S : Type 0} (statement it : Statement) (image : Image) (before : Option (List ℕ)) (result : Result S RunError) → statement ≡ it → danger_after it image before ≡ before → IfOk result (λ value. before ≡ danger_after statement image before)
begun_nothing statement it image before (Ok value) is none = sym (ap (λ (s : Statement). danger_after s image before) is ∙ none)
begun_nothing statement it image before (Err error) is none = tt
