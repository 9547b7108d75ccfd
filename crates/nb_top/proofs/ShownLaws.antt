-- The line that is shown of a script which breaks its form.
use Rattle.std.proofs.Common.{◌≡◌, ◌≢◌, ℕ, List, sym, ap, subst, Bool, Option, Some, None, Result, Ok, Err, IsErr}
use Rattle.nb_top.proofs.Common.{Refusal, BadScript, Usage, RunError, Files, World, Deed, Job, Status, Goes, Request, Asked, Runs, Does, Ships, request_of, to_plan, BreaksAt, IfShown, IsShownOf}
use Rattle.nb_ended.specs.declared.broken.Broken.{Broken}
use Rattle.nb_ended.specs.Shown.{Names}

-- it isn't refused for a line
abbrev pub IsUnbroken : Asked → Type 0
IsUnbroken asked = (line : ℕ) → asked ≢ Runs (Err (BadScript line))

pub run_unbroken : (r : Request) → IsUnbroken (Runs (Ok r))
run_unbroken r line h = cc

pub deed_unbroken : (deed : Deed) → IsUnbroken (Does deed)
deed_unbroken deed line h = cc

pub ship_unbroken : (primary standby : List ℕ) → IsUnbroken (Ships primary standby)
ship_unbroken primary standby line h = cc

-- a plan that is refused is refused for a line of its list or for another reason
pub plan_unbroken : (keep : ℕ) (names : List (List ℕ)) → IsUnbroken (to_plan keep (Ok names))
plan_unbroken keep names line h = cc

-- nor are words that name no job
pub usage_unbroken : IsUnbroken (Runs (Err Usage))
usage_unbroken line h = cc

-- nothing was noted
pub unshown : (result : Result Status RunError) (broken : Option Broken) (asked : Asked) → broken ≡ None → IsUnbroken asked → IsShownOf result broken asked
unshown (Ok status) broken asked none other = subst (λ (b : Option Broken). BreaksAt b asked) (sym none) other
unshown (Err e) broken asked none other = subst (λ (b : Option Broken). IfShown b asked) (sym none) tt

-- where it ended early nothing has to be
pub unshown_early : (result : Result Status RunError) (broken : Option Broken) (asked : Asked) → broken ≡ None → IsErr result → IsShownOf result broken asked
unshown_early (Ok status) broken asked none failed = absurd (cc failed)
unshown_early (Err e) broken asked none failed = subst (λ (b : Option Broken). IfShown b asked) (sym none) tt

pub same_refusal : (r q : Refusal) → Runs (Err r) ≡ Runs (Err q) → r ≡ q
same_refusal r q h = cc

-- what was noted is the line of the refusal
pub shown_by : (result : Result Status RunError) (broken : Option Broken) (refusal : Refusal) → Names broken refusal → IsShownOf result broken (Runs (Err refusal))
shown_by (Ok status) (Some b) refusal names = ap (λ (r : Refusal). Runs (Err r)) names
shown_by (Ok status) None refusal names = λ line h. names line (same_refusal refusal (BadScript line) h)
shown_by (Err e) (Some b) refusal names = ap (λ (r : Refusal). Runs (Err r)) names
shown_by (Err e) None refusal names = tt

-- what is done, and shown, of the job that it is
module _ (result : Result Status RunError) (files : Files) (job it : Job) (is : job ≡ it) where
  pub goes_as : {H : Type 0} (world : H → World) (tells : Bool) (old new : H) → Goes world tells result old new (request_of files it) → Goes world tells result old new (request_of files job)
  goes_as world tells old new goes = subst (λ (x : Job). Goes world tells result old new (request_of files x)) (sym is) goes

  pub shown_as : (broken : Option Broken) → IsShownOf result broken (request_of files it) → IsShownOf result broken (request_of files job)
  shown_as broken shown = subst (λ (x : Job). IsShownOf result broken (request_of files x)) (sym is) shown
