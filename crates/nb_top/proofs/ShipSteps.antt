-- A step of a ship, and what comes after it.
use Rattle.std.proofs.Common.{◌≡◌, inl, inr, ℕ, List, ◌∷◌, refl, ap, subst, Bool, Option, Some, None, Result, Ok, Err, IsErr, IsErrAnd}
use Rattle.nb_top.proofs.Common.{World, Fault, Refused, Device, Memory, Refusal, RunError, Reply, Status, Done, Serves, merging}
use Rattle.nb_host.specs.declared.faults.RunError.TheVariants.{Device as DeviceError, Memory as MemoryError}
use Rattle.nb_ship.specs.Answers.{Says}
use Rattle.nb_ship.specs.Names.{ship_of}
use Rattle.nb_ship.specs.Steps.{steps_from}
use Rattle.nb_ship.specs.declared.steps.Step.{Step}
use Rattle.nb_ship.specs.declared.steps.Step.TheVariants.{Copy, Apply, Discard}
use Rattle.nb_page.specs.Quiet.{Quiet}
use Rattle.nb_ended.specs.declared.status.Status.TheVariants.{Refused as RefusedStatus}
use Rattle.nb_top.specs.declared.ship_plan.ShipPlan.{ShipPlan}
use Rattle.nb_top.specs.Shipped.{AfterCopy, IsGone, Refuses, Removes, ShipsByPlan, TakesSteps, copying, merge_turn}
use Rattle.nb_top.specs.Done.{GoesOn}
use Rattle.nb_top.specs.Shipping.{ship_plan}
use Rattle.nb_top.proofs.ScriptRuns.{runs_err}

-- what stopped a part is passed on
pub stopped_by : (result : Result Status RunError) (stop : RunError) → IsErr result × IsErrAnd result (λ e. e ≡ stop) → result ≡ Err stop
stopped_by (Ok status) stop is = absurd is.1
stopped_by (Err e) stop is = ap (λ (s : RunError). Err s) is.1

module _ {H : Type 0} (world : H → World) (tells : Bool) (primary standby since : List ℕ) (steps : List Step) (merged : Option Reply) where
  abbrev Takes : List Step → Option Reply → Result Status RunError → (old new : H) → Type 0
  Takes = TakesSteps world tells primary standby since

  abbrev ship : List ℕ
  ship = ship_of standby

  abbrev Served : Result Reply Fault → (old mid : H) → Type 0
  Served taken old mid = Serves taken (world old) (world mid) (merging (world old).files standby ship) (merge_turn (world old).files standby ship)

  -- ---- the merge

  served_early : (taken : Result Reply Fault) (old mid : H) → Served taken old mid → (stop : RunError) → Takes (Apply ∷ steps) merged (Err stop) old mid
  served_early taken old mid s DeviceError = record { taken = Err Device; mid = mid; serves = record { answer = tt; left = s.left; reads = s.reads; gave = s.gave; idle = s.idle }; after = (refl, refl) }
  served_early taken old mid s MemoryError = record { taken = Err Memory; mid = mid; serves = record { answer = tt; left = s.left; reads = s.reads; gave = s.gave; idle = s.idle }; after = (refl, refl) }

  -- it ended early
  pub merge_stops : (taken : Result Reply Fault) (result : Result Status RunError) (old mid : H) → IsErr result → Served taken old mid → Takes (Apply ∷ steps) merged result old mid
  merge_stops taken result old mid failed s = runs_err result failed (λ r. Takes (Apply ∷ steps) merged r old mid) (served_early taken old mid s)

  -- it is refused
  pub merge_refuses : (taken : Result Reply Fault) (refusal : Refusal) → taken ≡ Err (Refused refusal) → (result : Result Status RunError) (old mid new : H) → Served taken old mid → Refuses result (world mid) (world new) refusal
      → Takes (Apply ∷ steps) merged result old new
  merge_refuses taken refusal is result old mid new s refuses = record { taken = Err (Refused refusal); mid = mid; serves = subst (λ (t : Result Reply Fault). Served t old mid) is s; after = refuses }

  -- it is done
  pub merge_goes : (taken : Result Reply Fault) (reply : Reply) → taken ≡ Ok reply → (result : Result Status RunError) (old mid new : H) → Served taken old mid → Takes steps (Some reply) result mid new → Takes (Apply ∷ steps) merged result old new
  merge_goes taken reply is result old mid new s next = record { taken = Ok reply; mid = mid; serves = subst (λ (t : Result Reply Fault). Served t old mid) is s; after = next }

  -- ---- the removal

  pub discard_stops : (result : Result Status RunError) (old mid : H) → result ≡ Err DeviceError → Removes (world old) (world mid) ship → Takes (Discard ∷ steps) merged result old mid
  discard_stops result old mid is removes = record { mid = mid; removes = removes; after = inr (is, refl) }

  pub discard_goes : (result : Result Status RunError) (old mid new : H) → Removes (world old) (world mid) ship → IsGone (world mid) ship → Takes steps merged result mid new → Takes (Discard ∷ steps) merged result old new
  discard_goes result old mid new removes gone next = record { mid = mid; removes = removes; after = inl (gone, next) }

  -- ---- the copy

  abbrev Copied : Result Status RunError → (old mid : H) → Type 0
  Copied ended old mid = GoesOn world tells ended old mid (copying primary since ship)

  pub copy_stops : (stop : RunError) (result : Result Status RunError) (old mid : H) → result ≡ Err stop → Copied (Err stop) old mid → Takes (Copy ∷ steps) merged result old mid
  copy_stops stop result old mid is goes = record { ended = Err stop; mid = mid; goes = goes; after = (is, refl) }

  pub copy_refused : (old mid : H) → Copied (Ok RefusedStatus) old mid → Takes (Copy ∷ steps) merged (Ok RefusedStatus) old mid
  copy_refused old mid goes = record { ended = Ok RefusedStatus; mid = mid; goes = goes; after = (refl, refl) }

  pub copy_goes : (result : Result Status RunError) (old mid new : H) → Copied (Ok Done) old mid → Takes steps merged result mid new → Takes (Copy ∷ steps) merged result old new
  copy_goes result old mid new goes next = record { ended = Ok Done; mid = mid; goes = goes; after = next }

-- ---- the plan

module _ {H : Type 0} (world : H → World) (tells : Bool) (primary standby : List ℕ) (old mid : H) (quiet : Quiet (world old) (world mid)) (planned : Result ShipPlan Fault) (says : Says (ship_plan (world old).files primary standby) planned) where
  abbrev Ships : Result Status RunError → H → Type 0
  Ships result new = ShipsByPlan world tells result old new primary standby

  -- it ended early
  pub plan_stops : (result : Result Status RunError) → IsErr result → Ships result mid
  plan_stops result failed = runs_err result failed (λ r. Ships r mid) early
    where
      early : (stop : RunError) → Ships (Err stop) mid
      early DeviceError = record { planned = Err Device; mid = mid; quiet = quiet; plan = tt; after = (refl, refl) }
      early MemoryError = record { planned = Err Memory; mid = mid; quiet = quiet; plan = tt; after = (refl, refl) }

  -- it is refused
  pub plan_refuses : (refusal : Refusal) → planned ≡ Err (Refused refusal) → (result : Result Status RunError) (new : H) → Refuses result (world mid) (world new) refusal → Ships result new
  plan_refuses refusal is result new refuses = record { planned = Err (Refused refusal); mid = mid; quiet = quiet; plan = subst (Says (ship_plan (world old).files primary standby)) is says; after = refuses }

  -- its steps were taken
  pub plan_goes : (plan : ShipPlan) → planned ≡ Ok plan → (result : Result Status RunError) (new : H) → TakesSteps world tells primary standby plan.since (steps_from plan.first) None result mid new → Ships result new
  plan_goes plan is result new next = record { planned = Ok plan; mid = mid; quiet = quiet; plan = subst (Says (ship_plan (world old).files primary standby)) is says; after = next }

-- ---- the ship file, by its name

module _ {H : Type 0} (world : H → World) (tells : Bool) (standby name : List ℕ) (is : name ≡ ship_of standby) where
  pub served_ship : (taken : Result Reply Fault) (old mid : H) → Serves taken (world old) (world mid) (merging (world old).files standby name) (merge_turn (world old).files standby name)
      → Serves taken (world old) (world mid) (merging (world old).files standby (ship_of standby)) (merge_turn (world old).files standby (ship_of standby))
  served_ship taken old mid s = subst (λ (n : List ℕ). Serves taken (world old) (world mid) (merging (world old).files standby n) (merge_turn (world old).files standby n)) is s

  pub removes_ship : (old mid : H) → Removes (world old) (world mid) name → Removes (world old) (world mid) (ship_of standby)
  removes_ship old mid r = subst (λ (n : List ℕ). Removes (world old) (world mid) n) is r

  pub gone_ship : (mid : H) → IsGone (world mid) name → IsGone (world mid) (ship_of standby)
  gone_ship mid g = subst (λ (n : List ℕ). IsGone (world mid) n) is g

  pub copied_ship : (primary since : List ℕ) (ended : Result Status RunError) (old mid : H) → GoesOn world tells ended old mid (copying primary since name) → GoesOn world tells ended old mid (copying primary since (ship_of standby))
  copied_ship primary since ended old mid g = subst (λ (n : List ℕ). GoesOn world tells ended old mid (copying primary since n)) is g
