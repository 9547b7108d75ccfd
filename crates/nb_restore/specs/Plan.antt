-- What is known of a chain before its restore makes the target.
use Rattle.std.specs.Prelude.{◌≡◌, ◌≢◌, ℕ, true, List, [], ◌∷◌, length, drop, Contains, Result, Ok, Err}
use Rattle.nb_host.specs.Files.{Files}
use Rattle.nb_host.specs.declared.faults.Fault.{Fault}
use Rattle.nb_host.specs.declared.faults.Fault.TheVariants.{Refused, Device, Memory}
use Rattle.nb_page.specs.Free.{is_free_name}
use Rattle.nb_model.specs.Image.{Page}
use Rattle.nb_model.specs.Restoring.{Link, verdict, all_over, applied}
use Rattle.nb_chain.specs.declared.checking.Chain.{Chain}
use Rattle.nb_restore.specs.Restore.{IsRefused}
use Rattle.nb_restore.specs.Target.{IsPlan}
use Rattle.nb_restore.specs.declared.plan.Plan.{Plan}

-- the target's name is free, the files are a chain, and so many pages it gives
pub record IsAccepted (files : Files) (target : List ℕ) (names : List (List ℕ)) (count : ℕ) : Type 0 where
  pub free : is_free_name files target ≡ true
  pub links : List Link
  pub accepted : verdict files names ≡ Ok links
  pub counted : count ≡ length (applied links)

abbrev pub AcceptSays : Files → (target : List ℕ) (names : List (List ℕ)) → Result Chain Fault → Type 0
AcceptSays files target names (Ok chain) = IsAccepted files target names chain.count
AcceptSays files target names (Err (Refused refusal)) = IsRefused files target names refusal
AcceptSays files target names (Err Device) = Unit {0}
AcceptSays files target names (Err Memory) = Unit {0}

-- the plan is that of the chain, none of whose files is the target
pub record IsPrepared (files : Files) (target : List ℕ) (names : List (List ℕ)) (plan : Plan) : Type 0 where
  pub chain : IsAccepted files target names plan.count
  pub apart : (name : List ℕ) → Contains names name → name ≢ target
  pub level_0 : List ℕ
  pub others : List (List ℕ)
  pub named : names ≡ level_0 ∷ others
  pub pages : List Page
  pub links : List Link
  pub rest : links ≡ drop 1 chain.links
  pub gives : all_over chain.links [] ≡ all_over links pages
  pub plan_is : IsPlan files target level_0 (length plan.page.items) plan.pages plan.readers.items plan.first.items plan.page.items pages links

abbrev pub PlanSays : Files → (target : List ℕ) (names : List (List ℕ)) → Result Plan Fault → Type 0
PlanSays files target names (Ok plan) = IsPrepared files target names plan
PlanSays files target names (Err (Refused refusal)) = IsRefused files target names refusal
PlanSays files target names (Err Device) = Unit {0}
PlanSays files target names (Err Memory) = Unit {0}
