-- A script is run, from its first statement on.
use Rattle.std.proofs.Common.{◌≡◌, ℕ, ◌<◌, List, refl, subst, Result, Ok, Err, IfOk, IfErr}
use Rattle.nb_top.proofs.Common.{IsErr, fresh, World, Fault, Refusal, RunError, GaveNothing, Quiet, Statement, CreateDb, OpenDb, Account, Given, Attaches, Creates, Held, IsFirst, IsAskable, Plan, Status, cache_asked, RunsTo, Knows, KnowsOpened, MayBeGiven, Telling, ToRun, quiet_gave, false_true, no_err}
use Rattle.nb_top.proofs.Beginnings.{Beginning}
use Rattle.nb_top.proofs.CreatingRuns.{creates_begins, creating_unbegun}
use Rattle.nb_top.proofs.ReopeningRuns.{attaches_begins, open_fails}

-- a result that is a failure
pub runs_err : (result : Result Status RunError) → IsErr result → (P : Result Status RunError → Type 0) → ((e : RunError) → P (Err e)) → P result
runs_err (Ok x) is P runs = absurd (no_err Status RunError x is)
runs_err (Err e) is P runs = runs e

-- what was settled
pub settled_value : {T : Type 0} (s : Result T Refusal) (v : T) (P : T → Type 0) → s ≡ Ok v → IfOk s P → P v
settled_value {T} s v P is holds = subst (λ (x : Result T Refusal). IfOk x P) is holds

pub settled_refusal : {T : Type 0} (s : Result T Refusal) (r : Refusal) (P : Refusal → Type 0) → s ≡ Err r → IfErr s P → P r
settled_refusal {T} s r P is holds = subst (λ (x : Result T Refusal). IfErr x P) is holds

-- A first statement that can be asked today creates a database or opens one.
pub data Opens (statement : Statement) : Type 0 where
  creates : (name : List ℕ) (size raw cache : ℕ) → statement ≡ CreateDb name size raw cache → Opens statement
  opens : (name : List ℕ) (cache : ℕ) → statement ≡ OpenDb name cache → Opens statement

pub first_opens : (statement : Statement) → IsFirst statement → Opens statement
first_opens (CreateDb name size raw cache) first = creates name size raw cache refl
first_opens (OpenDb name cache) first = opens name cache refl
first_opens other first = absurd (false_true first.opens)

module _ (old : World) (account : Account) (given : Given) (plan : Plan) (telling : Telling) (askable : IsAskable plan) (knows : Knows old.files account (Ok (ToRun plan telling))) where
  knows_opened : (first : Statement) → plan.first ≡ first → KnowsOpened old.files account first
  knows_opened first is = subst (λ (s : Statement). KnowsOpened old.files account s) is knows.1

  -- nothing happened
  pub script_unbegun : (new : World) (e : RunError) → Quiet old new → RunsTo (Err e) old new (Ok (ToRun plan telling)) account given
  script_unbegun new e quiet = by (first_opens plan.first askable.first)
    where
      by : Opens plan.first → RunsTo (Err e) old new (Ok (ToRun plan telling)) account given
      by (creates name size raw cache is) = creating_unbegun old account given plan telling askable name size raw cache is knows.0 new e quiet
      by (opens name cache is) = open_fails old account given plan telling askable name cache is (knows_opened (OpenDb name cache) is) new e quiet

  -- the call of the first statement asks for no GUID and no time
  pub first_gave : (mid : World) (result : Result Held Fault)
      → ((name : List ℕ) (size raw cache : ℕ) → plan.first ≡ CreateDb name size raw cache → Creates result old mid name (fresh size raw))
      → ((name : List ℕ) (cache : ℕ) → plan.first ≡ OpenDb name cache → Quiet old mid) → GaveNothing old mid
  first_gave mid result creating quiet = by (first_opens plan.first askable.first)
    where
      by : Opens plan.first → GaveNothing old mid
      by (creates name size raw cache is) = (creating name size raw cache is).gave
      by (opens name cache is) = quiet_gave old mid (quiet name cache is)

  -- what it gives to the run
  pub script_begins : MayBeGiven given → (mid : World) (result : Result Held Fault)
      → ((name : List ℕ) (size raw cache : ℕ) → plan.first ≡ CreateDb name size raw cache → Creates result old mid name (fresh size raw))
      → ((name : List ℕ) (cache : ℕ) → plan.first ≡ OpenDb name cache → Attaches result old mid name)
      → ((name : List ℕ) (cache : ℕ) → plan.first ≡ OpenDb name cache → Quiet old mid)
      → IfOk result (λ held. held.scn < 4294967296)
      → IfOk result (λ held. held.cap ≡ cache_asked plan.first)
      → Beginning old account given plan telling askable mid result
  script_begins may mid result creating attaching quiet scn cap = by (first_opens plan.first askable.first)
    where
      by : Opens plan.first → Beginning old account given plan telling askable mid result
      by (creates name size raw cache is) = creates_begins old account given plan telling askable name size raw cache is knows.0 may mid result (creating name size raw cache is) cap
      by (opens name cache is) = attaches_begins old account given plan telling askable name cache is (knows_opened (OpenDb name cache) is) knows.0 may mid result (attaching name cache is) (quiet name cache is) scn cap
