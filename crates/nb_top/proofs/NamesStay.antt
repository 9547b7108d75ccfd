-- Files keep names that a host may give them.
use Rattle.std.proofs.Common.{◌≡◌, ◌⊎◌, inl, inr, ℕ, ◌+◌, ◌-◌, suc, List, [], ◌∷◌, ◌++◌, length, get_or, refl, sym, ap, subst, ◌∙◌, arith, length-append, true, false, Bool, ◌&&◌, Option, None, Some, Result, Ok, Err, nat_le, nat_lt}
use Rattle.nb_top.proofs.Common.{AllByRecursion, list_all, and_from, and_parts, le-leb, leb-true, lt-ltb, true≢false, Files, delta_suffix, is_name, is_name_byte, World, Leaves, AtEachMoment, Refusal, Usage, Names, Other, weaker, Job, Run, Gen, Attach, Turn, Ship, Statement, CopyTo, generated, delta_name, is_database, is_file, job_of, OfFiles, names_in, generated_first, IsAskable, IsFurther, FitsFirst, Plan, script_of, answer_is_askable, AnyAsks, AnySessionAsks, Asks, ScriptMakes, Status, target_named, Asked, FitsJob, Runs, request_asked, request_of, script_in, to_plan, to_run, OfAsked, OfShip, OfTarget, ReadMakes, TouchesOnly, HaveNames, LeaveNames, StartsFrom}
use Rattle.nb_model.specs.declared.job.Job.TheVariants.{Plan as PlanOf}
use Rattle.nb_model.specs.declared.statement.Statement.TheVariants.{Backup as BackupTo, BackupSince as BackupOf}
use Rattle.nb_top.proofs.Deeds.{sound_deed}
use Rattle.nb_top.proofs.FirstReady.{base_name, named_further}
use Rattle.nb_top.proofs.RequestLaws.{askable_in, attach_askable}
use Rattle.nb_top.proofs.ScriptRuns.{creates, first_opens, opens}
use Rattle.nb_top.proofs.LongNames.{delta_is_name, ship_is_name}
use Rattle.nb_top.proofs.WordNames.{database_named, file_named}
use Rattle.nb_top.proofs.WordsFit.{fits_words}

-- ---- the names of a script

asks_named : (statement : Statement) → IsFurther statement → (m : List ℕ) → Asks statement m → is_name m ≡ true
asks_named (BackupTo level name) further m same = ap is_name same ∙ named_further (BackupTo level name) further
asks_named (BackupOf guid name) further m same = ap is_name same ∙ named_further (BackupOf guid name) further
asks_named (CopyTo name) further m same = ap is_name same ∙ named_further (CopyTo name) further
asks_named other further m asks = absurd asks

any_named : (statements : List Statement) → AllByRecursion IsFurther statements → (m : List ℕ) → AnyAsks statements m → is_name m ≡ true
any_named [] all m asks = absurd asks
any_named (statement ∷ statements) all m (inl asks) = asks_named statement all.0 m asks
any_named (statement ∷ statements) all m (inr asks) = any_named statements all.1 m asks

in_session : (sessions : List (List Statement)) (m : List ℕ) → AnySessionAsks sessions m → (place : ℕ) × AnyAsks (get_or sessions place []) m
in_session [] m asks = absurd asks
in_session (statements ∷ others) m (inl asks) = (0, asks)
in_session (statements ∷ others) m (inr asks) = let later = in_session others m asks in (suc later.0, later.1)

own_named : (name m : List ℕ) → is_name name ≡ true → nat_le (length name) 94 ≡ true → OfFiles name m → is_name m ≡ true
own_named name m named few (inl same) = ap is_name same ∙ named
own_named name m named few (inr delta) = ap is_name delta ∙ delta_is_name name named few

module _ (plan : Plan) (askable : IsAskable plan) where
  makes_named : (m : List ℕ) → ScriptMakes plan m → is_name m ≡ true
  makes_named m asks =
      let there = in_session plan.sessions m asks in
      let same : there.0 + 1 - 1 ≡ there.0 = omega arith in
      any_named (get_or plan.sessions there.0 []) (subst (λ (k : ℕ). AllByRecursion IsFurther (get_or plan.sessions k [])) same (askable.further (there.0 + 1))) m there.1

  target_is_named : (m : List ℕ) → OfTarget (target_named plan.first) m → is_name m ≡ true
  target_is_named m own = elim (first_opens plan.first askable.first) [
    | creates name size raw cache is ↦
        let fits = base_name name (subst FitsFirst is askable.first.fits).0 in
        own_named name m fits.named fits.short (subst (λ (s : Statement). OfTarget (target_named s) m) is own)
    | opens name cache is ↦
        let fits = base_name name (subst FitsFirst is askable.first.fits).0 in
        own_named name m fits.named fits.short (subst (λ (s : Statement). OfTarget (target_named s) m) is own)
  ]

  plan_named : (m : List ℕ) → OfTarget (target_named plan.first) m ⊎ ScriptMakes plan m → is_name m ≡ true
  plan_named m (inl own) = target_is_named m own
  plan_named m (inr makes) = makes_named m makes

-- ---- the names of a ship

ship_named : (primary standby m : List ℕ) → is_database primary ≡ true → is_database standby ≡ true → OfShip primary standby m → is_name m ≡ true
ship_named primary standby m fits given (inl own) = own_named primary m (database_named primary fits) (and_parts (is_file primary) (nat_le (length primary) 94) fits).1 own
ship_named primary standby m fits given (inr (inl same)) = ap is_name same ∙ database_named standby given
ship_named primary standby m fits given (inr (inr ship)) = ap is_name ship ∙ ship_is_name standby (database_named standby given) (and_parts (is_file standby) (nat_le (length standby) 94) given).1

-- ---- the names of a job

read_named : (read : Result Plan Refusal) (bytes : List ℕ) → script_of bytes ≡ read → (m : List ℕ) → ReadMakes read m → is_name m ≡ true
read_named (Ok plan) bytes is m makes = makes_named plan (answer_is_askable bytes (Ok plan) is) m makes
read_named (Err refusal) bytes is m makes = absurd makes

module _ (files : Files) where
  script_named : (name : List ℕ) (read : Result Plan Refusal) → script_in name (files name) ≡ read → (m : List ℕ) → OfAsked files (Runs (to_run read)) m → is_name m ≡ true
  script_named name (Ok plan) is m own = plan_named plan (askable_in name (files name) plan is) m own
  script_named name (Err refusal) is m own = absurd own

  listed_named : (keep : ℕ) (names : Result (List (List ℕ)) Refusal) (m : List ℕ) → OfAsked files (to_plan keep names) m → is_name m ≡ true
  listed_named keep (Ok names) m own = absurd own
  listed_named keep (Err refusal) m own = absurd own

  number_named : (number : ℕ) (name m : List ℕ) → is_file name ≡ true → OfTarget (target_named generated_first) m ⊎ ((m ≡ name) ⊎ ReadMakes (script_of (generated number)) m) → is_name m ≡ true
  number_named number name m fits (inl (inl same)) = ap is_name same
  number_named number name m fits (inl (inr delta)) = ap is_name delta
  number_named number name m fits (inr (inl same)) = ap is_name same ∙ file_named name fits
  number_named number name m fits (inr (inr makes)) = read_named (script_of (generated number)) (generated number) refl m makes

  job_named : (job : Job) → FitsJob job → (m : List ℕ) → OfAsked files (request_of files job) m → is_name m ≡ true
  job_named (Run name) fits m own = script_named name (script_in name (files name)) refl m own
  job_named (Gen number name) fits m own = number_named number name m fits own
  job_named (Attach db ask) fits m own = plan_named _ (attach_askable db ask fits.0 fits.1) m own
  job_named (Turn deed) fits m own = (sound_deed deed fits).named files m own
  job_named (PlanOf keep list) fits m own = listed_named keep (names_in list (files list)) m own
  job_named (Ship primary standby) fits m own = ship_named primary standby m fits.0 fits.1 own

  pub asked_named : (words : List (List ℕ)) (m : List ℕ) → OfAsked files (request_asked files words) m → is_name m ≡ true
  asked_named words m = by (job_of words) refl
    where
      by : (job : Option Job) → job_of words ≡ job → OfAsked files (elim job as (λ z. Asked) [ None ↦ Runs (Err Usage) | Some k ↦ request_of files k ]) m → is_name m ≡ true
      by None is own = absurd own
      by (Some job) is own = job_named job (fits_words words job is) m own

-- Where only files of such names are touched, all files have such names.
module _ (status : Status) (old new : World) (names : Names) (named : (m : List ℕ) → names m → is_name m ≡ true) (touches : TouchesOnly status old new names) (before : LeaveNames old) where
  named_or : (m : List ℕ) → (Other names m → is_name m ≡ true) → is_name m ≡ true
  named_or m off = by (is_name m) refl
    where
      by : (is : Bool) → is_name m ≡ is → is_name m ≡ true
      by true is = is
      by false is = off (λ own. true≢false (sym (named m own) ∙ is))

  pub names_then : LeaveNames new
  names_then name bytes left = named_or name (λ off. before name bytes (touches.left name (Some bytes) off left))

  pub names_at : AtEachMoment old new (λ files said. HaveNames files)
  names_at = weaker old new _ _ touches.moments (λ files said left name bytes there. named_or name (λ off. before name bytes (subst (Leaves old name) there (left.others name off))))

-- a host that starts from such files leaves such names
pub names_from : (w : World) (files : Files) → HaveNames files → StartsFrom w files → LeaveNames w
names_from w files names starts name bytes left = names name bytes (sym (starts.only name (Some bytes) left))
