-- An account that tells what the files hold knows what any words ask of it.
use Rattle.std.proofs.Common.{◌≡◌, inl, inr, ℕ, ◌<◌, ◌≤◌, ◌+◌, List, [], true, false, refl, sym, ap, ◌∙◌, arith, length-append, Bool, ◌&&◌, not, nat_le, nat_lt, length, is_some, Option, Some, None, Result, Ok, Err, if◌then◌else◌}
use Rattle.nb_top.proofs.Common.{and_parts, le-ltb, leb-true, lt-ltb, leb_tells, is_free_file, File, Files, delta_suffix, is_delta, Refusal, Usage, has_delta, is_free_name, Job, Run, Gen, Attach, Turn, Ship, Statement, OpenDb, Account, delta_name, entry_of_files, IsSameImage, Stands, is_database, is_file, job_of, name_short, free_entry, delta_named, names_in, FitsFirst, IsAskable, Plan, All, Telling, plan_of, HoldsUnder, Knows, KnowsAsked, KnowsNames, KnowsOpened, Asked, Runs, ToRun, FitsJob, request_asked, request_of, script_in, to_plan, to_run, HaveNames, account_of}
use Rattle.nb_model.specs.declared.job.Job.TheVariants.{Plan as PlanOf}
use Rattle.nb_top.proofs.Deeds.{sound_deed}
use Rattle.nb_top.proofs.FirstReady.{base_name}
use Rattle.nb_top.proofs.RequestLaws.{askable_in, attach_askable}
use Rattle.nb_top.proofs.WordNames.{plain_database}
use Rattle.nb_top.proofs.WordsFit.{fits_words}

module _ (files : Files) (names : HaveNames files) where
  -- no difference file stands beside a long name
  none_long : (name : List ℕ) → 94 < length name → is_some (files (delta_name name)) ≡ false
  none_long name long = by (files (delta_name name)) refl
    where
      by : (file : File) → files (delta_name name) ≡ file → is_some file ≡ false
      by None is = refl
      by (Some bytes) is =
          let six : length delta_suffix ≡ 6 = refl in
          absurd (omega (arith, long, six, length-append name delta_suffix, name_short (delta_name name) (names (delta_name name) bytes is)))

  -- a name is free where its file is, and no difference file stands beside it
  free_named : (name : List ℕ) → is_free_name files name ≡ (is_free_file (files name) && not (is_some (files (delta_name name))))
  unfolding is_free_name has_delta
  free_named name = elim (leb_tells (length name) 94) [
    | inl short ↦ ap (λ (t : Bool). is_free_file (files name) && not (t && is_some (files (delta_name name)))) short.0
    | inr long ↦ ap (λ (t : Bool). is_free_file (files name) && not (t && is_some (files (delta_name name)))) long.0
        ∙ ap (λ (t : Bool). is_free_file (files name) && not t) (sym (none_long name long.1))
  ]

-- Of files that stand for an account it knows which names are free.
pub free_known : (files : Files) (account : Account) → HaveNames files → Stands files account → KnowsNames files account
free_known files account names stands name plain = free_named files names name ∙ sym (free_entry files account name stands.same_image plain)

-- The account knows which names are free, and of each database what the files hold.
module _ (files : Files) (account : Account) (names : KnowsNames files account) (holds : (name : List ℕ) → is_delta name ≡ false → nat_le (length name) 94 ≡ true → HoldsUnder files account name) where
  known_opened : (first : Statement) → FitsFirst first → KnowsOpened files account first
  known_opened (OpenDb name cache) fits = let its = base_name name fits.0 in holds name its.plain its.short
  known_opened other fits = tt

  known_plan : (plan : Plan) → IsAskable plan → Knows files account (Ok (ToRun plan All))
  known_plan plan askable = (names, known_opened plan.first askable.first.fits)

  known_script : (name : List ℕ) (read : Result Plan Refusal) → script_in name (files name) ≡ read → Knows files account (to_run read)
  known_script name (Ok plan) is = known_plan plan (askable_in name (files name) plan is)
  known_script name (Err refusal) is = tt

  known_list : (keep : ℕ) (listed : Result (List (List ℕ)) Refusal) → KnowsAsked files account (to_plan keep listed)
  known_list keep (Ok listed) = tt
  known_list keep (Err refusal) = tt

  known_base : (db : List ℕ) → is_database db ≡ true → HoldsUnder files account db
  known_base db fits = holds db (plain_database db fits) (and_parts (is_file db) (nat_le (length db) 94) fits).1

  known_job : (job : Job) → FitsJob job → KnowsAsked files account (request_of files job)
  known_job (Run name) fits = known_script name (script_in name (files name)) refl
  known_job (Gen number name) fits = names
  known_job (Attach db ask) fits = known_plan _ (attach_askable db ask fits.0 fits.1)
  known_job (Turn deed) fits = (sound_deed deed fits).known files account names known_base
  known_job (PlanOf keep list) fits = known_list keep (names_in list (files list))
  known_job (Ship primary standby) fits = tt

  knows_asked : (words : List (List ℕ)) → KnowsAsked files account (request_asked files words)
  knows_asked words = by (job_of words) refl
    where
      by : (job : Option Job) → job_of words ≡ job → KnowsAsked files account (elim job as (λ z. Asked) [ None ↦ Runs (Err Usage) | Some k ↦ request_of files k ])
      by None is = tt
      by (Some job) is = known_job job (fits_words words job is)

-- So does one that has under each name what the files hold, where they have names.
pub known_asked : (files : Files) → HaveNames files → (account : Account) → IsSameImage files account → (words : List (List ℕ)) → KnowsAsked files account (request_asked files words)
known_asked files names account same = knows_asked files account (λ name plain. free_named files names name ∙ sym (free_entry files account name same plain)) (λ name plain short. same name plain)

-- So it is of one for which the files stand.
pub stands_known : (files : Files) (account : Account) → HaveNames files → Stands files account → (words : List (List ℕ)) → KnowsAsked files account (request_asked files words)
stands_known files account names stands = known_asked files names account stands.same_image

-- Whatever names the files have: no database has a difference file with a name that is too long.
module _ (files : Files) where
  abbrev fitting : Files
  fitting name = if is_delta name && nat_lt 100 (length name) then None else files name

  fitting_plain : (name : List ℕ) → is_delta name ≡ false → fitting name ≡ files name
  fitting_plain name plain = ap (λ (t : Bool). if t && nat_lt 100 (length name) then None else files name) plain

  fitting_delta : (name : List ℕ) (long : Bool) → nat_lt 100 (length (delta_name name)) ≡ long → fitting (delta_name name) ≡ (if long then None else files (delta_name name))
  fitting_delta name long is =
      ap (λ (t : Bool). if t && nat_lt 100 (length (delta_name name)) then None else files (delta_name name)) (delta_named name)
      ∙ ap (λ (t : Bool). if t then None else files (delta_name name)) is

  long_delta : (name : List ℕ) → length (delta_name name) ≡ length name + 6
  long_delta name = length-append name delta_suffix

  beside_short : (name : List ℕ) → length name ≤ 94 → fitting (delta_name name) ≡ files (delta_name name)
  beside_short name low = fitting_delta name false (le-ltb 100 (length (delta_name name)) (omega (arith, low, long_delta name)))

  beside_long : (name : List ℕ) → 94 < length name → fitting (delta_name name) ≡ None
  beside_long name high = fitting_delta name true (lt-ltb 100 (length (delta_name name)) (omega (arith, high, long_delta name)))

  -- the account that has under each name what the files hold, but for such difference files
  abbrev pub account_told : Account
  account_told = account_of fitting []

  free_told : KnowsNames files account_told
  unfolding is_free_name has_delta
  free_told name plain =
      elim (leb_tells (length name) 94) [
        | inl short ↦ ap (λ (t : Bool). is_free_file (files name) && not (t && is_some (files (delta_name name)))) short.0
            ∙ ap (λ (f : File). is_free_file (files name) && not (is_some f)) (sym (beside_short name short.1))
        | inr long ↦ ap (λ (t : Bool). is_free_file (files name) && not (t && is_some (files (delta_name name)))) long.0
            ∙ ap (λ (f : File). is_free_file (files name) && not (is_some f)) (sym (beside_long name long.1))
      ]
      ∙ ap (λ (f : File). is_free_file f && not (is_some (fitting (delta_name name)))) (sym (fitting_plain name plain))
      ∙ sym (free_entry fitting account_told name (λ n other. refl) plain)

  holds_told : (name : List ℕ) → is_delta name ≡ false → nat_le (length name) 94 ≡ true → HoldsUnder files account_told name
  holds_told name plain short =
      ap (λ (f : File). entry_of_files name f (fitting (delta_name name))) (fitting_plain name plain)
      ∙ ap (λ (f : File). entry_of_files name (files name) f) (beside_short name (leb-true (length name) 94 short))

  -- it knows what any words ask of it
  pub told_known : (words : List (List ℕ)) → KnowsAsked files account_told (request_asked files words)
  told_known = knows_asked files account_told free_told holds_told

  -- and what is asked of a database that is opened
  pub told_opened : (db : List ℕ) (statements : List Statement) (telling : Telling) → is_database db ≡ true → Knows files account_told (Ok (ToRun (plan_of db statements) telling))
  told_opened db statements telling fits = (free_told, holds_told db (plain_database db fits) (and_parts (is_file db) (nat_le (length db) 94) fits).1)
