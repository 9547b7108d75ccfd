-- The events of a run whose script is written first: there are some, and none of them makes a file of the script's name, nor is its database of
-- that name.
use Rattle.std.proofs.Common.{◌≡◌, ◌≢◌, ℕ, List, [], true, false, refl, sym, ap, subst, ◌∙◌, Bool, Option, Some, None, Result, Ok, Err, Contains, codes}
use Rattle.nb_top.proofs.Common.{true≢false, Refusal, FileExists, Statement, Plain, Account, with_entry, is_free_entry, generated, MadeFile, IsNoneOf, Given, Event, IsRun, files_made, steps_of, not_created, run_ends, entry_same, IsAskable, Plan, script_of, answer_is_askable, generated_first, creates_its_own, generated_text, text_in_use, IsReadRun, IsScriptRun, MayBeGiven, Target, begins_refused, first_event, pages_first, refused_at, refused_job, Sparingly}
use Rattle.nb_model.specs.declared.reply.Reply.TheVariants.{Refused as RefusedReply}
use Rattle.nb_top.proofs.FirstEnds.{first_ends}
use Rattle.nb_top.proofs.FirstLaws.{First, first_created, turns}
use Rattle.nb_top.proofs.MadeRuns.{no_file}
use Rattle.nb_top.proofs.SureRuns.{creating_sure, refused_creating, told_sure}
use Rattle.nb_top.proofs.SureTargets.{IsSureRun}
use Rattle.nb_top.proofs.ToldLaws.{performed_refused, performed_told, told_begins, told_files, told_steps}

-- the account with the file
abbrev pub with_script : (name bytes : List ℕ) → Account → Account
with_script name bytes account = with_entry name (Plain bytes None) account

-- the database that the script of a number creates
abbrev pub its_database : Target
its_database = record { name = codes "gen.db"; creates = true }

-- What is known of the events of such a script: it is refused at once, and then it leaves the account, or its database is made under a free
-- name.
pub data ReadRun (account : Account) (rest : List Event) (last : Account) : Type 0 where
  ends : begins_refused rest ≡ true → files_made rest ≡ [] → last ≡ account → ReadRun account rest last
  goes_on : begins_refused rest ≡ false → IsSureRun account its_database rest last → ReadRun account rest last

-- there are such events
pub record SomeRun (number : ℕ) (account : Account) (given : Given) : Type 0 where
  pub rest : List Event
  pub last : Account
  pub left : Given
  pub run : IsReadRun (script_of (generated number)) Sparingly account given rest last left

module _ (number : ℕ) (account : Account) (given : Given) where
  module _ (plan : Plan) (read : script_of (generated number) ≡ Ok plan) where
    askable : IsAskable plan
    askable = answer_is_askable (generated number) (Ok plan) read

    first_is : plan.first ≡ generated_first
    first_is = creates_its_own number plan read

    -- there is a run of it
    record SomeScriptRun : Type 0 where
      rest : List Event
      last : Account
      left : Given
      run : IsScriptRun plan Sparingly account given rest last left

    some_script : SomeScriptRun
    some_script = by (is_free_entry (account.entry its_database.name)) refl
      where
        by : (free : Bool) → is_free_entry (account.entry its_database.name) ≡ free → SomeScriptRun
        by true free =
            let first : First account given plan = first_created account given plan its_database.name 4096 100 64 first_is free in
            let end = first_ends plan askable first.now first.todo in
            record {
              rest = _;
              last = _;
              left = _;
              run = performed_told Sparingly plan account given (first_event plan.first_session first.strokes first.reply) (turns plan first.now end.0).0 (turns plan first.now end.0).1.account (turns plan first.now end.0).1.given (first.ran end.0 end.1);
            }
        by false taken = record {
          rest = refused_at plan.first_session (FileExists its_database.name);
          last = account;
          left = given;
          run = performed_refused Sparingly plan account given plan.first_session (FileExists its_database.name) account given
              (subst (λ (s : Statement). IsRun account given plan.first_session s plan.schedule plan.sessions (refused_at plan.first_session (FileExists its_database.name)) account given) (sym first_is)
              (run_ends account given plan.first_session generated_first plan.schedule plan.sessions (RefusedReply (FileExists its_database.name))
              (not_created account given plan.sessions plan.first_session its_database.name 4096 100 64 taken)));
        }

    module _ (sixteen : MayBeGiven given) (rest : List Event) (last : Account) (left : Given) (performed : IsScriptRun plan Sparingly account given rest last left) where
      abbrev pages : ℕ
      pages = pages_first account plan.first

      whole_files : files_made performed.whole ≡ files_made rest
      whole_files = sym (ap files_made performed.said ∙ told_files Sparingly pages performed.whole)

      whole_begins : begins_refused performed.whole ≡ begins_refused rest
      whole_begins = sym (ap begins_refused performed.said ∙ told_begins Sparingly pages performed.whole)

      runs : IsRun account given plan.first_session generated_first plan.schedule plan.sessions performed.whole last left
      runs = subst (λ (s : Statement). IsRun account given plan.first_session s plan.schedule plan.sessions performed.whole last left) first_is performed.run

      script_is : ReadRun account rest last
      script_is = by (begins_refused rest) refl
        where
          by : (refused : Bool) → begins_refused rest ≡ refused → ReadRun account rest last
          by true refused =
              let leaves = refused_creating account given plan performed.whole last left (whole_begins ∙ refused) its_database.name 4096 100 64 runs in
              ends refused (sym whole_files ∙ leaves.0) leaves.1
          by false allowed = goes_on allowed
              (told_sure account its_database performed.whole rest last (sym (ap steps_of performed.said ∙ told_steps Sparingly pages performed.whole)) whole_files
              (creating_sure account given plan askable performed.whole last left sixteen (whole_begins ∙ allowed) its_database.name 4096 100 64 first_is runs))

  pub some_run : SomeRun number account given
  some_run = by (script_of (generated number)) refl
    where
      by : (read : Result Plan Refusal) → script_of (generated number) ≡ read → SomeRun number account given
      by (Ok plan) is =
          let some = some_script plan is in
          record { rest = some.rest; last = some.last; left = some.left; run = subst (λ (r : Result Plan Refusal). IsReadRun r Sparingly account given some.rest some.last some.left) (sym is) some.run }
      by (Err refusal) is =
          record { rest = refused_job refusal; last = account; left = given; run = subst (λ (r : Result Plan Refusal). IsReadRun r Sparingly account given (refused_job refusal) account given) (sym is) (refl, refl, refl) }

  pub read_run : MayBeGiven given → (rest : List Event) (last : Account) (left : Given) → IsReadRun (script_of (generated number)) Sparingly account given rest last left → ReadRun account rest last
  unfolding files_made
  read_run sixteen rest last left = by (script_of (generated number)) refl
    where
      alone : (refusal : Refusal) → files_made (refused_job refusal) ≡ []
      alone refusal = refl

      by : (read : Result Plan Refusal) → script_of (generated number) ≡ read → IsReadRun read Sparingly account given rest last left → ReadRun account rest last
      by (Ok plan) is run = script_is plan is sixteen rest last left run
      by (Err refusal) is run = ends (ap begins_refused run.0) (ap files_made run.0 ∙ alone refusal) run.1

-- A file of the script's name is none of the run's, and its database has another.
abbrev pub IsApart : Option Target → List ℕ → Type 0
IsApart None name = Unit {0}
IsApart (Some target) name = target.name ≢ name

-- the database of the run, if it isn't refused at once
abbrev pub its_target : List Event → Option Target
its_target rest = elim (begins_refused rest) [ true ↦ None | false ↦ Some its_database ]

module _ (number : ℕ) (name : List ℕ) (account : Account) where
  abbrev then : Account
  then = with_script name (generated number) account

  -- the name isn't free any more
  taken : is_free_entry (then.entry name) ≡ false
  unfolding is_free_entry
  taken = ap is_free_entry (entry_same name (Plain (generated number) None) account) ∙ in_use
    where
      in_use : is_free_entry (Plain (generated number) None) ≡ false
      in_use = text_in_use (generated number) (generated_text number)

  free_other : (m : List ℕ) → is_free_entry (then.entry m) ≡ true → m ≢ name
  free_other m free same = true≢false (sym free ∙ ap (λ (n : List ℕ). is_free_entry (then.entry n)) same ∙ taken)

  pub script_apart : (rest : List Event) (last : Account) → ReadRun then rest last → IsApart (its_target rest) name × IsNoneOf (files_made rest) name
  script_apart rest last (ends refused none leaves) = (
    subst (λ (b : Bool). IsApart (elim b as (λ z. Option Target) [ true ↦ None | false ↦ Some its_database ]) name) (sym refused) tt,
    λ bytes there. no_file (name, bytes) (subst (λ (files : List MadeFile). Contains files (name, bytes)) none there),
  )
  script_apart rest last (goes_on allowed sure) = (
    subst (λ (b : Bool). IsApart (elim b as (λ z. Option Target) [ true ↦ None | false ↦ Some its_database ]) name) (sym allowed) (free_other its_database.name (sure.free refl)),
    λ bytes there. free_other name (sure.run.made (name, bytes) there).new.free refl,
  )
