-- Where the files stand for the account as a run begins whose script is written first, they stand for one at each moment.
use Rattle.std.proofs.Common.{◌≡◌, ◌≢◌, ◌⊎◌, inr, ⊎_elim, ℕ, ◌≤◌, List, [], ◌∷◌, length, take, true, false, refl, sym, ap, subst, ◌∙◌, Bool, not, Option, Some, None, Result, Ok, Contains}
use Rattle.nb_top.proofs.Common.{Files, is_delta, World, Leaves, IsTimely, AtEachMoment, Refusal, FileExists, Kept, Entry, Plain, Account, with_entry, Cause, when, is_free_entry, not_free, generated, MadeFile, IsNoneOf, IsNoBackup, with_files, Given, Event, files_made, made, after_steps, steps_of, strokes_in, base_in, records_after, Trail, StandsIn, settled, files_none, kept_along, entry_other, generated_text, text_no_backup, Status, Finished, IsPerformed, IsSure, IsWrittenRun, MayBeGiven, RunLeft, RunReads, Target, begins_refused, kept_after, refused_at, script_made, seen_after, target_of, HoldsKept, StandsFor, Request, ToGenerate}
use Rattle.nb_top.proofs.GeneratedEvents.{IsApart, ReadRun, ends, goes_on, its_database, read_run, script_apart, with_script}
use Rattle.nb_top.proofs.MadeEnds.{made_after, made_stands}
use Rattle.nb_top.proofs.MadeRuns.{no_file, first_or}
use Rattle.nb_top.proofs.MadeStand.{IsNewFile, made_holds}
use Rattle.nb_top.proofs.MadeWhole.{none_whole}
use Rattle.nb_top.proofs.SureTargets.{IsSureRun, target_after, target_left, target_end}
use Rattle.nb_top.proofs.WellRuns.{IsOfRun, IsWellRun}

-- Events without a database make files under names that were free, which are no backups, and else leave the account.
record OnlyMakes (account : Account) (events : List Event) (last : Account) : Type 0 where
  new : (f : MadeFile) → Contains (files_made events) f → IsNewFile account f
  none : (f : MadeFile) → Contains (files_made events) f → IsNoBackup f.1
  is : last ≡ with_files (files_made events) account

-- what is known of events with a database or without
abbrev IsKnown : (account : Account) → Option Target → List Event → (last : Account) → Type 0
IsKnown account None events last = OnlyMakes account events last
IsKnown account (Some target) events last = IsSureRun account target events last

-- a refusal makes nothing
refused_known : (account : Account) (refusal : Refusal) → OnlyMakes account (refused_at 1 refusal) account
unfolding files_made
refused_known account refusal = record { new = λ f there. absurd (no_file f there); none = λ f there. absurd (no_file f there); is = sym (files_none account) }

-- The file of a script is made under a free name, and then a run made the rest of the events.
module _ (number : ℕ) (name : List ℕ) (plain : is_delta name ≡ false) (account : Account) (free : is_free_entry (account.entry name) ≡ true) (rest : List Event) (last : Account) where
  abbrev file : MadeFile
  file = (name, generated number)

  abbrev events : List Event
  events = script_made name (generated number) ∷ rest

  -- the account that has it
  abbrev written : Account
  written = with_script name (generated number) account

  other_entry : (n : List ℕ) → n ≢ name → written.entry n ≡ account.entry n
  other_entry n off = entry_other name n (Plain (generated number) None) account off

  new_script : IsNewFile account file
  new_script = record { plain = plain; free = free }

  no_backup : IsNoBackup (generated number)
  no_backup = let none = text_no_backup (generated number) (generated_text number) in record { no_level = none.no_level; no_header = none.no_header }

  of_files : (f : MadeFile) → Contains (files_made events) f → (f ≡ file) ⊎ Contains (files_made rest) f
  unfolding files_made
  of_files f there = first_or file f (files_made rest) there

  -- the rest is refused
  module _ (none_made : files_made rest ≡ []) (leaves : last ≡ written) where
    that_one : (f : MadeFile) → Contains (files_made events) f → file ≡ f
    that_one f there = ⊎_elim (λ same. sym same) (λ one. absurd (no_file f (subst (λ (fs : List MadeFile). Contains fs f) none_made one))) (of_files f there)

    only_script : OnlyMakes account events last
    unfolding files_made with_files
    only_script = record {
      new = λ f there. subst (IsNewFile account) (that_one f there) new_script;
      none = λ f there. subst (λ (x : MadeFile). IsNoBackup x.1) (that_one f there) no_backup;
      is = leaves ∙ ap (λ (fs : List MadeFile). with_files fs written) (sym none_made);
    }

  -- the rest is the run of a database of another name
  module _ (known : IsSureRun written its_database rest last) (apart : its_database.name ≢ name) (others : IsNoneOf (files_made rest) name) where
    same_entry : written.entry its_database.name ≡ account.entry its_database.name
    same_entry = other_entry its_database.name apart

    -- the records that are kept after it
    abbrev kept : List Kept
    kept = kept_along account.kept (settled known.run.base) known.run.further

    other_name : (f : MadeFile) → Contains (files_made rest) f → f.0 ≢ name
    other_name f there same = others f.1 (subst (λ (n : List ℕ). Contains (files_made rest) (n, f.1)) same there)

    rest_file : (f : MadeFile) → Contains (files_made rest) f → IsOfRun account its_database.name kept f
    unfolding with_entry
    rest_file f there =
        let is = known.run.made f there in
        record { new = record { plain = is.new.plain; free = sym (ap is_free_entry (other_entry f.0 (other_name f there))) ∙ is.new.free }; apart = is.apart; whole = is.whole }

    its_files : (f : MadeFile) → Contains (files_made events) f → IsOfRun account its_database.name kept f
    its_files f there =
        ⊎_elim (λ same. subst (IsOfRun account its_database.name kept) (sym same) (record { new = new_script; apart = λ e. apart (sym e); whole = inr no_backup })) (rest_file f) (of_files f there)

    run : IsWellRun account its_database.name events last
    unfolding files_made steps_of made with_files with_entry
    run = record {
      first = known.run.first;
      further = known.run.further;
      steps = known.run.steps;
      base = known.run.base;
      seen = ap (λ (e : Entry). after_steps (settled (base_in e)) known.run.first) (sym same_entry) ∙ known.run.seen;
      none = ap (λ (e : Entry). records_after (base_in e) (strokes_in known.run.first)) (sym same_entry) ∙ known.run.none;
      along = known.run.along;
      made = its_files;
      grown = record { entries = known.run.grown.entries; kept = known.run.grown.kept };
    }

    begun : (count : ℕ) (files : Files) → StandsIn its_database.name (seen_after account its_database.name (take count (steps_of events))) files → length run.first ≤ count
    unfolding steps_of made run
    begun count files s = known.begun count files (subst (λ (t : Trail). StandsIn its_database.name t files) (ap (λ (e : Entry). after_steps (settled (base_in e)) (take count (steps_of rest))) (sym same_entry)) s)

    script_sure : IsSureRun account its_database events last
    script_sure = record { plain = known.plain; free = λ e. sym (ap is_free_entry same_entry) ∙ known.free e; run = run; begun = begun }

  -- the database, by whether the rest is refused
  abbrev target_by : Bool → Option Target
  target_by refused = elim refused as (λ z. Option Target) [ true ↦ None | false ↦ Some its_database ]

  written_known : ReadRun written rest last → IsKnown account (target_of (Ok (ToGenerate number name)) events) events last
  written_known read = by read (script_apart number name account rest last read)
    where
      by : ReadRun written rest last → IsApart (target_by (begins_refused rest)) name × IsNoneOf (files_made rest) name → IsKnown account (target_by (begins_refused rest)) events last
      by (ends refused none leaves) off = subst (λ (b : Bool). IsKnown account (target_by b) events last) (sym refused) (only_script none leaves)
      by (goes_on allowed known) off = subst (λ (b : Bool). IsKnown account (target_by b) events last) (sym allowed) (script_sure known (subst (λ (b : Bool). IsApart (target_by b) name) allowed off.0) off.1)

module _ (old : World) (number : ℕ) (name : List ℕ) (account : Account) (given : Given) (plain : is_delta name ≡ false) (before : (m : List ℕ) → Leaves old m (old.files m)) (sixteen : MayBeGiven given) (events : List Event)
    (last : Account) (left : Given) (performed : IsPerformed old.files (Ok (ToGenerate number name)) account given events last left) (sure : IsSure old account events) where
  abbrev asked : Result Request Refusal
  asked = Ok (ToGenerate number name)

  known : IsKnown account (target_of asked events) events last
  known = by (not_free name (account.entry name)) refl performed
    where
      Known : List Event → Account → Type 0
      Known es end = IsKnown account (target_of asked es) es end

      is_free : (free : Bool) → when (not free) (FileExists name) ≡ None → free ≡ true
      is_free true e = refl
      is_free false e = cc

      by : (cause : Cause) → not_free name (account.entry name) ≡ cause
          → elim cause as (λ z. Type 0) [ Some refusal ↦ (events ≡ refused_at 1 refusal) × (last ≡ account) × (left ≡ given) | None ↦ IsWrittenRun name (generated number) account given events last left ] → Known events last
      by (Some refusal) taken is = subst (λ (es : List Event). Known es last) (sym is.0) (subst (Known (refused_at 1 refusal)) (sym is.1) (refused_known account refusal))
      by None free is =
          let read : ReadRun (with_script name (generated number) account) is.rest last = read_run number (with_script name (generated number) account) given sixteen is.rest last left is.run in
          subst (λ (es : List Event). Known es last) (sym is.is) (written_known number name plain account (is_free (is_free_entry (account.entry name)) free) is.rest last read)

  pub generated_left : (files : Files) (said : List ℕ) (l : RunLeft old account (target_of asked events) events files said) → HoldsKept files (kept_after account (target_of asked events) (take l.count (steps_of events)))
  generated_left files said = by (target_of asked events) known
    where
      by : (target : Option Target) → IsKnown account target events last → (l : RunLeft old account target events files said) → HoldsKept files (kept_after account target (take l.count (steps_of events)))
      by None only l = made_holds old account sure.stands before (files_made events) only.new files l.each (λ m off. l.others m tt off) (λ f there. none_whole account.kept f.1 (only.none f there))
      by (Some target) run l = target_left old account sure.stands before target events last sure.new run files said l

  -- after it, however it ended
  pub generated_after : (new : World) → IsTimely new → ((m : List ℕ) → Leaves new m (new.files m)) → AtEachMoment old new (RunLeft old account (target_of asked events) events) → RunReads old new account (target_of asked events) events
      → (later : Account) × StandsFor new later × (later.kept ≡ kept_after account (target_of asked events) (take (length (steps_of events)) (steps_of events)))
  generated_after new timely reads stops read = by (target_of asked events) known stops read
    where
      by : (target : Option Target) → IsKnown account target events last → AtEachMoment old new (RunLeft old account target events) → RunReads old new account target events
          → (later : Account) × StandsFor new later × (later.kept ≡ kept_after account target (take (length (steps_of events)) (steps_of events)))
      by None only moments beside =
          made_after old new account sure.stands before (files_made events) only.new (λ f there. none_whole account.kept f.1 (only.none f there)) (λ m off. beside.others m tt off) reads
          (λ files leaves. let l = moments.each files new.said (timely.counts_now old.moment files moments.later leaves) in (l.each, λ m off. l.others m tt off))
      by (Some target) run moments beside = target_after old account sure.stands before target events last sure.new run new timely reads moments beside

  -- at its end
  pub generated_end : (new : World) → IsTimely new → ((m : List ℕ) → Leaves new m (new.files m)) → AtEachMoment old new (RunLeft old account (target_of asked events) events)
      → RunReads old new account (target_of asked events) events → (status : Status) → Finished status old new account (target_of asked events) events given left → StandsFor new last
  generated_end new timely reads stops read status finished = by (target_of asked events) known stops read finished
    where
      by : (target : Option Target) → IsKnown account target events last → AtEachMoment old new (RunLeft old account target events) → RunReads old new account target events
          → Finished status old new account target events given left → StandsFor new last
      by None only moments beside done =
          subst (StandsFor new) (sym only.is)
          (made_stands old new account sure.stands before (files_made events) only.new (λ f there. none_whole account.kept f.1 (only.none f there)) (λ m off. beside.others m tt off) reads
          (λ files leaves. let l = moments.each files new.said (timely.counts_now old.moment files moments.later leaves) in (l.each, λ m off. l.others m tt off)) done.kept)
      by (Some target) run moments beside done = target_end old account sure.stands before target events last sure.new run new timely reads moments beside given left status done
