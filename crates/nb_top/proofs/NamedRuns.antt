-- A run goes on in the files of certain names, whatever stands under others.
use Rattle.std.proofs.Common.{◌≡◌, inl, inr, ℕ, zero, suc, ◌<◌, List, [], ◌∷◌, ◌++◌, length, take, true, false, refl, sym, ap, subst, ◌∙◌, arith, Bool, ◌&&◌, not, is_some, Result, Ok, Err, Option, Some, None, Contains}
use Rattle.nb_top.proofs.Common.{and_parts, take_all, is_free_file, File, Files, is_delta, World, Leaves, LeavesAll, IsTimely, AtEachMoment, Refusal, Statement, OpenDb, Kept, Base, Entry, IsBase, Account, with_entry, with_files, is_free_entry, image_scn, MadeFile, IsSameImage, Given, delta_name, owner, entry_of_files, not_opened, Event, Opening, IsRun, opening, files_made, strokes_of, acked_turns, Step, settles, after_steps, steps_of, strokes_in, base_in, records_after, StandsIn, settled, IsGrown, opened_trail, free_entry, IsReopened, reopened, not_reopened, base_in_base, IsAskable, FitsFirst, Plan, AreNew, guids_in, IsWellTrail, WellAlong, kept_along, Status, RunLeft, RunReads, HasSmallScn, IsScriptRun, IsUnbegun, MayBeGiven, PerformsRun, Target, begins_refused, kept_after, pages_first, seen_after, target_named, target_of, HoldsKept, StandsFor, MayTouch, OfTarget, Telling, ToRun, account_of, false_true, after_no_step, none_some, some_same, not_some}
use Rattle.nb_base.specs.Open.{OfFiles}
use Rattle.nb_gather.specs.Making.{IsUnfinishedOr}
use Rattle.nb_model.specs.Trail.{StandsOn}
use Rattle.nb_session.specs.HowFar.{begun_turns}
use Rattle.nb_top.specs.Among.{is_among, among, StandAlone, GoOnAlone}
use Rattle.nb_top.proofs.FirstReady.{base_name}
use Rattle.nb_top.proofs.NamedFiles.{among_own}
use Rattle.nb_top.proofs.NamedParts.{part, leaves_part, all_part, alone_stands, stands_alone, part_moments, part_new, part_timely}
use Rattle.nb_top.proofs.OpenLaws.{shown_entry, refused_entry}
use Rattle.nb_top.proofs.OthersStay.{performed_makes}
use Rattle.nb_top.proofs.ScriptRuns.{Opens, creates, opens, first_opens}
use Rattle.nb_top.proofs.SureRuns.{refused_begins, files_behind, opened_steps, none_keeps, creating_sure, told_sure}
use Rattle.nb_top.proofs.SureTargets.{IsSureRun, target_after, target_left}
use Rattle.nb_top.proofs.ToldLaws.{told_files, told_steps, told_begins}
use Rattle.nb_top.proofs.WellRuns.{IsWellRun, IsKeptOrNone, IsWellBehind, rest_well}

-- 1. What is sure of a run whose account tells what the files hold, and whose database is well, if it opens one.
module _ (files : Files) (account : Account) (same : IsSameImage files account) (given : Given) (plan : Plan) (askable : IsAskable plan) (events : List Event) (last : Account) (left : Given) (sixteen : MayBeGiven given)
    (well : (name : List ℕ) (b : Base) → target_named plan.first ≡ Some (record { name = name; creates = false }) → is_delta name ≡ false → account.entry name ≡ IsBase b → image_scn b.image < 4294967296 → IsWellTrail account.kept (settled b))
    (not_refused : begins_refused events ≡ false) where
  module _ (name : List ℕ) (cache : ℕ) (first_is : plan.first ≡ OpenDb name cache) (runs : IsRun account given plan.first_session (OpenDb name cache) plan.schedule plan.sessions events last left)
      (small : image_scn (base_in (account.entry name)).image < 4294967296) where
    abbrev p : Opening
    p = opening account given plan.sessions plan.first_session (OpenDb name cache)

    opened_plain : is_delta name ≡ false
    opened_plain = (base_name name (subst FitsFirst first_is askable.first.fits).0).plain

    -- what stands there
    record IsThere : Type 0 where
      base : Base
      is : account.entry name ≡ IsBase base

    there : IsThere
    there = by (owner name (files name) (files (delta_name name))) refl
      where
        by : (answer : Result Base Refusal) → owner name (files name) (files (delta_name name)) ≡ answer → IsThere
        by (Ok b) is = record { base = b; is = same name opened_plain ∙ shown_entry files name b is }
        by (Err r) is =
            absurd (false_true (sym not_refused ∙ refused_begins p plan.first_session r account events runs.rest runs.is
            (not_reopened account given plan.sessions plan.first_session name cache r (ap (not_opened name) (same name opened_plain) ∙ refused_entry name (files name) (files (delta_name name)) r is))))

    abbrev b : Base
    b = there.base

    base_is : base_in (account.entry name) ≡ b
    base_is = ap base_in there.is ∙ base_in_base b

    again : IsReopened account given plan.sessions plan.first_session name cache b p
    again = reopened account given plan.sessions plan.first_session name cache b there.is

    opened_behind : IsWellBehind account name b runs.rest last
    opened_behind =
        rest_well account plan askable p again.now name b again.goes_on again.name_is again.account_is again.base again.here again.others again.kept again.todo (subst MayBeGiven (sym again.given_is) sixteen)
        (well name b (ap target_named first_is) opened_plain there.is (subst (λ (x : Base). image_scn x.image < 4294967296) base_is small))
        given runs.rest last left runs.goes_on

    opened_files : files_made events ≡ files_made runs.rest
    opened_files = files_behind events runs.rest p.event runs.is (ap (λ (e : Event). e.made) again.event)

    opened_run : IsWellRun account name events last
    opened_run = record {
      first = [];
      further = settles ∷ steps_of runs.rest;
      steps = ap steps_of runs.is ∙ ap (λ (e : Event). steps_of (e ∷ runs.rest)) again.event ∙ opened_steps plan.first_session _ runs.rest;
      base = b;
      seen = after_no_step (settled (base_in (account.entry name))) ∙ ap settled base_is;
      none = none_keeps (base_in (account.entry name));
      along = opened_behind.along;
      made = λ file there. opened_behind.made file (subst (λ (fs : List MadeFile). Contains fs file) opened_files there);
      grown = subst (λ (fs : List MadeFile). IsGrown name (after_steps (settled b) (settles ∷ steps_of runs.rest)).base (records_after b (strokes_in (settles ∷ steps_of runs.rest))) fs account last) (sym opened_files) opened_behind.grown;
    }

    opened_sure : IsSureRun account (record { name = name; creates = false }) events last
    unfolding opened_run
    opened_sure = record { plain = opened_plain; free = λ e. absurd (false_true e); run = opened_run; begun = λ count files s. omega arith }

  -- either
  begins_sure : (target : Target) → target_named plan.first ≡ Some target → HasSmallScn account (Some target) → IsRun account given plan.first_session plan.first plan.schedule plan.sessions events last left → IsSureRun account target events last
  begins_sure target named small runs = by (first_opens plan.first askable.first)
    where
      Runs : Statement → Type 0
      Runs first = IsRun account given plan.first_session first plan.schedule plan.sessions events last left

      by : Opens plan.first → IsSureRun account target events last
      by (creates name size raw cache is) =
          subst (λ (d : Target). IsSureRun account d events last) (some_same {X = Target} (record { name = name; creates = true }) target (ap target_named (sym is) ∙ named))
          (creating_sure account given plan askable events last left sixteen not_refused name size raw cache is (subst Runs is runs))
      by (opens name cache is) =
          let its : record { name = name; creates = false } ≡ target = some_same {X = Target} (record { name = name; creates = false }) target (ap target_named (sym is) ∙ named) in
          subst (λ (d : Target). IsSureRun account d events last) its (opened_sure name cache is (subst Runs is runs) (subst (λ (d : Target). HasSmallScn account (Some d)) (sym its) small refl))

module _ (files : Files) (account : Account) (same : IsSameImage files account) (given : Given) (plan : Plan) (telling : Telling) (askable : IsAskable plan) (events : List Event) (last : Account) (left : Given) (sixteen : MayBeGiven given)
    (well : (name : List ℕ) (b : Base) → target_named plan.first ≡ Some (record { name = name; creates = false }) → is_delta name ≡ false → account.entry name ≡ IsBase b → image_scn b.image < 4294967296 → IsWellTrail account.kept (settled b))
    (performed : IsScriptRun plan telling account given events last left) where
  whole_steps : steps_of performed.whole ≡ steps_of events
  whole_steps = sym (ap steps_of performed.said ∙ told_steps telling (pages_first account plan.first) performed.whole)

  whole_files : files_made performed.whole ≡ files_made events
  whole_files = sym (ap files_made performed.said ∙ told_files telling (pages_first account plan.first) performed.whole)

  whole_begins : begins_refused performed.whole ≡ begins_refused events
  whole_begins = sym (ap begins_refused performed.said ∙ told_begins telling (pages_first account plan.first) performed.whole)

  pub told_run : (target : Target) → target_of (Ok (ToRun plan telling)) events ≡ Some target → HasSmallScn account (Some target) → IsSureRun account target events last
  told_run target is small = by (begins_refused events) refl is
    where
      by : (t : Bool) → begins_refused events ≡ t → elim t as (λ z. Option Target) [ true ↦ None | false ↦ target_named plan.first ] ≡ Some target → IsSureRun account target events last
      by true refused h = absurd (none_some target h)
      by false allowed h = told_sure account target performed.whole events last whole_steps whole_files
          (begins_sure files account same given plan askable performed.whole last left sixteen well (whole_begins ∙ allowed) target h small performed.run)

-- the database that is asked for
target_is : (plan : Plan) (telling : Telling) (events : List Event) (target : Target) → target_of (Ok (ToRun plan telling)) events ≡ Some target → target_named plan.first ≡ Some target
target_is plan telling events target = by (begins_refused events)
  where
    by : (t : Bool) → elim t as (λ z. Option Target) [ true ↦ None | false ↦ target_named plan.first ] ≡ Some target → target_named plan.first ≡ Some target
    by true h = absurd (none_some target h)
    by false h = h

-- 2. The same run, seen by an account of those files alone.
module _ (account alone : Account) (kept : account.kept ≡ alone.kept) (target : Target) (events : List Event) (last : Account) (known : IsSureRun account target events last)
    (entry : account.entry target.name ≡ alone.entry target.name) (free : (f : MadeFile) → Contains (files_made events) f → is_delta f.0 ≡ false → is_free_entry (account.entry f.0) ≡ true → is_free_entry (alone.entry f.0) ≡ true) where
  abbrev pub alone_last : Account
  alone_last = record {
    entry = (with_entry target.name (IsBase (after_steps (settled known.run.base) known.run.further).base) (with_files (files_made events) alone)).entry;
    kept = alone.kept ++ records_after known.run.base (strokes_in known.run.further);
  }

  alone_run : IsWellRun alone target.name events alone_last
  alone_run = record {
    first = known.run.first;
    further = known.run.further;
    steps = known.run.steps;
    base = known.run.base;
    seen = subst (λ (e : Entry). after_steps (settled (base_in e)) known.run.first ≡ settled known.run.base) entry known.run.seen;
    none = subst (λ (e : Entry). records_after (base_in e) (strokes_in known.run.first) ≡ []) entry known.run.none;
    along = subst (λ (rs : List Kept). WellAlong rs (settled known.run.base) known.run.further) kept known.run.along;
    made = λ f there.
        let its = known.run.made f there in
        record { new = record { plain = its.new.plain; free = free f there its.new.plain its.new.free }; apart = its.apart; whole = subst (λ (rs : List Kept). IsKeptOrNone (kept_along rs (settled known.run.base) known.run.further) f.1) kept its.whole };
    grown = record { entries = λ n. refl; kept = refl };
  }

  pub alone_sure : IsSureRun alone target events alone_last
  unfolding alone_run
  alone_sure = record {
    plain = known.plain;
    free = λ creates. subst (λ (e : Entry). is_free_entry e ≡ true) entry (known.free creates);
    run = alone_run;
    begun = λ count files s. known.begun count files (subst (λ (e : Entry). StandsIn target.name (after_steps (settled (base_in e)) (take count (steps_of events))) files) (sym entry) s);
  }

-- a prefix of the events makes no more files
front_made : (es : List Event) (k : ℕ) (f : MadeFile) → Contains (files_made (take k es)) f → Contains (files_made es) f
unfolding files_made
front_made es zero f there = absurd (omega (arith, there.1))
front_made [] (suc k) f there = there
front_made (e ∷ es) (suc k) f there = by (front_made es k f) e.made there
  where
    by : (Contains (files_made (take k es)) f → Contains (files_made es) f) → (made : Option MadeFile) → Contains (elim made as (λ z. List MadeFile) [ Some file ↦ file ∷ files_made (take k es) | None ↦ files_made (take k es) ]) f
        → Contains (elim made as (λ z. List MadeFile) [ Some file ↦ file ∷ files_made es | None ↦ files_made es ]) f
    by later None c = later c
    by later (Some file) (zero, low, is) = (zero, omega arith, is)
    by later (Some file) (suc i, low, is) = let rest = later (i, omega (arith, low), is) in (suc rest.0, omega (arith, rest.1), rest.2)

-- 3. What is left of a run, and what reads after it, in the world of those files.
module _ (names : List (List ℕ)) (account alone : Account) (target : Target) (events : List Event) (entry : account.entry target.name ≡ alone.entry target.name) (own : is_among names target.name ≡ true) (beside : is_among names (delta_name target.name) ≡ true)
    (made : (f : MadeFile) → Contains (files_made events) f → is_among names f.0 ≡ true) where
  -- what is seen of the database
  seen_part : (files : Files) (ss : List Step) → StandsIn target.name (seen_after account target.name ss) files → StandsIn target.name (seen_after alone target.name ss) (among names files)
  seen_part files ss s =
      subst (λ (m : File). StandsOn target.name (seen_after alone target.name ss) m (among names files (delta_name target.name))) (sym (among_own names files target.name own))
      (subst (λ (d : File). StandsOn target.name (seen_after alone target.name ss) (files target.name) d) (sym (among_own names files (delta_name target.name) beside))
      (subst (λ (e : Entry). StandsIn target.name (after_steps (settled (base_in e)) ss) files) entry s))

  module _ (old : World) (files : Files) where
    unbegun_part : (said count : ℕ) → IsUnbegun old target said count files → IsUnbegun (part names old) target said count (among names files)
    unbegun_part said count none = record {
      none = none.none;
      unsaid = none.unsaid;
      main = elim none.main [
        | inl was ↦ inl (leaves_part names old files target.name (λ is. was))
        | inr free ↦ inr (free.0, ap is_free_file (among_own names files target.name own) ∙ free.1)
      ];
      delta = leaves_part names old files (delta_name target.name) (λ is. none.delta);
    }

    pub run_part : (said : List ℕ) → RunLeft old account (Some target) events files said → RunLeft (part names old) alone (Some target) events (among names files) said
    run_part said l = record {
      out = record { part = l.out.part; is = l.out.is; front = l.out.front };
      count = l.count;
      front = l.front;
      database = elim l.database [
        | inl stands ↦ inl (seen_part files (take l.count (steps_of events)) stands)
        | inr none ↦ inr (unbegun_part (length l.out.part) l.count none)
      ];
      each = λ name bytes there. elim (l.each name bytes there) [
        | inl was ↦ inl (leaves_part names old files name (λ is. was))
        | inr is ↦ inr (subst (IsUnfinishedOr bytes) (sym (among_own names files name (made (name, bytes) there))) is)
      ];
      whole = λ name bytes there. among_own names files name (made (name, bytes) (front_made events (acked_turns events (length l.out.part)) (name, bytes) there)) ∙ l.whole name bytes there;
      begun = λ name bytes there. among_own names files name (made (name, bytes) (front_made events (begun_turns events l.count) (name, bytes) there)) ∙ l.begun name bytes there;
      others = λ m unasked none. leaves_part names old files m (λ is. l.others m unasked none);
    }

  module _ (old new : World) where
    same_part : (m : List ℕ) → new.files m ≡ old.files m → among names new.files m ≡ among names old.files m
    same_part m same = ap (λ (f : File). elim (is_among names m) as (λ z. File) [ true ↦ f | false ↦ None ]) same

    reads_part : RunReads old new account (Some target) events → RunReads (part names old) (part names new) alone (Some target) events
    reads_part reads = record {
      others = λ m unasked none. same_part m (reads.others m unasked none);
      database = elim reads.database [
        | inl stands ↦ inl (stands.0, seen_part new.files (take stands.0 (steps_of events)) stands.1)
        | inr none ↦ inr (record {
          main = elim none.main [ inl same ↦ inl (same_part target.name same) | inr free ↦ inr (free.0, ap is_free_file (among_own names new.files target.name own) ∙ free.1) ];
          delta = same_part (delta_name target.name) none.delta;
        })
      ];
      unchanged = λ tell. ap (among names) (reads.unchanged tell);
    }

-- 4. So the run goes on in them.
module _ (names : List (List ℕ)) (old new : World) (reads_old : LeavesAll old old.files) (reads_new : LeavesAll new new.files) (timely : IsTimely new) (plan : Plan) (telling : Telling) (askable : IsAskable plan) (alone : Account)
    (given : Given) (sixteen : MayBeGiven given) (status : Status) (target : Target) (performs : PerformsRun status old new (Ok (ToRun plan telling)) (account_of old.files alone.kept) given)
    (is : target_of (Ok (ToRun plan telling)) performs.events ≡ Some target) (touched : (m : List ℕ) → MayTouch (Ok (ToRun plan telling)) m → is_among names m ≡ true)
    (stands : StandAlone names old alone) (fresh : AreNew old alone.kept (guids_in (strokes_of performs.events))) (small : HasSmallScn (account_of old.files alone.kept) (Some target)) where
  abbrev account : Account
  account = account_of old.files alone.kept

  abbrev events : List Event
  events = performs.events

  named : target_named plan.first ≡ Some target
  named = target_is plan telling events target is

  touched_own : (t : Target) → target_named plan.first ≡ Some t → (m : List ℕ) → OfFiles t.name m → is_among names m ≡ true
  touched_own t is m of = touched m (inl (subst (λ (o : Option Target). OfTarget o m) (sym is) of))

  own : is_among names target.name ≡ true
  own = touched_own target named target.name (inl refl)

  beside : is_among names (delta_name target.name) ≡ true
  beside = touched_own target named (delta_name target.name) (inr refl)

  made_among : (f : MadeFile) → Contains (files_made events) f → is_among names f.0 ≡ true
  made_among f there = touched f.0 (performed_makes account given events performs.last performs.left f there old.files (Ok (ToRun plan telling)) performs.performed)

  -- both accounts have the database
  entry_there : (name : List ℕ) → is_delta name ≡ false → is_among names name ≡ true → is_among names (delta_name name) ≡ true → account.entry name ≡ alone.entry name
  entry_there name plain own beside =
      sym (stands.now.same_image name plain ∙ ap (λ (f : File). entry_of_files name f (among names old.files (delta_name name))) (among_own names old.files name own) ∙ ap (entry_of_files name (old.files name)) (among_own names old.files (delta_name name) beside))

  known : IsSureRun account target events performs.last
  known = told_run old.files account (λ name plain. refl) given plan telling askable events performs.last performs.left sixteen
      (λ name b opens plain there scn. opened_trail (among names old.files) alone name b stands.now plain
      (sym (entry_there name plain (touched_own (record { name = name; creates = false }) opens name (inl refl)) (touched_own (record { name = name; creates = false }) opens (delta_name name) (inr refl))) ∙ there) scn)
      performs.performed target is small

  entry : account.entry target.name ≡ alone.entry target.name
  entry = entry_there target.name known.plain own beside

  -- a name that is free is free there
  free_there : (f : MadeFile) → Contains (files_made events) f → is_delta f.0 ≡ false → is_free_entry (account.entry f.0) ≡ true → is_free_entry (alone.entry f.0) ≡ true
  free_there f there plain free =
      let was = and_parts (is_free_file (old.files f.0)) (not (is_some (old.files (delta_name f.0)))) (sym (free_entry old.files account f.0 (λ name plain. refl) plain) ∙ free) in
      let none : among names old.files (delta_name f.0) ≡ None = none_among (delta_name f.0) (not_some (old.files (delta_name f.0)) was.1) in
      free_entry (among names old.files) alone f.0 stands.now.same_image plain ∙ ap (λ (m : File). is_free_file m && not (is_some (among names old.files (delta_name f.0)))) (among_own names old.files f.0 (made_among f there))
      ∙ ap (λ (t : Bool). t && not (is_some (among names old.files (delta_name f.0)))) was.0 ∙ ap (λ (m : File). not (is_some m)) none
    where
      none_among : (m : List ℕ) → old.files m ≡ None → among names old.files m ≡ None
      none_among m none = by (is_among names m)
        where
          by : (t : Bool) → elim t as (λ z. File) [ true ↦ old.files m | false ↦ None ] ≡ None
          by true = none
          by false = refl

  sure : IsSureRun alone target events (alone_last account alone refl target events performs.last known entry free_there)
  sure = alone_sure account alone refl target events performs.last known entry free_there

  there_stands : StandsFor (part names old) alone
  there_stands = alone_stands names old alone reads_old stands

  there_reads : (m : List ℕ) → Leaves (part names old) m (among names old.files m)
  there_reads = all_part names old old.files reads_old

  there_new : AreNew (part names old) alone.kept (guids_in (strokes_of events))
  there_new = part_new names old alone.kept (guids_in (strokes_of events)) fresh

  left_part : (files : Files) (said : List ℕ) → RunLeft old account (Some target) events files said → RunLeft (part names old) alone (Some target) events (among names files) said
  left_part files said l = run_part names account alone target events entry own beside made_among old files said l

  kept_same : (ss : List Step) → kept_after alone (Some target) ss ≡ kept_after account (Some target) ss
  kept_same ss = ap (λ (e : Entry). alone.kept ++ records_after (base_in e) (strokes_in ss)) (sym entry)

  at_moment : (files : Files) (said : List ℕ) (l : RunLeft old account (Some target) events files said) → HoldsKept (among names files) (kept_after account (Some target) (take l.count (steps_of events)))
  unfolding left_part run_part
  at_moment files said l = subst (HoldsKept (among names files)) (kept_same (take l.count (steps_of events)))
      (target_left (part names old) alone there_stands there_reads target events (alone_last account alone refl target events performs.last known entry free_there) there_new sure (among names files) said (left_part files said l))

  moments : AtEachMoment (part names old) (part names new) (RunLeft (part names old) alone (Some target) events)
  moments = part_moments names old new _ _ performs.stops (λ whole said stood. left_part whole said (subst (λ (t : Option Target). RunLeft old account t events whole said) is stood.left))

  then : (later : Account) × StandsFor (part names new) later × (later.kept ≡ kept_after alone (Some target) (take (length (steps_of events)) (steps_of events)))
  then = target_after (part names old) alone there_stands there_reads target events (alone_last account alone refl target events performs.last known entry free_there) there_new sure
      (part names new) (part_timely names new reads_new timely) (all_part names new new.files reads_new) moments
      (reads_part names account alone target events entry own beside made_among old new (subst (λ (t : Option Target). RunReads old new account t events) is performs.reads))

  pub go_on : GoOnAlone names old new account target events
  go_on = record {
    moments = at_moment;
    later = then.0;
    stands = stands_alone names new then.0 then.1;
    kept = then.2 ∙ ap (kept_after alone (Some target)) (take_all (length (steps_of events)) (steps_of events) (omega arith)) ∙ kept_same (steps_of events);
  }
