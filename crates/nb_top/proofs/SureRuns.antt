-- Where the files stand for the account as a run begins, and the GUIDs that it takes are new, they stand for one at each moment.
use Rattle.std.proofs.Common.{◌≡◌, ℕ, zero, suc, ◌<◌, ◌≤◌, List, [], ◌∷◌, ◌++◌, length, take, true, false, refl, sym, ap, subst, ◌∙◌, arith, Bool, Result, Ok, Err, Option, Some, None, Contains}
use Rattle.nb_top.proofs.Common.{fresh, Files, is_delta, World, Leaves, IsTimely, AtEachMoment, Refusal, FileExists, Reply, Statement, CreateDb, OpenDb, Base, base_of, IsBase, Account, is_free_entry, Image, image_scn, MadeFile, IsNoneOf, Given, delta_name, owner, not_opened, Event, Opening, IsRun, IsRest, opening, refused_opening, files_made, Step, makes, settles, after_step, after_steps, made, steps_of, strokes_in, make, base_in, on_base, records_of, records_after, Trail, StandsIn, settled, settles_at, after_stroke, IsGrown, opened_trail, IsCreated, created, not_created, IsReopened, reopened, not_reopened, base_in_base, settled_shows, IsAskable, FitsFirst, Plan, Status, RunLeft, RunReads, Finished, HasSmallScn, IsScriptRun, IsSure, MayBeGiven, Target, begins_refused, kept_after, pages_first, seen_after, target_named, target_of, HoldsKept, StandsFor, Telling, Request, ToRun, false_true, after_no_step, none_some, some_none, some_same}
use Rattle.nb_model.specs.declared.reply.Reply.TheVariants.{Refused}
use Rattle.nb_model.proofs.UnseenLaws.{unseen}
use Rattle.nb_model.proofs.WellTrailLaws.{fresh_trail}
use Rattle.nb_top.proofs.FirstReady.{base_name}
use Rattle.nb_top.proofs.MadeRuns.{no_file, made_behind}
use Rattle.nb_top.proofs.OpenLaws.{shown_entry, refused_entry}
use Rattle.nb_top.proofs.ScriptRuns.{Opens, creates, opens, first_opens}
use Rattle.nb_top.proofs.SureFiles.{still_stands}
use Rattle.nb_top.proofs.SureTargets.{IsSureRun, target_after, target_left, target_end}
use Rattle.nb_top.proofs.ToldLaws.{told_files, told_steps, told_begins}
use Rattle.nb_top.proofs.WellRuns.{IsWellRun, IsWellBehind, rest_well}

-- an event with a refusal begins no run
pub refused_begins : (o : Opening) (session : ℕ) (refusal : Refusal) (account : Account) (events rest : List Event) → events ≡ o.event ∷ rest → o ≡ refused_opening session (Refused refusal) account → begins_refused events ≡ true
refused_begins o session refusal account events rest is refused = ap begins_refused is ∙ ap (λ (x : Opening). begins_refused (x.event ∷ rest)) refused

-- an event that makes no file, before others
pub files_behind : (events rest : List Event) (e : Event) → events ≡ e ∷ rest → e.made ≡ None → files_made events ≡ files_made rest
files_behind events rest e is none = ap files_made is ∙ made_behind e rest none

-- the steps of a first event
created_steps : (session : ℕ) (image : Image) (reply : Reply) (rest : List Event)
    → steps_of (record { session = session; strokes = make image ∷ []; reply = Some reply; made = None; syncs = true } ∷ rest) ≡ (makes (make image) ∷ []) ++ (settles ∷ steps_of rest)
unfolding steps_of made
created_steps session image reply rest = refl

pub opened_steps : (session : ℕ) (reply : Reply) (rest : List Event) → steps_of (record { session = session; strokes = []; reply = Some reply; made = None; syncs = true } ∷ rest) ≡ settles ∷ steps_of rest
unfolding steps_of made
opened_steps session reply rest = refl

made_seen : (b : Base) (image : Image) → after_steps (settled b) (makes (make image) ∷ []) ≡ settled (base_of image)
unfolding after_steps after_step after_stroke settles_at on_base
made_seen b image = refl

made_keeps : (b : Base) (image : Image) → records_after b (strokes_in (makes (make image) ∷ [])) ≡ []
unfolding strokes_in records_after records_of
made_keeps b image = refl

pub none_keeps : (b : Base) → records_after b (strokes_in []) ≡ []
unfolding strokes_in records_after
none_keeps b = refl

module _ (account : Account) (given : Given) (plan : Plan) (askable : IsAskable plan) (events : List Event) (last : Account) (left : Given) (sixteen : MayBeGiven given) (not_refused : begins_refused events ≡ false) where
  -- it creates its database
  module _ (name : List ℕ) (size raw cache : ℕ) (first_is : plan.first ≡ CreateDb name size raw cache) (runs : IsRun account given plan.first_session (CreateDb name size raw cache) plan.schedule plan.sessions events last left) where
    abbrev o : Opening
    o = opening account given plan.sessions plan.first_session (CreateDb name size raw cache)

    fits : FitsFirst (CreateDb name size raw cache)
    fits = subst FitsFirst first_is askable.first.fits

    was_free : is_free_entry (account.entry name) ≡ true
    was_free = by (is_free_entry (account.entry name)) refl
      where
        by : (t : Bool) → is_free_entry (account.entry name) ≡ t → is_free_entry (account.entry name) ≡ true
        by true is = is
        by false is =
            absurd (false_true (sym not_refused ∙ refused_begins o plan.first_session (FileExists name) account events runs.rest runs.is (not_created account given plan.sessions plan.first_session name size raw cache is)))

    new_one : IsCreated account given plan.sessions plan.first_session name size raw cache o
    new_one = created account given plan.sessions plan.first_session name size raw cache was_free

    abbrev image : Image
    image = fresh size raw

    behind : IsWellBehind account name (base_of image) runs.rest last
    behind =
        rest_well account plan askable o new_one.now name (base_of image) new_one.goes_on new_one.name_is new_one.account_is new_one.base new_one.here new_one.others new_one.kept new_one.todo (subst MayBeGiven (sym new_one.given_is) sixteen)
        (fresh_trail account.kept size raw fits.1 fits.2) given runs.rest last left runs.goes_on

    steps : steps_of events ≡ (makes (make image) ∷ []) ++ (settles ∷ steps_of runs.rest)
    steps = ap steps_of runs.is ∙ ap (λ (e : Event). steps_of (e ∷ runs.rest)) new_one.event ∙ created_steps plan.first_session image _ runs.rest

    files : files_made events ≡ files_made runs.rest
    files = files_behind events runs.rest o.event runs.is (ap (λ (e : Event). e.made) new_one.event)

    run : IsWellRun account name events last
    run = record {
      first = makes (make image) ∷ [];
      further = settles ∷ steps_of runs.rest;
      steps = steps;
      base = base_of image;
      seen = made_seen (base_in (account.entry name)) image;
      none = made_keeps (base_in (account.entry name)) image;
      along = behind.along;
      made = λ file there. behind.made file (subst (λ (fs : List MadeFile). Contains fs file) files there);
      grown = subst (λ (fs : List MadeFile). IsGrown name (after_steps (settled (base_of image)) (settles ∷ steps_of runs.rest)).base (records_after (base_of image) (strokes_in (settles ∷ steps_of runs.rest))) fs account last) (sym files) behind.grown;
    }

    -- before it no database is there
    begun : (count : ℕ) (files : Files) → StandsIn name (seen_after account name (take count (steps_of events))) files → 1 ≤ count
    begun zero files s =
        absurd (unseen name (account.entry name) (files name) (files (delta_name name)) was_free
        (settled_shows name (base_in (account.entry name)) (files name) (files (delta_name name)) (subst (λ (t : Trail). StandsIn name t files) (after_no_step (settled (base_in (account.entry name)))) s)))
    begun (suc n) files s = omega arith

    pub creating_sure : IsSureRun account (record { name = name; creates = true }) events last
    unfolding run
    creating_sure = record { plain = (base_name name fits.0).plain; free = λ e. was_free; run = run; begun = begun }

module _ (old : World) (account : Account) (given : Given) (plan : Plan) (askable : IsAskable plan) (events : List Event) (last : Account) (left : Given) (stands : StandsFor old account)
    (sixteen : MayBeGiven given) (not_refused : begins_refused events ≡ false) where
  -- it opens it
  module _ (name : List ℕ) (cache : ℕ) (first_is : plan.first ≡ OpenDb name cache) (runs : IsRun account given plan.first_session (OpenDb name cache) plan.schedule plan.sessions events last left)
      (small : image_scn (base_in (account.entry name)).image < 4294967296) where
    abbrev p : Opening
    p = opening account given plan.sessions plan.first_session (OpenDb name cache)

    opened_fits : FitsFirst (OpenDb name cache)
    opened_fits = subst FitsFirst first_is askable.first.fits

    opened_plain : is_delta name ≡ false
    opened_plain = (base_name name opened_fits.0).plain

    -- what stands there
    record IsThere : Type 0 where
      base : Base
      is : account.entry name ≡ IsBase base

    there : IsThere
    there = by (owner name (old.files name) (old.files (delta_name name))) refl
      where
        by : (answer : Result Base Refusal) → owner name (old.files name) (old.files (delta_name name)) ≡ answer → IsThere
        by (Ok b) is = record { base = b; is = stands.now.same_image name opened_plain ∙ shown_entry old.files name b is }
        by (Err r) is =
            absurd (false_true (sym not_refused ∙ refused_begins p plan.first_session r account events runs.rest runs.is
            (not_reopened account given plan.sessions plan.first_session name cache r (ap (not_opened name) (stands.now.same_image name opened_plain) ∙ refused_entry name (old.files name) (old.files (delta_name name)) r is))))

    abbrev b : Base
    b = there.base

    base_is : base_in (account.entry name) ≡ b
    base_is = ap base_in there.is ∙ base_in_base b

    again : IsReopened account given plan.sessions plan.first_session name cache b p
    again = reopened account given plan.sessions plan.first_session name cache b there.is

    opened_behind : IsWellBehind account name b runs.rest last
    opened_behind =
        rest_well account plan askable p again.now name b again.goes_on again.name_is again.account_is again.base again.here again.others again.kept again.todo (subst MayBeGiven (sym again.given_is) sixteen)
        (opened_trail old.files account name b stands.now opened_plain there.is (subst (λ (x : Base). image_scn x.image < 4294967296) base_is small))
        given runs.rest last left runs.goes_on

    opened_files : files_made events ≡ files_made runs.rest
    opened_files = files_behind events runs.rest p.event runs.is (ap (λ (e : Event). e.made) again.event)

    opened_run : IsWellRun account name events last
    opened_run = record {
      first = [];
      further = settles ∷ steps_of runs.rest;
      steps = ap steps_of runs.is ∙ ap (λ (e : Event). steps_of (e ∷ runs.rest)) again.event ∙ opened_steps plan.first_session _ runs.rest;
      base = b;
      seen = after_no_step (settled (base_in (account.entry name))) ∙ ap settled base_is;
      none = none_keeps (base_in (account.entry name));
      along = opened_behind.along;
      made = λ file there. opened_behind.made file (subst (λ (fs : List MadeFile). Contains fs file) opened_files there);
      grown = subst (λ (fs : List MadeFile). IsGrown name (after_steps (settled b) (settles ∷ steps_of runs.rest)).base (records_after b (strokes_in (settles ∷ steps_of runs.rest))) fs account last) (sym opened_files) opened_behind.grown;
    }

    opening_sure : IsSureRun account (record { name = name; creates = false }) events last
    unfolding opened_run
    opening_sure = record { plain = opened_plain; free = λ e. absurd (false_true e); run = opened_run; begun = λ count files s. omega arith }

  -- either
  begins_sure : (target : Target) → target_named plan.first ≡ Some target → HasSmallScn account (Some target) → IsRun account given plan.first_session plan.first plan.schedule plan.sessions events last left → IsSureRun account target events last
  begins_sure target named small runs = by (first_opens plan.first askable.first)
    where
      Runs : Statement → Type 0
      Runs first = IsRun account given plan.first_session first plan.schedule plan.sessions events last left

      by : Opens plan.first → IsSureRun account target events last
      by (creates name size raw cache is) =
          subst (λ (d : Target). IsSureRun account d events last) (some_same {X = Target} (record { name = name; creates = true }) target (ap target_named (sym is) ∙ named))
          (creating_sure account given plan askable events last left sixteen not_refused name size raw cache is (subst Runs is runs))
      by (opens name cache is) =
          let its : record { name = name; creates = false } ≡ target = some_same {X = Target} (record { name = name; creates = false }) target (ap target_named (sym is) ∙ named) in
          subst (λ (d : Target). IsSureRun account d events last) its (opening_sure name cache is (subst Runs is runs) (subst (λ (d : Target). HasSmallScn account (Some d)) (sym its) small refl))

-- A run whose first statement is refused leaves the account, and makes no file.
refused_last : (schedule : List ℕ) (session : ℕ) (reply : Reply) (o : Opening) (account : Account) (given : Given) (events rest : List Event) (last : Account) (left : Given) → o ≡ refused_opening session reply account
    → events ≡ o.event ∷ rest → IsRest schedule o given rest last left → (files_made events ≡ []) × (last ≡ account)
unfolding files_made
refused_last schedule session reply o account given events rest last left refused first is =
    let ends = subst (λ (x : Opening). IsRest schedule x given rest last left) refused is in
    (files_behind events rest o.event first (ap (λ (x : Opening). x.event.made) refused) ∙ ap files_made ends.0, ends.1)

-- it makes no file, and leaves the account
abbrev pub LeavesAsWas : Account → List Event → (last : Account) → Type 0
LeavesAsWas account events last = (files_made events ≡ []) × (last ≡ account)

pub refused_creating : (account : Account) (given : Given) (plan : Plan) (events : List Event) (last : Account) (left : Given) → begins_refused events ≡ true → (name : List ℕ) (size raw cache : ℕ)
    → IsRun account given plan.first_session (CreateDb name size raw cache) plan.schedule plan.sessions events last left → LeavesAsWas account events last
refused_creating account given plan events last left refused name size raw cache is = by_free (is_free_entry (account.entry name)) refl
  where
    by_free : (t : Bool) → is_free_entry (account.entry name) ≡ t → LeavesAsWas account events last
    by_free true free =
        let one = created account given plan.sessions plan.first_session name size raw cache free in
        absurd (false_true (sym (ap begins_refused (is.is ∙ ap (λ (e : Event). e ∷ is.rest) one.event)) ∙ refused))
    by_free false taken =
        refused_last plan.schedule plan.first_session _ (opening account given plan.sessions plan.first_session (CreateDb name size raw cache)) account given events is.rest last left
        (not_created account given plan.sessions plan.first_session name size raw cache taken) is.is is.goes_on

module _ (old : World) (account : Account) (given : Given) (plan : Plan) (askable : IsAskable plan) (events : List Event) (last : Account) (left : Given) (stands : StandsFor old account) (refused : begins_refused events ≡ true) where
  refused_leaves : IsRun account given plan.first_session plan.first plan.schedule plan.sessions events last left → LeavesAsWas account events last
  refused_leaves runs = by (first_opens plan.first askable.first)
    where
      Runs : Statement → Type 0
      Runs first = IsRun account given plan.first_session first plan.schedule plan.sessions events last left

      opening_it : (name : List ℕ) (cache : ℕ) → is_delta name ≡ false → Runs (OpenDb name cache) → LeavesAsWas account events last
      opening_it name cache plain is = by_owner (owner name (old.files name) (old.files (delta_name name))) refl
        where
          by_owner : (answer : Result Base Refusal) → owner name (old.files name) (old.files (delta_name name)) ≡ answer → LeavesAsWas account events last
          by_owner (Ok b) shows =
              let again = reopened account given plan.sessions plan.first_session name cache b (stands.now.same_image name plain ∙ shown_entry old.files name b shows) in
              absurd (false_true (sym (ap begins_refused (is.is ∙ ap (λ (e : Event). e ∷ is.rest) again.event)) ∙ refused))
          by_owner (Err r) why =
              refused_last plan.schedule plan.first_session _ (opening account given plan.sessions plan.first_session (OpenDb name cache)) account given events is.rest last left
              (not_reopened account given plan.sessions plan.first_session name cache r (ap (not_opened name) (stands.now.same_image name plain) ∙ refused_entry name (old.files name) (old.files (delta_name name)) r why)) is.is is.goes_on

      by : Opens plan.first → LeavesAsWas account events last
      by (creates name size raw cache is) = refused_creating account given plan events last left refused name size raw cache (subst Runs is runs)
      by (opens name cache is) = opening_it name cache (base_name name (subst FitsFirst is askable.first.fits).0).plain (subst Runs is runs)

-- So it is of what is told of the run, which has the same steps and files.
pub told_sure : (account : Account) (target : Target) (whole events : List Event) (last : Account) → steps_of whole ≡ steps_of events → files_made whole ≡ files_made events → IsSureRun account target whole last → IsSureRun account target events last
told_sure account target whole events last same files known = record {
  plain = known.plain;
  free = known.free;
  run = record {
    first = known.run.first;
    further = known.run.further;
    steps = sym same ∙ known.run.steps;
    base = known.run.base;
    seen = known.run.seen;
    none = known.run.none;
    along = known.run.along;
    made = λ file there. known.run.made file (subst (λ (fs : List MadeFile). Contains fs file) (sym files) there);
    grown = subst (λ (fs : List MadeFile). IsGrown target.name (after_steps (settled known.run.base) known.run.further).base (records_after known.run.base (strokes_in known.run.further)) fs account last) files known.run.grown;
  };
  begun = λ count files s. known.begun count files (subst (λ (ss : List Step). StandsIn target.name (seen_after account target.name (take count ss)) files) (sym same) s);
}

-- The run of a script.
module _ (old : World) (plan : Plan) (telling : Telling) (askable : IsAskable plan) (account : Account) (given : Given) (before : (name : List ℕ) → Leaves old name (old.files name)) (events : List Event) (last : Account)
    (left : Given) (performed : IsScriptRun plan telling account given events last left) (sixteen : MayBeGiven given) (sure : IsSure old account events) where
  abbrev asked : Result Request Refusal
  asked = Ok (ToRun plan telling)

  whole_steps : steps_of performed.whole ≡ steps_of events
  whole_steps = sym (ap steps_of performed.said ∙ told_steps telling (pages_first account plan.first) performed.whole)

  whole_files : files_made performed.whole ≡ files_made events
  whole_files = sym (ap files_made performed.said ∙ told_files telling (pages_first account plan.first) performed.whole)

  whole_begins : begins_refused performed.whole ≡ begins_refused events
  whole_begins = sym (ap begins_refused performed.said ∙ told_begins telling (pages_first account plan.first) performed.whole)

  sure_run : (target : Target) → target_of asked events ≡ Some target → HasSmallScn account (Some target) → IsSureRun account target events last
  sure_run target is small = by (begins_refused events) refl is
    where
      by : (t : Bool) → begins_refused events ≡ t → elim t as (λ z. Option Target) [ true ↦ None | false ↦ target_named plan.first ] ≡ Some target → IsSureRun account target events last
      by true refused h = absurd (none_some target h)
      by false allowed h = told_sure account target performed.whole events last whole_steps whole_files
          (begins_sure old account given plan askable performed.whole last left sure.stands sixteen (whole_begins ∙ allowed) target h small performed.run)

  -- A run without a database makes no file, and leaves the account.
  refused_run : target_of asked events ≡ None → (files_made events ≡ []) × (last ≡ account)
  refused_run is = by (begins_refused events) refl is
    where
      by : (t : Bool) → begins_refused events ≡ t → elim t as (λ z. Option Target) [ true ↦ None | false ↦ target_named plan.first ] ≡ None → (files_made events ≡ []) × (last ≡ account)
      by true refused h =
          let leaves = refused_leaves old account given plan askable performed.whole last left sure.stands (whole_begins ∙ refused) performed.run in
          (sym whole_files ∙ leaves.0, leaves.1)
      by false allowed h = elim (first_opens plan.first askable.first) [
        | creates name size raw cache first ↦ absurd (some_none {X = Target} (record { name = name; creates = true }) (sym (ap target_named first) ∙ h))
        | opens name cache first ↦ absurd (some_none {X = Target} (record { name = name; creates = false }) (sym (ap target_named first) ∙ h))
      ]

  none_made : target_of asked events ≡ None → (m : List ℕ) → IsNoneOf (files_made events) m
  none_made is m bytes there = no_file (m, bytes) (subst (λ (fs : List MadeFile). Contains fs (m, bytes)) (refused_run is).0 there)

  module _ (small : HasSmallScn account (target_of asked events)) where
    pub script_left : (files : Files) (said : List ℕ) (l : RunLeft old account (target_of asked events) events files said) → HoldsKept files (kept_after account (target_of asked events) (take l.count (steps_of events)))
    script_left files said = by (target_of asked events) refl small
      where
        by : (target : Option Target) → target_of asked events ≡ target → HasSmallScn account target → (l : RunLeft old account target events files said) → HoldsKept files (kept_after account target (take l.count (steps_of events)))
        by None is few l = sure.stands.left files (λ m. l.others m tt (none_made is m))
        by (Some target) is few l = target_left old account sure.stands before target events last sure.new (sure_run target is few) files said l

    -- after it, however it ended
    pub script_after : (new : World) → IsTimely new → ((name : List ℕ) → Leaves new name (new.files name)) → AtEachMoment old new (RunLeft old account (target_of asked events) events) → RunReads old new account (target_of asked events) events
        → (later : Account) × StandsFor new later × (later.kept ≡ kept_after account (target_of asked events) (take (length (steps_of events)) (steps_of events)))
    script_after new timely reads stops read = by (target_of asked events) refl small stops read
      where
        by : (target : Option Target) → target_of asked events ≡ target → HasSmallScn account target → AtEachMoment old new (RunLeft old account target events) → RunReads old new account target events
            → (later : Account) × StandsFor new later × (later.kept ≡ kept_after account target (take (length (steps_of events)) (steps_of events)))
        by None is few moments beside = (
          account,
          still_stands old new account sure.stands reads (λ m. beside.others m tt (none_made is m)) (λ files leaves m. (moments.each files new.said (timely.counts_now old.moment files moments.later leaves)).others m tt (none_made is m)),
          refl,
        )
        by (Some target) is few moments beside = target_after old account sure.stands before target events last sure.new (sure_run target is few) new timely reads moments beside

    pub script_end : (new : World) → IsTimely new → ((name : List ℕ) → Leaves new name (new.files name)) → AtEachMoment old new (RunLeft old account (target_of asked events) events)
        → RunReads old new account (target_of asked events) events → (status : Status) → Finished status old new account (target_of asked events) events given left → StandsFor new last
    script_end new timely reads stops read status finished = by (target_of asked events) refl small stops read finished
      where
        by : (target : Option Target) → target_of asked events ≡ target → HasSmallScn account target → AtEachMoment old new (RunLeft old account target events) → RunReads old new account target events
            → Finished status old new account target events given left → StandsFor new last
        by None is few moments beside done =
            subst (StandsFor new) (sym (refused_run is).1)
            (still_stands old new account sure.stands reads (λ m. beside.others m tt (none_made is m)) (λ files leaves m. (moments.each files new.said (timely.counts_now old.moment files moments.later leaves)).others m tt (none_made is m)))
        by (Some target) is few moments beside done = target_end old account sure.stands before target events last sure.new (sure_run target is few) new timely reads moments beside given left status done
