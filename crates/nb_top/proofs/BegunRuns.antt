-- A run after its first statement.
use Rattle.std.proofs.Common.{◌≡◌, ◌⊎◌, inl, inr, ⊎_elim, ℕ, List, [], ◌∷◌, ◌++◌, take, true, false, refl, sym, ap, subst, ◌∙◌, true≢false, Bool, Option, None, Some, Ok, Err, Contains, if◌then◌else◌}
use Rattle.nb_top.proofs.Common.{list_all, Files, World, Leaves, Untouched, AtEachMoment, IsTimely, RunError, Other, GaveNothing, joined, left_before, Quiet, Base, Account, WasGiven, MadeFile, IsNoneOf, guids_in, Given, output, Event, AreFinished, files_made, strokes_of, after_steps, steps_of, strokes_in, Stroke, base_in, StandsIn, settled, guids_append, strokes_in_steps, OfFiles, Held, NoPageWaits, IsOpen, name_of, shown, IsAskable, Plan, Touched, only_told, StopLeft, Status, number_of, RunLeft, RunReads, RunsTo, Finished, HasSmallScn, IsEnded, IsPerformed, PlaysOpened, Target, begins_refused, first_event, seen_after, pages_first, target_named, target_of, told_first, told_later, only_opens, Telling, All, Quietly, WithSize, Sparingly, ToRun, AreApart, both_true}
use Rattle.nb_state.specs.Does.{only_tells}
use Rattle.nb_top.proofs.FirstEnds.{first_ends}
use Rattle.nb_top.proofs.FirstLaws.{First, turns}
use Rattle.nb_top.proofs.MadeRuns.{made_behind}
use Rattle.nb_top.proofs.QuietRuns.{given_from}
use Rattle.nb_top.proofs.ToldLaws.{later_files, told_begins, told_cons, told_first_made, told_steps, performed_told}

-- it makes no stroke
pub opens_without : (e : Event) → only_opens e ≡ true → e.strokes ≡ []
opens_without e only = by_made e.made only
  where
    by : (ss : List Stroke) → elim ss as (λ z. Bool) [ [] ↦ elim e.reply as (λ z. Bool) [ None ↦ true | Some reply ↦ only_tells reply ] | s ∷ rest ↦ false ] ≡ true → ss ≡ []
    by [] is = refl
    by (s ∷ ss) is = absurd (true≢false (sym is))

    by_made : (file : Option MadeFile)
        → elim file as (λ z. Bool) [ Some f ↦ false | None ↦ elim e.strokes as (λ z. Bool) [ [] ↦ elim e.reply as (λ z. Bool) [ None ↦ true | Some reply ↦ only_tells reply ] | s ∷ rest ↦ false ] ] ≡ true → e.strokes ≡ []
    by_made None is = by e.strokes is
    by_made (Some f) is = absurd (true≢false (sym is))

-- what is told of it says nothing of its strokes
pub told_strokes : (telling : Telling) (e : Event) → (told_first telling e).strokes ≡ e.strokes
told_strokes All e = refl
told_strokes Quietly e = refl
told_strokes WithSize e = refl
told_strokes Sparingly e = refl

module _ (old : World) (account : Account) (given : Given) (plan : Plan) (telling : Telling) (askable : IsAskable plan) (first : First account given plan) where
  abbrev pub first_one : Event
  first_one = told_first telling (first_event plan.first_session first.strokes first.reply)

  -- how many pages the database then has
  abbrev pub pages : ℕ
  pages = pages_first account plan.first

  -- the events after it
  abbrev pub later : ℕ → List Event
  later n = told_later telling pages (turns plan first.now n).0

  abbrev pub events : ℕ → List Event
  events n = first_one ∷ later n

  abbrev pub name : List ℕ
  name = first.target.name

  abbrev pub start : Base
  start = base_in (account.entry name)

  abbrev pub Left : ℕ → Files → List ℕ → Type 0
  Left n = RunLeft old account (Some first.target) (events n)

  -- its reply is no refusal, so the database is asked for
  begins : (n : ℕ) → begins_refused (events n) ≡ false
  begins n =
      let whole : Event = first_event plan.first_session first.strokes first.reply in
      ap begins_refused (told_cons telling pages whole (turns plan first.now n).0) ∙ told_begins telling pages (whole ∷ (turns plan first.now n).0) ∙ first.allowed

  target_is : (n : ℕ) → target_of (Ok (ToRun plan telling)) (events n) ≡ Some first.target
  target_is n = ap (λ (b : Bool). elim b as (λ z. Option Target) [ true ↦ None | false ↦ target_named plan.first ]) (begins n) ∙ first.named

  with_target : (n : ℕ) (from new : World) → AtEachMoment from new (Left n) → AtEachMoment from new (RunLeft old account (target_of (Ok (ToRun plan telling)) (events n)) (events n))
  with_target n from new is = subst (λ (d : Option Target). AtEachMoment from new (RunLeft old account d (events n))) (sym (target_is n)) is

  opened_with : (n : ℕ) → HasSmallScn account (Some first.target) → HasSmallScn account (target_of (Ok (ToRun plan telling)) (events n))
  opened_with n = subst (HasSmallScn account) (sym (target_is n))

  performed : (n : ℕ) → AreFinished (turns plan first.now n).1.todo → IsPerformed old.files (Ok (ToRun plan telling)) account given (events n) (turns plan first.now n).1.account (turns plan first.now n).1.given
  performed n finished =
      performed_told telling plan account given (first_event plan.first_session first.strokes first.reply) (turns plan first.now n).0 (turns plan first.now n).1.account (turns plan first.now n).1.given (first.ran n finished)

  reads_with : (n : ℕ) (new : World) → RunReads old new account (Some first.target) (events n) → RunReads old new account (target_of (Ok (ToRun plan telling)) (events n)) (events n)
  reads_with n new is = subst (λ (d : Option Target). RunReads old new account d (events n)) (sym (target_is n)) is

  -- the first event as it is, and not as it is told
  abbrev done : Event
  done = first_event plan.first_session first.strokes first.reply

  -- what is told of the strokes is all of them
  strokes_are : (n : ℕ) → strokes_of (events n) ≡ strokes_of (done ∷ (turns plan first.now n).0)
  strokes_are n =
      let whole : List Event = done ∷ (turns plan first.now n).0 in
      sym (strokes_in_steps (events n)) ∙ ap strokes_in (ap steps_of (told_cons telling pages done (turns plan first.now n).0) ∙ told_steps telling pages whole) ∙ strokes_in_steps whole

  -- the first statement begins no backup
  guids_are : (n : ℕ) → guids_in (strokes_of (turns plan first.now n).0) ≡ guids_in (strokes_of (events n))
  unfolding strokes_of
  guids_are n =
      let more : List Stroke = strokes_of (turns plan first.now n).0 in
      sym (ap guids_in (strokes_are n) ∙ guids_append first.strokes more ∙ ap (λ (l : List (List ℕ)). l ++ guids_in more) first.none)

  -- it ended early, in the first statement
  pub first_fails : (new : World) (e : RunError) → HasSmallScn account (Some first.target) ⊎ Quiet old new → ((n : ℕ) → AtEachMoment old new (Left n)) → ((n : ℕ) → RunReads old new account (Some first.target) (events n))
      → RunsTo (Err e) old new (Ok (ToRun plan telling)) account given
  first_fails new e opened stops reads =
      let end = first_ends plan askable first.now first.todo in
      record {
        events = events end.0;
        last = (turns plan first.now end.0).1.account;
        left = (turns plan first.now end.0).1.given;
        performed = performed end.0 end.1;
        opened = ⊎_elim (λ small. inl (opened_with end.0 small)) inr opened;
        stops = with_target end.0 old new (stops end.0);
        reads = reads_with end.0 new (reads end.0);
        finished = tt;
      }

  -- The first statement was done: it touched no other file, said nothing and asked for nothing.
  module _ (mid new : World) (alone : Untouched old mid (Other (OfFiles name))) (read : (m : List ℕ) → Other (OfFiles name) m → mid.files m ≡ old.files m) (silent : mid.said ≡ old.said) (gave : GaveNothing old mid)
      (opens : first.strokes ≡ [] → mid.files ≡ old.files) (stops : (n : ℕ) → AtEachMoment old mid (Left n)) (held after : Held) (named : name_of held ≡ name) (small : HasSmallScn account (Some first.target)) where
    abbrev made : ℕ → List MadeFile
    made n = files_made (turns plan first.now n).0

    -- the first statement makes no file
    made_is : (n : ℕ) → files_made (events n) ≡ made n
    made_is n = made_behind first_one (later n) (told_first_made telling (first_event plan.first_session first.strokes first.reply)) ∙ later_files telling pages (turns plan first.now n).0

    -- a name that is neither the database's nor that of a file that is made
    outside : (n : ℕ) (m : List ℕ) → Other (OfFiles name) m → IsNoneOf (files_made (events n)) m → Other (Touched name (made n)) m
    outside n m other none (inl own) = other own
    outside n m other none (inr one) = none one.0 (subst (λ (files : List MadeFile). Contains files (m, one.0)) (sym (made_is n)) one.1)

    -- while turns are taken after it
    left_behind : (n : ℕ) → AreApart name (made n) → (files : Files) (said : List ℕ) → StopLeft mid name (settled start) (events n) (made n) files said → Left n files said
    left_behind n apart files said left = record {
      out = record { part = left.out.part; is = left.out.is ∙ ap (λ (l : List ℕ). l ++ left.out.part) silent; front = left.out.front };
      count = left.count;
      front = left.front;
      database = inl left.database;
      each = λ m bytes there.
          let its : Contains (made n) (m, bytes) = subst (λ (files : List MadeFile). Contains files (m, bytes)) (made_is n) there in
          ⊎_elim (λ was. inl (left_before old mid _ alone m (files m) (apart m bytes its) was)) inr (left.each m bytes its);
      whole = left.whole;
      begun = left.begun;
      others = λ m other none. left_before old mid _ alone m (files m) other (left.others m (outside n m other none));
    }

    stops_behind : (n : ℕ) → AreApart (name_of held) (made n) → AtEachMoment mid new (StopLeft mid (name_of held) (settled start) (events n) (made n)) → AtEachMoment old new (Left n)
    stops_behind n apart behind =
        joined old mid new _ _ _ (stops n) behind (λ files said left. left)
        (λ files said left.
        left_behind n (subst (λ (m : List ℕ). AreApart m (made n)) named apart) files said
        (subst (λ (m : List ℕ). StopLeft mid m (settled start) (events n) (made n) files said) named left))

    -- what reads then
    module _ (timely : IsTimely new) (reads : (m : List ℕ) → Leaves new m (new.files m)) where
      reads_behind : (n : ℕ) → AtEachMoment mid new (StopLeft mid (name_of held) (settled start) (events n) (made n)) → ((m : List ℕ) → Other (Touched (name_of held) (made n)) m → new.files m ≡ mid.files m)
          → (list_all only_told (later n) ≡ true → new.files ≡ mid.files) → RunReads old new account (Some first.target) (events n)
      reads_behind n behind beside same =
          let here : StopLeft mid (name_of held) (settled start) (events n) (made n) new.files new.said = behind.each new.files new.said (timely.counts_now mid.moment new.files behind.later reads) in
          record {
            others = λ m other none. beside m (λ one. outside n m other none (subst (λ (k : List ℕ). Touched k (made n) m) named one)) ∙ read m other;
            database = inl (here.count, subst (λ (m : List ℕ). StandsIn m (after_steps (settled start) (take here.count (steps_of (events n)))) new.files) named here.database);
            unchanged = λ only.
                let both = both_true (only_opens first_one) (list_all only_told (later n)) only in
                same both.1 ∙ opens (sym (told_strokes telling (first_event plan.first_session first.strokes first.reply)) ∙ opens_without first_one both.0);
          }

    -- the turns ended early
    pub begun_fails : IsTimely new → ((m : List ℕ) → Leaves new m (new.files m)) → (e : RunError) {f : RunError} → PlaysOpened (Err f) mid new held after start first_one telling pages first.now plan → RunsTo (Err e) old new (Ok (ToRun plan telling)) account given
    begun_fails timely reads e plays = record {
      events = events plays.how_often;
      last = (turns plan first.now plays.how_often).1.account;
      left = (turns plan first.now plays.how_often).1.given;
      performed = performed plays.how_often plays.finished;
      opened = inl (opened_with plays.how_often small);
      stops = with_target plays.how_often old new (stops_behind plays.how_often plays.plays.apart plays.plays.stops);
      reads = reads_with plays.how_often new (reads_behind timely reads plays.how_often plays.plays.stops plays.plays.others_read plays.unchanged);
      finished = tt;
    }

    -- all turns were taken
    pub begun_runs : IsTimely new → ((m : List ℕ) → Leaves new m (new.files m)) → (refused : Bool) (status : Status) → number_of status ≡ (if refused then 1 else 0) → NoPageWaits after → PlaysOpened (Ok refused) mid new held after start first_one telling pages first.now plan → RunsTo (Ok status) old new (Ok (ToRun plan telling)) account given
    begun_runs timely reads refused status number none plays = record {
      events = events n;
      last = (turns plan first.now n).1.account;
      left = (turns plan first.now n).1.given;
      performed = performed n plays.finished;
      opened = inl (opened_with n small);
      stops = with_target n old new (stops_behind n plays.plays.apart plays.plays.stops);
      reads = reads_with n new (reads_behind timely reads n plays.plays.stops plays.plays.others_read plays.unchanged);
      finished = subst (λ (d : Option Target). Finished status old new account d (events n) given (turns plan first.now n).1.given) (sym (target_is n)) its_end;
    }
      where
        n : ℕ
        n = plays.how_often

        open_then : IsOpen new after (seen_after account name (steps_of (events n)))
        open_then = plays.plays.done.ready.opened

        after_is : name_of after ≡ name
        after_is = plays.plays.name ∙ named

        ended : IsEnded new name (seen_after account name (steps_of (events n)))
        ended = subst (λ (m : List ℕ). IsEnded new m (seen_after account name (steps_of (events n)))) after_is (record { shows = shown new after (seen_after account name (steps_of (events n))) none open_then; left = open_then.files.left })

        its_end : Finished status old new account (Some first.target) (events n) given (turns plan first.now n).1.given
        its_end = record {
          said = plays.plays.done.said ∙ ap (λ (l : List ℕ). l ++ output (events n)) silent;
          ended = number ∙ sym plays.plays.done.status;
          gave = given_from old mid new given (turns plan first.now n).1.given gave (subst (λ (g : Given). WasGiven mid new g (turns plan first.now n).1.given) first.given_is plays.plays.done.given);
          database = ended;
          kept = plays.plays.done.kept;
          guids = λ more. plays.guids more ∙ ap (λ (l : List (List ℕ)). l ++ guids_in (strokes_of (turns plan first.now n).0)) gave.guids ∙ ap (λ (l : List (List ℕ)). old.guids ++ l) (guids_are n);
        }
