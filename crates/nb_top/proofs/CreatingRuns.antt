-- A run whose first statement creates its database.
use Rattle.std.proofs.Common.{◌≡◌, ◌≢◌, inl, inr, ⊎_elim, ℕ, List, [], ◌∷◌, ◌++◌, length, take, true, false, refl, sym, ap, subst, ◌∙◌, arith, Bool, None, Some, Result, Ok, Err, Contains, IfOk}
use Rattle.nb_top.proofs.Common.{true≢false, append-nil, take-append-le, take_all, is_free_file, fresh, Files, is_delta, World, Leaves, AtEachMoment, Fault, Refused, Refusal, FileExists, RunError, ChangedLeft, Only, weaker, untouched_fewer, is_free_name, Quiet, Pages, Statement, CreateDb, Base, IsBase, base_of, Account, is_free_entry, IsMaking, Image, MadeFile, IsNoneOf, Given, delta_name, Event, IsRun, Opening, base_now, files_made, opening, rounds, Step, steps_in, steps_of, Trail, ShowsIn, StandsIn, settled, created, not_created, run_ends, no_main, acked_steps_none, steps_append, steps_length, steps_one, shows_settled, IsWell, OfFiles, Creates, CreateAnswers, Held, IsOpen, IsAskable, FitsFirst, Plan, MadeLeft, IsSaid, leaves_among, leaves_changes, cache_asked, KnowsNames, MayBeGiven, ReadsAsked, RunReads, RunsTo, HasSmallScn, first_event, opened_reply, pages_first, refused_at, seen_after, target_of, StillWhereOpened, Telling, ToRun, both_true, list_all, only_opens, only_told}
use Rattle.nb_model.specs.declared.reply.Reply.TheVariants.{Refused as RefusedReply}
use Rattle.nb_model.proofs.FreshImageLaws.{fresh_length}
use Rattle.nb_model.proofs.WellLaws.{fresh_well_base}
use Rattle.nb_base.specs.Beginnings.{CreateLeft, CreateReads}
use Rattle.nb_state.specs.Beginnings.{IsCreated}
use Rattle.nb_top.proofs.QuietRuns.{left_quietly}
use Rattle.nb_top.proofs.ReadsLaws.{reads_quiet}
use Rattle.nb_top.proofs.FirstLaws.{First, first_created, first_strikes, created_base, turns}
use Rattle.nb_top.proofs.FirstReady.{IsBehind, apart_play, base_name, begins_making, first_ready}
use Rattle.nb_top.proofs.MadeRuns.{made_behind, none_begun, none_first, none_yet, open_first}
use Rattle.nb_top.proofs.BegunRuns.{Left, events, first_one, first_fails, opens_without, told_strokes}
use Rattle.nb_top.proofs.BegunRuns.{later as later_told}
use Rattle.nb_top.proofs.ByTurnsLaws.{OpensBeside, beside_none, beside_now}
use Rattle.nb_top.proofs.Beginnings.{Beginning, FirstRefused, FirstDone}
use Rattle.nb_top.proofs.ToldLaws.{Ran, later_files, told_first_made, told_first_steps, performed_refused}
use Rattle.nb_top.proofs.ChainRefusals.{exists_usage}

module _ (old : World) (account : Account) (given : Given) (plan : Plan) (telling : Telling) (askable : IsAskable plan) (name : List ℕ) (size raw cache : ℕ) (first_is : plan.first ≡ CreateDb name size raw cache)
    (names : KnowsNames old.files account) where
  fits : FitsFirst (CreateDb name size raw cache)
  fits = subst FitsFirst first_is askable.first.fits

  plain : is_delta name ≡ false
  plain = (base_name name fits.0).plain

  knows : is_free_name old.files name ≡ is_free_entry (account.entry name)
  knows = names name plain

  abbrev image : Image
  image = fresh size raw

  -- the name isn't free
  taken_ran : is_free_entry (account.entry name) ≡ false → Ran account given plan (refused_at plan.first_session (FileExists name)) account given
  taken_ran taken =
      subst (λ (first : Statement). IsRun account given plan.first_session first plan.schedule plan.sessions (refused_at plan.first_session (FileExists name)) account given) (sym first_is)
      (run_ends account given plan.first_session (CreateDb name size raw cache) plan.schedule plan.sessions (RefusedReply (FileExists name)) (not_created account given plan.sessions plan.first_session name size raw cache taken))

  taken_ends : is_free_entry (account.entry name) ≡ false → (opening account given plan.sessions plan.first_session plan.first).now ≡ None
  taken_ends taken =
      ap (λ (s : Statement). (opening account given plan.sessions plan.first_session s).now) first_is
      ∙ ap (λ (o : Opening). o.now) (not_created account given plan.sessions plan.first_session name size raw cache taken)

  taken_fails : (new : World) (e : RunError) → is_free_entry (account.entry name) ≡ false → Quiet old new → RunsTo (Err e) old new (Ok (ToRun plan telling)) account given
  taken_fails new e taken quiet = record {
    events = refused_at plan.first_session (FileExists name);
    last = account;
    left = given;
    performed = performed_refused telling plan account given plan.first_session (FileExists name) account given (taken_ran taken);
    opened = inl tt;
    stops = left_quietly old new account (target_of (Ok (ToRun plan telling)) (refused_at plan.first_session (FileExists name))) _ quiet;
    reads = reads_quiet old new quiet account _ _;
    finished = tt;
  }

  module _ (free : is_free_entry (account.entry name) ≡ true) where
    abbrev first : First account given plan
    first = first_created account given plan name size raw cache first_is free

    -- it opens none
    small : HasSmallScn account (Some first.target)
    unfolding first_created
    small e = absurd (true≢false e)

    -- the account after it
    created_behind : IsBehind account name first.now
    unfolding first_created
    created_behind =
        let one = created account given plan.sessions plan.first_session name size raw cache free in
        record {
          here = ap (λ (a : Account). a.entry name) one.account_is ∙ one.here ∙ ap IsBase (sym one.base);
          others = λ m other. ap (λ (a : Account). a.entry m) one.account_is ∙ one.others m other;
        }

    abbrev es : ℕ → List Event
    es n = events old account given plan telling askable first n

    abbrev one : Event
    one = first_one old account given plan telling askable first

    abbrev later : ℕ → List Event
    later n = later_told old account given plan telling askable first n

    making : MayBeGiven given → IsMaking first.now
    making may =
        begins_making plan askable first.now first.todo (record { header = well.header; scn = well.scn }) (omega (arith, well.state)) (λ stalled. absurd (omega (arith, stalled, well.state)))
        (subst MayBeGiven (sym first.given_is) may)
      where
        well : IsWell [] (base_now first.now).image
        well = subst (λ (b : Base). IsWell [] b.image) (sym (created_base account given plan name size raw cache first_is free)) (fresh_well_base [] size raw fits.1 fits.2).well

    -- its turns make no file of its name
    apart : MayBeGiven given → (n : ℕ) (m bytes : List ℕ) → Contains (files_made (es n)) (m, bytes) → m ≢ name
    unfolding first_created
    apart may n m bytes there same =
        let its : Contains (files_made (turns plan first.now n).0) (m, bytes) =
        subst (λ (made : List MadeFile). Contains made (m, bytes))
        (made_behind one (later n) (told_first_made telling (first_event plan.first_session first.strokes first.reply)) ∙ later_files telling (pages_first account plan.first) (turns plan first.now n).0) there in
        apart_play plan askable first.now first.todo (making may) (plan.schedule ++ rounds n) m bytes its (inl (same ∙ sym first.name_is))

    -- all steps of the creation
    made_cut : (n : ℕ) → take (length (steps_in one)) (steps_of (es n)) ≡ steps_in one
    made_cut n =
        ap (take (length (steps_in one))) (steps_append (one ∷ []) (later n) ∙ ap (λ (ss : List Step). ss ++ steps_of (later n)) (steps_one one))
        ∙ take-append-le (length (steps_in one)) (steps_in one) (steps_of (later n)) (omega arith) ∙ take_all (length (steps_in one)) (steps_in one) (omega arith)

    made_seen : (n : ℕ) → seen_after account name (take (length (steps_in one)) (steps_of (es n))) ≡ settled (base_of image)
    unfolding first_created
    made_seen n =
        ap (seen_after account name) (made_cut n) ∙ ap (seen_after account name) (told_first_steps telling (first_event plan.first_session first.strokes first.reply)) ∙ first.trail
        ∙ ap settled (created_base account given plan name size raw cache first_is free)

    -- while it is created
    left_creating : MayBeGiven given → (n : ℕ) (files : Files) (said : List ℕ) → ChangedLeft old (Only name) (CreateLeft old name image) files said → Left old account given plan telling askable first n files said
    unfolding first_created
    left_creating may n files said left = ⊎_elim was (⊎_elim unfinished whole) left.has
      where
        out : IsSaid old (es n) said
        out = record { part = []; is = left.output ∙ sym (append-nil old.said); front = refl }

        each : MadeLeft old (files_made (es n)) files
        each m bytes there = inl (left.others m (apart may n m bytes there))

        unasked : (m : List ℕ) → (OfFiles name m → ⊥) → IsNoneOf (files_made (es n)) m → Leaves old m (files m)
        unasked m other none = left.others m (λ e. other (inl e))

        beside : Leaves old (delta_name name) (files (delta_name name))
        beside = left.others (delta_name name) (no_main name name plain)

        was : Leaves old name (files name) → Left old account given plan telling askable first n files said
        was is = record {
          out = out;
          count = 0;
          front = record { most = omega arith; acknowledged = omega (arith, acked_steps_none (es n)); unsaid = omega arith };
          database = inr (record { none = refl; unsaid = refl; main = inl is; delta = beside });
          each = each;
          whole = λ m bytes there. absurd (none_yet (es n) (m, bytes) there);
          begun = λ m bytes there. absurd (none_begun (es n) (m, bytes) there);
          others = unasked;
        }

        unfinished : is_free_file (files name) ≡ true → Left old account given plan telling askable first n files said
        unfinished is = record {
          out = out;
          count = 0;
          front = record { most = omega arith; acknowledged = omega (arith, acked_steps_none (es n)); unsaid = omega arith };
          database = inr (record { none = refl; unsaid = refl; main = inr (refl, is); delta = beside });
          each = each;
          whole = λ m bytes there. absurd (none_yet (es n) (m, bytes) there);
          begun = λ m bytes there. absurd (none_begun (es n) (m, bytes) there);
          others = unasked;
        }

        whole : ShowsIn name (base_of image) files → Left old account given plan telling askable first n files said
        whole is = record {
          out = out;
          count = length (steps_in one);
          front = record {
            most = omega (arith, steps_length (one ∷ []) (later n), ap length (steps_one one));
            acknowledged = omega (arith, acked_steps_none (es n));
            unsaid = open_first one (later n) 0;
          };
          database = inl (subst (λ (t : Trail). StandsIn name t files) (sym (made_seen n)) (shows_settled name (base_of image) (files name) (files (delta_name name)) is));
          each = each;
          whole = λ m bytes there. absurd (none_yet (es n) (m, bytes) there);
          begun = λ m bytes there. absurd (none_first one (later n) (told_first_made telling (first_event plan.first_session first.strokes first.reply)) (m, bytes) there);
          others = unasked;
        }

    -- what reads then
    reads_creating : (mid : World) (n : ℕ) → ((m : List ℕ) → m ≢ name → mid.files m ≡ old.files m) → CreateReads old name image mid.files → RunReads old mid account (Some first.target) (es n)
    unfolding first_created
    reads_creating mid n beside reads = record {
      others = λ m other none. beside m (λ e. other (inl e));
      database = by reads;
      unchanged = λ only.
          let both = both_true (only_opens one) (list_all only_told (later n)) only in
          absurd (first_strikes account given plan name size raw cache first_is free (sym (told_strokes telling (first_event plan.first_session first.strokes first.reply)) ∙ opens_without one both.0));
    }
      where
        none_beside : mid.files (delta_name name) ≡ old.files (delta_name name)
        none_beside = beside (delta_name name) (no_main name name plain)

        by : CreateReads old name image mid.files → ReadsAsked old mid account (Some first.target) (es n)
        by (inl same) = inr (record { main = inl same; delta = none_beside })
        by (inr (inl free)) = inr (record { main = inr (refl, free); delta = none_beside })
        by (inr (inr shows)) = inl (
          length (steps_in one),
          subst (λ (t : Trail). StandsIn name t mid.files) (sym (made_seen n)) (shows_settled name (base_of image) (mid.files name) (mid.files (delta_name name)) shows),
        )

  -- nothing happened, whatever the run must have been
  pub creating_unbegun : (new : World) (e : RunError) → Quiet old new → RunsTo (Err e) old new (Ok (ToRun plan telling)) account given
  unfolding first_created
  creating_unbegun new e quiet = by (is_free_entry (account.entry name)) refl
    where
      by : (free : Bool) → is_free_entry (account.entry name) ≡ free → RunsTo (Err e) old new (Ok (ToRun plan telling)) account given
      by true is = first_fails old account given plan telling askable (first is) new e (inl (small is)) (λ n. left_quietly old new account _ _ quiet) (λ n. reads_quiet old new quiet account _ _)
      by false is = taken_fails new e is quiet

  module _ (may : MayBeGiven given) (mid : World) (result : Result Held Fault) (creates : Creates result old mid name image) (cap : IfOk result (λ held. held.cap ≡ cache_asked plan.first)) where
    creating : (free : is_free_entry (account.entry name) ≡ true) (n : ℕ) → AtEachMoment old mid (Left old account given plan telling askable (first free) n)
    creating free n = weaker old mid _ _ creates.left.moments (left_creating free may n)

    reading : (free : is_free_entry (account.entry name) ≡ true) (n : ℕ) → RunReads old mid account (Some (first free).target) (es free n)
    reading free n = reads_creating free mid n creates.left.others_read creates.reads

    pub creates_begins : Beginning old account given plan telling askable mid result
    unfolding first_created
    creates_begins = record { fails = fails; refused = refused; done = done; beside = by_free (is_free_entry (account.entry name)) refl }
      where
        by_free : (free : Bool) → is_free_entry (account.entry name) ≡ free → OpensBeside old mid account given plan
        by_free true is =
            let one : First account given plan = first is in
            let own : name ≡ one.now.name = sym one.name_is in
            beside_now old mid account given plan one.now one.goes_on
            (leaves_among old mid (Only name) (OfFiles one.now.name) (λ m same. inl (same ∙ own)) (leaves_changes old mid (Only name) _ creates.left))
            (subst (λ (s : Statement). StillWhereOpened s old mid) (sym first_is) tt)
        by_free false is = beside_none old mid account given plan (taken_ends is) (creates.taken (knows ∙ is)).still.files

        fails : (e : RunError) → RunsTo (Err e) old mid (Ok (ToRun plan telling)) account given
        fails e = by (is_free_entry (account.entry name)) refl
          where
            by : (free : Bool) → is_free_entry (account.entry name) ≡ free → RunsTo (Err e) old mid (Ok (ToRun plan telling)) account given
            by true is = first_fails old account given plan telling askable (first is) mid e (inl (small is)) (creating is) (reading is)
            by false is = taken_fails mid e is (creates.taken (knows ∙ is))

        refused : (refusal : Refusal) → result ≡ Err (Refused refusal) → FirstRefused old mid account given plan refusal
        refused refusal is =
            let answer : CreateAnswers (Err (Refused refusal)) old mid name image = subst (λ (r : Result Held Fault). CreateAnswers r old mid name image) is creates.answer in
            record {
              quiet = creates.taken answer.0;
              ran = subst (λ (r : Refusal). Ran account given plan (refused_at plan.first_session r) account given) (sym answer.1) (taken_ran (sym knows ∙ answer.0));
              ends = taken_ends (sym knows ∙ answer.0);
              not_usage = λ e. exists_usage name (sym answer.1 ∙ e);
            }

        done : (held : Held) → result ≡ Ok held → FirstDone old mid account given plan telling askable held
        done held is =
            let answer : IsCreated held old mid name image = subst (λ (r : Result Held Fault). CreateAnswers r old mid name image) is creates.answer in
            let free : is_free_entry (account.entry name) ≡ true = sym knows ∙ answer.was_free in
            let one : First account given plan = first free in
            let base : base_now one.now ≡ base_of image = created_base account given plan name size raw cache first_is free in
            record {
              first = one;
              says = ap Pages (sym (answer.opened.files.agrees.count ∙ fresh_length size raw)) ∙ ap (λ (s : Statement). opened_reply s held.files.count held.files.state) (sym first_is);
              counted = answer.opened.files.agrees.count ∙ fresh_length size raw ∙ ap (pages_first account) (sym first_is);
              ready = first_ready old mid account name plain names one.now one.name_is (created_behind free) held answer.named (answer.nothing_runs ∙ sym one.running) (subst (λ (r : Result Held Fault). IfOk r (λ h. h.cap ≡ cache_asked plan.first)) is cap ∙ sym one.cache_is) (λ m other. creates.left.others_read m (λ e. other (inl e)))
                  (subst (λ (b : Base). IsOpen mid held (settled b)) (sym base) answer.opened);
              making = making free may;
              named = answer.named;
              small = small free;
              alone = untouched_fewer old mid _ _ creates.left.others (λ m other e. other (inl e));
              read = λ m other. creates.left.others_read m (λ e. other (inl e));
              silent = creates.left.said;
              gave = creates.gave;
              opens = λ none. absurd (first_strikes account given plan name size raw cache first_is free none);
              stops = creating free;
            }
