-- A run whose script is written first: what a crash leaves of both, and what stands at the end.
use Rattle.std.proofs.Common.{◌≡◌, ◌≢◌, ◌⊎◌, ⊎_elim, inl, inr, ℕ, zero, suc, ◌-◌, ◌≤◌, List, [], ◌∷◌, ◌++◌, length, take, true, false, true≢false, refl, sym, ap, subst, ◌∙◌, arith, Bool, not, Option, Some, None, is_some, Result, Ok, Err, IfOk, OnOk, Contains}
use Rattle.nb_top.proofs.Common.{append-nil, is_free_file, File, Files, with_file, is_delta, World, Leaves, LeavesAll, IsTimely, AtEachMoment, Refusal, FileExists, RunError, Changes, ChangedLeft, Only, Remade, GaveNothing, left_with, joined, left_before, weaker, decide, with_file-same, is_free_name, Quiet, Plain, Entry, Account, is_free_entry, not_free, generated, line_text, MadeFile, IsNoneOf, Given, output, status_after, status_of, delta_name, guids_in, Event, files_made, replies_of, strokes_of, Step, made, steps_of, after_steps, acked_steps, acked_turns, Stroke, base_in, Trail, StandsIn, settled, output-quiet, entry_same, entry_other, no_main, acked_steps_none, status_refused, IsKept, IsUnfinishedOr, Plan, script_of, SaysLine, creates_its_own, generated_text, text_in_use, Status, Sparingly, number_of, EndsIn, Finished, ReadsAsked, RunReads, HasSmallScn, IsEnded, IsPerformed, IsReadRun, IsUnasked, Knows, KnowsNames, KnowsOpened, MayBeGiven, RunLeft, RunsTo, StandsAsked, Target, begins_refused, refused_at, script_made, seen_after, target_named, target_of, Request, ToGenerate, ToRun, begun_turns, free_same, open_steps, open_turns}
use Rattle.nb_change.proofs.SettledLaws.{durable_is}
use Rattle.nb_page.proofs.FreeLaws.{is_free_name-false}
use Rattle.nb_model.specs.declared.reply.Reply.TheVariants.{Refused}
use Rattle.nb_ended.specs.declared.status.Status.TheVariants.{Refused as RefusedStatus}
use Rattle.nb_top.proofs.GeneratedEvents.{IsApart, SomeRun, its_database, its_target, read_run, script_apart, some_run, with_script}
use Rattle.nb_top.proofs.MadeRuns.{first_or, no_file, none_begun, none_yet}
use Rattle.nb_top.proofs.QuietRuns.{given_from, left_quietly, runs_quietly}
use Rattle.nb_top.proofs.ReadsLaws.{reads_quiet}
use Rattle.nb_top.proofs.RefusedRuns.{refused_runs}
use Rattle.nb_top.proofs.ChainRefusals.{exists_usage}

-- the file, and what a run does after it
module _ (name bytes : List ℕ) (es : List Event) where
  abbrev event : Event
  event = script_made name bytes

  abbrev pub all : List Event
  all = event ∷ es

  output_is : output all ≡ output es
  output_is = output-quiet event es refl

  steps_are : steps_of all ≡ steps_of es
  unfolding steps_of made
  steps_are = refl

  files_are : files_made all ≡ (name, bytes) ∷ files_made es
  unfolding files_made
  files_are = refl

  status_is : status_of (replies_of all) ≡ status_of (replies_of es)
  unfolding replies_of
  status_is = refl

  -- how many turns are acknowledged
  acked_is : (said : ℕ) → acked_turns all said ≡ elim (acked_turns es said) as (λ z. ℕ) [ zero ↦ 0 | suc n ↦ suc (suc n) ]
  unfolding acked_turns
  acked_is said = refl

  steps_acked : (said : ℕ) → acked_steps all said ≡ acked_steps es said
  unfolding steps_of made
  steps_acked said = ap (λ (k : ℕ). length (steps_of (take k all))) (acked_is said) ∙ by (acked_turns es said)
    where
      by : (k : ℕ) → length (steps_of (take (elim k as (λ z. ℕ) [ zero ↦ 0 | suc n ↦ suc (suc n) ]) all)) ≡ length (steps_of (take k es))
      by zero = refl
      by (suc n) = refl

  -- of the files that are whole then, the first is that of the script
  whole_then : (said : ℕ) (file : MadeFile) → Contains (files_made (take (acked_turns all said) all)) file → (file ≡ (name, bytes)) ⊎ Contains (files_made (take (acked_turns es said) es)) file
  unfolding files_made
  whole_then said file there = by (acked_turns es said) (subst (λ (k : ℕ). Contains (files_made (take k all)) file) (acked_is said) there)
    where
      by : (k : ℕ) → Contains (files_made (take (elim k as (λ z. ℕ) [ zero ↦ 0 | suc n ↦ suc (suc n) ]) all)) file → (file ≡ (name, bytes)) ⊎ Contains (files_made (take k es)) file
      by zero c = inr c
      by (suc n) c = first_or (name, bytes) file (files_made (take (suc n) es)) c

  -- how many steps may have been made
  steps_open : (said : ℕ) → open_steps all said ≡ open_steps es said
  unfolding open_turns steps_of made
  steps_open said = refl

  -- of the files of turns that have begun, the first is that of the script
  begun_then : (count : ℕ) (file : MadeFile) → Contains (files_made (take (begun_turns all count) all)) file → (file ≡ (name, bytes)) ⊎ Contains (files_made (take (begun_turns es count) es)) file
  unfolding begun_turns files_made made
  begun_then zero file there = absurd (no_file file there)
  begun_then (suc n) file there =
      let same : suc n - 0 ≡ suc n = omega arith in
      first_or (name, bytes) file (files_made (take (begun_turns es (suc n)) es)) (subst (λ (k : ℕ). Contains {X = MadeFile} ((name, bytes) ∷ files_made (take (begun_turns es k) es)) file) same there)

-- The file was made, and then a run made these events, none of which makes a file of its name.
module _ (old mid : World) (account : Account) (name bytes : List ℕ) (plain : is_delta name ≡ false) (written : Changes old mid (Only name) (Remade old name (IsUnfinishedOr bytes)))
    (target : Option Target) (apart : IsApart target name) (es : List Event) (none : IsNoneOf (files_made es) name) where
  abbrev then : Account
  then = with_script name bytes account

  abbrev whole : List Event
  whole = all name bytes es

  -- what a crash leaves of another file, it would have left before
  before : (m : List ℕ) (file : File) → m ≢ name → Leaves mid m file → Leaves old m file
  before m file other left = left_before old mid _ written.others m file other left

  there : (m b : List ℕ) → Contains (files_made whole) (m, b) → ((m ≡ name) × (b ≡ bytes)) ⊎ Contains (files_made es) (m, b)
  there m b is =
      ⊎_elim (λ same. inl (ap (λ (f : MadeFile). f.0) same, ap (λ (f : MadeFile). f.1) same)) inr
      (first_or (name, bytes) (m, b) (files_made es) (subst (λ (files : List MadeFile). Contains files (m, b)) (files_are name bytes es) is))

  -- a file that the events make has another name
  other_made : (m b : List ℕ) → Contains (files_made es) (m, b) → m ≢ name
  other_made m b one same = none b (subst (λ (n : List ℕ). Contains (files_made es) (n, b)) same one)

  others_then : (m : List ℕ) → IsNoneOf (files_made whole) m → (m ≢ name) × IsNoneOf (files_made es) m
  others_then m off = (λ same. off bytes (first same), λ b one. off b (later b one))
    where
      first : m ≡ name → Contains (files_made whole) (m, bytes)
      first same = subst (λ (files : List MadeFile). Contains files (m, bytes)) (sym (files_are name bytes es)) (0, omega arith, ap (λ (n : List ℕ). (n, bytes)) (sym same))

      later : (b : List ℕ) → Contains (files_made es) (m, b) → Contains (files_made whole) (m, b)
      later b one = subst (λ (files : List MadeFile). Contains files (m, b)) (sym (files_are name bytes es)) (suc one.0, omega (arith, one.1), one.2)

  unasked : IsUnasked target name
  unasked = by target apart
    where
      by : (t : Option Target) → IsApart t name → IsUnasked t name
      by None off = tt
      by (Some t) off = (λ own. ⊎_elim (λ same. off (sym same)) (λ delta. no_main t.name name plain (sym delta)) own)

  -- while the file is made
  left_writing : (files : Files) (said : List ℕ) → ChangedLeft old (Only name) (Remade old name (IsUnfinishedOr bytes)) files said → RunLeft old account target whole files said
  left_writing files said left = record {
    out = record { part = []; is = left.output ∙ sym (append-nil old.said); front = refl };
    count = 0;
    front = record { most = omega arith; acknowledged = omega (arith, acked_steps_none whole); unsaid = omega arith };
    database = by target apart;
    each = λ m b is. ⊎_elim
        (λ own. subst (λ (n : List ℕ). Remade old n (IsUnfinishedOr b) files) (sym own.0) (subst (λ (x : List ℕ). Remade old name (IsUnfinishedOr x) files) (sym own.1) left.has))
        (λ one. inl (left.others m (other_made m b one)))
        (there m b is);
    whole = λ m b is. absurd (none_yet whole (m, b) is);
    begun = λ m b is. absurd (none_begun whole (m, b) is);
    others = λ m off made_none. left.others m (others_then m made_none).0;
  }
    where
      by : (t : Option Target) → IsApart t name → StandsAsked old account t whole 0 0 files
      by None off = tt
      by (Some t) off = inr (record { none = refl; unsaid = refl; main = inl (left.others t.name off); delta = left.others (delta_name t.name) (no_main t.name name plain) })

  -- it ended before all of that
  pub script_unwritten : AtEachMoment old mid (RunLeft old account target whole)
  script_unwritten = weaker old mid _ _ written.moments left_writing

  pub script_unread : RunReads old mid account target whole
  script_unread = record {
    others = λ m off made_none. written.others_read m (others_then m made_none).0;
    database = by target apart;
    unchanged = λ only. absurd (true≢false (sym only));
  }
    where
      by : (t : Option Target) → IsApart t name → ReadsAsked old mid account t whole
      by None off = tt
      by (Some t) off = inr (record { main = inl (written.others_read t.name off); delta = written.others_read (delta_name t.name) (no_main t.name name plain) })

  -- The file was kept for good.
  module _ (kept : IsKept mid name bytes) where
    -- the file itself
    its_file : (files : Files) (said : List ℕ) → RunLeft mid then target es files said → files name ≡ Some bytes
    its_file files said left = durable_is mid name (Some bytes) kept.durable (files name) (left.others name unasked none)

    seen_same : (t : Target) → t.name ≢ name → (steps : List Step) → seen_after then t.name steps ≡ seen_after account t.name steps
    seen_same t off steps = ap (λ (e : Entry). after_steps (settled (base_in e)) steps) (entry_other name t.name (Plain bytes None) account off)

    asked_then : (files : Files) (said count : ℕ) → StandsAsked mid then target es said count files → StandsAsked old account target whole said count files
    asked_then files said count = by target apart
      where
        by : (t : Option Target) → IsApart t name → StandsAsked mid then t es said count files → StandsAsked old account t whole said count files
        by None off is = tt
        by (Some t) off (inl stands) = inl (subst (λ (tr : Trail). StandsIn t.name tr files) (seen_same t off (take count (steps_of es)) ∙ ap (λ (ss : List Step). seen_after account t.name (take count ss)) (sym (steps_are name bytes es))) stands)
        by (Some t) off (inr unbegun) = inr (record {
          none = unbegun.none;
          unsaid = unbegun.unsaid;
          main = ⊎_elim (λ left. inl (before t.name (files t.name) off left)) inr unbegun.main;
          delta = before (delta_name t.name) (files (delta_name t.name)) (no_main t.name name plain) unbegun.delta;
        })

    -- while the events are made
    left_then : (files : Files) (said : List ℕ) → RunLeft mid then target es files said → RunLeft old account target whole files said
    left_then files said left = record {
      out = record {
        part = left.out.part;
        is = left.out.is ∙ ap (λ (l : List ℕ). l ++ left.out.part) written.said;
        front = left.out.front ∙ ap (take (length left.out.part)) (sym (output_is name bytes es));
      };
      count = left.count;
      front = record {
        most = subst (λ (ss : List Step). left.count ≤ length ss) (sym (steps_are name bytes es)) left.front.most;
        acknowledged = subst (λ (k : ℕ). k ≤ left.count) (sym (steps_acked name bytes es (length left.out.part))) left.front.acknowledged;
        unsaid = subst (λ (k : ℕ). left.count ≤ k) (sym (steps_open name bytes es (length left.out.part))) left.front.unsaid;
      };
      database = asked_then files (length left.out.part) left.count left.database;
      each = λ m b is. ⊎_elim
          (λ own. inr (inr (ap files own.0 ∙ its_file files said left ∙ ap Some (sym own.1))))
          (λ one. ⊎_elim (λ was. inl (before m (files m) (other_made m b one) was)) inr (left.each m b one))
          (there m b is);
      whole = λ m b is. ⊎_elim
          (λ own. ap files (ap (λ (f : MadeFile). f.0) own) ∙ its_file files said left ∙ ap Some (sym (ap (λ (f : MadeFile). f.1) own)))
          (λ one. left.whole m b one)
          (whole_then name bytes es (length left.out.part) (m, b) is);
      begun = λ m b is. ⊎_elim
          (λ own. ap files (ap (λ (f : MadeFile). f.0) own) ∙ its_file files said left ∙ ap Some (sym (ap (λ (f : MadeFile). f.1) own)))
          (λ one. left.begun m b one)
          (begun_then name bytes es left.count (m, b) is);
      others = λ m off made_none. let both = others_then m made_none in before m (files m) both.0 (left.others m off both.1);
    }

    pub script_reads : (new : World) → RunReads mid new then target es → RunReads old new account target whole
    script_reads new reads = record {
      others = λ m off made_none. let both = others_then m made_none in reads.others m off both.1 ∙ written.others_read m both.0;
      database = by target apart reads.database;
      unchanged = λ only. absurd (true≢false (sym only));
    }
      where
        by : (t : Option Target) → IsApart t name → ReadsAsked mid new then t es → ReadsAsked old new account t whole
        by None off is = tt
        by (Some t) off (inl stands) = inl (
          stands.0,
          subst (λ (tr : Trail). StandsIn t.name tr new.files) (seen_same t off (take stands.0 (steps_of es)) ∙ ap (λ (ss : List Step). seen_after account t.name (take stands.0 ss)) (sym (steps_are name bytes es))) stands.1,
        )
        by (Some t) off (inr unbegun) = inr (record {
          main = ⊎_elim (λ same. inl (same ∙ written.others_read t.name off)) inr unbegun.main;
          delta = unbegun.delta ∙ written.others_read (delta_name t.name) (no_main t.name name plain);
        })

    pub script_stops : (new : World) → AtEachMoment mid new (RunLeft mid then target es) → AtEachMoment old new (RunLeft old account target whole)
    script_stops new stops = joined old mid new _ _ _ written.moments stops left_writing left_then

    module _ (new : World) (timely : IsTimely new) (reads : (m : List ℕ) → Leaves new m (new.files m)) (stops : AtEachMoment mid new (RunLeft mid then target es)) where
      -- the file of the script stays as it is
      its_left : (c : File) → Leaves new name c → c ≡ Some bytes
      its_left c left =
          let files : Files = with_file new.files name c in
          let leaves : LeavesAll new files = left_with new name new.files c (λ m other. reads m) left in
          sym (with_file-same new.files name c) ∙ its_file files new.said (stops.each files new.said (timely.counts_now mid.moment files stops.later leaves))

      script_kept : IsKept new name bytes
      script_kept = record { durable = record { none_back = λ c b. its_left c (inl b); only = λ c n. its_left c (inr n) }; reads = its_left (new.files name) (reads name) }

      strokes_are : strokes_of whole ≡ strokes_of es
      unfolding strokes_of
      strokes_are = refl

      pub script_finished : (status : Status) (given left : Given) → GaveNothing old mid → Finished status mid new then target es given left → Finished status old new account target whole given left
      script_finished status given left gave done = record {
        said = done.said ∙ ap (λ (l : List ℕ). l ++ output es) written.said ∙ ap (λ (l : List ℕ). old.said ++ l) (sym (output_is name bytes es));
        ended = done.ended ∙ sym (status_is name bytes es);
        gave = given_from old mid new given left gave done.gave;
        database = by target apart done.database;
        kept = λ m b is. ⊎_elim
            (λ own. subst (λ (n : List ℕ). IsKept new n b) (sym own.0) (subst (λ (x : List ℕ). IsKept new name x) (sym own.1) script_kept))
            (λ one. done.kept m b one)
            (there m b is);
        guids = λ more. done.guids more ∙ ap (λ (l : List (List ℕ)). l ++ guids_in (strokes_of es)) gave.guids ∙ ap (λ (ss : List Stroke). old.guids ++ guids_in ss) (sym strokes_are);
      }
        where
          by : (t : Option Target) → IsApart t name → EndsIn new then t es → EndsIn new account t whole
          by None off is = tt
          by (Some t) off is = subst (λ (tr : Trail). IsEnded new t.name tr) (seen_same t off (steps_of es) ∙ ap (seen_after account t.name) (sym (steps_are name bytes es))) is

-- what is asked of the run after the file
abbrev pub read_request : Result Plan Refusal → Result Request Refusal
read_request (Ok plan) = Ok (ToRun plan Sparingly)
read_request (Err refusal) = Err refusal

module _ (old : World) (number : ℕ) (name : List ℕ) (account : Account) (given : Given) (plain : is_delta name ≡ false) (knows : KnowsNames old.files account) where
  abbrev bytes : List ℕ
  bytes = generated number

  abbrev asked : Result Request Refusal
  asked = Ok (ToGenerate number name)

  abbrev behind : Account
  behind = with_script name bytes account

  -- a database that is created is none that is opened
  small : (rest : List Event) → HasSmallScn account (its_target rest)
  small rest = by (begins_refused rest)
    where
      by : (refused : Bool) → HasSmallScn account (elim refused as (λ z. Option Target) [ true ↦ None | false ↦ Some its_database ])
      by true = tt
      by false = λ e. absurd (true≢false e)

  -- the name isn't free
  module _ (taken : is_free_entry (account.entry name) ≡ false) where
    cause : not_free name (account.entry name) ≡ Some (FileExists name)
    cause = ap (λ (free : Bool). elim (not free) as (λ z. Option Refusal) [ true ↦ Some (FileExists name) | false ↦ None ]) taken

    refused_performed : IsPerformed old.files asked account given (refused_at 1 (FileExists name)) account given
    refused_performed = rw (cause, IsPerformed) (refl, refl, refl)

    pub taken_fails : (new : World) (e : RunError) → Quiet old new → RunsTo (Err e) old new asked account given
    taken_fails new e quiet = record {
      events = refused_at 1 (FileExists name);
      last = account;
      left = given;
      performed = refused_performed;
      opened = inl tt;
      stops = left_quietly old new account (target_of asked (refused_at 1 (FileExists name))) (refused_at 1 (FileExists name)) quiet;
      reads = reads_quiet old new quiet account _ _;
      finished = tt;
    }

    taken_number : (result : Result Status RunError) → IfOk result (λ status. status ≡ RefusedStatus) → IfOk result (λ status. number_of status ≡ status_after (Refused (FileExists name)))
    taken_number (Ok status) ended = ap number_of ended ∙ sym (status_refused (FileExists name) (exists_usage name))
    taken_number (Err e) ended = tt

    pub taken_refused : {S E : Type 0} (told : Result S E) (result : Result Status RunError) (mid new : World) → Quiet old mid → SaysLine told mid new (line_text 1 (Refused (FileExists name))) → IfOk result (λ status. status ≡ RefusedStatus)
        → OnOk result (new.said ≡ mid.said ++ line_text 1 (Refused (FileExists name))) → RunsTo result old new asked account given
    taken_refused told result mid new quiet says ended said =
        runs_quietly result old mid new asked account given quiet
        (refused_runs mid new 1 (FileExists name) account given asked told result
        (subst (λ (files : Files). IsPerformed files asked account given (refused_at 1 (FileExists name)) account given) (sym quiet.still.files) refused_performed) says (taken_number result ended) said)

  -- it is
  module _ (free : is_free_entry (account.entry name) ≡ true) where
    none : not_free name (account.entry name) ≡ None
    none = ap (λ (is : Bool). elim (not is) as (λ z. Option Refusal) [ true ↦ Some (FileExists name) | false ↦ None ]) free

    written_performed : (rest : List Event) (last : Account) (left : Given) → IsReadRun (script_of bytes) Sparingly behind given rest last left → IsPerformed old.files asked account given (script_made name bytes ∷ rest) last left
    written_performed rest last left run = rw (none, IsPerformed) (record { rest = rest; is = refl; run = run })

    -- nothing happened
    free_fails : (new : World) (e : RunError) → Quiet old new → RunsTo (Err e) old new asked account given
    free_fails new e quiet =
        let some : SomeRun number behind given = some_run number behind given in
        record {
          events = script_made name bytes ∷ some.rest;
          last = some.last;
          left = some.left;
          performed = written_performed some.rest some.last some.left some.run;
          opened = inl (small some.rest);
          stops = left_quietly old new account (its_target some.rest) (script_made name bytes ∷ some.rest) quiet;
          reads = reads_quiet old new quiet account (its_target some.rest) (script_made name bytes ∷ some.rest);
          finished = tt;
        }

    apart_of : MayBeGiven given → (rest : List Event) (last : Account) (left : Given) → IsReadRun (script_of bytes) Sparingly behind given rest last left → IsApart (its_target rest) name × IsNoneOf (files_made rest) name
    apart_of sixteen rest last left run = script_apart number name account rest last (read_run number behind given sixteen rest last left run)

    -- the account knows of the file
    knows_behind : (mid : World) → Changes old mid (Only name) (Remade old name (IsUnfinishedOr bytes)) → IsKept mid name bytes → KnowsNames mid.files behind
    unfolding is_free_entry
    knows_behind mid written kept m m_plain = elim (decide m name) [
      | inl same ↦ ap (is_free_name mid.files) same ∙ is_free_name-false mid.files name (ap is_free_file kept.reads ∙ text_in_use bytes (generated_text number))
          ∙ sym (ap (λ (n : List ℕ). is_free_entry (behind.entry n)) same ∙ ap is_free_entry (entry_same name (Plain bytes None) account) ∙ text_in_use bytes (generated_text number))
      | inr off ↦ free_same old.files mid.files m (written.others_read m off) (ap is_some (written.others_read (delta_name m) (no_main m name plain))) ∙ knows m m_plain
          ∙ ap is_free_entry (sym (entry_other name m (Plain bytes None) account off))
    ]

    -- what is asked of it before the script is run
    pub knows_script : (mid : World) → Changes old mid (Only name) (Remade old name (IsUnfinishedOr bytes)) → IsKept mid name bytes → (plan : Plan) → script_of bytes ≡ Ok plan → Knows mid.files behind (Ok (ToRun plan Sparingly))
    knows_script mid written kept plan read = (knows_behind mid written kept, subst (KnowsOpened mid.files behind) (sym (creates_its_own number plan read)) tt)

    module _ (sixteen : MayBeGiven given) (mid : World) (written : Changes old mid (Only name) (Remade old name (IsUnfinishedOr bytes))) where
      -- the file was made, or some of it
      pub writing_fails : (e : RunError) → RunsTo (Err e) old mid asked account given
      writing_fails e =
          let some : SomeRun number behind given = some_run number behind given in
          let apart = apart_of sixteen some.rest some.last some.left some.run in
          record {
            events = script_made name bytes ∷ some.rest;
            last = some.last;
            left = some.left;
            performed = written_performed some.rest some.last some.left some.run;
            opened = inl (small some.rest);
            stops = script_unwritten old mid account name bytes plain written (its_target some.rest) apart.0 some.rest apart.1;
            reads = script_unread old mid account name bytes plain written (its_target some.rest) apart.0 some.rest apart.1;
            finished = tt;
          }

      module _ (kept : IsKept mid name bytes) where
        module _ (gave : GaveNothing old mid) (new : World) (timely : IsTimely new) (reads : (m : List ℕ) → Leaves new m (new.files m)) where
          -- the run after it is that of the whole
          whole_runs : (result : Result Status RunError) (rest : List Event) (last : Account) (left : Given) → IsReadRun (script_of bytes) Sparingly behind given rest last left → AtEachMoment mid new (RunLeft mid behind (its_target rest) rest)
              → RunReads mid new behind (its_target rest) rest → IfOk result (λ status. Finished status mid new behind (its_target rest) rest given left) → RunsTo result old new asked account given
          whole_runs result rest last left run stops beside finished =
              let apart = apart_of sixteen rest last left run in
              record {
                events = script_made name bytes ∷ rest;
                last = last;
                left = left;
                performed = written_performed rest last left run;
                opened = inl (small rest);
                stops = script_stops old mid account name bytes plain written (its_target rest) apart.0 rest apart.1 kept new stops;
                reads = script_reads old mid account name bytes plain written (its_target rest) apart.0 rest apart.1 kept new beside;
                finished = by result finished;
              }
            where
              by : (r : Result Status RunError) → IfOk r (λ status. Finished status mid new behind (its_target rest) rest given left) → IfOk r (λ status. Finished status old new account (its_target rest) (script_made name bytes ∷ rest) given left)
              by (Ok status) done =
                  let apart = apart_of sixteen rest last left run in
                  script_finished old mid account name bytes plain written (its_target rest) apart.0 rest apart.1 kept new timely reads stops status given left gave done
              by (Err e) done = tt

          pub written_runs : (read : Result Plan Refusal) → script_of bytes ≡ read → (result : Result Status RunError) → RunsTo result mid new (read_request read) behind given → RunsTo result old new asked account given
          written_runs (Ok plan) is result runs = whole_runs result runs.events runs.last runs.left (subst (λ (r : Result Plan Refusal). IsReadRun r Sparingly behind given runs.events runs.last runs.left) (sym is) runs.performed)
              (subst (λ (t : Option Target). AtEachMoment mid new (RunLeft mid behind t runs.events)) target runs.stops)
              (subst (λ (t : Option Target). RunReads mid new behind t runs.events) target runs.reads)
              (subst (λ (t : Option Target). IfOk result (λ status. Finished status mid new behind t runs.events given runs.left)) target runs.finished)
            where
              target : target_of (Ok (ToRun plan Sparingly)) runs.events ≡ its_target runs.events
              target = ap (λ first. elim (begins_refused runs.events) as (λ z. Option Target) [ true ↦ None | false ↦ target_named first ]) (creates_its_own number plan is)
          written_runs (Err refusal) is result runs = whole_runs result runs.events runs.last runs.left (subst (λ (r : Result Plan Refusal). IsReadRun r Sparingly behind given runs.events runs.last runs.left) (sym is) runs.performed)
              (subst (λ (t : Option Target). AtEachMoment mid new (RunLeft mid behind t runs.events)) target runs.stops)
              (subst (λ (t : Option Target). RunReads mid new behind t runs.events) target runs.reads)
              (subst (λ (t : Option Target). IfOk result (λ status. Finished status mid new behind t runs.events given runs.left)) target runs.finished)
            where
              target : None ≡ its_target runs.events
              target = sym (ap its_target runs.performed.0)

  -- nothing happened, whatever the name is
  pub generated_unbegun : (new : World) (e : RunError) → Quiet old new → RunsTo (Err e) old new asked account given
  generated_unbegun new e quiet = by (is_free_entry (account.entry name)) refl
    where
      by : (free : Bool) → is_free_entry (account.entry name) ≡ free → RunsTo (Err e) old new asked account given
      by true is = free_fails is new e quiet
      by false is = taken_fails is new e quiet
