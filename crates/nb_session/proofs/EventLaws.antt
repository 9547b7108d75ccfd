-- One turn and its line are one event.
use Rattle.std.proofs.Common.{◌≡◌, ◌⊎◌, inl, inr, ◌≤◌, ℕ, zero, suc, ◌-◌, List, [], ◌∷◌, ◌++◌, length, take, Bool, false, refl, sym, ap, subst, ◌∙◌, arith, true, Result, Ok, Err, IfOk, Option, Some, None, Contains, if◌then◌else◌}
use Rattle.nb_session.proofs.Common.{list_all, slice_index_or, true≢false, append-nil, take_all, File, Files, with_file, World, Leaves, LeavesAll, IsStill, AtEachMoment, Fault, Refused, Device, Memory, RunError, left_with, weaker, left_before, untouched_joined, untouched_fewer, with_file-same, reached_by, Reply, Stroke, IsMaking, MadeFile, Turn, Outcome, Event, Now, Played, event_of, outcome, stands_then, take_turn, files_made, output, status_after, made, steps_in, steps_of, after_step, after_steps, acked_turns, Trail, StandsIn, after_stroke, output-quiet, output_no_event, steps_one, strokes_within, strokes_front, acked_steps_none, acked_steps_most, turns_before, after_strokes, IsKept, IsUnfinishedOr, Held, IsOpen, name_of, WhereEnded, still_open, Told, AreKept, Acts, IsReady, IsApart, has_only_told, HasEnded, only_told, FrontSaid, SaysLine, touching, StopLeft, PlayedOut, Plays, told_turns, told_line, told_status, take_self, begun_turns, AreWhole, after_no_step, MadeLeft, Touched}
use Rattle.std.proofs.Math.Bool.{and-true}
use Rattle.nb_change.specs.Changes.{Other}
use Rattle.nb_change.proofs.MomentLaws.{joined}
use Rattle.nb_change.proofs.SettledLaws.{durable_is, durable_still}
use Rattle.nb_session.specs.Told.{told_reply as told_as}
use Rattle.nb_session.proofs.GiftLaws.{given_nothing, given_joined}
use Rattle.nb_session.proofs.HowFarLaws.{begun_none, open_one}
use Rattle.nb_session.proofs.ReadyLaws.{apart_files, ready_then}
use Rattle.nb_session.proofs.ToldLaws.{told_one, told_none, told_status_is, told_only, output_told, status_told, status_unsaid}

-- what holds where a call ended with a value or a refusal
pub ended : {T P : Type 0} (answer : Result T Fault) → HasEnded answer → WhereEnded answer P → P
ended (Ok value) has is = is
ended (Err (Refused refusal)) has is = is
ended (Err Device) has is = absurd has
ended (Err Memory) has is = absurd has

-- strokes are steps
pub strokes_are_steps : (t : Trail) (ss : List Stroke) → after_strokes t ss ≡ after_steps t (made ss)
unfolding after_steps after_step made
strokes_are_steps t [] = refl
strokes_are_steps t (s ∷ ss) = strokes_are_steps (after_stroke s t) ss

-- an event that says nothing doesn't only tell something
pub unsaid : (e : Event) → e.reply ≡ None → only_told e ≡ true → ⊥
unsaid e none told = by e.strokes (ap (λ (r : Option Reply). elim e.strokes as (λ z. Bool) [ [] ↦ has_only_told r | s ∷ ss ↦ false ]) (sym none) ∙ told)
  where
    by : (ss : List Stroke) → elim ss as (λ z. Bool) [ [] ↦ has_only_told None | s ∷ ss ↦ false ] ≡ true → ⊥
    by [] e = true≢false (sym e)
    by (s ∷ ss) e = true≢false (sym e)

-- what an event that only tells something says
pub told_reply : (e : Event) → only_told e ≡ true → has_only_told e.reply ≡ true
told_reply e = by e.strokes
  where
    by : (ss : List Stroke) → elim ss as (λ z. Bool) [ [] ↦ has_only_told e.reply | s ∷ ss ↦ false ] ≡ true → has_only_told e.reply ≡ true
    by [] told = told
    by (s ∷ ss) told = absurd (true≢false (sym told))

-- one event is all of them
pub one_told : (e : Event) → list_all only_told (e ∷ []) ≡ true → only_told e ≡ true
one_told e all = sym (and-true (only_told e)) ∙ all

-- no event made a file
pub made_none : (file : MadeFile) → Contains (files_made []) file → ⊥
unfolding files_made
made_none file there = omega (arith, there.1)

-- those of a front of one event are those of the event
made_front : (e : Event) (k : ℕ) (file : MadeFile) → Contains (files_made (take k (e ∷ []))) file → Contains (files_made (e ∷ [])) file
made_front e zero file there = absurd (made_none file there)
made_front e (suc zero) file there = there
made_front e (suc (suc k)) file there = there

-- files stay as they are while something is said
kept_still : (old new : World) (files : List MadeFile) → IsStill old new → AreKept old files → AreKept new files
kept_still old new files still kept name bytes there =
    let is : IsKept old name bytes = kept name bytes there in
    record { durable = durable_still old new name (Some bytes) still is.durable; reads = ap (λ (f : Files). f name) still.files ∙ is.reads }

-- The files that a turn makes are none of the database's, and what a crash then leaves of each is as it was, unfinished, or whole.
pub record Marks (old mid : World) (held : Held) (files : List MadeFile) : Type 0 where
  pub apart : (name bytes : List ℕ) → Contains files (name, bytes) → IsApart held name
  pub left : (name bytes : List ℕ) (file : File) → Contains files (name, bytes) → Leaves mid name file → Leaves old name file ⊎ IsUnfinishedOr bytes file

pub marks_none : (old mid : World) (held : Held) → Marks old mid held []
marks_none old mid held = record { apart = λ name bytes there. absurd (omega (arith, there.1)); left = λ name bytes file there is. absurd (omega (arith, there.1)) }

-- What a turn leaves of all files tells what it leaves of one.
pub marks_made : {T : Type 0} (reply : T → Option Reply) (result : Result T Fault) (old mid : World) (e0 e1 : Held) (t : Trail) (now : Now) (session : ℕ) (u : Turn) (files : List MadeFile)
    → ((name bytes : List ℕ) → Contains files (name, bytes) → IsApart e0 name) → ((m : List ℕ) → Leaves mid m (mid.files m)) → Acts reply result old mid e0 e1 t now session u files → Marks old mid e0 files
marks_made reply result old mid e0 e1 t now session u files apart reads acts = record {
  apart = apart;
  left = λ name bytes file there is.
      let all : LeavesAll mid (with_file mid.files name file) = left_with mid name mid.files file (λ m other. reads m) is in
      subst (λ (f : File). Leaves old name f ⊎ IsUnfinishedOr bytes f) (with_file-same mid.files name file) ((acts.left.now (with_file mid.files name file) all).each name bytes there);
}

-- The event as it is told: `told` is what is said of it.
module _ (old mid new : World) (e0 e1 : Held) (t : Trail) (now : Now) (session : ℕ) (u : Turn) (tail more : List Turn) (told : Option Reply) where
  abbrev here : Outcome
  here = outcome session u now

  abbrev event : Event
  event = record (event_of session u here) { reply = told }

  abbrev name : List ℕ
  name = name_of e0

  abbrev files : List MadeFile
  files = touching session u tail now

  abbrev pub one : Played
  one = (event ∷ [], stands_then session (tail ++ more) here now)

  abbrev Left : Files → List ℕ → Type 0
  Left = StopLeft old name t (event ∷ []) files

  given_then : one.1.given ≡ here.given
  unfolding stands_then
  given_then = refl

  trail_is : after_steps t (steps_in event) ≡ after_steps t (steps_of (event ∷ []))
  trail_is = ap (after_steps t) (sym (steps_one event))

  module _ {T : Type 0} (result : Result T Fault) (reply : T → Option Reply) (acts : Acts reply result old mid e0 e1 t now session u files) (marks : Marks old mid e0 files)
      (only : only_told event ≡ true → only_told (event_of session u here) ≡ true) where
    -- what is left where so many of its steps were made
    stopped : (fs : Files) (said : List ℕ) → said ≡ old.said → MadeLeft old files fs → ((m : List ℕ) → Other (Touched name files) m → Leaves old m (fs m)) → (count : ℕ) → count ≤ length (steps_of (event ∷ []))
        → StandsIn name (after_steps t (take count (steps_of (event ∷ [])))) fs → AreWhole (files_made (take (begun_turns (event ∷ []) count) (event ∷ []))) fs → Left fs said
    stopped fs said silent each others count most database begun = record {
      out = record { part = []; is = silent ∙ sym (append-nil old.said); front = refl };
      count = count;
      front = record { most = most; acknowledged = omega (arith, acked_steps_none (event ∷ [])); unsaid = omega (arith, most, open_one event 0) };
      database = database;
      each = each;
      whole = λ n bytes there. absurd (made_none (n, bytes) (subst (λ (k : ℕ). Contains (files_made (take k (event ∷ []))) (n, bytes)) (turns_before (event ∷ [])) there));
      begun = begun;
      others = others;
    }

    -- its files are those of the turn
    event_whole : (fs : Files) → AreWhole (files_made (event_of session u here ∷ [])) fs → AreWhole (files_made (event ∷ [])) fs
    unfolding files_made
    event_whole fs whole = whole

    -- while its strokes are made
    during : AtEachMoment old mid Left
    during = weaker old mid _ _ acts.left.moments (λ fs said left. elim left.has.whole_first [
      | inl first ↦ stopped fs said left.output left.has.each left.others 0 (omega arith) (subst (λ (w : Trail). StandsIn name w fs) (sym (after_no_step t)) first)
          (λ n bytes there. absurd (made_none (n, bytes) (subst (λ (k : ℕ). Contains (files_made (take k (event ∷ []))) (n, bytes)) (begun_none (event ∷ [])) there)))
      | inr whole ↦ (let by = reached_by after_stroke (StandsIn name) t here.strokes fs left.has.database in
          stopped fs said left.output left.has.each left.others by.count (omega (arith, by.most, strokes_within event))
          (subst (λ (w : Trail). StandsIn name w fs) (strokes_are_steps t (take by.count here.strokes) ∙ ap (after_steps t) (sym (strokes_front event by.count by.most))) by.is)
          (λ n bytes there. event_whole fs whole n bytes (made_front event (begun_turns (event ∷ []) by.count) (n, bytes) there)))
    ])

    -- what is said of the files, and of the name, however it ends
    plays_with : (ending : Result Bool RunError) (w : World) → AtEachMoment old w Left → IsStill mid w → IfOk ending (λ refused. PlayedOut refused old w e1 t now one) → Plays ending old w e0 e1 t now one files
    plays_with ending w stops still out = record {
      stops = stops;
      left = λ n bytes file there is. marks.left n bytes file there (left_before mid w _ still.left n file tt is);
      apart = λ n bytes there. apart_files e0 n (marks.apart n bytes there);
      others = untouched_joined old mid w _ acts.left.others (untouched_fewer mid w _ _ still.left (λ m other. tt));
      others_read = λ m other. ap (λ (f : Files). f m) still.files ∙ acts.left.others_read m other;
      unchanged = λ settled all. still.files ∙ acts.unchanged (only (one_told event all));
      name = acts.name;
      done = out;
    }

    still_here : IsStill mid mid
    still_here = record { files = refl; left = record { back = λ m c is b. b; now = λ m c is n. n } }

    -- the turn failed
    pub told_failed : (e : RunError) → Plays (Err e) old mid e0 e1 t now one files
    told_failed e = plays_with (Err e) mid during still_here tt

    module _ (has : HasEnded result) (place : slice_index_or now.todo (session - 1) [] ≡ u ∷ (tail ++ more)) (ready : IsReady old e0 t now) (makes : IsMaking now) where
      opened_mid : IsOpen mid e1 (after_steps t (steps_in event))
      opened_mid = ended result has acts.opened

      kept_turn : AreKept mid (files_made (event_of session u here ∷ []))
      kept_turn = ended result has acts.kept

      kept_mid : AreKept mid (files_made (event ∷ []))
      unfolding files_made
      kept_mid = kept_turn

      -- the database stands ready after it
      ready_at : (w : World) → IsStill mid w → IsReady w e1 (after_steps t (steps_of (event ∷ []))) one.1
      ready_at w still =
          subst (λ (x : Trail). IsReady w e1 x one.1) trail_is
          (ready_then old w e0 e1 t now session u tail more ready place (still_open mid w e1 (after_steps t (steps_in event)) still opened_mid) acts.name acts.cap (ended result has acts.running) (kept_still mid w (files_made (event_of session u here ∷ [])) still kept_turn)
          (λ m other. ap (λ (f : Files). f m) still.files ∙ acts.left.others_read m other) marks.apart makes)

      -- it has nothing to say
      pub told_quiet : told ≡ None → Plays (Ok false) old mid e0 e1 t now one files
      told_quiet quiet = plays_with (Ok false) mid during still_here (record {
        ready = ready_at mid still_here;
        said = acts.left.said ∙ sym (append-nil old.said) ∙ ap (λ (l : List ℕ). old.said ++ l) (sym (output-quiet event [] quiet ∙ output_no_event));
        status = status_unsaid event quiet;
        given = given_joined old mid mid now.given here.given one.1.given (ended result has acts.given) (given_nothing mid mid here.given one.1.given (record { guids = refl; times = refl }) given_then);
        kept = kept_mid;
      })

      module _ {S E : Type 0} (line_said : Result S E) (says : SaysLine line_said mid new (told_line session told)) where
        abbrev line : List ℕ
        line = told_line session told

        output_is : output (event ∷ []) ≡ line
        output_is = output_told event told refl

        all_steps : after_steps t (steps_in event) ≡ after_steps t (take (length (steps_of (event ∷ []))) (steps_of (event ∷ [])))
        all_steps = trail_is ∙ ap (after_steps t) (sym (take_all (length (steps_of (event ∷ []))) (steps_of (event ∷ [])) (omega arith)))

        -- what is kept for good is whole
        kept_whole : (fs : Files) → LeavesAll mid fs → AreWhole (files_made (event ∷ [])) fs
        kept_whole fs leaves n bytes there = durable_is mid n (Some bytes) (kept_mid n bytes there).durable (fs n) (leaves n)

        -- while its line is said
        saying : (fs : Files) (said : List ℕ) → FrontSaid mid line fs said → Left fs said
        saying fs said front =
            let part : List ℕ = take front.count line in
            record {
              out = record {
                part = part;
                is = front.is ∙ ap (λ (l : List ℕ). l ++ part) acts.left.said;
                front = take_self front.count line ∙ ap (take (length part)) (sym output_is);
              };
              count = length (steps_of (event ∷ []));
              front = record { most = omega arith; acknowledged = acked_steps_most (event ∷ []) (length part); unsaid = omega (arith, open_one event (length part)) };
              database = subst (λ (w : Trail). StandsIn name w fs) all_steps
                  (subst (λ (n : List ℕ). StandsIn n (after_steps t (steps_in event)) fs) acts.name (opened_mid.files.left fs front.left));
              each = λ n bytes there. marks.left n bytes (fs n) there (front.left n);
              whole = λ n bytes there. kept_whole fs front.left n bytes (made_front event (acked_turns (event ∷ []) (length part)) (n, bytes) there);
              begun = λ n bytes there. kept_whole fs front.left n bytes (made_front event (begun_turns (event ∷ []) (length (steps_of (event ∷ [])))) (n, bytes) there);
              others = λ m other. left_before old mid _ acts.left.others m (fs m) other (front.left m);
            }

        whole : AtEachMoment old new Left
        whole = joined old mid new _ _ _ during says.moments (λ fs said is. is) saying

        -- what is told wasn't said whole
        pub told_unsaid : (e : RunError) → Plays (Err e) old new e0 e1 t now one files
        told_unsaid e = plays_with (Err e) new whole says.still tt

        -- it was
        pub told_said : (refused : Bool) → new.said ≡ mid.said ++ line → told_status told ≡ (if refused then 1 else 0)
            → Plays (Ok refused) old new e0 e1 t now one files
        told_said refused said status = plays_with (Ok refused) new whole says.still (record {
          ready = ready_at new says.still;
          said = said ∙ ap (λ (l : List ℕ). l ++ line) acts.left.said ∙ ap (λ (l : List ℕ). old.said ++ l) (sym output_is);
          status = status_told event told refl ∙ status;
          given = given_joined old mid new now.given here.given one.1.given (ended result has acts.given) (given_nothing mid new here.given one.1.given says.gave given_then);
          kept = kept_still mid new (files_made (event ∷ [])) says.still kept_mid;
        })

-- The event of the turn, and what is told of it.
module _ (how : Told) (old mid new : World) (e0 e1 : Held) (t : Trail) (now : Now) (session : ℕ) (u : Turn) (tail more : List Turn) where
  abbrev turn_done : Outcome
  turn_done = outcome session u now

  abbrev turn_files : List MadeFile
  turn_files = touching session u tail now

  abbrev turn_told : Option Reply
  turn_told = told_as how turn_done.reply

  abbrev pub played : Played
  played = told_turns how (take_turn session (u ∷ (tail ++ more)) now)

  as_played : (result : Result Bool RunError) (w : World) → Plays result old w e0 e1 t now (one old mid new e0 e1 t now session u tail more turn_told) turn_files → Plays result old w e0 e1 t now played turn_files
  unfolding take_turn
  as_played result w plays =
      subst (λ (es : List Event). Plays result old w e0 e1 t now (es, stands_then session (tail ++ more) turn_done now) turn_files) (sym (told_one how (event_of session u turn_done))) plays

  module _ {T : Type 0} (result : Result T Fault) (reply : T → Option Reply) (acts : Acts reply result old mid e0 e1 t now session u turn_files) (marks : Marks old mid e0 turn_files) where
    -- what only tells something as it is told only tells something
    only : only_told (record (event_of session u turn_done) { reply = turn_told }) ≡ true → only_told (event_of session u turn_done) ≡ true
    only = told_only how (event_of session u turn_done)

    -- the turn failed
    pub event_failed : (e : RunError) → Plays (Err e) old mid e0 e1 t now played turn_files
    event_failed e = as_played (Err e) mid (told_failed old mid new e0 e1 t now session u tail more turn_told result reply acts marks only e)

    module _ (has : HasEnded result) (place : slice_index_or now.todo (session - 1) [] ≡ u ∷ (tail ++ more)) (ready : IsReady old e0 t now) (makes : IsMaking now) where
      -- it has nothing to say
      pub event_quiet : turn_done.reply ≡ None → Plays (Ok false) old mid e0 e1 t now played turn_files
      event_quiet quiet = as_played (Ok false) mid (told_quiet old mid new e0 e1 t now session u tail more turn_told result reply acts marks only has place ready makes (told_none how turn_done.reply quiet))

      module _ (r : Reply) (is_said : turn_done.reply ≡ Some r) {S E : Type 0} (line_said : Result S E) (says : SaysLine line_said mid new (told_line session (told_as how (Some r)))) where
        says_it : SaysLine line_said mid new (told_line session turn_told)
        says_it = subst (λ (reply : Option Reply). SaysLine line_said mid new (told_line session (told_as how reply))) (sym is_said) says

        -- what is told wasn't said whole
        pub event_unsaid : (e : RunError) → Plays (Err e) old new e0 e1 t now played turn_files
        event_unsaid e = as_played (Err e) new (told_unsaid old mid new e0 e1 t now session u tail more turn_told result reply acts marks only has place ready makes line_said says_it e)

        -- it was
        pub event_said : (refused : Bool) → new.said ≡ mid.said ++ told_line session (told_as how (Some r)) → status_after r ≡ (if refused then 1 else 0) → Plays (Ok refused) old new e0 e1 t now played turn_files
        event_said refused said status =
            as_played (Ok refused) new (told_said old mid new e0 e1 t now session u tail more turn_told result reply acts marks only has place ready makes line_said says_it refused
            (said ∙ ap (λ (reply : Option Reply). mid.said ++ told_line session (told_as how reply)) (sym is_said))
            (ap (λ (reply : Option Reply). told_status (told_as how reply)) is_said ∙ told_status_is how r ∙ status))
