-- The turns of a copy of the frozen file.
use Rattle.std.proofs.Common.{◌≡◌, inl, inr, ℕ, zero, suc, ◌-◌, ◌≤◌, List, [], ◌∷◌, ◌++◌, length, replicate, refl, sym, ap, subst, ◌∙◌, arith, true≢false, Bool, Result, Ok, Err, IsErr, IfOk, Option, Some, None, Contains, true, false}
use Rattle.nb_session.proofs.Common.{slice_index_or, append-nil, stalled_state, Files, is_delta, World, Leaves, Fault, Refused, Device, HostFault, RunError, Refusal, Changes, Only, Remade, GaveNothing, weakened, reached_first, Reply, Pages, CopyTo, Base, copy_turn, close_copy, is_free_entry, Runs, IsAt, IsGoing, IsMaking, Image, image_state, joined, MadeFile, making, Turn, Begins, Copies, ClosesCopy, Seen, Outcome, passes, Now, Event, base_now, outcome, event_of, files_made, Stroke, base_after, steps_in, after_steps, Trail, StandsIn, after_stroke, first_turn, turn, copy_either, OfFiles, after_strokes, Held, IsOpen, name_of, Progress, More, Finished, where_ended, none_yet, gave_none, open_quiet, open_running, IsKept, IsUnfinishedOr, Copying, IsCopying, CopiesFile, IsCopyingTo, StartsCopy, IsCopyStarted, KnowsUnused, Left, Same, Copy, Told, Says, Touched, TurnLeft, AreKept, MayAct, copy_first, copy_rest, left_refused, left_task, task_first, task_rest, IsReady, IsApart, TaskGoes, SaysLine, touching, IsBehind, Turns, told_line, told_reply, has_only_told, only_told, one_held, none_some, some_none, AreWhole}
use Rattle.nb_session.proofs.FilesLaws.{files_other, files_quiet}
use Rattle.nb_session.specs.Files.{TurnLeaves}
use Rattle.nb_model.specs.declared.reply.Reply.TheVariants.{Refused as RefusedBy}
use Rattle.nb_copy.specs.Turns.{CopyCounts}
use Rattle.nb_copy.proofs.ClosingLaws.{stands}
use Rattle.nb_session.specs.Short.{RanOut}
use Rattle.nb_session.specs.Acts.{Acts}
use Rattle.nb_session.proofs.ActLaws.{trail_plain, ended_map, strikes_left, kept_none, says_none, left_lacks}
use Rattle.nb_session.proofs.EventLaws.{Marks, marks_made, unsaid, told_reply as told_is}
use Rattle.nb_session.proofs.GiftLaws.{given_nothing, grows_none}
use Rattle.nb_session.proofs.MakesLaws.{none_runs}
use Rattle.nb_session.proofs.ReadyLaws.{apart_files, not_own}
use Rattle.nb_session.proofs.TouchingLaws.{plain_touch, copy_plain}
use Rattle.nb_session.proofs.ShortLaws.{lacks_none, wanted_any}
use Rattle.nb_session.proofs.TurnLaws.{seen_now, outcome_is, was_last, turns_failed, turns_quiet, turns_told}
use Rattle.nb_session.proofs.WayLaws.{copy_turns, copying_at}

-- the name that is held
pub name_kept : (a b : Held) → b ≡ a → name_of b ≡ name_of a
name_kept a b same = ap (λ (h : Held). name_of h) same

-- and how many pages may be in memory
pub cap_kept : (a b : Held) → b ≡ a → b.cap ≡ a.cap
cap_kept a b same = ap (λ (h : Held). h.cap) same

-- the session that ran runs no more
pub stopped_is : (a b d : Held) (session : ℕ) → b ≡ a → a.running ≡ Some session → (b.running ≡ Some session → d ≡ record b { running = None }) → d ≡ record a { running = None }
stopped_is a b d session same runs stops = stops (ap (λ (h : Held). h.running) same ∙ runs) ∙ ap (λ (h : Held). record h { running = None }) same

-- no stroke
pub no_stroke : (b : Base) (ss : List Stroke) → ss ≡ [] → base_after b ss ≡ b
unfolding base_after
no_stroke b ss none = ap (base_after b) none

pub kept_one : (w : World) (name whole : List ℕ) → IsKept w name whole → AreKept w ((name, whole) ∷ [])
kept_one w name whole kept n bytes there = subst (λ (f : MadeFile). IsKept w f.0 f.1) (one_held (name, whole) (n, bytes) there) kept

pub apart_one : (held : Held) (name whole : List ℕ) → IsApart held name → (n bytes : List ℕ) → Contains {X = MadeFile} ((name, whole) ∷ []) (n, bytes) → IsApart held n
apart_one held name whole apart n bytes there = subst (λ (f : MadeFile). IsApart held f.0) (one_held (name, whole) (n, bytes) there) apart

pub made_by : (w : World) (e : Event) (file : MadeFile) → e.made ≡ Some file → AreKept w (file ∷ []) → AreKept w (files_made (e ∷ []))
unfolding files_made
made_by w e file made kept = subst (λ (m : Option MadeFile). AreKept w (elim m as (λ z. List MadeFile) [ Some f ↦ f ∷ [] | None ↦ [] ])) (sym made) kept

-- the one file that an event made is whole
pub whole_by : (files : Files) (e : Event) (name whole : List ℕ) → e.made ≡ Some (name, whole) → files name ≡ Some whole → AreWhole (files_made (e ∷ [])) files
unfolding files_made
whole_by files e name whole made is n bytes there =
    let held : Contains {X = MadeFile} ((name, whole) ∷ []) (n, bytes) = subst (λ (m : Option MadeFile). Contains (elim m as (λ z. List MadeFile) [ Some f ↦ f ∷ [] | None ↦ [] ]) (n, bytes)) made there in
    subst (λ (f : MadeFile). files f.0 ≡ Some f.1) (one_held (name, whole) (n, bytes) held) is

-- What a crash leaves while a file that isn't the database's is made, and the database stays.
module _ (old new : World) (a : Held) (t : Trail) (opened : IsOpen old a t) (name whole : List ℕ) (apart : IsApart a name) (reads : Leaves old name (old.files name)) where
  touches : (m : List ℕ) → m ≡ name → Touched (name_of a) ((name, whole) ∷ []) m
  touches m same = inr (whole, (0, omega arith, ap (λ (n : List ℕ). (n, whole)) (sym same)))

  pub each_one : (files : Files) → Remade old name (IsUnfinishedOr whole) files → (n bytes : List ℕ) → Contains {X = MadeFile} ((name, whole) ∷ []) (n, bytes) → Remade old n (IsUnfinishedOr bytes) files
  each_one files has n bytes there = subst (λ (f : MadeFile). Remade old f.0 (IsUnfinishedOr f.1) files) (one_held (name, whole) (n, bytes) there) has

  pub file_left : (ss : List Stroke) (done : List MadeFile) → Changes old new (Only name) (Remade old name (IsUnfinishedOr whole))
      → Changes old new (Touched (name_of a) ((name, whole) ∷ [])) (TurnLeft old (name_of a) t ss ((name, whole) ∷ []) done)
  file_left ss done changes =
      weakened old new (Only name) (Touched (name_of a) ((name, whole) ∷ [])) (Remade old name (IsUnfinishedOr whole)) (TurnLeft old (name_of a) t ss ((name, whole) ∷ []) done) changes touches
      (λ files others has.
      let before = stands old a t opened name whole (apart_files a name apart) reads files others in
      record {
        database = reached_first after_stroke (StandsIn (name_of a)) t ss files before;
        each = each_one files has;
        whole_first = inl before;
      })

-- The start of a copy, by its turn.
module _ (s : Seen) (session : ℕ) (name : List ℕ) where
  begin_strokes : (copy_turn s session name).strokes ≡ []
  begin_strokes = copy_either (λ o. o.strokes ≡ []) s session name (λ r. refl) (λ may. refl)

  begin_given : (copy_turn s session name).given ≡ s.given
  begin_given = copy_either (λ o. o.given ≡ s.given) s session name (λ r. refl) (λ may. refl)

  begin_made : (copy_turn s session name).made ≡ None
  begin_made = copy_either (λ o. o.made ≡ None) s session name (λ r. refl) (λ may. refl)

  begin_free : (copy_turn s session name).reply ≡ None → is_free_entry (s.entry name) ≡ true
  begin_free = copy_either (λ o. o.reply ≡ None → is_free_entry (s.entry name) ≡ true) s session name (λ r is. absurd (some_none (RefusedBy r) is)) (λ may is. may.free)

  begin_runs : (copy_turn s session name).reply ≡ None → (copy_turn s session name).running ≡ Some session
  begin_runs = copy_either (λ o. o.reply ≡ None → o.running ≡ Some session) s session name (λ r is. absurd (some_none (RefusedBy r) is)) (λ may is. refl)

  begin_none : (refusal : Refusal) → (copy_turn s session name).reply ≡ Some (RefusedBy refusal) → (copy_turn s session name).next ≡ []
  begin_none refusal = copy_either (λ o. o.reply ≡ Some (RefusedBy refusal) → o.next ≡ []) s session name (λ r is. refl) (λ may is. absurd (some_none (RefusedBy refusal) (sym is)))

begin_is : (session : ℕ) (name : List ℕ) (now : Now) → copy_turn (seen_now now) session name ≡ outcome session (Begins (CopyTo name)) now
unfolding first_turn
begin_is session name now = sym (outcome_is session (CopyTo name) now)

-- where nobody runs the account knows of each name whether it is free
pub knows_unused : {sound : Bool} (w : World) (held : Held) (t : Trail) (now : Now) (name : List ℕ) → IsReady w held t now → IsGoing sound now → is_delta name ≡ false → KnowsUnused w.files (seen_now now) name
knows_unused w held t now name ready going plain nobody = ready.known name plain (none_runs now going (λ place number some runs. none_some runs.by (sym nobody ∙ runs.running)) name)

module _ (old new : World) (a b : Held) (t : Trail) (now : Now) (session : ℕ) (name : List ℕ) (ready : IsReady old a t now) (named : name_of b ≡ name_of a) where
  abbrev begins : Outcome
  begins = copy_turn (seen_now now) session name

  abbrev this : Outcome
  this = outcome session (Begins (CopyTo name)) now

  abbrev event : Event
  event = event_of session (Begins (CopyTo name)) this

  trail_is : t ≡ after_steps t (steps_in event)
  trail_is = sym (ap (after_strokes t) (sym (ap (λ (o : Outcome). o.strokes) (begin_is session name now)) ∙ begin_strokes (seen_now now) session name)) ∙ trail_plain t event refl

  pub begin_acts : (result : Result Copying Fault) → b.cap ≡ a.cap → StartsCopy result old new a b t name begins → MayAct (λ copy. None) result old new a b t now session (Begins (CopyTo name)) []
  begin_acts result cap starts =
      let same = begin_is session name now in
      record {
        grows = grows_none old new (gave_none old new starts.quiet);
        acts = λ told. record {
          says = subst (λ (o : Outcome). Says (λ copy. None) result o.reply) same (says_none result begins.reply starts.says);
          left = strikes_left old new (name_of a) t this.strokes event (sym (ap (λ (o : Outcome). o.made) same) ∙ begin_made (seen_now now) session name) (none_yet old new a t this.strokes starts.quiet ready.opened);
          opened = ended_map result (λ held. subst (IsOpen new b) trail_is (subst (λ (h : Held). IsOpen new h t) (sym held) (open_running new a t begins.running (open_quiet old new a t starts.quiet ready.opened)))) starts.held;
          running = ended_map result (λ held. ap (λ (h : Held). h.running) held ∙ ap (λ (o : Outcome). o.running) same) starts.held;
          given = where_ended result _ (given_nothing old new now.given this.given (gave_none old new starts.quiet) (sym (ap (λ (o : Outcome). o.given) same) ∙ begin_given (seen_now now) session name));
          kept = where_ended result _ (kept_none new event (sym (ap (λ (o : Outcome). o.made) same) ∙ begin_made (seen_now now) session name));
          unchanged = λ told. starts.quiet.still.files;
          short = wanted_any result (lacks_none old new (name_of a) t this.strokes (sym (ap (λ (o : Outcome). o.strokes) same) ∙ begin_strokes (seen_now now) session name) (none_yet old new a t this.strokes starts.quiet ready.opened));
          files = files_quiet _ old new (name_of a) t (Begins (CopyTo name)) this.strokes refl starts.quiet;
          name = named;
          cap = cap;
        };
      }

  -- a copy was begun
  pub begin_behind : (copy : Copying) → is_delta name ≡ false → StartsCopy (Ok copy) old new a b t name begins → IsBehind new b session (Begins (CopyTo name)) [] now (Some (Copy copy))
  begin_behind copy plain starts =
      let is : IsCopyStarted new b t copy name begins = starts.started in
      let same = begin_is session name now in
      let all : copy.count ≡ copy.count - copy.next = omega (arith, is.first) in
      record {
        next = append-nil this.next ∙ sym (ap (λ (o : Outcome). o.next) same) ∙ is.turns ∙ ap (λ (n : ℕ). replicate n Copies ++ ClosesCopy name ∷ []) all ∙ ap (λ (n : List ℕ). replicate (copy.count - copy.next) Copies ++ ClosesCopy n ∷ []) (sym is.named)
            ∙ copy_turns (copy.count - copy.next) (ClosesCopy copy.name);
        goes = (
          subst (IsCopyingTo new copy) (ap (λ (x : Base). x.frozen) (ready.base ∙ sym (no_stroke (base_now now) this.strokes (sym (ap (λ (o : Outcome). o.strokes) same) ∙ begin_strokes (seen_now now) session name)))) is.goes,
          record {
            plain = ap is_delta is.named ∙ plain;
            other = λ own. not_own old a t now name ready (begin_free (seen_now now) session name starts.says) (sym is.named ∙ own ∙ named);
          },
          ap (λ (h : Held). h.running) starts.held ∙ begin_runs (seen_now now) session name starts.says,
        );
      }

  -- it was refused
  pub begin_refused : (refusal : Refusal) → StartsCopy (Err (Refused refusal)) old new a b t name begins → (w : World) → IsBehind w b session (Begins (CopyTo name)) [] now None
  begin_refused refusal starts w =
      record { next = append-nil this.next ∙ sym (ap (λ (o : Outcome). o.next) (begin_is session name now)) ∙ begin_none (seen_now now) session name refusal starts.says; goes = tt }

-- A further turn of a copy.
pub page_is : (session : ℕ) (now : Now) → outcome session Copies now ≡ passes (seen_now now)
unfolding outcome turn
page_is session now = refl

close_is : (session : ℕ) (name : List ℕ) (now : Now) → outcome session (ClosesCopy name) now ≡ close_copy (seen_now now) name
unfolding outcome turn
close_is session name now = refl

-- The parts of the last one.
module _ (s : Seen) (name : List ℕ) where
  close_strokes : (close_copy s name).strokes ≡ []
  unfolding close_copy
  close_strokes = refl

  close_reply : (close_copy s name).reply ≡ Some (Pages (length s.base.frozen))
  unfolding close_copy
  close_reply = refl

  close_next : (close_copy s name).next ≡ []
  unfolding close_copy
  close_next = refl

  close_running : (close_copy s name).running ≡ None
  unfolding close_copy
  close_running = refl

  close_made : (close_copy s name).made ≡ Some (name, joined s.base.frozen)
  unfolding close_copy
  close_made = refl

  close_given : (close_copy s name).given ≡ s.given
  unfolding close_copy
  close_given = refl

-- the file that these turns make
pub copies_make : (frozen : Image) (left : ℕ) (name : List ℕ) → (name, joined frozen) ∷ [] ≡ making frozen (copy_first left (ClosesCopy name) ∷ copy_rest left (ClosesCopy name))
unfolding making
copies_make frozen zero name = refl
copies_make frozen (suc left) name = by left
  where
    by : (n : ℕ) → (name, joined frozen) ∷ [] ≡ making frozen (replicate n Copies ++ ClosesCopy name ∷ [])
    by zero = refl
    by (suc n) = by n

-- what is to be said
pub copy_said : (pages : ℕ) → Progress → Option Reply
copy_said pages More = None
copy_said pages Finished = Some (Pages pages)

pub said_pages : (pages : ℕ) (p : Progress) (said : Option Reply) → Says {T = Progress} (copy_said pages) (Ok p) said → said ≡ elim p as (λ z. Option Reply) [ More ↦ None | Finished ↦ Some (Pages pages) ]
unfolding copy_said
said_pages pages More said is = is
said_pages pages Finished said is = is

-- in that state
pub stalled_now : (w : World) (held : Held) (t : Trail) (now : Now) (place : ℕ) → IsReady w held t now → Runs now place 1 → held.files.state ≡ stalled_state
stalled_now w held t now place ready runs = ready.opened.files.agrees.state ∙ ap (λ (b : Base). image_state b.image) ready.base ∙ runs.state

module _ (old mid : World) (a b : Held) (t : Trail) (now : Now) (session : ℕ) (copy later : Copying) (pages : ℕ) (ready : IsReady old a t now) (apart : IsApart a copy.name) (reads : Leaves old copy.name (old.files copy.name)) where
  abbrev last : Turn
  last = ClosesCopy copy.name

  abbrev whole : List ℕ
  whole = joined t.base.frozen

  abbrev files : List MadeFile
  files = (copy.name, whole) ∷ []

  frozen_is : t.base.frozen ≡ (base_now now).frozen
  frozen_is = ap (λ (x : Base). x.frozen) ready.base

  pub copy_files : (left : ℕ) → files ≡ touching session (copy_first left last) (copy_rest left last) now
  copy_files left = ap (λ (f : Image). (copy.name, joined f) ∷ []) frozen_is ∙ copies_make (base_now now).frozen left copy.name ∙ plain_touch session (copy_first left last) (copy_rest left last) now (copy_plain left last tt)

  none_struck : (left : ℕ) → (outcome session (copy_first left last) now).strokes ≡ []
  none_struck zero = ap (λ (o : Outcome). o.strokes) (close_is session copy.name now) ∙ close_strokes (seen_now now) copy.name
  none_struck (suc left) = ap (λ (o : Outcome). o.strokes) (page_is session now)

  not_sync : (left : ℕ) (o : Outcome) → (event_of session (copy_first left last) o).syncs ≡ false
  not_sync zero o = refl
  not_sync (suc left) o = refl

  trail_same : (left : ℕ) → t ≡ after_steps t (steps_in (event_of session (copy_first left last) (outcome session (copy_first left last) now)))
  trail_same left =
      sym (ap (after_strokes t) (none_struck left)) ∙ trail_plain t (event_of session (copy_first left last) (outcome session (copy_first left last) now)) (not_sync left (outcome session (copy_first left last) now))

  -- no turn of a copy only tells something
  copy_told : (left : ℕ) → only_told (event_of session (copy_first left last) (outcome session (copy_first left last) now)) ≡ true → ⊥
  copy_told zero told =
      true≢false (sym (ap has_only_told (sym (ap (λ (x : Outcome). x.reply) (close_is session copy.name now) ∙ close_reply (seen_now now) copy.name)) ∙ told_is (event_of session last (outcome session last now)) told))
  copy_told (suc left) told = unsaid (event_of session Copies (outcome session Copies now)) (ap (λ (x : Outcome). x.reply) (page_is session now)) told

  -- the file alone is touched
  module _ (changes : Changes old mid (Only copy.name) (Remade old copy.name (IsUnfinishedOr whole))) (gave : GaveNothing old mid) where
    -- it touches neither file of the database
    leaves_files : {ended : Type 0} (left : ℕ) → TurnLeaves ended old mid (name_of a) t (copy_first left last) (outcome session (copy_first left last) now).strokes
    leaves_files {ended} zero = files_other ended old mid (Only copy.name) _ (name_of a) t last _ refl changes (λ same. apart_files a copy.name apart (inl (sym same)))
    leaves_files {ended} (suc left) = files_other ended old mid (Only copy.name) _ (name_of a) t Copies _ refl changes (λ same. apart_files a copy.name apart (inl (sym same)))

    -- it fails
    pub copy_fails : (left : ℕ) → b ≡ a → MayAct (copy_said pages) (Err Device) old mid a b t now session (copy_first left last) files
    copy_fails left same = record {
      grows = grows_none old mid gave;
      acts = λ told. record {
        says = tt;
        left = file_left old mid a t ready.opened copy.name whole apart reads (outcome session (copy_first left last) now).strokes _ changes;
        opened = tt;
        running = tt;
        given = tt;
        kept = tt;
        unchanged = λ told. absurd (copy_told left told);
        short = tt;
        files = leaves_files left;
        name = ap (λ (h : Held). name_of h) same;
        cap = ap (λ (h : Held). h.cap) same;
      };
    }

    -- a page is copied
    pub copy_more : (left : ℕ) → 1 ≤ left → b ≡ a → IsOpen mid b t → MayAct (copy_said pages) (Ok More) old mid a b t now session (copy_first left last) files
    unfolding copy_said
    copy_more zero some same opened = absurd (omega (arith, some))
    copy_more (suc left) some same opened =
        let o = page_is session now in
        record {
          grows = grows_none old mid gave;
          acts = λ told. record {
            says = ap (λ (x : Outcome). x.reply) o;
            left = file_left old mid a t ready.opened copy.name whole apart reads (outcome session Copies now).strokes _ changes;
            opened = subst (IsOpen mid b) (trail_same (suc left)) opened;
            running = ap (λ (h : Held). h.running) same ∙ ready.running ∙ sym (ap (λ (x : Outcome). x.running) o);
            given = given_nothing old mid now.given (outcome session Copies now).given gave (ap (λ (x : Outcome). x.given) o);
            kept = kept_none mid (event_of session Copies (outcome session Copies now)) (ap (λ (x : Outcome). x.made) o);
            unchanged = λ told. absurd (copy_told (suc left) told);
            short = tt;
            files = leaves_files (suc left);
            name = ap (λ (h : Held). name_of h) same;
            cap = ap (λ (h : Held). h.cap) same;
          };
        }

    -- the file is whole, and no copy runs any more
    pub copy_ends : (left : ℕ) → left ≡ 0 → b ≡ record a { running = None } → IsOpen mid a t → pages ≡ length t.base.frozen → IsKept mid copy.name whole → MayAct (copy_said pages) (Ok Finished) old mid a b t now session (copy_first left last) files
    unfolding copy_said
    copy_ends (suc left) none same opened all kept = absurd (omega (arith, none))
    copy_ends zero none same opened all kept =
        let o = close_is session copy.name now in
        record {
          grows = grows_none old mid gave;
          acts = λ told. record {
            says = ap (λ (x : Outcome). x.reply) o ∙ close_reply (seen_now now) copy.name ∙ ap (λ (n : ℕ). Some (Pages n)) (sym (all ∙ ap length frozen_is));
            left = file_left old mid a t ready.opened copy.name whole apart reads (outcome session last now).strokes _ changes;
            opened = subst (IsOpen mid b) (trail_same 0) (subst (λ (h : Held). IsOpen mid h t) (sym same) (open_running mid a t None opened));
            running = ap (λ (h : Held). h.running) same ∙ sym (ap (λ (x : Outcome). x.running) o ∙ close_running (seen_now now) copy.name);
            given = given_nothing old mid now.given (outcome session last now).given gave (ap (λ (x : Outcome). x.given) o ∙ close_given (seen_now now) copy.name);
            kept = made_by mid (event_of session last (outcome session last now)) (copy.name, whole) (ap (λ (x : Outcome). x.made) o ∙ close_made (seen_now now) copy.name ∙ ap (λ (f : Image). Some (copy.name, joined f)) (sym frozen_is))
                (kept_one mid copy.name whole kept);
            unchanged = λ told. absurd (copy_told zero told);
            short = tt;
            files = leaves_files zero;
            name = ap (λ (h : Held). name_of h) same;
            cap = ap (λ (h : Held). h.cap) same;
          };
        }

  -- what is left after it
  pub more_behind : (left : ℕ) → 1 ≤ left → later.count - later.next ≡ left - 1 → later.name ≡ copy.name → b ≡ a → IsCopying mid later t.base.frozen → a.running ≡ Some session
      → IsBehind mid b session (copy_first left last) (copy_rest left last) now (Some (Copy later))
  more_behind zero some rest named same goes runs = absurd (omega (arith, some))
  more_behind (suc left) some rest named same goes runs = record {
    next = ap (λ (o : Outcome). o.next ++ copy_rest (suc left) last) (page_is session now) ∙ copy_turns left last
        ∙ ap (λ (n : ℕ). copy_first n last ∷ copy_rest n last) (let e : left ≡ later.count - later.next = omega (arith, rest) in e)
        ∙ ap (λ (n : List ℕ). copy_first (later.count - later.next) (ClosesCopy n) ∷ copy_rest (later.count - later.next) (ClosesCopy n)) (sym named);
    goes = (
      subst (IsCopyingTo mid later) (ap (λ (x : Base). x.frozen) (ready.base ∙ sym (no_stroke (base_now now) (outcome session Copies now).strokes (none_struck (suc left))))) (record { of = goes.of; begun = λ some. goes.begun }),
      record { plain = ap is_delta named ∙ apart.plain; other = λ own. apart.other (sym named ∙ own ∙ ap (λ (h : Held). name_of h) same) },
      ap (λ (h : Held). h.running) same ∙ runs,
    );
  }

  pub end_behind : (w : World) (left : ℕ) → left ≡ 0 → IsBehind w b session (copy_first left last) (copy_rest left last) now None
  end_behind w zero none = record { next = ap (λ (xs : List Turn). xs ++ []) (ap (λ (o : Outcome). o.next) (close_is session copy.name now) ∙ close_next (seen_now now) copy.name); goes = tt }
  end_behind w (suc left) none = absurd (omega (arith, none))

-- the session whose copy it is has it to do in the stalled state
pub copying_stalled : {sound : Bool} (w : World) (held : Held) (t : Trail) (now : Now) (session : ℕ) (left : ℕ) (name : List ℕ) (more : List Turn) → IsReady w held t now → IsGoing sound now
    → slice_index_or now.todo (session - 1) [] ≡ copy_first left (ClosesCopy name) ∷ (copy_rest left (ClosesCopy name) ++ more) → held.files.state ≡ stalled_state
copying_stalled {sound = sound} w held t now session left name more ready going here =
    stalled_now w held t now (session - 1) ready (copying_at now (session - 1) left name more (subst (IsAt sound now (session - 1)) here (going.each (session - 1)))).0

pub finished_not : Finished ≡ More → ⊥
finished_not e = cc

pub more_not : More ≡ Finished → ⊥
more_not e = cc

-- A further turn, by what its call promises of it.
module _ (how : Told) (old mid : World) (a b : Held) (t : Trail) (now : Now) (session : ℕ) (copy later : Copying) (more : List Turn) (ready : IsReady old a t now) (makes : IsMaking now)
    (here : slice_index_or now.todo (session - 1) [] ≡ task_first (Copy copy) ∷ (task_rest (Copy copy) ++ more)) (further : TaskGoes session old a t.base.frozen (Some (Copy copy)))
    (reads : Leaves old copy.name (old.files copy.name)) (reads_then : (m : List ℕ) → Leaves mid m (mid.files m)) where
  abbrev next_one : Turn
  next_one = task_first (Copy copy)

  abbrev next_ones : List Turn
  next_ones = task_rest (Copy copy)

  abbrev its_file : List MadeFile
  its_file = (copy.name, joined t.base.frozen) ∷ []

  abbrev Promised : Result Progress HostFault → Type 0
  Promised result = a.files.state ≡ stalled_state → (OfFiles (name_of a) copy.name → ⊥) → CopiesFile result old mid a b copy later t

  its_turn : (result : Result Progress HostFault) → Promised result → CopiesFile result old mid a b copy later t
  its_turn result promised = promised (copying_stalled old a t now session (copy.count - copy.next) copy.name more ready makes.going here) (apart_files a copy.name further.1)

  -- it failed
  pub copy_failed : (fault : HostFault) → Promised (Err fault) → (answer : Result Left RunError) → IsErr answer → (RanOut answer → ⊥) → Turns how left_refused (left_task (Some (Copy later))) answer old mid a b t now session next_one next_ones more
  copy_failed fault promised answer failed sure =
      let left : ℕ = copy.count - copy.next in
      let does = its_turn (Err fault) promised in
      turns_failed how (copy_said 0) (Err Device) left_refused (left_task (Some (Copy later))) old mid mid a b t now session next_one next_ones more its_file (copy_files old mid a b t now session copy later 0 ready further.1 reads left) makes here
      (copy_fails old mid a b t now session copy later 0 ready further.1 reads does.left does.gave left does.same)
      (marks_made (copy_said 0) (Err Device) old mid a b t now session next_one its_file (apart_one a copy.name _ further.1) reads_then) answer failed (λ acts ran. absurd (sure ran))

  -- a page was copied
  pub copy_page : (p : Progress) → p ≡ More → Promised (Ok p) → CopyCounts (Ok p) copy later → Turns how left_refused (left_task (Some (Copy later))) (Ok Same) old mid a b t now session next_one next_ones more
  copy_page Finished is promised counts = absurd (finished_not is)
  copy_page More is promised counts =
      let left : ℕ = copy.count - copy.next in
      let does = its_turn (Ok More) promised in
      let some : 1 ≤ left = omega (arith, counts.0) in
      let rest : later.count - later.next ≡ left - 1 = omega (arith, counts.0, ap (λ (x : Copying). x.count) counts.1, ap (λ (x : Copying). x.next) counts.1) in
      turns_quiet how (copy_said 0) (Ok More) left_refused (left_task (Some (Copy later))) old mid mid a b t now session next_one next_ones more its_file (copy_files old mid a b t now session copy later 0 ready further.1 reads left) makes here
      (copy_more old mid a b t now session copy later 0 ready further.1 reads does.left does.gave left some does.same does.opened)
      (marks_made (copy_said 0) (Ok More) old mid a b t now session next_one its_file (apart_one a copy.name _ further.1) reads_then) Same tt refl ready (said_pages 0 More)
      (λ told. more_behind old mid a b t now session copy later 0 ready further.1 reads left some rest (ap (λ (x : Copying). x.name) counts.1) does.same does.answer further.2)

  -- all were
  module _ (promised : Promised (Ok Finished)) (counts : CopyCounts (Ok Finished) copy later) (pages : ℕ) (written : pages ≡ later.next) (d : Held) (stops : b.running ≡ Some session → d ≡ record b { running = None }) where
    abbrev left_now : ℕ
    left_now = copy.count - copy.next

    none_left : left_now ≡ 0
    none_left = omega (arith, counts.0)

    last_files : its_file ≡ touching session next_one next_ones now
    last_files = copy_files old mid a d t now session copy later pages ready further.1 reads left_now

    last_acts : MayAct (copy_said pages) (Ok Finished) old mid a d t now session next_one its_file
    last_acts =
        let does = its_turn (Ok Finished) promised in
        copy_ends old mid a d t now session copy later pages ready further.1 reads does.left does.gave left_now none_left (stopped_is a b d session does.same further.2 stops)
        (subst (λ (h : Held). IsOpen mid h t) does.same does.opened) (written ∙ ap (λ (x : Copying). x.next) counts.1 ∙ counts.0 ∙ sym further.0.of.long) does.answer

    last_marks : Acts (copy_said pages) (Ok Finished) old mid a d t now session next_one its_file → Marks old mid a its_file
    last_marks = marks_made (copy_said pages) (Ok Finished) old mid a d t now session next_one its_file (apart_one a copy.name _ further.1) reads_then

    -- it is told how many
    pub copy_last : (new : World) (answer : Result Left RunError) → IfOk answer (λ left. left ≡ was_last) → SaysLine answer mid new (told_line session (told_reply how (Some (Pages pages)))) → (RanOut answer → ⊥)
        → Turns how left_refused (left_task (Some (Copy later))) answer old new a d t now session next_one next_ones more
    copy_last new answer last says lined =
        turns_told answer last how (copy_said pages) (Ok Finished) (Some (Copy later)) old mid new a d t now session next_one next_ones more its_file last_files makes here
        last_acts last_marks tt (Pages pages) (said_pages pages Finished) ready says (λ brief. lined) refl
        (end_behind old mid a d t now session copy later pages ready further.1 reads new left_now none_left)

    -- memory ran out for that
    pub copy_unlined : (answer : Result Left RunError) → IsErr answer → Turns how left_refused (left_task (Some (Copy later))) answer old mid a d t now session next_one next_ones more
    copy_unlined answer failed =
        turns_failed how (copy_said pages) (Ok Finished) left_refused (left_task (Some (Copy later))) old mid mid a d t now session next_one next_ones more its_file last_files makes here last_acts last_marks answer failed
        (λ acts ran. left_lacks old mid (name_of a) t _ its_file _ (none_struck old mid a d t now session copy later pages ready further.1 reads left_now) acts.left)
