-- What the calls of the engine make of a turn.
use Rattle.std.proofs.Common.{◌≡◌, ◌≢◌, ◌⊎◌, inl, inr, ℕ, List, [], ◌∷◌, ◌++◌, length, drop, replicate, refl, sym, ap, subst, ◌∙◌, arith, Result, Ok, Err, IsErr, IsErrAnd, IfErr, Option, Some, None, Contains, true, false}
use Rattle.nb_session.proofs.Common.{slice_index_or, true≢false, append-nil, append_cancel_left, World, IsTimely, Fault, Refused, Device, Memory, Quiet, Changes, Reached, reached_first, GaveNothing, weaker, weakened, Reply, Done, CacheShown, Statement, BeginBackup, Sync, ShowCache, Foretells, WasGiven, MadeFile, Turn, Begins, Seen, Given, Outcome, next_guid, next_hold, without_hold, says, begin_turn, cache_turn, Now, Event, base_now, outcome, event_of, is_sync, files_made, Step, steps_in, after_steps, made, settles, Stroke, Trail, StandsIn, settled, after_stroke, first_turn, IsOnce, left_by, pages_once, steps_plain, after_settling, OfFiles, Strikes, after_strokes, Held, IsOpen, but_pages, name_of, WhereEnded, Answers, Does, GaveAtMost, where_ended, none_yet, scn_is, SaysNone, DoesBegin, Says, Grows, shown_by, Touched, TurnLeft, AreKept, Acts, MayAct, IsReady, has_only_told, Replies, some_said, only_told, quiet_begun, AreWhole, Files}
use Rattle.nb_session.proofs.FilesLaws.{files_as, files_makes, files_nothing, grows_sized, untouched_quiet, files_quiet}
use Rattle.nb_session.specs.Files.{TurnLeaves, is_end, is_finish}
use Rattle.nb_session.specs.Replies.{HasEnded}
use Rattle.nb_base.specs.Takes.{StrikesIn}
use Rattle.nb_base.specs.Stays.{GrowsWithin}
use Rattle.nb_fields.specs.States.{stalled_state}
use Rattle.nb_model.specs.Image.{image_state}
use Rattle.nb_model.specs.Account.{Base}
use Rattle.nb_model.proofs.TurnCases.{begin_either}
use Rattle.nb_base.proofs.TouchLaws.{strikes_in}
use Rattle.nb_model.specs.Well.{is_on_pages}
use Rattle.nb_session.proofs.EventLaws.{strokes_are_steps, told_reply}
use Rattle.nb_session.proofs.GiftLaws.{given_nothing, grows_none}
use Rattle.nb_session.proofs.KeepLaws.{begin_gives, begin_refused, begin_running, begin_made}
use Rattle.nb_session.proofs.ShortLaws.{lacks_none, wanted_any}
use Rattle.nb_session.proofs.TurnLaws.{seen_now, outcome_is}
use Rattle.nb_alloc.proofs.WantLaws.{not_wanted}
use Rattle.nb_alloc.specs.Tries.{WhereMemory}
use Rattle.nb_session.specs.Short.{LacksLast}

-- an event that made no file
event_none : (e : Event) (name bytes : List ℕ) → e.made ≡ None → Contains (files_made (e ∷ [])) (name, bytes) → ⊥
unfolding files_made
event_none e name bytes none there =
    let held : Contains {X = MadeFile} [] (name, bytes) = subst (λ (m : Option MadeFile). Contains (elim m as (λ z. List MadeFile) [ Some file ↦ file ∷ [] | None ↦ [] ]) (name, bytes)) none there in
    omega (arith, held.1)

pub kept_none : (w : World) (e : Event) → e.made ≡ None → AreKept w (files_made (e ∷ []))
kept_none w e none name bytes there = absurd (event_none e name bytes none there)

pub whole_none : (files : Files) (e : Event) → e.made ≡ None → AreWhole (files_made (e ∷ [])) files
whole_none files e none name bytes there = absurd (event_none e name bytes none there)

-- strokes of a turn that makes no file
pub strikes_left : (old new : World) (name : List ℕ) (t : Trail) (ss : List Stroke) (e : Event) → e.made ≡ None → Strikes old new name t ss → Changes old new (Touched name []) (TurnLeft old name t ss [] (files_made (e ∷ [])))
strikes_left old new name t ss e none struck =
    weakened old new (OfFiles name) (Touched name []) (Reached after_stroke (StandsIn name) t ss) (TurnLeft old name t ss [] (files_made (e ∷ []))) struck (λ m one. inl one)
    (λ files others has. record { database = has; each = λ n bytes there. absurd (omega (arith, there.1)); whole_first = inr (whole_none files e none) })

-- a reply for each value
abbrev pub some_by : {T : Type 0} → (T → Reply) → T → Option Reply
some_by reply value = Some (reply value)

as_says : {T : Type 0} (reply : T → Reply) (result : Result T Fault) (said : Option Reply) → Answers reply result said → Says (some_by reply) result said
as_says reply (Ok value) said is = is
as_says reply (Err (Refused refusal)) said is = is
as_says reply (Err Device) said is = tt
as_says reply (Err Memory) said is = tt

-- nothing is said yet, or the refusal
pub says_none : {T : Type 0} (result : Result T Fault) (said : Option Reply) → SaysNone result said → Says (λ value. None) result said
says_none (Ok value) said is = is
says_none (Err (Refused refusal)) said is = is
says_none (Err Device) said is = tt
says_none (Err Memory) said is = tt

-- what holds where a call ended, said otherwise
pub ended_map : {T P Q : Type 0} (result : Result T Fault) → (P → Q) → WhereEnded result P → WhereEnded result Q
ended_map (Ok value) f is = f is
ended_map (Err (Refused refusal)) f is = f is
ended_map (Err Device) f is = tt
ended_map (Err Memory) f is = tt

-- a turn without operations lacks none
pub left_lacks : (old new : World) (name : List ℕ) (t : Trail) (ss : List Stroke) (files whole : List MadeFile) → ss ≡ [] → Changes old new (Touched name files) (TurnLeft old name t ss files whole) → LacksLast old new name t ss
left_lacks old new name t ss files whole none left = record {
  few = [];
  rest = [];
  whole = sym none;
  short = λ same. none;
  left = weaker old new _ _ left.moments (λ fs said is. subst (λ (xs : List Stroke). Reached after_stroke (StandsIn name) t xs fs) none is.has.database);
}

-- The answer of one call, said of another.
module _ {T S : Type 0} (reply : T → Option Reply) (other : S → Option Reply) (old new : World) (a b : Held) (t : Trail) (now : Now) (session : ℕ) (turn : Turn) (files : List MadeFile) where
  by_fault : (fault : Fault) → Acts reply (Err fault) old new a b t now session turn files → Acts other (Err fault) old new a b t now session turn files
  by_fault (Refused refusal) acts = record { says = acts.says; left = acts.left; opened = acts.opened; running = acts.running; given = acts.given; kept = acts.kept; unchanged = acts.unchanged; short = acts.short; files = acts.files; name = acts.name; cap = acts.cap }
  by_fault Device acts = record { says = acts.says; left = acts.left; opened = acts.opened; running = acts.running; given = acts.given; kept = acts.kept; unchanged = acts.unchanged; short = acts.short; files = acts.files; name = acts.name; cap = acts.cap }
  by_fault Memory acts = record { says = acts.says; left = acts.left; opened = acts.opened; running = acts.running; given = acts.given; kept = acts.kept; unchanged = acts.unchanged; short = acts.short; files = acts.files; name = acts.name; cap = acts.cap }

  -- it is passed on at the exit of a `?`
  pub may_passed : (fault : Fault) (result : Result S Fault) → IsErr result × IsErrAnd result (λ e. e ≡ fault) → MayAct reply (Err fault) old new a b t now session turn files → MayAct other result old new a b t now session turn files
  may_passed fault (Ok value) is may = absurd is.1
  may_passed fault (Err e) is may =
      subst (λ (f : Fault). MayAct other (Err f) old new a b t now session turn files) (sym is.1) (record { grows = may.grows; acts = λ told. by_fault fault (may.acts told) })

  -- memory runs out after it, where it makes no operation
  pub may_then_memory : (value : T) (fault : Fault) (result : Result S Fault) → (outcome session turn now).strokes ≡ [] → fault ≡ Memory → IsErr result × IsErrAnd result (λ e. e ≡ fault) → MayAct reply (Ok value) old new a b t now session turn files → MayAct other result old new a b t now session turn files
  may_then_memory value fault (Ok x) none memory is may = absurd is.1
  may_then_memory value fault (Err e) none memory is may =
      subst (λ (f : Fault). MayAct other (Err f) old new a b t now session turn files) (sym (is.1 ∙ memory)) (record {
        grows = may.grows;
        acts = λ told. let acts = may.acts told in record { says = tt; left = acts.left; opened = tt; running = tt; given = tt; kept = tt; unchanged = acts.unchanged; short = left_lacks old new (name_of a) t _ files _ none acts.left; files = files_as (is_end turn) _ _ old new (name_of a) t _ (λ (m : ⊥ × (is_finish turn ≡ true)). absurd m.0) acts.files; name = acts.name; cap = acts.cap };
      })

  -- the same value, said otherwise
  pub may_value : (value : T) (said : S) → reply value ≡ other said → MayAct reply (Ok value) old new a b t now session turn files → MayAct other (Ok said) old new a b t now session turn files
  may_value value said same may = record {
    grows = may.grows;
    acts = λ told. let acts = may.acts told in record { says = acts.says ∙ same; left = acts.left; opened = acts.opened; running = acts.running; given = acts.given; kept = acts.kept; unchanged = acts.unchanged; short = tt; files = acts.files; name = acts.name; cap = acts.cap };
  }

-- the trail after a turn that waits for nothing
pub trail_plain : (t : Trail) (e : Event) → e.syncs ≡ false → after_strokes t e.strokes ≡ after_steps t (steps_in e)
trail_plain t e plain = strokes_are_steps t e.strokes ∙ ap (after_steps t) (sym (steps_plain e plain))

-- What only tells something changes no file.
pub idle_unchanged : (old new : World) (reply : Option Reply) (e : Event) → reply ≡ e.reply → (has_only_told reply ≡ true → Quiet old new) → only_told e ≡ true → new.files ≡ old.files
idle_unchanged old new reply e same idle told = (idle (ap has_only_told same ∙ told_reply e told)).still.files

-- Memory ran out before anything was done.
pub nothing_acts : {T : Type 0} (reply : T → Option Reply) (w : World) (held : Held) (t : Trail) (now : Now) (session : ℕ) (turn : Turn) → IsTimely w → IsReady w held t now → MayAct reply (Err Memory) w w held held t now session turn []
nothing_acts reply w held t now session turn timely ready =
    let still : Strikes w w (name_of held) t [] = none_yet w w held t [] (quiet_begun w timely) ready.opened in
    record {
      grows = grows_none w w (record { guids = refl; times = refl });
      acts = λ told. record {
        says = tt;
        left = weakened w w (OfFiles (name_of held)) (Touched (name_of held) []) (Reached after_stroke (StandsIn (name_of held)) t []) (TurnLeft w (name_of held) t (outcome session turn now).strokes [] _) still (λ m one. inl one)
            (λ files others has. record { database = reached_first after_stroke (StandsIn (name_of held)) t (outcome session turn now).strokes files has; each = λ n bytes there. absurd (omega (arith, there.1)); whole_first = inl has });
        opened = tt;
        running = tt;
        given = tt;
        kept = tt;
        unchanged = λ told. refl;
        short = record { few = []; rest = (outcome session turn now).strokes; whole = refl; short = λ none. none; left = weaker w w _ _ still.moments (λ files said left. left.has) };
        files = files_nothing turn w (name_of held) t _ (quiet_begun w timely);
        name = refl;
        cap = refl;
      };
    }

-- A statement on pages, by what the engine does of its turn.
pub does_acts : {T : Type 0} (reply : T → Reply) (result : Result T Fault) (old new : World) (a b : Held) (t : Trail) (now : Now) (session : ℕ) (statement it : Statement) → statement ≡ it → is_sync (Begins it) ≡ false → is_on_pages it ≡ true
    → left_by it now.given ≡ now.given → (o : Outcome) → o ≡ first_turn (seen_now now) session it → IsReady old a t now → WhereMemory result (LacksLast old new (name_of a) t o.strokes)
    → Does reply result old new a b t o → MayAct (some_by reply) result old new a b t now session (Begins statement) []
does_acts reply result old new a b t now session statement it is plain on none o turn_is ready short does =
    let this : Outcome = outcome session (Begins statement) now in
    let first : this ≡ first_turn (seen_now now) session statement = outcome_is session statement now in
    let same : o ≡ this = turn_is ∙ ap (first_turn (seen_now now) session) (sym is) ∙ sym first in
    let once : IsOnce (seen_now now) (left_by statement now.given) (first_turn (seen_now now) session statement) = pages_once statement (ap is_on_pages is ∙ on) (seen_now now) session in
    let event : Event = event_of session (Begins statement) this in
    record {
      grows = grows_none old new does.makes.gave;
      acts = λ told. record {
        says = subst (λ (x : Outcome). Says (some_by reply) result x.reply) same (as_says reply result o.reply does.answer);
        left = strikes_left old new (name_of a) t _ event (ap (λ (x : Outcome). x.made) first ∙ once.made) (subst (λ (x : Outcome). Strikes old new (name_of a) t x.strokes) same (strikes_in old new a.files.state (name_of a) t o.strokes does.makes.left));
        opened = ended_map result (subst (IsOpen new b) (trail_plain t event (ap (λ (x : Statement). is_sync (Begins x)) is ∙ plain)))
            (subst (λ (x : Outcome). WhereEnded result (IsOpen new b (after_strokes t x.strokes))) same does.makes.opened);
        running = where_ended result _ (does.makes.goes.running ∙ ready.running ∙ sym (ap (λ (x : Outcome). x.running) first ∙ once.running));
        given = where_ended result _ (given_nothing old new now.given this.given does.makes.gave (ap (λ (x : Outcome). x.given) first ∙ once.given ∙ ap (λ (x : Statement). left_by x now.given) is ∙ none));
        kept = where_ended result _ (kept_none new event (ap (λ (x : Outcome). x.made) first ∙ once.made));
        unchanged = idle_unchanged old new o.reply event (ap (λ (x : Outcome). x.reply) same) does.idle;
        short = subst (λ (x : Outcome). WhereMemory result (LacksLast old new (name_of a) t x.strokes)) same short;
        files = subst (λ (x : Outcome). TurnLeaves (HasEnded result) old new (name_of a) t (Begins statement) x.strokes) same (files_makes (HasEnded result) old new a t (Begins statement) o.strokes refl ready.opened does.makes.left does.makes.long);
        name = does.makes.goes.name;
        cap = does.makes.goes.cap;
      };
    }

-- What was answered, said of the reply to it.
may_replied : {T : Type 0} (reply : T → Reply) (answer : Result T Fault) (result : Result Reply Fault) → Replies reply answer result → (old new : World) (a b : Held) (t : Trail) (now : Now) (session : ℕ) (turn : Turn) (files : List MadeFile)
    → MayAct (some_by reply) answer old new a b t now session turn files → MayAct some_said result old new a b t now session turn files
may_replied reply (Ok value) (Ok said) is old new a b t now session turn files may = may_value (some_by reply) some_said old new a b t now session turn files value said (ap Some (sym is)) may
may_replied reply (Ok value) (Err fault) is old new a b t now session turn files may = absurd is
may_replied reply (Err fault) (Ok said) is old new a b t now session turn files may = absurd is
may_replied reply (Err fault) (Err other) is old new a b t now session turn files may = may_passed (some_by reply) some_said old new a b t now session turn files fault (Err other) (refl, is) may

pub does_replied : {T : Type 0} (reply : T → Reply) (answer : Result T Fault) (result : Result Reply Fault) → Replies reply answer result → (old new : World) (a b : Held) (t : Trail) (now : Now) (session : ℕ) (statement it : Statement) → statement ≡ it
    → is_sync (Begins it) ≡ false → is_on_pages it ≡ true → left_by it now.given ≡ now.given → (o : Outcome) → o ≡ first_turn (seen_now now) session it → IsReady old a t now → WhereMemory answer (LacksLast old new (name_of a) t o.strokes)
    → Does reply answer old new a b t o → MayAct some_said result old new a b t now session (Begins statement) []
does_replied reply answer result replied old new a b t now session statement it is plain on none o turn_is ready short does =
    may_replied reply answer result replied old new a b t now session (Begins statement) [] (does_acts reply answer old new a b t now session statement it is plain on none o turn_is ready short does)

-- A statement that makes no operation.
pub tells_replied : {T : Type 0} (reply : T → Reply) (answer : Result T Fault) (result : Result Reply Fault) → Replies reply answer result → (old new : World) (a b : Held) (t : Trail) (now : Now) (session : ℕ) (statement it : Statement) → statement ≡ it
    → is_sync (Begins it) ≡ false → is_on_pages it ≡ true → left_by it now.given ≡ now.given → (o : Outcome) → o ≡ first_turn (seen_now now) session it → o.strokes ≡ [] → IsReady old a t now → Does reply answer old new a b t o
    → MayAct some_said result old new a b t now session (Begins statement) []
tells_replied reply answer result replied old new a b t now session statement it is plain on none o turn_is no_stroke ready does =
    does_replied reply answer result replied old new a b t now session statement it is plain on none o turn_is ready (wanted_any answer (lacks_none old new (name_of a) t o.strokes no_stroke (strikes_in old new a.files.state (name_of a) t o.strokes does.makes.left))) does

-- Memory runs out for its reply.
pub tells_unsaid : {T : Type 0} (reply : T → Reply) (value : T) (fault : Fault) (result : Result Reply Fault) → fault ≡ Memory → IsErr result × IsErrAnd result (λ e. e ≡ fault) → (old new : World) (a b : Held) (t : Trail) (now : Now) (session : ℕ)
    (statement it : Statement) → statement ≡ it → is_sync (Begins it) ≡ false → is_on_pages it ≡ true → left_by it now.given ≡ now.given → (o : Outcome) → o ≡ first_turn (seen_now now) session it → o.strokes ≡ [] → IsReady old a t now
    → Does reply (Ok value) old new a b t o → MayAct some_said result old new a b t now session (Begins statement) []
tells_unsaid reply value fault result memory failed old new a b t now session statement it is plain on none o turn_is no_stroke ready does =
    may_then_memory (some_by reply) some_said old new a b t now session (Begins statement) [] value fault result
    (ap (λ (x : Outcome). x.strokes) (outcome_is session statement now ∙ ap (first_turn (seen_now now) session) is ∙ sym turn_is) ∙ no_stroke) memory failed
    (does_acts reply (Ok value) old new a b t now session statement it is plain on none o turn_is ready tt does)

-- a fault is handed on at the exit of a `?`
pub replied_err : {T : Type 0} (reply : T → Reply) (fault : Fault) (result : Result Reply Fault) → IsErr result × IsErrAnd result (λ e. e ≡ fault) → Replies reply (Err fault) result
replied_err reply fault (Ok said) is = absurd is.1
replied_err reply fault (Err e) is = is.1

-- `sync`
module _ (old new : World) (a b : Held) (t : Trail) (now : Now) (session : ℕ) (statement : Statement) (is : statement ≡ Sync) (ready : IsReady old a t now) (same : but_pages b ≡ but_pages a) (struck : StrikesIn old new a.files.state (name_of a) t [])
    (grown : GrowsWithin old new (name_of a) a.files.page_size t []) (gave : GaveNothing old new) where
  sync_turn : outcome session (Begins statement) now ≡ says (seen_now now) Done []
  unfolding first_turn
  sync_turn = outcome_is session statement now ∙ ap (first_turn (seen_now now) session) is

  sync_left : Changes old new (Touched (name_of a) []) (TurnLeft old (name_of a) t (outcome session (Begins statement) now).strokes [] (files_made (event_of session (Begins statement) (outcome session (Begins statement) now) ∷ [])))
  sync_left = strikes_left old new (name_of a) t _ (event_of session (Begins statement) (outcome session (Begins statement) now)) (ap (λ (x : Outcome). x.made) sync_turn) (subst (λ (x : Outcome). Strikes old new (name_of a) t x.strokes) (sym sync_turn) (strikes_in old new a.files.state (name_of a) t [] struck))

  sync_files : (ended : Type 0) → TurnLeaves ended old new (name_of a) t (Begins statement) (outcome session (Begins statement) now).strokes
  sync_files ended = subst (λ (x : Outcome). TurnLeaves ended old new (name_of a) t (Begins statement) x.strokes) (sym sync_turn) (files_makes ended old new a t (Begins statement) [] refl ready.opened struck grown)

  sync_steps : (o : Outcome) → o.strokes ≡ [] → settled t.base ≡ after_steps t (steps_in (event_of session (Begins statement) o))
  unfolding made
  sync_steps o none =
      sym (after_settling t)
      ∙ ap (λ (x : Statement). after_steps t (made [] ++ elim (is_sync (Begins x)) as (λ z. List Step) [ true ↦ settles ∷ [] | false ↦ [] ])) (sym is)
      ∙ ap (λ (ss : List Stroke). after_steps t (made ss ++ elim (is_sync (Begins statement)) as (λ z. List Step) [ true ↦ settles ∷ [] | false ↦ [] ])) (sym none)

  -- it does more than to tell something
  sync_told : only_told (event_of session (Begins statement) (outcome session (Begins statement) now)) ≡ true → new.files ≡ old.files
  sync_told told = absurd (true≢false (sym (told_reply (event_of session (Begins statement) (outcome session (Begins statement) now)) told) ∙ ap (λ (x : Outcome). has_only_told x.reply) sync_turn))

  pub sync_acts : {T : Type 0} (value : T) → IsOpen new b (settled t.base) → MayAct (λ v. Some Done) (Ok value) old new a b t now session (Begins statement) []
  sync_acts value opened = record {
    grows = grows_none old new gave;
    acts = λ told. record {
      says = ap (λ (x : Outcome). x.reply) sync_turn;
      left = sync_left;
      opened = subst (IsOpen new b) (sync_steps (outcome session (Begins statement) now) (ap (λ (x : Outcome). x.strokes) sync_turn)) opened;
      running = ap (λ (h : Held). h.running) same ∙ ready.running ∙ sym (ap (λ (x : Outcome). x.running) sync_turn);
      given = given_nothing old new now.given (outcome session (Begins statement) now).given gave (ap (λ (x : Outcome). x.given) sync_turn);
      kept = kept_none new (event_of session (Begins statement) (outcome session (Begins statement) now)) (ap (λ (x : Outcome). x.made) sync_turn);
      unchanged = sync_told;
      short = tt;
      files = sync_files _;
      name = ap (λ (h : Held). name_of h) same;
      cap = ap (λ (h : Held). h.cap) same;
    };
  }

  pub sync_failed : {T : Type 0} (reply : T → Option Reply) → MayAct reply (Err Device) old new a b t now session (Begins statement) []
  sync_failed reply = record {
    grows = grows_none old new gave;
    acts = λ told. record { says = tt; left = sync_left; opened = tt; running = tt; given = tt; kept = tt; unchanged = sync_told; short = tt; files = sync_files _; name = ap (λ (h : Held). name_of h) same; cap = ap (λ (h : Held). h.cap) same };
  }

-- A value that was given, where the first of these were, is the next one of them.
module _ {A : Type 0} (none : A) (old new given first later : List A) (is : new ≡ old ++ first) (all : given ≡ first ++ later) (x : A) where
  pub first_given : new ≡ old ++ x ∷ [] → given ≡ x ∷ drop 1 given
  first_given gave =
      let whole : given ≡ x ∷ later = all ∙ ap (λ (l : List A). l ++ later) (append_cancel_left old first (x ∷ []) (sym is ∙ gave)) in
      whole ∙ ap (λ (l : List A). x ∷ l) (sym (ap (drop 1) whole))

  pub most_given : (new ≡ old) ⊎ (new ≡ old ++ x ∷ []) → (new ≡ old) ⊎ (new ≡ old ++ slice_index_or given 0 none ∷ [])
  most_given (inl nothing) = inl nothing
  most_given (inr gave) = inr (gave ∙ ap (λ (y : A). old ++ y ∷ []) (sym (ap (λ (l : List A). slice_index_or l 0 none) (first_given gave))))

pub grows_at_most : (old new : World) (guid : List ℕ) → length guid ≡ 16 → GaveAtMost old new guid → new.times ≡ old.times → Grows old new
grows_at_most old new guid sixteen (inl none) times = grows_none old new (record { guids = none; times = times })
grows_at_most old new guid sixteen (inr gave) times = record { ids = guid ∷ []; clock = []; gave = record { guids = gave; times = times ∙ sym (append-nil old.times) }; sixteen = (sixteen, tt) }

-- In the stalled state no backup begins.
begin_files : (ended : Type 0) (old new : World) (a : Held) (t : Trail) (statement : Statement) (s : Seen) → IsOpen old a t → t.base ≡ s.base → (has_only_told (begin_turn s).reply ≡ true → Quiet old new)
    → GrowsWithin old new (name_of a) a.files.page_size t (begin_turn s).strokes → TurnLeaves ended old new (name_of a) t (Begins statement) (begin_turn s).strokes
begin_files ended old new a t statement s is same idle grows = record {
  frozen = λ stalled plain. untouched_quiet old new (name_of a) (idle (refused (sym (ap (λ (b : Base). image_state b.image) same) ∙ stalled)));
  gone = λ merged. absurd (true≢false (sym merged.1));
  long = grows_sized old new a t (begin_turn s).strokes is grows;
}
  where
    refused : image_state s.base.image ≡ stalled_state → has_only_told (begin_turn s).reply ≡ true
    refused = begin_either (λ o. image_state s.base.image ≡ stalled_state → has_only_told o.reply ≡ true) s (λ r stalled. refl) (λ may stalled. absurd (omega (arith, may.normal, stalled)))

-- `alter database begin backup`
module _ (result : Result ℕ Fault) (old new : World) (a b : Held) (t : Trail) (now : Now) (session : ℕ) (statement : Statement) (is : statement ≡ BeginBackup) (ready : IsReady old a t now) (cap : b.cap ≡ a.cap) (guid : List ℕ) (sixteen : length guid ≡ 16) (asked : GaveAtMost old new guid) (sure : IfErr result (λ fault. fault ≢ Memory))
    (begins : (s : Seen) → t.base ≡ s.base → GaveAtMost old new (next_guid s.given) → DoesBegin result old new a b t (next_guid s.given) (begin_turn s)) where
  abbrev this : Outcome
  this = outcome session (Begins statement) now

  same : begin_turn (seen_now now) ≡ this
  unfolding first_turn
  same = ap (first_turn (seen_now now) session) (sym is) ∙ sym (outcome_is session statement now)

  begin_times : new.times ≡ old.times
  begin_times = (begins (record { base = base_now now; cache = now.cache; running = now.running; entry = now.account.entry; given = record { guids = guid ∷ []; times = []; holds = [] } }) ready.base asked).times

  begin_given : (r : Result ℕ Fault) → DoesBegin r old new a b t (next_guid now.given) (begin_turn (seen_now now)) → Foretells now.given (shown_by (Begins statement) a) old new → WhereEnded r (WasGiven old new now.given (begin_turn (seen_now now)).given)
  begin_given (Ok scn) does told =
      subst (λ (left : Given). WasGiven old new now.given left) (sym (begin_gives (seen_now now) scn does.answer)) (record {
        ids = next_guid now.given ∷ [];
        clock = [];
        guids = does.gave;
        guids_first = first_given (replicate 16 0) old.guids new.guids now.given.guids told.ids told.later_ids told.guids told.guids_first (next_guid now.given) does.gave;
        times = does.times ∙ sym (append-nil old.times);
        times_first = refl;
      })
  begin_given (Err (Refused refusal)) does told =
      given_nothing old new now.given (begin_turn (seen_now now)).given (record { guids = does.refused.1.guids; times = does.refused.1.times }) (begin_refused (seen_now now) refusal does.answer)
  begin_given (Err Device) does told = tt
  begin_given (Err Memory) does told = tt

  pub begin_acts : MayAct (some_by scn_is) result old new a b t now session (Begins statement) []
  begin_acts = record {
    grows = grows_at_most old new guid sixteen asked begin_times;
    acts = λ told.
        let does = begins (seen_now now) ready.base (most_given (replicate 16 0) old.guids new.guids now.given.guids told.ids told.later_ids told.guids told.guids_first guid asked) in
        record {
          says = subst (λ (x : Outcome). Says (some_by scn_is) result x.reply) same (as_says scn_is result (begin_turn (seen_now now)).reply does.answer);
          left = strikes_left old new (name_of a) t _ (event_of session (Begins statement) this) (sym (ap (λ (x : Outcome). x.made) same) ∙ begin_made (seen_now now)) (subst (λ (x : Outcome). Strikes old new (name_of a) t x.strokes) same does.left);
          opened = ended_map result (subst (IsOpen new b) (trail_plain t (event_of session (Begins statement) this) (ap (λ (x : Statement). is_sync (Begins x)) is)))
              (subst (λ (x : Outcome). WhereEnded result (IsOpen new b (after_strokes t x.strokes))) same does.opened);
          running = where_ended result _ (does.running ∙ ready.running ∙ sym (sym (ap (λ (x : Outcome). x.running) same) ∙ begin_running (seen_now now)));
          given = subst (λ (x : Outcome). WhereEnded result (WasGiven old new now.given x.given)) same (begin_given result does told);
          kept = where_ended result _ (kept_none new (event_of session (Begins statement) this) (sym (ap (λ (x : Outcome). x.made) same) ∙ begin_made (seen_now now)));
          unchanged = idle_unchanged old new (begin_turn (seen_now now)).reply (event_of session (Begins statement) this) (ap (λ (x : Outcome). x.reply) same) does.idle;
          short = not_wanted result _ sure;
          files = subst (λ (x : Outcome). TurnLeaves (HasEnded result) old new (name_of a) t (Begins statement) x.strokes) same (begin_files (HasEnded result) old new a t statement (seen_now now) ready.opened ready.base does.idle does.long);
          name = does.name;
          cap = cap;
        };
  }

-- `show cache`: it makes no call, and shows how many pages may be in memory, and how many are.
module _ (w : World) (held : Held) (t : Trail) (now : Now) (session : ℕ) (statement : Statement) (is : statement ≡ ShowCache) (timely : IsTimely w) (ready : IsReady w held t now) where
  cache_is : outcome session (Begins statement) now ≡ cache_turn (seen_now now)
  unfolding first_turn
  cache_is = outcome_is session statement now ∙ ap (first_turn (seen_now now) session) is

  abbrev cache_shown : Outcome
  cache_shown = record { strokes = []; reply = Some (CacheShown now.cache (next_hold now.given)); next = []; running = now.running; made = None; given = without_hold now.given }

  shows : outcome session (Begins statement) now ≡ cache_shown
  unfolding cache_turn
  shows = cache_is

  first_number : Foretells now.given (shown_by (Begins statement) held) w w → next_hold now.given ≡ length held.pages
  first_number told = ap (λ (xs : List ℕ). slice_index_or xs 0 0) (told.holds_first ∙ ap (λ (x : Statement). shown_by (Begins x) held ++ told.later_shown) is)

  still : GaveNothing w w
  still = record { guids = refl; times = refl }

  pub cache_acts : (reply : Reply) → reply ≡ CacheShown held.cap (length held.pages) → MayAct some_said (Ok reply) w w held held t now session (Begins statement) []
  cache_acts reply answered = record {
    grows = grows_none w w still;
    acts = λ told. record {
      says = ap (λ (x : Outcome). x.reply) shows ∙ ap (λ (n : ℕ). Some (CacheShown n (next_hold now.given))) (sym ready.cache) ∙ ap (λ (n : ℕ). Some (CacheShown held.cap n)) (first_number told) ∙ ap Some (sym answered);
      left = strikes_left w w (name_of held) t _ (event_of session (Begins statement) (outcome session (Begins statement) now)) (ap (λ (x : Outcome). x.made) shows) (none_yet w w held t _ (quiet_begun w timely) ready.opened);
      opened = subst (IsOpen w held) (ap (after_strokes t) (sym (ap (λ (x : Outcome). x.strokes) shows)) ∙ trail_plain t (event_of session (Begins statement) (outcome session (Begins statement) now)) (ap (λ (x : Statement). is_sync (Begins x)) is)) ready.opened;
      running = ready.running ∙ sym (ap (λ (x : Outcome). x.running) shows);
      given = subst (λ (g : Given). WasGiven w w now.given g) (sym (ap (λ (x : Outcome). x.given) shows)) (record {
        ids = [];
        clock = [];
        guids = sym (append-nil w.guids);
        guids_first = refl;
        times = sym (append-nil w.times);
        times_first = refl;
      });
      kept = kept_none w (event_of session (Begins statement) (outcome session (Begins statement) now)) (ap (λ (x : Outcome). x.made) shows);
      unchanged = λ told. refl;
      short = tt;
      files = files_quiet _ w w (name_of held) t (Begins statement) _ refl (quiet_begun w timely);
      name = refl;
      cap = refl;
    };
  }
