-- How a backup begins and ends by its turn.
use Rattle.std.proofs.Common.{◌≡◌, ℕ, ◌+◌, List, [], ◌∷◌, refl, sym, ap, subst, ◌∙◌, true, Option, Some, None, Result, Ok, Err}
use Rattle.nb_engine.proofs.Common.{normal_state, World, Fault, Device, Memory, Refusal, Quiet, Refused, Scn, image_scn, Base, Ask, Stroke, begin, Cause, read_only, not_state, no_scn, Seen, Outcome, next_guid, without_guid, says, unless, begin_turn, end_turn, end_strokes, end_scn, ends_by, Trail, Strikes, after_strokes, Held, IsOpen, name_of, Tested, has_only_told, unless_by, open_still, none_yet, DoesBegin, DoesEnd, Starts, starting_cause, told_some, unless_refused, unless_allowed, seeing, first_here, first_next}
use Rattle.nb_host.specs.declared.faults.Fault.TheVariants.{Refused as RefusedFault}
use Rattle.nb_state.specs.Turns.{begin_cause, end_cause, Begins, Ends}
use Rattle.nb_base.specs.Stays.{GrowsWithin}
use Rattle.nb_base.proofs.StaysLaws.{grows_not}

-- what a turn does that isn't refused, its strokes by the cause
pub strokes_by : (s : Seen) (cause : Cause) (o : Outcome) → (unless s cause o).strokes ≡ unless_by cause o.strokes
unfolding unless
strokes_by s None o = refl
strokes_by s (Some r) o = refl

-- a backup that begins
abbrev begun : Seen → Outcome
begun s = record {
  strokes = begin (next_guid s.given) None ∷ [];
  reply = Some (Scn (image_scn s.base.image + 1));
  next = [];
  running = s.running;
  made = None;
  given = without_guid s.given;
}

begin_is : (s : Seen) → read_only s.base.image ≡ None → begin_turn s ≡ unless s (begin_cause s.base.image) (begun s)
unfolding begin_turn
begin_is s free = ap (λ (c : Cause). unless s c (begun s)) (first_next (read_only s.base.image) (not_state normal_state s.base.image ∷ no_scn s.base.image ∷ []) free)

pub begin_closed : (s : Seen) (r : Refusal) → read_only s.base.image ≡ Some r → begin_turn s ≡ says s (Refused r) []
unfolding begin_turn
begin_closed s r closed = unless_refused s _ (begun s) r (first_here (read_only s.base.image) _ r closed)

-- it was refused before it began
pub refused_begin : (r : Refusal) (old new : World) (a : Held) (t : Trail) (s : Seen) → t.base ≡ s.base → Quiet old new → IsOpen old a t → read_only t.base.image ≡ Some r → DoesBegin (Err (RefusedFault r)) old new a a t (next_guid s.given) (begin_turn s)
refused_begin r old new a t s same quiet is closed =
    subst (λ (x : Base). DoesBegin (Err (RefusedFault r)) old new a a t (next_guid s.given) (begin_turn (seeing s x))) same
    (subst (λ (o : Outcome). DoesBegin (Err (RefusedFault r)) old new a a t (next_guid s.given) o) (sym (begin_closed (seeing s t.base) r closed)) (record {
      answer = refl;
      left = none_yet old new a t [] quiet is;
      long = grows_not old new (name_of a) a.files.page_size t [] quiet;
      frozen = tt;
      opened = open_still old new a a t refl quiet is;
      gave = tt;
      times = quiet.times;
      refused = (refl, quiet);
      idle = λ told. quiet;
      running = refl;
      name = refl;
    }))

module _ (old new : World) (a b : Held) (t : Trail) (s : Seen) (is : IsOpen old a t) where
  abbrev here : Seen
  here = seeing s t.base

  -- it begins as the store does
  -- a turn that begins a backup only tells something where it is refused
  begun_idle : (has_only_told (unless here (begin_cause t.base.image) (begun here)).reply ≡ true) → ((r : Refusal) → begin_cause t.base.image ≡ Some r → Quiet old new) → Quiet old new
  begun_idle told idle = let some = told_some here (begin_cause t.base.image) (begun here) refl told in idle some.0 some.1

  pub does_begin : (result : Result ℕ Fault) → t.base ≡ s.base → read_only t.base.image ≡ None → Begins result old new a b t (next_guid s.given) None → DoesBegin result old new a b t (next_guid s.given) (begin_turn s)
  does_begin result same free begins =
      subst (λ (x : Base). DoesBegin result old new a b t (next_guid s.given) (begin_turn (seeing s x))) same
      (subst (λ (o : Outcome). DoesBegin result old new a b t (next_guid s.given) o) (sym (begin_is here free)) (by result begins))
    where
      turn : Outcome
      turn = unless here (begin_cause t.base.image) (begun here)

      left : (strokes : List Stroke) → Strikes old new (name_of a) t (unless_by (begin_cause t.base.image) strokes) → strokes ≡ begin (next_guid s.given) None ∷ [] → Strikes old new (name_of a) t turn.strokes
      left strokes struck e =
          subst (λ (ss : List Stroke). Strikes old new (name_of a) t ss) (ap (λ (ss : List Stroke). unless_by (begin_cause t.base.image) ss) e ∙ sym (strokes_by here (begin_cause t.base.image) (begun here))) struck

      long : GrowsWithin old new (name_of a) a.files.page_size t (unless_by (begin_cause t.base.image) (begin (next_guid s.given) None ∷ [])) → GrowsWithin old new (name_of a) a.files.page_size t turn.strokes
      long grows = subst (λ (ss : List Stroke). GrowsWithin old new (name_of a) a.files.page_size t ss) (sym (strokes_by here (begin_cause t.base.image) (begun here))) grows

      by : (r : Result ℕ Fault) → Begins r old new a b t (next_guid s.given) None → DoesBegin r old new a b t (next_guid s.given) turn
      by (Ok scn) is_begun =
          let o = unless_allowed here (begin_cause t.base.image) (begun here) is_begun.test in
          record {
            answer = ap (λ (x : Outcome). x.reply) o ∙ ap (λ (n : ℕ). Some (Scn n)) (sym is_begun.answer);
            left = left _ is_begun.left refl;
            long = long is_begun.long;
            frozen = is_begun.frozen;
            opened = subst (λ (x : Outcome). IsOpen new b (after_strokes t x.strokes)) (sym o) is_begun.opened;
            gave = is_begun.gave;
            times = is_begun.times;
            refused = tt;
            idle = λ told. begun_idle told is_begun.idle;
            running = is_begun.running;
            name = is_begun.name;
          }
      by (Err (RefusedFault r)) is_begun =
          let o = unless_refused here (begin_cause t.base.image) (begun here) r is_begun.test in
          record {
            answer = ap (λ (x : Outcome). x.reply) o;
            left = left _ is_begun.left refl;
            long = long is_begun.long;
            frozen = tt;
            opened = subst (λ (x : Outcome). IsOpen new b (after_strokes t x.strokes)) (sym o) (open_still old new a b t is_begun.refused.0 is_begun.refused.1 is);
            gave = tt;
            times = is_begun.times;
            refused = is_begun.refused;
            idle = λ told. begun_idle told is_begun.idle;
            running = is_begun.running;
            name = is_begun.name;
          }
      by (Err Device) is_begun = record { answer = tt; left = left _ is_begun.left refl; long = long is_begun.long; frozen = tt; opened = tt; gave = tt; times = is_begun.times; refused = tt; idle = λ told. begun_idle told is_begun.idle; running = is_begun.running; name = is_begun.name }
      by (Err Memory) is_begun = record { answer = tt; left = left _ is_begun.left refl; long = long is_begun.long; frozen = tt; opened = tt; gave = tt; times = is_begun.times; refused = tt; idle = λ told. begun_idle told is_begun.idle; running = is_begun.running; name = is_begun.name }

  -- and ends as the store does
  pub does_end : (result : Result ℕ Fault) (session : ℕ) → t.base ≡ s.base → a.running ≡ s.running → Ends result old new a b t session → DoesEnd result old new a b t (end_scn t.base.image) (end_turn s session)
  unfolding end_turn ends_by
  does_end result session same runs ends =
      subst (λ (x : Base). DoesEnd result old new a b t (end_scn t.base.image) (end_turn (seeing s x) session)) same
      (subst (λ (o : Outcome). DoesEnd result old new a b t (end_scn t.base.image) o) (sym end_is) (by result ends))
    where
      cause : Cause
      cause = end_cause t.base.image a.running session

      ended : Outcome
      ended = ends_by here session (Scn (end_scn t.base.image))

      turn : Outcome
      turn = unless here cause ended

      end_is : end_turn here session ≡ turn
      end_is = ap (λ (r : Option ℕ). unless here (end_cause t.base.image r session) ended) (sym runs)

      idle : ((r : Refusal) → cause ≡ Some r → Quiet old new) → has_only_told turn.reply ≡ true → Quiet old new
      idle quiet told = let some = told_some here cause ended refl told in quiet some.0 some.1

      left : Strikes old new (name_of a) t (unless_by cause (end_strokes t.base.image)) → Strikes old new (name_of a) t turn.strokes
      left struck = subst (λ (ss : List Stroke). Strikes old new (name_of a) t ss) (sym (strokes_by here cause ended)) struck

      long : GrowsWithin old new (name_of a) a.files.page_size t (unless_by cause (end_strokes t.base.image)) → GrowsWithin old new (name_of a) a.files.page_size t turn.strokes
      long grows = subst (λ (ss : List Stroke). GrowsWithin old new (name_of a) a.files.page_size t ss) (sym (strokes_by here cause ended)) grows

      by : (r : Result ℕ Fault) → Ends r old new a b t session → DoesEnd r old new a b t (end_scn t.base.image) turn
      by (Ok scn) is_ended =
          let o = unless_allowed here cause ended is_ended.test in
          record {
            says = ap (λ (x : Outcome). x.reply) o;
            left = left is_ended.left;
            long = long is_ended.long;
            rest = is_ended.rest;
            opened = subst (λ (x : Outcome). IsOpen new b (after_strokes t x.strokes)) (sym o) is_ended.opened;
            running = is_ended.begins.0 ∙ sym (ap (λ (x : Outcome). x.running) o);
            answer = is_ended.answer;
            merged = is_ended.begins.1;
            gave = is_ended.gave;
            refused = tt;
            idle = idle is_ended.idle;
            name = is_ended.name;
          }
      by (Err (RefusedFault r)) is_ended =
          let o = unless_refused here cause ended r is_ended.test in
          record {
            says = ap (λ (x : Outcome). x.reply) o;
            left = left is_ended.left;
            long = long is_ended.long;
            rest = is_ended.rest;
            opened = subst (λ (x : Outcome). IsOpen new b (after_strokes t x.strokes)) (sym o) (open_still old new a b t is_ended.refused.0 is_ended.refused.1 is);
            running = ap (λ (h : Held). h.running) is_ended.refused.0 ∙ runs ∙ sym (ap (λ (x : Outcome). x.running) o);
            answer = tt;
            merged = tt;
            gave = is_ended.gave;
            refused = is_ended.refused;
            idle = idle is_ended.idle;
            name = is_ended.name;
          }
      by (Err Device) is_ended = record { says = tt; left = left is_ended.left; long = long is_ended.long; rest = is_ended.rest; opened = tt; running = tt; answer = tt; merged = tt; gave = is_ended.gave; refused = tt; idle = idle is_ended.idle; name = is_ended.name }
      by (Err Memory) is_ended = record { says = tt; left = left is_ended.left; long = long is_ended.long; rest = is_ended.rest; opened = tt; running = tt; answer = tt; merged = tt; gave = is_ended.gave; refused = tt; idle = idle is_ended.idle; name = is_ended.name }

-- A backup that is asked for is refused before it begins, or begins as in the store.
module _ (t : Trail) (guid : List ℕ) (ask : Option Ask) where
  pub not_started : {r : Refusal} (w : World) (a : Held) → Quiet w w → IsOpen w a t → read_only t.base.image ≡ Some r → Starts (Err (RefusedFault r)) w w a a t guid ask
  not_started {r = r} w a quiet is closed = record {
    test = first_here (read_only t.base.image) (not_state normal_state t.base.image ∷ no_scn t.base.image ∷ []) r closed;
    left = none_yet w w a t _ quiet is;
    long = grows_not w w (name_of a) a.files.page_size t _ quiet;
    frozen = tt;
    opened = tt;
    answer = tt;
    gave = tt;
    times = refl;
    refused = (refl, quiet);
    idle = λ r some. quiet;
    running = refl;
    name = refl;
  }

  pub started : (result : Result ℕ Fault) (old new : World) (a b : Held) → read_only t.base.image ≡ None → Begins result old new a b t guid ask → Starts result old new a b t guid ask
  started result old new a b free begins =
      let same : starting_cause t.base.image ≡ begin_cause t.base.image = first_next (read_only t.base.image) (not_state normal_state t.base.image ∷ no_scn t.base.image ∷ []) free in
      record {
        test = subst (λ (c : Cause). Tested result c) (sym same) begins.test;
        left = subst (λ (c : Cause). Strikes old new (name_of a) t (unless_by c (begin guid ask ∷ []))) (sym same) begins.left;
        long = subst (λ (c : Cause). GrowsWithin old new (name_of a) a.files.page_size t (unless_by c (begin guid ask ∷ []))) (sym same) begins.long;
        frozen = begins.frozen;
        opened = begins.opened;
        answer = begins.answer;
        gave = begins.gave;
        times = begins.times;
        refused = begins.refused;
        idle = λ r some. begins.idle r (sym same ∙ some);
        running = begins.running;
        name = begins.name;
      }
