-- What waits is written out after the turns.
use Rattle.std.proofs.Common.{◌≡◌, inl, inr, ℕ, List, [], ◌∷◌, ◌++◌, Bool, false, refl, sym, ap, subst, ◌∙◌, arith, Contains, Result, Ok, Err, IsErr, IsErrAnd}
use Rattle.nb_session.proofs.Common.{true≢false, append-nil, decide, is_delta, World, HostFault, RunError, GaveNothing, weaker, untouched_fewer, is_free_name, IsMaking, MadeFile, AreAmong, IsNoneOf, NamesOnce, Now, Played, play, rounds, files_made, delta_name, acked_turns, steps_of, after_steps, Trail, StandsIn, made_once, output_no_event, status_no_event, delta_named, delta_same, after_no_step, acked_steps_none, Strikes, Takes, Held, IsOpen, but_pages, name_of, Told, IsReady, Plays, EndsBy, RunsInTurn, PlaysInTurn, told_turns, not_free, or_false, begun_turns, Stroke}
use Rattle.nb_session.proofs.FilesLaws.{files_joined}
use Rattle.nb_session.specs.Files.{LeavesFiles}
use Rattle.nb_base.specs.Takes.{TakesOn}
use Rattle.nb_base.specs.Touches.{WrittenIn}
use Rattle.nb_base.proofs.TouchLaws.{strikes_in}
use Rattle.nb_change.proofs.ResultLaws.{passed_on}
use Rattle.nb_session.proofs.GiftLaws.{given_nothing}
use Rattle.nb_session.proofs.PlayLaws.{Leads, behind, trail_after, after_none, no_file, no_made, plays_by, plays_then, plays_failed}
use Rattle.nb_session.proofs.ToldLaws.{told_among}
use Rattle.nb_session.proofs.ReadyLaws.{free_same, beside_other}

-- What goes out in the files of the backup state goes out in the two files.
pub takes_both : {T E : Type 0} (result : Result T E) (old new : World) (state : ℕ) (name : List ℕ) (opened : Trail → Type 0) (t : Trail) (ss : List Stroke) → TakesOn result old new (WrittenIn state name) name opened t ss → Takes result old new name opened t ss
takes_both result old new state name opened t ss is = record { left = strikes_in old new state name t ss is.left; done = is.done }

-- Pages go out of a database that was ready: no turn is taken.
module _ (old new : World) (before after : Held) (t : Trail) (now : Now) (ready : IsReady old before t now) (struck : Strikes old new (name_of before) t []) (same : but_pages after ≡ but_pages before) (gave : GaveNothing old new) (still : t.earlier ≡ [] → new.files ≡ old.files) where
  named : name_of after ≡ name_of before
  named = ap (λ (h : Held). name_of h) same

  out_leads : Leads old new (name_of before) t [] []
  out_leads = record {
    stops = weaker old new _ _ struck.moments (λ files said is. record {
      out = record { part = []; is = is.output ∙ sym (append-nil old.said); front = refl };
      count = 0;
      front = record { most = omega arith; acknowledged = omega (arith, acked_steps_none []); unsaid = omega arith };
      database = subst (λ (u : Trail). StandsIn (name_of before) u files) (sym (after_no_step t)) is.has;
      each = λ n bytes there. absurd (no_file n bytes there);
      whole = λ n bytes there. absurd (no_made (acked_turns [] 0) n bytes there);
      begun = λ n bytes there. absurd (no_made (begun_turns [] 0) n bytes there);
      others = λ m other. is.others m (λ own. other (inl own));
    });
    left = λ n bytes file there. absurd (no_file n bytes there);
    apart = λ n bytes there. absurd (no_file n bytes there);
    others = untouched_fewer old new _ _ struck.others (λ m other own. other (inl own));
    others_read = λ m other. struck.others_read m (λ own. other (inl own));
    unchanged = λ settled all. still settled;
  }

  module _ (opened : IsOpen new after t) where
    known : (m : List ℕ) → is_delta m ≡ false → is_free_name new.files m ≡ is_free_name old.files m
    known m plain = elim (decide m (name_of before)) [
      | inl own ↦
          ap (is_free_name new.files) (own ∙ sym named) ∙ not_free new after t opened
          ∙ sym (ap (is_free_name old.files) own ∙ not_free old before t ready.opened)
      | inr off ↦ free_same old.files new.files m
          (struck.others_read m (λ own. elim own [ inl e ↦ off e | inr e ↦ true≢false (sym (delta_named (name_of before)) ∙ ap is_delta (sym e) ∙ plain) ]))
          (beside_other old new before after t t ready.opened opened named m
          (λ other. struck.others_read (delta_name m) (λ own. elim own [ inl e ↦ other e | inr e ↦ off (delta_same m (name_of before) e) ])))
    ]

    ready_out : IsReady new after t now
    ready_out = record {
      opened = opened;
      base = ready.base;
      there = ready.there;
      named = named ∙ ready.named;
      running = ap (λ (h : Held). h.running) same ∙ ready.running;
      cache = ap (λ (h : Held). h.cap) same ∙ ready.cache;
      known = λ m plain none. known m plain ∙ ready.known m plain none;
    }

    pub out_played : Plays (Ok false) old new before after t now ([], now) []
    out_played = plays_by (Ok false) old new before after t now ([], now) [] out_leads named (record {
      ready = subst (λ (u : Trail). IsReady new after u now) (sym (after_none t)) ready_out;
      said = struck.said ∙ sym (append-nil old.said) ∙ ap (λ (l : List ℕ). old.said ++ l) (sym output_no_event);
      status = status_no_event;
      given = given_nothing old new now.given now.given gave refl;
      kept = λ n bytes there. absurd (no_made 0 n bytes there);
    })

  pub out_failed : (e : RunError) → Plays (Err e) old new before after t now ([], now) []
  out_failed e = plays_by (Err e) old new before after t now ([], now) [] out_leads named tt

-- after turns
module _ (old mid new : World) (e0 e1 e2 : Held) (t : Trail) (now : Now) (p : Played) (made : List MadeFile) (once : NamesOnce made) (has : AreAmong (files_made p.0) made) (a : Bool) (first : Plays (Ok a) old mid e0 e1 t now p made) where
  once_more : NamesOnce (made ++ [])
  once_more = subst NamesOnce (sym (append-nil made)) once

  no_more : (n bytes : List ℕ) → Contains (files_made p.0) (n, bytes) → IsNoneOf [] n
  no_more n bytes there other none = no_file n other none

  no_turn : (result : Result Bool RunError) → Plays result old new e0 e2 t now (behind p ([], p.1)) (made ++ []) → Plays result old new e0 e2 t now p made
  no_turn result plays =
      subst (λ (m : List MadeFile). Plays result old new e0 e2 t now p m) (append-nil made) (subst (λ es. Plays result old new e0 e2 t now (es, p.1) (made ++ [])) (append-nil p.0) plays)

  pub then_out : Plays (Ok false) mid new e1 e2 (trail_after t p) p.1 ([], p.1) [] → Plays (Ok a) old new e0 e2 t now p made
  then_out out =
      no_turn (Ok a)
      (subst (λ (b : Bool). Plays (Ok b) old new e0 e2 t now (behind p ([], p.1)) (made ++ [])) (or_false a) (plays_then old mid new e0 e1 e2 t now p ([], p.1) made [] once_more has no_more a false first out))

  pub then_failed : (e : RunError) → Plays (Err e) mid new e1 e2 (trail_after t p) p.1 ([], p.1) [] → Plays (Err e) old new e0 e2 t now p made
  then_failed e out = no_turn (Err e) (plays_failed old mid new e0 e1 e2 t now p ([], p.1) made [] once_more has no_more a e first out)

-- what stands at no turn
once_none : NamesOnce []
once_none name bytes others there more = absurd (no_file name bytes there)

has_none : AreAmong (files_made []) []
has_none file there = absurd (no_made 0 file.0 file.1 there)

-- What waits is written out where no turn is left.
module _ (old mid new : World) (a b c : Held) (t : Trail) (now : Now) (plays : Plays (Ok false) old mid a b t now ([], now) []) (same : but_pages c ≡ but_pages b) (gave : GaveNothing mid new) where
  abbrev nothing : Played
  nothing = ([], now)

  last_out : ((u : Trail) → IsOpen mid b u → Takes {T = Unit {0}} {E = HostFault} (Ok tt) mid new (name_of b) (IsOpen new c) u []) → ((u : Trail) → IsOpen mid b u → u.earlier ≡ [] → new.files ≡ mid.files)
      → Plays (Ok false) old new a c t now ([], now) []
  last_out takes still =
      let ready = plays.done.ready in
      let out = takes (trail_after t nothing) ready.opened in
      then_out old mid new a b c t now nothing [] once_none has_none false plays
      (out_played mid new b c (trail_after t nothing) now ready out.left same gave (still (trail_after t nothing) ready.opened) out.done)

  last_failed : (e : RunError) → ((u : Trail) → IsOpen mid b u → Strikes mid new (name_of b) u []) → ((u : Trail) → IsOpen mid b u → u.earlier ≡ [] → new.files ≡ mid.files) → Plays (Err e) old new a c t now ([], now) []
  last_failed e struck still =
      let ready = plays.done.ready in
      then_failed old mid new a b c t now nothing [] once_none has_none false plays e (out_failed mid new b c (trail_after t nothing) now ready (struck (trail_after t nothing) ready.opened) same gave (still (trail_after t nothing) ready.opened) e)

-- what is left of the two files then
files_out : (old mid new : World) (a b : Held) (t : Trail) (now : Now) → Plays (Ok false) old mid a b t now ([], now) [] → LeavesFiles false ⊥ old mid (name_of a) t [] → ((u : Trail) → IsOpen mid b u → LeavesFiles false ⊥ mid new (name_of b) u [])
    → LeavesFiles false ⊥ old new (name_of a) t []
files_out old mid new a b t now plays first leaves =
    let opened : IsOpen mid b t = subst (IsOpen mid b) (after_none t) plays.done.ready.opened in
    files_joined old mid new (name_of a) t first (subst (λ (n : List ℕ). LeavesFiles false ⊥ mid new n t []) plays.name (leaves t opened))

-- so it is behind turns that came to their end, of which none is left
none_left : (told : Told) (rest : List ℕ) (old mid new : World) (a b c : Held) (t : Trail) (now : Now) (refused : Bool) (result : Result Bool RunError) → EndsBy (Ok refused) told rest old mid a b t now
    → (Plays (Ok false) old mid a b t now ([], now) [] × LeavesFiles false ⊥ old mid (name_of a) t [] → EndsBy result told [] old new a c t now) → EndsBy result told rest old new a c t now
none_left told [] old mid new a b c t now refused result last go = go last
none_left told (session ∷ rest) old mid new a b c t now refused result last go = absurd last

-- what stood at a failure stands where it is passed on
pub whole_passed : {H : Type 0} (world : H → World) (old new : H) (before after : Held) (t : Trail) (told : Told) (now : Now) (schedule : List ℕ) (error : RunError) (result : Result Bool RunError) → IsErr result × IsErrAnd result (λ e. e ≡ error)
    → PlaysInTurn world (Err error) old new before after t told now schedule → PlaysInTurn world result old new before after t told now schedule
whole_passed world old new before after t told now schedule error result handed =
    subst (λ (r : Result Bool RunError). PlaysInTurn world r old new before after t told now schedule) (sym (passed_on result error handed))

-- and after all turns of a script
module _ {H : Type 0} (world : H → World) (old mid new : H) (e0 e1 e2 : Held) (t : Trail) (told : Told) (now : Now) (schedule : List ℕ) (making : IsMaking now) (a : Bool) (first : PlaysInTurn world (Ok a) old mid e0 e1 t told now schedule)
    (same : but_pages e2 ≡ but_pages e1) (gave : GaveNothing (world mid) (world new)) where
  abbrev order : List ℕ
  order = schedule ++ rounds first.whole.how_often

  abbrev played : Played
  played = told_turns told (play order now)

  once : NamesOnce (files_made (play order now).0)
  once = made_once order now making

  has : AreAmong (files_made played.0) (files_made (play order now).0)
  has = told_among told (play order now).0 (files_made (play order now).0) (λ file there. there)

  -- what stood before the last thing that was done
  abbrev far_trail : Trail
  far_trail = after_steps t (steps_of (play first.in_turn.front now).0)

  abbrev far_now : Now
  far_now = (play first.in_turn.front now).1

  -- the turns one by one, and what is done last
  runs_on : (result : Result Bool RunError) → (Plays (Ok false) (world first.in_turn.mid) (world mid) first.in_turn.between e1 far_trail far_now ([], far_now) [] × LeavesFiles false ⊥ (world first.in_turn.mid) (world mid) (name_of first.in_turn.between) far_trail []
      → EndsBy result told [] (world first.in_turn.mid) (world new) first.in_turn.between e2 far_trail far_now) → RunsInTurn world result old new e0 e2 t told now order
  runs_on result go = record {
    front = first.in_turn.front;
    rest = first.in_turn.rest;
    is = first.in_turn.is;
    mid = first.in_turn.mid;
    between = first.in_turn.between;
    taken = first.in_turn.taken;
    last = none_left told first.in_turn.rest (world first.in_turn.mid) (world mid) (world new) first.in_turn.between e1 e2 far_trail far_now a result first.in_turn.last go;
  }

  pub whole_out : ((u : Trail) → IsOpen (world mid) e1 u → LeavesFiles false ⊥ (world mid) (world new) (name_of e1) u []) → ((u : Trail) → IsOpen (world mid) e1 u → Takes {T = Unit {0}} {E = HostFault} (Ok tt) (world mid) (world new) (name_of e1) (IsOpen (world new) e2) u [])
      → ((u : Trail) → IsOpen (world mid) e1 u → u.earlier ≡ [] → (world new).files ≡ (world mid).files) → PlaysInTurn world (Ok a) old new e0 e2 t told now schedule
  whole_out leaves takes still =
      let ready = first.whole.plays.done.ready in
      let out = takes (trail_after t played) ready.opened in
      record {
        whole = record {
          how_often = first.whole.how_often;
          plays = then_out (world old) (world mid) (world new) e0 e1 e2 t now played (files_made (play order now).0) once has a first.whole.plays
              (out_played (world mid) (world new) e1 e2 (trail_after t played) played.1 ready out.left same gave (still (trail_after t played) ready.opened) out.done);
          finished = first.whole.finished;
        };
        in_turn = runs_on (Ok a) (λ plays. (
          last_out (world first.in_turn.mid) (world mid) (world new) first.in_turn.between e1 e2 far_trail far_now plays.0 same gave takes still,
          files_out (world first.in_turn.mid) (world mid) (world new) first.in_turn.between e1 far_trail far_now plays.0 plays.1 leaves,
        ));
        guids = λ some. gave.guids ∙ first.guids some;
      }

  pub whole_stopped : (e : RunError) → ((u : Trail) → IsOpen (world mid) e1 u → LeavesFiles false ⊥ (world mid) (world new) (name_of e1) u []) → ((u : Trail) → IsOpen (world mid) e1 u → Strikes (world mid) (world new) (name_of e1) u [])
      → ((u : Trail) → IsOpen (world mid) e1 u → u.earlier ≡ [] → (world new).files ≡ (world mid).files) → PlaysInTurn world (Err e) old new e0 e2 t told now schedule
  whole_stopped e leaves struck still =
      let ready = first.whole.plays.done.ready in
      record {
        whole = record {
          how_often = first.whole.how_often;
          plays = then_failed (world old) (world mid) (world new) e0 e1 e2 t now played (files_made (play order now).0) once has a first.whole.plays e
              (out_failed (world mid) (world new) e1 e2 (trail_after t played) played.1 ready (struck (trail_after t played) ready.opened) same gave (still (trail_after t played) ready.opened) e);
          finished = first.whole.finished;
        };
        in_turn = runs_on (Err e) (λ plays. (
          last_failed (world first.in_turn.mid) (world mid) (world new) first.in_turn.between e1 e2 far_trail far_now plays.0 same gave e struck still,
          files_out (world first.in_turn.mid) (world mid) (world new) first.in_turn.between e1 far_trail far_now plays.0 plays.1 leaves,
        ));
        guids = tt;
      }
