-- A script that is played: its schedule, and then rounds until all sessions have finished.
use Rattle.std.proofs.Common.{◌≡◌, ℕ, zero, suc, ◌+◌, ◌-◌, ◌≤◌, List, [], ◌∷◌, ◌++◌, length, map, get_or, append_assoc, inl, inr, refl, sym, ap, subst, ◌∙◌, arith, Bool, IsTrue, true, false, Result, Ok, Err, Some, None, Contains, slice_get}
use Rattle.nb_session.proofs.Common.{AllByRecursion, range_with_len, slice_index_or, cases_lt, append-nil, get_or_past, length-map, get_or-map, is_delta, World, IsTimely, CountsRun, FaultCount, RunError, is_free_entry, Foretells, IsMaking, MadeFile, under_way, AreAmong, Turn, Begins, Event, Now, Played, one_turn, play, rounds, all_sessions, files_made, AreFinished, begun, steps_of, after_steps, Trail, own_in_use, free_play, made_once, play-append, no_main, Scene, scene, agent_of, AllDone, TakesTurns, EndsWith, FailsBehind, IsAskable, IsSession, Plan, Held, name_of, Told, Grows, Asker, HasTodo, left_of, IsFit, any_refused, fresh_asker, first_askers, IsReady, Plays, shown_next, touching_by, PlaysInTurn, told_events, told_turns, all_append, Contains-append_left, quiet_begun}
use Rattle.nb_session.proofs.FilesLaws.{files_begun}
use Rattle.nb_sched.specs.Turns.{IsReady as AreReady}
use Rattle.nb_sched.proofs.TurnLaws.{turns_hold}
use Rattle.nb_session.proofs.EndLaws.{turns_end}
use Rattle.nb_session.proofs.GiftLaws.{foretold_first, grows_joined}
use Rattle.nb_session.proofs.GuidsTaken.{given_taken}
use Rattle.nb_session.proofs.InTurnLaws.{told_trail}
use Rattle.nb_session.proofs.NameLaws.{HaveNames, made_named, begun_plain}
use Rattle.nb_session.proofs.NextLaws.{play_length, play_more, next_among, next_once, next_others, play_ahead, finished_among}
use Rattle.nb_session.proofs.PlayLaws.{behind, trail_after, plays_none, plays_wider, plays_failed, plays_cut}
use Rattle.nb_session.proofs.SceneLaws.{sessions_kind, done_todo, agent_some, Holds, HoldsAt, rests_hold, moves_hold, none_hold, turn_plays, turn_ends, turn_grows, at_place}
use Rattle.nb_session.proofs.StopLaws.{AreApart}
use Rattle.nb_session.proofs.ToldLaws.{told_append, told_among, told_others}

-- the numbers of sessions
in_range : (first n : ℕ) → 1 ≤ first → first + n ≤ 17 → AllByRecursion IsSession (range_with_len first n)
in_range first zero low high = tt
in_range first (suc n) low high = ((low, omega arith), in_range (first + 1) n (omega arith) (omega arith))

rounds_sessions : (n : ℕ) → AllByRecursion IsSession (rounds n)
unfolding rounds
rounds_sessions zero = tt
rounds_sessions (suc n) = all_append IsSession all_sessions (rounds n) (in_range 1 16 (omega arith) (omega arith)) (rounds_sessions n)

pub numbers_fit : (schedule : List ℕ) (n : ℕ) → AllByRecursion IsSession schedule → AllByRecursion IsSession (schedule ++ rounds n)
numbers_fit schedule n all = all_append IsSession schedule (rounds n) all (rounds_sessions n)

-- the sessions of a script before their first turns
agent_from : (f : ℕ → Asker) (first n i : ℕ) (asker : Asker) → slice_get (map f (range_with_len first n)) i ≡ Some asker → asker ≡ f (first + i)
agent_from f first zero i asker there = absurd cc
agent_from f first (suc n) zero asker there = let here : asker ≡ f first = cc in let same : first ≡ first + 0 = omega arith in here ∙ ap f same
agent_from f first (suc n) (suc i) asker there = let same : first + 1 + i ≡ first + suc i = omega arith in agent_from f (first + 1) n i asker there ∙ ap f same

pub first_agent : (how : Told) (plan : Plan) (session : ℕ) (asker : Asker) → agent_of (first_askers how plan) session ≡ Some asker → asker ≡ fresh_asker how plan session
first_agent how plan zero asker there = absurd cc
first_agent how plan (suc place) asker there = let same : 1 + place ≡ suc place = omega arith in agent_from (fresh_asker how plan) 1 16 place asker there ∙ ap (fresh_asker how plan) same

pub first_number : (how : Told) (plan : Plan) (session : ℕ) (asker : Asker) → agent_of (first_askers how plan) session ≡ Some asker → asker.number ≡ session
first_number how plan session asker there = ap (λ (a : Asker). a.number) (first_agent how plan session asker there)

pub first_told : (how : Told) (plan : Plan) (session : ℕ) (asker : Asker) → agent_of (first_askers how plan) session ≡ Some asker → asker.told ≡ how
first_told how plan session asker there = ap (λ (a : Asker). a.told) (first_agent how plan session asker there)

pub first_task : (how : Told) (plan : Plan) (session : ℕ) (asker : Asker) → agent_of (first_askers how plan) session ≡ Some asker → asker.task ≡ None
first_task how plan session asker there = ap (λ (a : Asker). a.task) (first_agent how plan session asker there)

pub first_todo : (how : Told) (plan : Plan) (now : Now) (session : ℕ) (asker : Asker) → now.todo ≡ begun plan.sessions → agent_of (first_askers how plan) session ≡ Some asker → HasTodo asker now
first_todo how plan now session asker begins there =
    subst (λ (a : Asker). HasTodo a now) (sym (first_agent how plan session asker there))
    (ap (λ (todo : List (List Turn)). slice_index_or todo (session - 1) []) begins ∙ get_or-map (map Begins) plan.sessions (session - 1) [])

-- where no place has a turn all have finished
all_finished : (todo : List (List Turn)) → ((i : ℕ) → get_or todo i [] ≡ []) → AreFinished todo
all_finished [] none = tt
all_finished (ts ∷ todo) none = subst (λ (xs : List Turn). AreFinished (xs ∷ todo)) (sym (none 0)) (all_finished todo (λ i. none (suc i)))

-- none of the files that are made is one of the database's two
made_apart : (w : World) (held : Held) (t : Trail) (now : Now) → IsReady w held t now → IsMaking now → HaveNames (λ name. is_delta name ≡ false) now → (order : List ℕ) → AreApart (name_of held) (files_made (play order now).0)
made_apart w held t now ready making plain order n bytes there (inl own) =
    own_in_use now making.going (subst (λ (m : List ℕ). is_free_entry (now.account.entry m) ≡ true) (own ∙ ready.named)
    (free_play order now making.named making.going (n, bytes) (Contains-append_left (files_made (play order now).0) (under_way (play order now).1) (n, bytes) there)))
made_apart w held t now ready making plain order n bytes there (inr delta) = no_main (name_of held) n (made_named (λ name. is_delta name ≡ false) order now plain (n, bytes) there) (sym delta)

module _ {H : Type 0} (tells : Bool) (told : IsTrue tells) (world : H → World) (faults : H → FaultCount) (old : H) (before : Held) (how : Told) (plan : Plan) (askable : IsAskable plan) (how_often : ℕ) (timely : IsTimely (world old)) where
  abbrev order : List ℕ
  order = plan.schedule ++ rounds how_often

  pub numbers : AllByRecursion IsSession order
  numbers = numbers_fit plan.schedule how_often askable.order.each

  abbrev start : Scene Asker H Held
  start = scene (first_askers how plan) old before

  -- Some numbers of pages were shown so far, and with these the turns are those of whatever stood before.
  pub record HaveShown (front : List ℕ) (s : Scene Asker H Held) : Type 0 where
    pub shown : List ℕ
    pub holds : (t : Trail) (now : Now) (making : IsMaking now) → IsReady (world old) before t now → now.todo ≡ begun plan.sessions → Holds tells told world faults old before t how now order numbers making shown front s

  pub begun_shown : HaveShown [] start
  begun_shown = record {
    shown = [];
    holds = λ t now making ready begins.
        none_hold tells told world faults old before t how now order numbers making (first_askers how plan) timely ready refl refl (first_number how plan) (first_told how plan)
        (λ session asker there. (first_todo how plan now session asker begins there, first_task how plan session asker there));
  }

  pub ends : (after : Scene Asker H Held) (answer : Result (Unit {0}) RunError) → TakesTurns (sessions_kind tells world faults) order start answer after → EndsWith (sessions_kind tells world faults) HaveShown order answer after
  ends after answer turns =
      turns_hold (sessions_kind tells world faults) HaveShown
      (λ front session s far rests. record {
        shown = far.shown;
        holds = λ t now making ready begins. rests_hold tells told world faults old before t how now order numbers making far.shown front session s (far.holds t now making ready begins) rests;
      })
      (λ front session s s' far move. record {
        shown = far.shown ++ shown_next move.agent s.shared;
        holds = λ t now making ready begins. moves_hold tells told world faults old before t how now order numbers making far.shown front session s s' (far.holds t now making ready begins) move;
      })
      order start after answer begun_shown turns

  -- the numbers that all turns showed
  abbrev pub whole_shown : (answer : Result (Unit {0}) RunError) (after : Scene Asker H Held) → TakesTurns (sessions_kind tells world faults) order start answer after → List ℕ
  whole_shown (Ok done) after turns = (ends after (Ok tt) turns).shown
  whole_shown (Err error) after turns = (ends after (Err error) turns).holds.shown ++ shown_next (ends after (Err error) turns).move.agent (ends after (Err error) turns).last.shared

  module _ (t : Trail) (now : Now) (making : IsMaking now) (ready : IsReady (world old) before t now) (begins : now.todo ≡ begun plan.sessions) where
    todo_length : length (play order now).1.todo ≡ 16
    todo_length = play_length order now ∙ ap length begins ∙ length-map plan.sessions (map Begins) ∙ askable.sixteen

    -- once all have finished what was made is whole
    made_whole : (result : Result Bool RunError) (new : World) (held : Held) (xs : List ℕ) (made : List MadeFile) → AreFinished (play xs now).1.todo → AreAmong made (files_made (play xs now).0 ++ under_way (play xs now).1)
        → Plays result (world old) new before held t now (told_turns how (play xs now)) made → Plays result (world old) new before held t now (told_turns how (play xs now)) (files_made (play xs now).0)
    made_whole result new held xs made finished among =
        plays_wider result (world old) new before held t now (told_turns how (play xs now)) made (files_made (play xs now).0) (λ file there. finished_among (play xs now).0 (play xs now).1 finished file (among file there))
        (made_once xs now making) (made_apart (world old) before t now ready making (begun_plain plan askable now begins) xs)

    -- to their end
    pub whole_played : (after : Scene Asker H Held) (turns : TakesTurns (sessions_kind tells world faults) order start (Ok tt) after) → AllDone left_of after.agents → IsTimely (world after.host)
        → Foretells now.given (whole_shown (Ok tt) after turns) (world old) (world after.host)
        → PlaysInTurn world (Ok (any_refused after.agents)) old after.host before after.shared t how now plan.schedule
    whole_played after turns done timely_then foretold =
        let here = (ends after (Ok tt) turns).holds t now making ready begins [] (append-nil order) in
        let far = here.so_far now.given making.going.sixteen foretold in
        let finished : AreFinished (play order now).1.todo = all_finished (play order now).1.todo (λ i. elim (cases_lt i 16) [
          | inl low ↦ (
              let one = agent_some after.agents (i + 1) (omega arith) (omega (arith, low, here.sixteen)) in
              let place : one.0.number - 1 ≡ i = omega (arith, here.placed (i + 1) one.0 one.1) in
              ap (λ (k : ℕ). get_or (play order now).1.todo k []) (sym place) ∙ far.todo (i + 1) one.0 one.1 ∙ done_todo one.0 (done (i + 1) one.0 one.1))
          | inr high ↦ get_or_past (play order now).1.todo i [] (omega (arith, high, todo_length))
        ]) in
        let p : Played = play order now in
        let ready_then : IsReady (world after.host) after.shared (after_steps t (steps_of p.0)) p.1 =
        subst (λ (u : Trail). IsReady (world after.host) after.shared u p.1) (told_trail how t p) far.plays.done.ready in
        record {
          whole = record {
            how_often = how_often;
            plays = made_whole (Ok (any_refused after.agents)) (world after.host) after.shared order far.made finished far.among far.plays;
            finished = finished;
          };
          in_turn = record {
            front = order;
            rest = [];
            is = sym (append-nil order);
            mid = after.host;
            between = after.shared;
            taken = far.in_turn;
            last = (
              plays_none (world after.host) after.shared (after_steps t (steps_of p.0)) p.1 timely_then ready_then,
              files_begun (world after.host) (name_of after.shared) (after_steps t (steps_of p.0)) (quiet_begun (world after.host) timely_then),
            );
          };
          guids = λ some. given_taken (world old) (world after.host) order now making far.plays.done.given some;
        }

    -- A turn ended early, and these would have come after it.
    failed : (front rest whole : List ℕ) (session : ℕ) (mid new : World) (e1 e2 : Held) (r : Bool) (e : RunError) (made : List MadeFile) → whole ≡ front ++ (session ∷ rest)
        → AreAmong made (files_made (play front now).0 ++ under_way (play front now).1) → AreAmong (files_made (play front now).0) made → Plays (Ok r) (world old) mid before e1 t now (told_turns how (play front now)) made
        → Plays (Err e) mid new e1 e2 (trail_after t (told_turns how (play front now))) (play front now).1 (told_turns how (one_turn session (play front now).1)) (touching_by session (play front now).1)
        → Plays (Err e) (world old) new before e2 t now (told_turns how (play whole now)) (made ++ touching_by session (play front now).1)
    failed front rest whole session mid new e1 e2 r e made is among has first second =
        let p : Played = play front now in
        let two : Played = play (front ++ session ∷ []) now in
        let files : List MadeFile = made ++ touching_by session p.1 in
        let more : two ≡ behind p (one_turn session p.1) = play_more front session now in
        let both = plays_failed (world old) mid new before e1 e2 t now (told_turns how p) (told_turns how (one_turn session p.1)) made (touching_by session p.1) (next_once now making front session made among)
        (told_among how p.0 made has) (told_others how p.0 (touching_by session p.1) (next_others now making front session)) r e first second in
        let joined = subst (λ (es : List Event). Plays (Err e) (world old) new before e2 t now (es, (one_turn session p.1).1) files) (sym (told_append how p.0 (one_turn session p.1).0)) both in
        let cut = plays_cut (world old) new before e2 t now (told_turns how two) (told_events how (play rest two.1).0) (play rest two.1).1 files e
        (subst (λ (q : Played). Plays (Err e) (world old) new before e2 t now (told_turns how q) files) (sym more) joined) in
        subst (λ (q : Played). Plays (Err e) (world old) new before e2 t now (told_turns how q) files)
        (sym (play-append (front ++ session ∷ []) rest now) ∙ ap (λ (xs : List ℕ). play xs now) (append_assoc front (session ∷ []) rest ∙ sym is))
        (subst (λ (es : List Event). Plays (Err e) (world old) new before e2 t now (es, (play rest two.1).1) files) (sym (told_append how two.0 (play rest two.1).0)) cut)

    -- where one turn ended early
    module _ (after : Scene Asker H Held) (error : RunError) (turns : TakesTurns (sessions_kind tells world faults) order start (Err error) after) where
      abbrev e : FailsBehind (sessions_kind tells world faults) HaveShown order error after
      e = ends after (Err error) turns

      before_it : HoldsAt tells told world faults old before t how now order numbers making e.holds.shown e.front e.last
      before_it = e.holds.holds t now making ready begins (e.session ∷ e.rest) (sym e.is)

      number : IsSession e.session
      number = at_place IsSession e.front e.rest e.session (subst (AllByRecursion IsSession) e.is numbers)

      last_grows : Grows (world e.last.host) (world after.host)
      last_grows =
          turn_grows tells told world faults old before t how now order numbers making e.holds.shown e.front e.rest e.session e.last after (sym e.is) before_it number e.move.agent e.move.moved e.move.there e.move.agents e.move.same_session (Err error) e.move.made

      all_grow : Grows (world old) (world after.host)
      all_grow = grows_joined (world old) (world e.last.host) (world after.host) before_it.grown last_grows

      -- or until one ended early
      pub whole_failed : Foretells now.given (whole_shown (Err error) after turns) (world old) (world after.host)
          → PlaysInTurn world (Err error) old after.host before after.shared t how now plan.schedule
      whole_failed foretold =
          let end = turns_end plan askable now making.going begins how_often in
          let full : List ℕ = plan.schedule ++ rounds end.how_often in
          let is : full ≡ e.front ++ (e.session ∷ (e.rest ++ end.more)) = end.is ∙ ap (λ (xs : List ℕ). xs ++ end.more) e.is ∙ append_assoc e.front (e.session ∷ e.rest) end.more in
          let last : Plays (Err error) (world e.last.host) (world after.host) e.last.shared after.shared (trail_after t (told_turns how (play e.front now))) (play e.front now).1 (told_turns how (one_turn e.session (play e.front now).1)) (touching_by e.session (play e.front now).1) =
          turn_plays tells told world faults old before t how now order numbers making e.holds.shown e.front e.rest e.session e.last after (sym e.is) before_it number e.move.agent e.move.moved e.move.there e.move.agents e.move.same_session
          (Err error) e.move.made now.given making.going.sixteen foretold in
          let ends = turn_ends tells told world faults old before t how now order numbers making e.holds.shown e.front e.rest e.session e.last after (sym e.is) before_it number e.move.agent e.move.moved e.move.there e.move.agents e.move.same_session
          (Err error) e.move.made now.given making.going.sixteen foretold in
          let far = before_it.so_far now.given making.going.sixteen (foretold_first (world old) (world e.last.host) (world after.host) now.given e.holds.shown (shown_next e.move.agent e.last.shared) before_it.grown last_grows foretold) in
          let p : Played = play e.front now in
          let files : List MadeFile = far.made ++ touching_by e.session p.1 in
          let among : AreAmong files (files_made (play full now).0 ++ under_way (play full now).1) =
          λ file there.
          subst (λ (xs : List ℕ). Contains (files_made (play xs now).0 ++ under_way (play xs now).1) file) (append_assoc e.front (e.session ∷ []) (e.rest ++ end.more) ∙ sym is)
          (play_ahead (e.front ++ e.session ∷ []) (e.rest ++ end.more) now making file
          (subst (λ (q : Played). Contains (files_made q.0 ++ under_way q.1) file) (sym (play_more e.front e.session now)) (next_among now making e.front e.session far.made far.among file there))) in
          record {
            whole = record {
              how_often = end.how_often;
              plays = made_whole (Err error) (world after.host) after.shared full files end.finished among
                  (failed e.front (e.rest ++ end.more) full e.session (world e.last.host) (world after.host) e.last.shared after.shared _ error far.made is far.among far.has far.plays last);
              finished = end.finished;
            };
            in_turn = record {
              front = e.front;
              rest = e.session ∷ (e.rest ++ end.more);
              is = is;
              mid = e.last.host;
              between = e.last.shared;
              taken = far.in_turn;
              last = (subst (λ (u : Trail). Plays (Err error) (world e.last.host) (world after.host) e.last.shared after.shared u p.1 (told_turns how (one_turn e.session p.1)) (touching_by e.session p.1)) (told_trail how t p) last, ends);
            };
            guids = tt;
          }

    -- what was given meanwhile
    pub whole_grows : (answer : Result (Unit {0}) RunError) (after : Scene Asker H Held) → TakesTurns (sessions_kind tells world faults) order start answer after → Grows (world old) (world after.host)
    whole_grows (Ok done) after turns = ((ends after (Ok tt) turns).holds t now making ready begins [] (append-nil order)).grown
    whole_grows (Err error) after turns = all_grow after error turns

-- the same turns, of the sessions as they stand there
pub turns_as : {H : Type 0} (tells : Bool) (world : H → World) (faults : H → FaultCount) (schedule other : List ℕ) (agents others : List Asker) (n : ℕ) (host : H) (held : Held) (answer said : Result (Unit {0}) RunError) (after : Scene Asker H Held)
    → other ≡ schedule → others ≡ agents → said ≡ answer → TakesTurns (sessions_kind tells world faults) (other ++ rounds n) (scene others host held) said after
    → TakesTurns (sessions_kind tells world faults) (schedule ++ rounds n) (scene agents host held) answer after
turns_as tells world faults schedule other agents others n host held answer said after same these is turns =
    subst (λ (r : Result (Unit {0}) RunError). TakesTurns (sessions_kind tells world faults) (schedule ++ rounds n) (scene agents host held) r after) is
    (subst (λ (xs : List ℕ). TakesTurns (sessions_kind tells world faults) (xs ++ rounds n) (scene agents host held) said after) same
    (subst (λ (list : List Asker). TakesTurns (sessions_kind tells world faults) (other ++ rounds n) (scene list host held) said after) these turns))

-- before their first turns the sessions stand in their places, and have what they need
pub first_ready : {H : Type 0} (tells : Bool) (world : H → World) (faults : H → FaultCount) (how : Told) (plan : Plan) → IsAskable plan → (agents : List Asker) (host : H) (held : Held) → agents ≡ first_askers how plan
    → AreReady (sessions_kind tells world faults) (scene agents host held)
first_ready tells world faults how plan askable agents host held first = record {
  placed = λ session asker there. first_number how plan session asker (subst (λ (list : List Asker). agent_of list session ≡ Some asker) first there);
  fit = λ session asker there.
      subst (λ (a : Asker). IsFit a held) (sym (first_agent how plan session asker (subst (λ (list : List Asker). agent_of list session ≡ Some asker) first there)))
      (record { asks = askable.further session; task = tt; in_range = omega arith });
}

-- The count of faults.
module _ {H : Type 0} (tells : Bool) (world : H → World) (faults : H → FaultCount) (order : List ℕ) (start after : Scene Asker H Held) where
  abbrev Stays : List ℕ → Scene Asker H Held → Type 0
  Stays front s = faults s.host ≡ faults start.host

  stays : (answer : Result (Unit {0}) RunError) → TakesTurns (sessions_kind tells world faults) order start answer after → EndsWith (sessions_kind tells world faults) Stays order answer after
  stays answer turns =
      turns_hold (sessions_kind tells world faults) Stays (λ front session s is rests. is) (λ front session s s' is move. move.made.cause ∙ is) order start after answer refl turns

  pub whole_counts : (answer : Result (Unit {0}) RunError) → TakesTurns (sessions_kind tells world faults) order start answer after → CountsRun answer (faults start.host) (faults after.host)
  whole_counts (Ok done) turns = stays (Ok done) turns
  whole_counts (Err error) turns =
      let e = stays (Err error) turns in
      subst (λ (n : FaultCount). CountsRun {T = Unit {0}} (Err error) n (faults after.host)) e.holds e.move.made.cause
