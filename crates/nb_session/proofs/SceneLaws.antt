-- What holds while sessions take their turns.
use Rattle.std.proofs.Common.{◌≡◌, ◌≢◌, inl, inr, ℕ, zero, suc, ◌-◌, ◌<◌, ◌≤◌, List, [], ◌∷◌, ◌++◌, length, map, refl, sym, ap, subst, ◌∙◌, arith, append_assoc, length-set, Bool, true, false, ◌||◌, IsTrue, Result, Ok, Option, Some, None, slice_get, slice_set}
use Rattle.nb_session.proofs.Common.{AllByRecursion, slice_index_or, append-nil, World, IsTimely, FaultCount, RunError, Statement, Base, Foretells, IsMaking, MadeFile, under_way, AreAmong, Turn, Begins, Given, Event, Now, Played, base_now, one_turn, play, files_made, steps_of, after_steps, Trail, making_play, one_turn_idle, Scene, scene, Kind, kind, agent_of, Rests, Moves, IsSession, Held, Task, Backup, Copy, End, Merge, Told, AreSixteen, Grows, Asker, task_todo, task_left, todo_of, HasTodo, left_of, IsFit, any_refused, HasNone, TakesOne, InTurn, IsReady, TaskGoes, as_played, shown_next, touching_by, Steps, TakesNext, Plays, told_turns, or_assoc, name_of}
use Rattle.nb_sched.proofs.AgentLaws.{agent_there, agent_of_set}
use Rattle.nb_session.specs.Ended.{EndsNext}
use Rattle.nb_session.specs.Short.{RanOut, CameToEnd}
use Rattle.nb_session.proofs.GiftLaws.{foretold_first, foretold_then, foretold_itself, grows_none, grows_joined}
use Rattle.nb_session.proofs.GoesLaws.{goes_on}
use Rattle.nb_session.proofs.InTurnLaws.{in_turn_idle, in_turn_one, told_trail}
use Rattle.nb_session.proofs.MadeLaws.{none_among}
use Rattle.nb_session.proofs.NextLaws.{keeps_todo, play_more, giving, making_giving, next_once, next_others, next_among, next_has, holds_left}
use Rattle.nb_session.proofs.PlayLaws.{behind, trail_after, no_made, plays_none, plays_then}
use Rattle.nb_session.proofs.ToldLaws.{told_nothing, told_append, told_among, told_others}

-- the sessions of a script as agents
abbrev pub sessions_kind : {H : Type 0} (tells : Bool) (world : H → World) (faults : H → FaultCount) → Kind Asker H Held
sessions_kind tells world faults =
    kind left_of (λ a. a.number) (λ a h e. IsFit a e) (λ a h e answer b h' e'. Steps tells answer (world h) (world h') (faults h) (faults h') e e' a b)

or_last : (a b r : Bool) → (a || r) || b ≡ (a || b) || r
or_last true b r = refl
or_last false true true = refl
or_last false true false = refl
or_last false false true = refl
or_last false false false = refl

-- one session more was refused a statement, or not
pub any_set : (askers : List Asker) (i : ℕ) (a b : Asker) (refused : Bool) → slice_get askers i ≡ Some a → b.refused ≡ (a.refused || refused) → any_refused (slice_set askers i b) ≡ any_refused askers || refused
any_set [] i a b refused there noted = absurd cc
any_set (x ∷ xs) zero a b refused there noted =
    let same : x ≡ a = cc in
    ap (λ (r : Bool). r || any_refused xs) (noted ∙ ap (λ (y : Asker). y.refused || refused) (sym same)) ∙ or_last x.refused (any_refused xs) refused
any_set (x ∷ xs) (suc i) a b refused there noted =
    ap (λ (r : Bool). x.refused || r) (any_set xs i a b refused there noted) ∙ or_assoc x.refused (any_refused xs) refused

-- who has finished has nothing to do
done_parts : (task : Option Task) (statements : List Statement) → length statements ≡ 0 → task_left task ≡ 0 → task_todo task ++ map Begins statements ≡ []
done_parts None [] none over = refl
done_parts None (s ∷ statements) none over = absurd (omega (arith, none))
done_parts (Some (Backup c)) statements none over = absurd (omega (arith, over))
done_parts (Some (Copy c)) statements none over = absurd (omega (arith, over))
done_parts (Some (End reply)) statements none over = absurd (omega (arith, over))
done_parts (Some (Merge m)) statements none over = absurd (omega (arith, over))

pub done_todo : (asker : Asker) → left_of asker ≡ (0, 0) → todo_of asker ≡ []
done_todo asker done = done_parts asker.task asker.statements (ap (λ (p : ℕ × ℕ). p.0) done) (ap (λ (p : ℕ × ℕ). p.1) done)

-- a number that stands somewhere in an order
pub at_place : (P : ℕ → Type 0) (front rest : List ℕ) (n : ℕ) → AllByRecursion P (front ++ (n ∷ rest)) → P n
at_place P [] rest n all = all.0
at_place P (x ∷ front) rest n all = at_place P front rest n all.1

pub agent_some : (askers : List Asker) (session : ℕ) → 1 ≤ session → session ≤ length askers → (asker : Asker) × (agent_of askers session ≡ Some asker)
agent_some askers zero low high = absurd (omega arith)
agent_some askers (suc place) low high = there askers place (omega arith)
  where
    there : (xs : List Asker) (i : ℕ) → i < length xs → (a : Asker) × (slice_get xs i ≡ Some a)
    there [] i within = absurd (omega arith)
    there (x ∷ xs) zero within = (x, refl)
    there (x ∷ xs) (suc i) within = there xs i (omega arith)

module _ {H : Type 0} (tells : Bool) (told : IsTrue tells) (world : H → World) (faults : H → FaultCount) (old : H) (before : Held) (t : Trail) (how : Told) (now : Now) (order : List ℕ)
    (numbers : AllByRecursion IsSession order) (making : IsMaking now) where
  -- where the outside gives these
  abbrev from : Given → Now
  from given = giving now given

  -- The turns so far were taken. Each session has still to do what stands for it, and goes on from where it is. Of the files that were made
  -- since all that are whole are among these, and those of copies that are under way may be. Of the numbers that were given these were shown.
  pub record IsSoFar (shown front : List ℕ) (s : Scene Asker H Held) (given : Given) : Type 0 where
    pub made : List MadeFile
    pub plays : Plays (Ok (any_refused s.agents)) (world old) (world s.host) before s.shared t (from given) (told_turns how (play front (from given))) made
    pub in_turn : InTurn world how front old s.host before s.shared t (from given)
    pub among : AreAmong made (files_made (play front (from given)).0 ++ under_way (play front (from given)).1)
    pub has : AreAmong (files_made (play front (from given)).0) made
    pub left : given.holds ≡ shown ++ (play front (from given)).1.given.holds
    pub todo : (session : ℕ) (asker : Asker) → agent_of s.agents session ≡ Some asker → HasTodo asker (play front (from given)).1
    pub goes : (session : ℕ) (asker : Asker) → agent_of s.agents session ≡ Some asker → TaskGoes asker.number (world s.host) s.shared (base_now (play front (from given)).1).frozen asker.task

  -- It is so whatever of it the outside gave, where these numbers were shown.
  pub record HoldsAt (shown front : List ℕ) (s : Scene Asker H Held) : Type 0 where
    pub grown : Grows (world old) (world s.host)
    pub sixteen : length s.agents ≡ 16
    pub placed : (session : ℕ) (asker : Asker) → agent_of s.agents session ≡ Some asker → asker.number ≡ session
    pub telling : (session : ℕ) (asker : Asker) → agent_of s.agents session ≡ Some asker → asker.told ≡ how
    pub so_far : (given : Given) → AreSixteen given.guids → Foretells given shown (world old) (world s.host) → IsSoFar shown front s given

  abbrev pub Holds : (shown front : List ℕ) → Scene Asker H Held → Type 0
  Holds shown front s = (rest : List ℕ) → front ++ rest ≡ order → HoldsAt shown front s

  -- the order goes on after one number more
  one_more : (front rest : List ℕ) (session : ℕ) → (front ++ session ∷ []) ++ rest ≡ order → front ++ (session ∷ rest) ≡ order
  one_more front rest session is = sym (append_assoc front (session ∷ []) rest) ∙ is

  is_session : (front rest : List ℕ) (session : ℕ) → front ++ (session ∷ rest) ≡ order → IsSession session
  is_session front rest session is = at_place IsSession front rest session (subst (AllByRecursion IsSession) (sym is) numbers)

  -- a session that has finished does nothing
  idle_then : (shown front : List ℕ) (session : ℕ) (s : Scene Asker H Held) (given : Given) → HasNone session (play front (from given)).1 → IsSoFar shown front s given → IsSoFar shown (front ++ session ∷ []) s given
  idle_then shown front session s given idle far =
      let p : Played = play front (from given) in
      let same : play (front ++ session ∷ []) (from given) ≡ p =
      play_more front session (from given) ∙ ap (λ (q : Played). (p.0 ++ q.0, q.1)) (one_turn_idle session p.1 idle) ∙ ap (λ (es : List Event). (es, p.1)) (append-nil p.0) in
      record {
        made = far.made;
        plays = subst (λ (q : Played). Plays (Ok (any_refused s.agents)) (world old) (world s.host) before s.shared t (from given) (told_turns how q) far.made) (sym same) far.plays;
        in_turn = in_turn_idle world how front session old s.host s.host before s.shared s.shared t (from given) far.in_turn idle;
        among = subst (λ (q : Played). AreAmong far.made (files_made q.0 ++ under_way q.1)) (sym same) far.among;
        has = subst (λ (q : Played). AreAmong (files_made q.0) far.made) (sym same) far.has;
        left = subst (λ (q : Played). given.holds ≡ shown ++ q.1.given.holds) (sym same) far.left;
        todo = λ n asker there. subst (λ (q : Played). HasTodo asker q.1) (sym same) (far.todo n asker there);
        goes = λ n asker there. subst (λ (q : Played). TaskGoes asker.number (world s.host) s.shared (base_now q.1).frozen asker.task) (sym same) (far.goes n asker there);
      }

  pub rests_hold : (shown front : List ℕ) (session : ℕ) (s : Scene Asker H Held) → Holds shown front s → Rests left_of s.agents session → Holds shown (front ++ session ∷ []) s
  rests_hold shown front session s holds rests rest is =
      let on = one_more front rest session is in
      let here = holds (session ∷ rest) on in
      let number = is_session front rest session on in
      let one = agent_some s.agents session number.0 (omega (arith, here.sixteen, number.1)) in
      record {
        grown = here.grown;
        sixteen = here.sixteen;
        placed = here.placed;
        telling = here.telling;
        so_far = λ given sixteen foretold.
            let far = here.so_far given sixteen foretold in
            let todo : List (List Turn) = (play front (from given)).1.todo in
            idle_then shown front session s given
            (ap (λ (n : ℕ). slice_index_or todo (n - 1) []) (sym (here.placed session one.0 one.1)) ∙ far.todo session one.0 one.1 ∙ done_todo one.0 (rests one.0 one.1)) far;
      }

  -- a turn
  module _ (shown front rest : List ℕ) (session : ℕ) (s s' : Scene Asker H Held) (is : front ++ (session ∷ rest) ≡ order) (here : HoldsAt shown front s) (number : IsSession session) (asker moved : Asker)
      (there : agent_of s.agents session ≡ Some asker) (agents : s'.agents ≡ slice_set s.agents (session - 1) moved) (same : moved.number ≡ asker.number) where
    mine : asker.number ≡ session
    mine = here.placed session asker there

    -- what it shows
    abbrev next : List ℕ
    next = shown_next asker s.shared

    module _ (answer : Result (Unit {0}) RunError) (made : Steps tells answer (world s.host) (world s'.host) (faults s.host) (faults s'.host) s.shared s'.shared asker moved) where
      -- what it did, where this was given so far
      pub took : (given : Given) → AreSixteen given.guids → Foretells given shown (world old) (world s.host)
          → TakesNext made.refused answer (world s.host) (world s'.host) s.shared s'.shared (trail_after t (told_turns how (play front (from given)))) (play front (from given)).1 asker moved
      took given sixteen foretold =
          let far = here.so_far given sixteen foretold in
          let ready = far.plays.done.ready in
          made.takes (play front (from given)).1 (trail_after t (told_turns how (play front (from given)))) told ready (making_play front (from given) (making_giving now given sixteen making)) (far.todo session asker there)
          (subst (λ (b : Base). TaskGoes asker.number (world s.host) s.shared b.frozen asker.task) (sym ready.base) (far.goes session asker there))

      pub turn_grows : Grows (world s.host) (world s'.host)
      turn_grows = (took (record { guids = here.grown.ids; times = here.grown.clock; holds = shown }) here.grown.sixteen (foretold_itself (world old) (world s.host) shown here.grown)).grows

      -- what is foretold of the turn
      told_first : (given : Given) → Foretells given (shown ++ next) (world old) (world s'.host) → Foretells given shown (world old) (world s.host)
      told_first given foretold = foretold_first (world old) (world s.host) (world s'.host) given shown next here.grown turn_grows foretold

      told_then : (given : Given) → AreSixteen given.guids → Foretells given (shown ++ next) (world old) (world s'.host) → Foretells (play front (from given)).1.given next (world s.host) (world s'.host)
      told_then given sixteen foretold =
          let far = here.so_far given sixteen (told_first given foretold) in
          foretold_then (world old) (world s.host) (world s'.host) given (play front (from given)).1.given shown next far.plays.done.given far.left turn_grows foretold

      pub turn_plays : (given : Given) → AreSixteen given.guids → Foretells given (shown ++ next) (world old) (world s'.host)
          → Plays (as_played (λ done. made.refused) answer) (world s.host) (world s'.host) s.shared s'.shared (trail_after t (told_turns how (play front (from given)))) (play front (from given)).1
          (told_turns how (one_turn session (play front (from given)).1)) (touching_by session (play front (from given)).1)
      turn_plays given sixteen foretold =
          subst (λ (h : Told). Plays (as_played (λ done. made.refused) answer) (world s.host) (world s'.host) s.shared s'.shared (trail_after t (told_turns how (play front (from given)))) (play front (from given)).1
          (told_turns h (one_turn session (play front (from given)).1)) (touching_by session (play front (from given)).1)) (here.telling session asker there)
          (subst (λ (n : ℕ). Plays (as_played (λ done. made.refused) answer) (world s.host) (world s'.host) s.shared s'.shared (trail_after t (told_turns how (play front (from given)))) (play front (from given)).1
          (told_turns asker.told (one_turn n (play front (from given)).1)) (touching_by n (play front (from given)).1)) mine
          ((took given sixteen (told_first given foretold)).plays (told_then given sixteen foretold)))

      -- what it left
      pub turn_ends : (given : Given) → AreSixteen given.guids → Foretells given (shown ++ next) (world old) (world s'.host)
          → EndsNext (RanOut answer) (CameToEnd answer) (world s.host) (world s'.host) (name_of s.shared) (after_steps t (steps_of (play front (from given)).0)) (play front (from given)).1 session
      turn_ends given sixteen foretold =
          subst (λ (u : Trail). EndsNext (RanOut answer) (CameToEnd answer) (world s.host) (world s'.host) (name_of s.shared) u (play front (from given)).1 session) (told_trail how t (play front (from given)))
          (subst (λ (k : ℕ). EndsNext (RanOut answer) (CameToEnd answer) (world s.host) (world s'.host) (name_of s.shared) (trail_after t (told_turns how (play front (from given)))) (play front (from given)).1 k) mine
          ((took given sixteen (told_first given foretold)).ends (told_then given sixteen foretold)))

    module _ (made : Steps tells (Ok tt) (world s.host) (world s'.host) (faults s.host) (faults s'.host) s.shared s'.shared asker moved)
        (placed : (n : ℕ) (a : Asker) → agent_of s'.agents n ≡ Some a → a.number ≡ n) (given : Given) (sixteen : AreSixteen given.guids) (foretold : Foretells given (shown ++ next) (world old) (world s'.host)) where
      abbrev p : Played
      p = play front (from given)

      far : IsSoFar shown front s given
      far = here.so_far given sixteen (told_first (Ok tt) made given foretold)

      next_is : TakesNext made.refused (Ok tt) (world s.host) (world s'.host) s.shared s'.shared (trail_after t (told_turns how p)) p.1 asker moved
      next_is = took (Ok tt) made given sixteen (told_first (Ok tt) made given foretold)

      low : 0 < session
      low = omega (arith, number.0)

      -- of the session itself, and of the others
      each_then : (P : Asker → Type 0) → P moved → ((n : ℕ) (a : Asker) → agent_of s.agents n ≡ Some a → session - 1 ≢ a.number - 1 → P a) → (n : ℕ) (a : Asker) → agent_of s'.agents n ≡ Some a → P a
      each_then P own others n a at = elim (agent_of_set s.agents session n moved a low (subst (λ (list : List Asker). agent_of list n ≡ Some a) agents at)) [
        | inl this ↦ subst P (sym this.1) own
        | inr other ↦ (
            let its : a.number ≡ n = here.placed n a other.1 in
            let some = (agent_there s.agents n a other.1).0 in
            others n a other.1 (λ e. other.0 (omega (arith, e, its, some, low))))
      ]

      todo_then : (n : ℕ) (a : Asker) → agent_of s'.agents n ≡ Some a → HasTodo a (one_turn session p.1).1
      todo_then = each_then (λ a. HasTodo a (one_turn session p.1).1) (subst (λ (k : ℕ). HasTodo moved (one_turn k p.1).1) mine (next_is.todo (told_then (Ok tt) made given sixteen foretold)))
          (λ n a at off. keeps_todo session (a.number - 1) p.1 (λ e. off (sym e)) ∙ far.todo n a at)

      goes_then : (n : ℕ) (a : Asker) → agent_of s'.agents n ≡ Some a → TaskGoes a.number (world s'.host) s'.shared (base_now (one_turn session p.1).1).frozen a.task
      goes_then = each_then (λ a. TaskGoes a.number (world s'.host) s'.shared (base_now (one_turn session p.1).1).frozen a.task)
          (subst (λ (k : ℕ). TaskGoes k (world s'.host) s'.shared (base_now (one_turn session p.1).1).frozen moved.task) (sym same)
          (subst (λ (k : ℕ). TaskGoes asker.number (world s'.host) s'.shared (base_now (one_turn k p.1).1).frozen moved.task) mine (next_is.goes (told_then (Ok tt) made given sixteen foretold))))
          (λ n a at off. goes_on session a off how made.refused (world s.host) (world s'.host) s.shared s'.shared (trail_after t (told_turns how p)) p.1 far.plays.done.ready (making_play front (from given) (making_giving now given sixteen making))
          (far.todo n a at) (turn_plays (Ok tt) made given sixteen foretold) a.task refl (far.goes n a at))

      -- of the numbers that were left it took what it shows
      left_then : given.holds ≡ (shown ++ next) ++ (one_turn session p.1).1.given.holds
      left_then =
          let told_of = told_then (Ok tt) made given sixteen foretold in
          let rest = holds_left session p.1 s.shared told_of.later_shown (todo_of asker) (subst (λ (k : ℕ). slice_index_or p.1.todo (k - 1) [] ≡ todo_of asker) mine (far.todo session asker there)) told_of.holds_first in
          far.left ∙ ap (λ (xs : List ℕ). shown ++ xs) (told_of.holds_first ∙ ap (λ (xs : List ℕ). next ++ xs) (sym rest)) ∙ sym (append_assoc shown next (one_turn session p.1).1.given.holds)

      -- the turn by itself
      takes : TakesOne (world s.host) (world s'.host) s.shared s'.shared (after_steps t (steps_of p.0)) how p.1 session
      takes = record {
        refused = made.refused;
        plays = subst (λ (u : Trail). Plays (Ok made.refused) (world s.host) (world s'.host) s.shared s'.shared u p.1 (told_turns how (one_turn session p.1)) (touching_by session p.1)) (told_trail how t p) (turn_plays (Ok tt) made given sixteen foretold);
        ends = turn_ends (Ok tt) made given sixteen foretold;
      }

      turn_far : IsSoFar (shown ++ next) (front ++ session ∷ []) s' given
      turn_far =
          let n : Now = from given in
          let given_making : IsMaking n = making_giving now given sixteen making in
          let files : List MadeFile = far.made ++ touching_by session p.1 in
          let q : Played = behind p (one_turn session p.1) in
          let more : play (front ++ session ∷ []) n ≡ q = play_more front session n in
          let refused : any_refused s'.agents ≡ any_refused s.agents || made.refused =
          ap any_refused agents ∙ any_set s.agents (session - 1) asker moved made.refused (agent_there s.agents session asker there).1 made.noted in
          record {
            made = files;
            plays = subst (λ (r : Played). Plays (Ok (any_refused s'.agents)) (world old) (world s'.host) before s'.shared t n (told_turns how r) files) (sym more)
                (subst (λ (r : Bool). Plays (Ok r) (world old) (world s'.host) before s'.shared t n (told_turns how q) files) (sym refused)
                (subst (λ (es : List Event). Plays (Ok (any_refused s.agents || made.refused)) (world old) (world s'.host) before s'.shared t n (es, q.1) files) (sym (told_append how p.0 (one_turn session p.1).0))
                (plays_then (world old) (world s.host) (world s'.host) before s.shared s'.shared t n (told_turns how p) (told_turns how (one_turn session p.1)) far.made (touching_by session p.1)
                (next_once n given_making front session far.made far.among) (told_among how p.0 far.made far.has) (told_others how p.0 (touching_by session p.1) (next_others n given_making front session))
                (any_refused s.agents) made.refused far.plays (turn_plays (Ok tt) made given sixteen foretold))));
            in_turn = in_turn_one world how front session old s.host s'.host before s.shared s'.shared t n far.in_turn takes;
            among = subst (λ (r : Played). AreAmong files (files_made r.0 ++ under_way r.1)) (sym more) (next_among n given_making front session far.made far.among);
            has = subst (λ (r : Played). AreAmong (files_made r.0) files) (sym more) (next_has n given_making front session far.made far.among far.has);
            left = subst (λ (r : Played). given.holds ≡ (shown ++ next) ++ r.1.given.holds) (sym more) left_then;
            todo = λ k a at. subst (λ (r : Played). HasTodo a r.1) (sym more) (todo_then k a at);
            goes = λ k a at. subst (λ (r : Played). TaskGoes a.number (world s'.host) s'.shared (base_now r.1).frozen a.task) (sym more) (goes_then k a at);
          }

    telling_then : moved.told ≡ asker.told → (n : ℕ) (a : Asker) → agent_of s'.agents n ≡ Some a → a.told ≡ how
    telling_then kept n a at = elim (agent_of_set s.agents session n moved a (omega (arith, number.0)) (subst (λ (list : List Asker). agent_of list n ≡ Some a) agents at)) [
      | inl this ↦ ap (λ (x : Asker). x.told) this.1 ∙ kept ∙ here.telling session asker there
      | inr other ↦ here.telling n a other.1
    ]

    turn_holds : (made : Steps tells (Ok tt) (world s.host) (world s'.host) (faults s.host) (faults s'.host) s.shared s'.shared asker moved) → ((n : ℕ) (a : Asker) → agent_of s'.agents n ≡ Some a → a.number ≡ n)
        → HoldsAt (shown ++ next) (front ++ session ∷ []) s'
    turn_holds made placed = record {
      grown = grows_joined (world old) (world s.host) (world s'.host) here.grown (turn_grows (Ok tt) made);
      sixteen = ap length agents ∙ length-set s.agents (session - 1) moved ∙ here.sixteen;
      placed = placed;
      telling = telling_then made.told;
      so_far = λ given sixteen foretold. turn_far made placed given sixteen foretold;
    }

  pub moves_hold : (shown front : List ℕ) (session : ℕ) (s s' : Scene Asker H Held) → Holds shown front s → (move : Moves (sessions_kind tells world faults) session s (Ok tt) s')
      → Holds (shown ++ shown_next move.agent s.shared) (front ++ session ∷ []) s'
  moves_hold shown front session s s' holds move rest is =
      let on = one_more front rest session is in
      turn_holds shown front rest session s s' on (holds (session ∷ rest) on) (is_session front rest session on) move.agent move.moved move.there move.agents move.same_session move.made (λ n a at. move.still_ready.placed n a at)

  -- before the first turn nothing is under way
  pub none_hold : (agents : List Asker) → IsTimely (world old) → IsReady (world old) before t now → length agents ≡ 16 → any_refused agents ≡ false
      → ((session : ℕ) (asker : Asker) → agent_of agents session ≡ Some asker → asker.number ≡ session) → ((session : ℕ) (asker : Asker) → agent_of agents session ≡ Some asker → asker.told ≡ how)
      → ((session : ℕ) (asker : Asker) → agent_of agents session ≡ Some asker → HasTodo asker now × (asker.task ≡ None)) → Holds [] [] (scene agents old before)
  unfolding play
  none_hold agents timely ready sixteen none placed telling fresh rest is = record {
    grown = grows_none (world old) (world old) (record { guids = refl; times = refl });
    sixteen = sixteen;
    placed = placed;
    telling = telling;
    so_far = λ given guids foretold. record {
      made = [];
      plays = subst (λ (r : Bool). Plays (Ok r) (world old) (world old) before before t (from given) (told_turns how ([], from given)) []) (sym none)
          (subst (λ (es : List Event). Plays (Ok false) (world old) (world old) before before t (from given) (es, from given) []) (sym (told_nothing how))
          (plays_none (world old) before t (from given) timely (record { opened = ready.opened; base = ready.base; there = ready.there; named = ready.named; running = ready.running; cache = ready.cache; known = ready.known })));
      in_turn = (refl, refl);
      among = none_among (files_made [] ++ under_way (from given));
      has = λ file there. absurd (no_made 0 file.0 file.1 there);
      left = refl;
      todo = λ session asker there. (fresh session asker there).0;
      goes = λ session asker there. subst (TaskGoes asker.number (world old) before (base_now (from given)).frozen) (sym (fresh session asker there).1) tt;
    };
  }
