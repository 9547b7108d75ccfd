-- Turns after turns, and what holds while they are taken.
use Rattle.std.proofs.Common.{◌≡◌, ◌<◌, ◌≤◌, ◌+◌, ℕ, zero, suc, List, [], ◌∷◌, ◌++◌, ◌⊎◌, inl, inr, Some, Result, Ok, Err, IsErrAnd, refl, sym, subst, arith, append_assoc, length, take, drop, get_or, take-append-drop}
use Rattle.nb_sched.proofs.Common.{AllByRecursion, RunError, rounds, all_sessions, Scene, Kind, agent_of, Rests, IsReady, Moves, TakesTurns, EndsWith, total}
use Rattle.std.proofs.lemmas.List.{append-nil, take_more}
use Rattle.nb_model.proofs.TodoLaws.{rounds_more}
use Rattle.nb_sched.proofs.AgentLaws.{agent_of_set, all_behind, last_of, total_falls}

module _ {A H C : Type 0} (of : Kind A H C) where
  -- one turn
  pub turns_one : (session : ℕ) (before after : Scene A H C) (answer : Result (Unit {0}) RunError) → Moves of session before answer after → TakesTurns of (session ∷ []) before answer after
  turns_one session before after (Ok done) move = inr (inl (after, move, (refl, refl)))
  turns_one session before after (Err error) move = inr (inr (refl, move))

  -- turns go on where others ended
  pub turns_then : (xs ys : List ℕ) (before mid after : Scene A H C) (answer : Result (Unit {0}) RunError) → TakesTurns of xs before (Ok tt) mid → TakesTurns of ys mid answer after → TakesTurns of (xs ++ ys) before answer after
  turns_then [] ys before mid after answer first next = subst (λ (s : Scene A H C). TakesTurns of ys s answer after) first.1 next
  turns_then (x ∷ xs) ys before mid after answer (inl rest) next = inl (rest.0, turns_then xs ys before mid after answer rest.1 next)
  turns_then (x ∷ xs) ys before mid after answer (inr (inl go)) next = inr (inl (go.0, go.1, turns_then xs ys go.0 mid after answer go.2 next))
  turns_then (x ∷ xs) ys before mid after answer (inr (inr stop)) next = absurd (cc (stop.0))

  -- numbers after an error are not gone through
  pub turns_stop : (xs ys : List ℕ) (before after : Scene A H C) (error : RunError) → TakesTurns of xs before (Err error) after → TakesTurns of (xs ++ ys) before (Err error) after
  turns_stop [] ys before after error turns = absurd (cc (turns.0))
  turns_stop (x ∷ xs) ys before after error (inl rest) = inl (rest.0, turns_stop xs ys before after error rest.1)
  turns_stop (x ∷ xs) ys before after error (inr (inl go)) = inr (inl (go.0, go.1, turns_stop xs ys go.0 after error go.2))
  turns_stop (x ∷ xs) ys before after error (inr (inr stop)) = inr (inr stop)

  hold_behind : (P : List ℕ → Scene A H C → Type 0)
      → ((front : List ℕ) (session : ℕ) (s : Scene A H C) → P front s → Rests of.left s.agents session → P (front ++ session ∷ []) s)
      → ((front : List ℕ) (session : ℕ) (before after : Scene A H C) → P front before → Moves of session before (Ok tt) after → P (front ++ session ∷ []) after)
      → (front order : List ℕ) (before after : Scene A H C) (answer : Result (Unit {0}) RunError) → P front before → TakesTurns of order before answer after → EndsWith of P (front ++ order) answer after
  hold_behind P rests moves front [] before after answer holds turns =
      subst (λ (a : Result (Unit {0}) RunError). EndsWith of P (front ++ []) a after) (sym turns.0) (subst (P (front ++ [])) (sym turns.1) (rw (append-nil front) holds))
  hold_behind P rests moves front (x ∷ order) before after answer holds (inl rest) =
      subst (λ (xs : List ℕ). EndsWith of P xs answer after) (append_assoc front (x ∷ []) order)
      (hold_behind P rests moves (front ++ x ∷ []) order before after answer (rests front x before holds rest.0) rest.1)
  hold_behind P rests moves front (x ∷ order) before after answer holds (inr (inl go)) =
      subst (λ (xs : List ℕ). EndsWith of P xs answer after) (append_assoc front (x ∷ []) order)
      (hold_behind P rests moves (front ++ x ∷ []) order go.0 after answer (moves front x before go.0 holds go.1) go.2)
  hold_behind P rests moves front (x ∷ order) before after (Ok done) holds (inr (inr stop)) = absurd (cc (stop.0))
  hold_behind P rests moves front (x ∷ order) before after (Err error) holds (inr (inr stop)) =
      record { front = front; session = x; rest = order; is = refl; last = before; holds = holds; move = stop.1 }

  -- P tells what holds once a front of the order was gone through. Where each number that rests and each turn that answers Ok keeps it,
  -- it holds of the whole order at its end, or of the numbers before the turn that answered an error.
  pub turns_hold : (P : List ℕ → Scene A H C → Type 0)
      → ((front : List ℕ) (session : ℕ) (s : Scene A H C) → P front s → Rests of.left s.agents session → P (front ++ session ∷ []) s)
      → ((front : List ℕ) (session : ℕ) (before after : Scene A H C) → P front before → Moves of session before (Ok tt) after → P (front ++ session ∷ []) after)
      → (order : List ℕ) (before after : Scene A H C) (answer : Result (Unit {0}) RunError) → P [] before → TakesTurns of order before answer after → EndsWith of P order answer after
  turns_hold P rests moves = hold_behind P rests moves []

  -- all are ready after turns that answered Ok
  pub turns_ready : (order : List ℕ) (before after : Scene A H C) → IsReady of before → TakesTurns of order before (Ok tt) after → IsReady of after
  turns_ready order before after =
      turns_hold (λ front s. IsReady of s) (λ front session s ready rests. ready) (λ front session s t ready move. move.still_ready) order before after (Ok tt)

  move_falls : (session : ℕ) (before after : Scene A H C) → Moves of session before (Ok tt) after → total of.left after.agents < total of.left before.agents
  move_falls session before after move = rw move.agents (total_falls of.left before.agents session move.agent move.moved move.there move.falls)

  -- over an order at which all rest nothing is done; over any other less is left
  pub turns_fall : (order : List ℕ) (before after : Scene A H C) → TakesTurns of order before (Ok tt) after
      → (AllByRecursion (Rests of.left before.agents) order × (after ≡ before)) ⊎ (total of.left after.agents < total of.left before.agents)
  turns_fall [] before after turns = inl (tt, turns.1)
  turns_fall (x ∷ order) before after (inl rest) =
      elim (turns_fall order before after rest.1) [ inl all ↦ inl ((rest.0, all.0), all.1) | inr less ↦ inr less ]
  turns_fall (x ∷ order) before after (inr (inl go)) =
      let here = move_falls x before go.0 go.1 in
      elim (turns_fall order go.0 after go.2) [
        | inl all ↦ inr (subst (λ (s : Scene A H C). total of.left s.agents < total of.left before.agents) (sym all.1) here)
        | inr less ↦ inr (omega arith)
      ]
  turns_fall (x ∷ order) before after (inr (inr stop)) = absurd (cc (stop.0))

  -- a session that rests still does after turns of others
  moved_rests : (session other : ℕ) (before after : Scene A H C) → Rests of.left before.agents session → Moves of other before (Ok tt) after → Rests of.left after.agents session
  moved_rests session zero before after rests move agent there = absurd (cc (move.there))
  moved_rests session (suc place) before after rests move agent there =
      elim (agent_of_set before.agents (suc place) session move.moved agent (omega arith) (subst (λ (agents : List A). agent_of agents session ≡ Some agent) move.agents there)) [
        | inl here ↦ absurd (move.unfinished (rests move.agent (subst (λ (n : ℕ). agent_of before.agents n ≡ Some move.agent) (sym here.0) move.there)))
        | inr apart ↦ rests agent apart.1
      ]

  pub rests_kept : (session : ℕ) (order : List ℕ) (before after : Scene A H C) → Rests of.left before.agents session → TakesTurns of order before (Ok tt) after → Rests of.left after.agents session
  rests_kept session order before after =
      turns_hold (λ front s. Rests of.left s.agents session) (λ front other s rests also. rests) (λ front other s t rests move. moved_rests session other s t rests move) order before after (Ok tt)

  -- nothing is done over an order at which all rest
  turns_rest : (order : List ℕ) (s : Scene A H C) → AllByRecursion (Rests of.left s.agents) order → TakesTurns of order s (Ok tt) s
  turns_rest [] s all = (refl, refl)
  turns_rest (x ∷ order) s all = inl (all.0, turns_rest order s all.1)

  -- a round is one of the first sessions, where those after them rest
  pub round_of : (count : ℕ) (before after : Scene A H C) → ((session : ℕ) → count < session → Rests of.left before.agents session) → TakesTurns of (take count all_sessions) before (Ok tt) after
      → TakesTurns of all_sessions before (Ok tt) after
  round_of count before after rest turns =
      let cut : take count all_sessions ++ drop count all_sessions ≡ all_sessions = take-append-drop count all_sessions in
      subst (λ (xs : List ℕ). TakesTurns of xs before (Ok tt) after) cut (turns_then (take count all_sessions) (drop count all_sessions) before after after (Ok tt) turns
      (turns_rest (drop count all_sessions) after
      (all_behind (Rests of.left after.agents) 1 16 count (λ session from. rests_kept session (take count all_sessions) before after (rest session (omega arith)) turns))))

  -- and an error among them ends it
  pub round_stops : (count : ℕ) (before after : Scene A H C) (error : RunError) → TakesTurns of (take count all_sessions) before (Err error) after → TakesTurns of all_sessions before (Err error) after
  round_stops count before after error turns =
      let cut : take count all_sessions ++ drop count all_sessions ≡ all_sessions = take-append-drop count all_sessions in
      subst (λ (xs : List ℕ). TakesTurns of xs before (Err error) after) cut (turns_stop (take count all_sessions) (drop count all_sessions) before after error turns)

  -- less is left after it, where the last of them had not finished
  pub round_falls : (count : ℕ) (before after : Scene A H C) → 0 < count → count ≤ 16 → ¬ Rests of.left before.agents count → TakesTurns of (take count all_sessions) before (Ok tt) after
      → total of.left after.agents < total of.left before.agents
  round_falls zero before after some few busy turns = absurd (omega arith)
  round_falls (suc count) before after some few busy turns = elim (turns_fall (take (suc count) all_sessions) before after turns) [
    | inl all ↦ (let same : 1 + count ≡ suc count = omega arith in absurd (busy (subst (Rests of.left before.agents) same (last_of (Rests of.left before.agents) 1 16 count (omega arith) all.0))))
    | inr less ↦ less
  ]

  -- one number more of an order
  pub turns_more : (order : List ℕ) (i : ℕ) (before mid after : Scene A H C) → i < length order → TakesTurns of (take i order) before (Ok tt) mid
      → TakesTurns of (get_or order i 0 ∷ []) mid (Ok tt) after → TakesTurns of (take (i + 1) order) before (Ok tt) after
  turns_more order i before mid after within first next = rw (take_more order i 0 within) (turns_then (take i order) (get_or order i 0 ∷ []) before mid after (Ok tt) first next)

  -- a number of an order at which a turn answers an error
  pub turns_err : (order : List ℕ) (i : ℕ) (before mid after : Scene A H C) (error : RunError) → i < length order → TakesTurns of (take i order) before (Ok tt) mid
      → TakesTurns of (get_or order i 0 ∷ []) mid (Err error) after → TakesTurns of order before (Err error) after
  turns_err order i before mid after error within first next =
      let cut : take (i + 1) order ++ drop (i + 1) order ≡ order = take-append-drop (i + 1) order in
      subst (λ (xs : List ℕ). TakesTurns of xs before (Err error) after) cut
      (turns_stop (take (i + 1) order) (drop (i + 1) order) before after error
      (rw (take_more order i 0 within) (turns_then (take i order) (get_or order i 0 ∷ []) before mid after (Err error) first next)))

  -- no round yet
  pub turns_no_round : (schedule : List ℕ) (before after : Scene A H C) (answer : Result (Unit {0}) RunError) → TakesTurns of schedule before answer after → TakesTurns of (schedule ++ rounds 0) before answer after
  unfolding rounds
  turns_no_round schedule before after answer turns = rw (append-nil schedule) turns

  -- one round more
  pub turns_round : (schedule : List ℕ) (n : ℕ) (before mid after : Scene A H C) (answer : Result (Unit {0}) RunError) → TakesTurns of (schedule ++ rounds n) before (Ok tt) mid
      → TakesTurns of all_sessions mid answer after → TakesTurns of (schedule ++ rounds (n + 1)) before answer after
  turns_round schedule n before mid after answer first next =
      rw (rounds_more n, ← append_assoc) (turns_then (schedule ++ rounds n) all_sessions before mid after answer first next)

  -- an error that `?` hands on
  pub turns_handed : (order : List ℕ) (before after : Scene A H C) (answer : Result (Unit {0}) RunError) (error : RunError) → IsErrAnd answer (λ given. given ≡ error)
      → TakesTurns of order before (Err error) after → TakesTurns of order before answer after
  turns_handed order before after (Ok done) error handed turns = absurd handed
  turns_handed order before after (Err given) error handed turns = subst (λ (f : RunError). TakesTurns of order before (Err f) after) (sym handed) turns
