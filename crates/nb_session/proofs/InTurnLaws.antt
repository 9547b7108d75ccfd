-- Turns after turns, one by one.
use Rattle.std.proofs.Common.{◌≡◌, inl, inr, ℕ, List, [], ◌∷◌, ◌++◌, refl, ap, subst, ◌∙◌}
use Rattle.nb_session.proofs.Common.{World, Now, Played, one_turn, play, steps_of, after_steps, Trail, steps_append, after_steps_append, one_turn_idle, Held, Told, HasNone, TakesOne, InTurn, told_turns}
use Rattle.nb_session.proofs.PlayLaws.{after_none, trail_after}
use Rattle.nb_session.proofs.ToldLaws.{told_steps}

-- what was seen after turns, whatever was told of them
pub told_trail : (told : Told) (t : Trail) (p : Played) → trail_after t (told_turns told p) ≡ after_steps t (steps_of p.0)
told_trail told t p = ap (after_steps t) (told_steps told p.0)

-- no turn is played
pub play_none : (now : Now) → play [] now ≡ ([], now)
unfolding play
play_none now = refl

-- what a session that has none does is nothing
pub play_idle : (session : ℕ) (order : List ℕ) (now : Now) → HasNone session now → play (session ∷ order) now ≡ play order now
unfolding play
play_idle session order now none = ap (λ (p : Played). (p.0 ++ (play order p.1).0, (play order p.1).1)) (one_turn_idle session now none)

-- what was seen after one turn and others
pub play_then : (session : ℕ) (order : List ℕ) (now : Now) (t : Trail)
    → after_steps t (steps_of (play (session ∷ order) now).0) ≡ after_steps (after_steps t (steps_of (one_turn session now).0)) (steps_of (play order (one_turn session now).1).0)
unfolding play
play_then session order now t =
    let first : Played = one_turn session now in
    let later : Played = play order first.1 in
    ap (after_steps t) (steps_append first.0 later.0) ∙ after_steps_append t (steps_of first.0) (steps_of later.0)

module _ {H : Type 0} (world : H → World) (told : Told) where
  -- where all is as it was before the first turn
  from_start : (order : List ℕ) (old mid new : H) (before between after : Held) (t : Trail) (now : Now) → mid ≡ old → between ≡ before
      → InTurn world told order mid new between after (after_steps t (steps_of (play [] now).0)) (play [] now).1 → InTurn world told order old new before after t now
  from_start order old mid new before between after t now same held turns =
      subst (λ (h : H). InTurn world told order h new before after t now) same
      (subst (λ (b : Held). InTurn world told order mid new b after t now) held
      (subst (λ (u : Trail). InTurn world told order mid new between after u now) (after_none t)
      (subst (λ (p : Played). InTurn world told order mid new between after (after_steps t (steps_of p.0)) p.1) (play_none now) turns)))

  -- turns after turns
  pub in_turn_then : (front order : List ℕ) (old mid new : H) (before between after : Held) (t : Trail) (now : Now) → InTurn world told front old mid before between t now
      → InTurn world told order mid new between after (after_steps t (steps_of (play front now).0)) (play front now).1 → InTurn world told (front ++ order) old new before after t now
  unfolding play
  in_turn_then [] order old mid new before between after t now first second = from_start order old mid new before between after t now first.0 first.1 second
  in_turn_then (x ∷ front) order old mid new before between after t now (inl idle) second =
      inl (
        idle.0,
        in_turn_then front order old mid new before between after t now idle.1
            (subst (λ (p : Played). InTurn world told order mid new between after (after_steps t (steps_of p.0)) p.1) (play_idle x front now idle.0) second),
      )
  in_turn_then (x ∷ front) order old mid new before between after t now (inr taken) second =
      inr (
        taken.0,
        taken.1,
        taken.2,
        in_turn_then front order taken.0 mid new taken.1 between after (after_steps t (steps_of (one_turn x now).0)) (one_turn x now).1 taken.3
            (subst (λ (u : Trail). InTurn world told order mid new between after u (play (x ∷ front) now).1) (play_then x front now t) second),
      )

  module _ (front : List ℕ) (session : ℕ) (old mid new : H) (before between after : Held) (t : Trail) (now : Now) (taken : InTurn world told front old mid before between t now) where
    -- one number more, of a session that has nothing to do
    pub in_turn_idle : HasNone session (play front now).1 → InTurn world told (front ++ session ∷ []) old mid before between t now
    in_turn_idle none = in_turn_then front (session ∷ []) old mid mid before between between t now taken (inl (none, (refl, refl)))

    -- or one turn more
    pub in_turn_one : TakesOne (world mid) (world new) between after (after_steps t (steps_of (play front now).0)) told (play front now).1 session → InTurn world told (front ++ session ∷ []) old new before after t now
    in_turn_one takes = in_turn_then front (session ∷ []) old mid new before between after t now taken (inr (new, after, takes, (refl, refl)))
