-- What agents say one after another is within the order of their turns.
use Rattle.std.proofs.Common.{◌≡◌, ℕ, List, [], ◌∷◌, ◌++◌, inl, inr, Result, Ok, Err, refl, sym, ap, ◌∙◌, subst}
use Rattle.nb_sched.proofs.Common.{RunError, Scene, Kind, Moves, TakesTurns, EndsWith}
use Rattle.nb_sched.specs.Within.{IsWithin}
use Rattle.nb_sched.proofs.TurnLaws.{turns_hold}

-- a longer order
pub within_more : (numbers order more : List ℕ) → IsWithin numbers order → IsWithin numbers (order ++ more)
within_more [] order more is = tt
within_more (n ∷ numbers) [] more is = absurd is
within_more (n ∷ numbers) (session ∷ order) more (inl here) = inl (here.0, within_more numbers order more here.1)
within_more (n ∷ numbers) (session ∷ order) more (inr later) = inr (within_more (n ∷ numbers) order more later)

-- one number more at the end of both
pub within_last : (numbers order : List ℕ) (n : ℕ) → IsWithin numbers order → IsWithin (numbers ++ n ∷ []) (order ++ n ∷ [])
within_last [] [] n is = inl (refl, tt)
within_last [] (session ∷ order) n is = inr (within_last [] order n tt)
within_last (m ∷ numbers) [] n is = absurd is
within_last (m ∷ numbers) (session ∷ order) n (inl here) = inl (here.0, within_last numbers order n here.1)
within_last (m ∷ numbers) (session ∷ order) n (inr later) = inr (within_last (m ∷ numbers) order n later)

module _ {A H C : Type 0} (of : Kind A H C) (said : C → List ℕ)
    (says : (a : A) (h : H) (c : C) (a' : A) (h' : H) (c' : C) → of.step a h c (Ok tt) a' h' c' → said c' ≡ said c ++ of.session a ∷ [])
    (silent : (a : A) (h : H) (c : C) (error : RunError) (a' : A) (h' : H) (c' : C) → of.step a h c (Err error) a' h' c' → said c' ≡ said c) where
  says_more : (front : List ℕ) (session : ℕ) (before after : Scene A H C) → IsWithin (said before.shared) front → Moves of session before (Ok tt) after → IsWithin (said after.shared) (front ++ session ∷ [])
  says_more front session before after is move =
      let mine : of.session move.agent ≡ session = move.ready.placed session move.agent move.there in
      let more : said after.shared ≡ said before.shared ++ session ∷ [] = says _ _ _ _ _ _ move.made ∙ ap (λ (n : ℕ). said before.shared ++ n ∷ []) mine in
      subst (λ (ns : List ℕ). IsWithin ns (front ++ session ∷ [])) (sym more) (within_last (said before.shared) front session is)

  ends_within : (order : List ℕ) (after : Scene A H C) (answer : Result (Unit {0}) RunError) → EndsWith of (λ front s. IsWithin (said s.shared) front) order answer after → IsWithin (said after.shared) order
  ends_within order after (Ok done) ends = ends
  ends_within order after (Err error) ends =
      subst (λ (xs : List ℕ). IsWithin (said after.shared) xs) (sym ends.is)
      (subst (λ (ns : List ℕ). IsWithin ns (ends.front ++ (ends.session ∷ ends.rest))) (sym (silent _ _ _ error _ _ _ ends.move.made)) (within_more (said ends.last.shared) ends.front (ends.session ∷ ends.rest) ends.holds))

  -- where each turn that answers Ok says the number of its session, and a failed one nothing
  pub said_within : (order : List ℕ) (before after : Scene A H C) (answer : Result (Unit {0}) RunError) → said before.shared ≡ [] → TakesTurns of order before answer after → IsWithin (said after.shared) order
  said_within order before after answer none turns =
      ends_within order after answer
      (turns_hold of (λ front s. IsWithin (said s.shared) front) (λ front session s is rests. within_more (said s.shared) front (session ∷ []) is) says_more order before after answer
      (subst (λ (ns : List ℕ). IsWithin ns []) (sym none) tt) turns)
