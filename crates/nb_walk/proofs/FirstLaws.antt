-- The first that passes a test, of a list that gets one more.
use Rattle.std.proofs.Common.{◌≡◌, List, [], ◌∷◌, ◌++◌, refl, sym, ap, ◌∙◌, Bool, true, false, Option, Some, None, is_some, true≢false}
use Rattle.nb_walk.proofs.Common.{Spot, first_such, none_some, some_none}

module _ {X : Type 0} (test : X → Bool) (x : X) where
  abbrev next_such : (y : X) → (ys : List X) → Bool → Option X
  next_such y ys t = elim t [ true ↦ Some y | false ↦ first_such test ys ]

  pub first_held : (xs : List X) (z : X) → first_such test xs ≡ Some z → first_such test (xs ++ x ∷ []) ≡ Some z
  unfolding first_such
  first_held [] z e = absurd (none_some z e)
  first_held (y ∷ ys) z e = by (first_held ys z) (test y) refl
    where
      by : (first_such test ys ≡ Some z → first_such test (ys ++ x ∷ []) ≡ Some z) → (t : Bool) → test y ≡ t → next_such y (ys ++ x ∷ []) (test y) ≡ Some z
      by behind true d = ap (next_such y (ys ++ x ∷ [])) d ∙ sym (ap (next_such y ys) d) ∙ e
      by behind false d = ap (next_such y (ys ++ x ∷ [])) d ∙ behind (sym (ap (next_such y ys) d) ∙ e)

  pub first_hit : (xs : List X) → first_such test xs ≡ None → test x ≡ true → first_such test (xs ++ x ∷ []) ≡ Some x
  unfolding first_such
  first_hit [] e here = ap (next_such x []) here
  first_hit (y ∷ ys) e here = by (λ d. first_hit ys d here) (test y) refl
    where
      by : (first_such test ys ≡ None → first_such test (ys ++ x ∷ []) ≡ Some x) → (t : Bool) → test y ≡ t → next_such y (ys ++ x ∷ []) (test y) ≡ Some x
      by behind true d = absurd (some_none y (sym (ap (next_such y ys) d) ∙ e))
      by behind false d = ap (next_such y (ys ++ x ∷ [])) d ∙ behind (sym (ap (next_such y ys) d) ∙ e)

  pub first_miss : (xs : List X) → test x ≡ false → first_such test (xs ++ x ∷ []) ≡ first_such test xs
  unfolding first_such
  first_miss [] e = ap (next_such x []) e
  first_miss (y ∷ ys) e = ap (λ (o : Option X). elim (test y) as (λ z. Option X) [ true ↦ Some y | false ↦ o ]) (first_miss ys e)

-- As a walk holds it, and one slot more.
module _ {A : Type 0} (at : Option Spot → Option A) (test : Spot → Bool) (ss : List Spot) (s : Spot) (held : Option A) (is : held ≡ at (first_such test ss)) (none : is_some (at None) ≡ false) (some : (x : Spot) → is_some (at (Some x)) ≡ true) where
  none_yet : is_some held ≡ false → first_such test ss ≡ None
  none_yet e = by (first_such test ss) refl
    where
      by : (o : Option Spot) → first_such test ss ≡ o → first_such test ss ≡ None
      by None d = d
      by (Some y) d = absurd (true≢false (sym (ap is_some is ∙ ap (λ (x : Option Spot). is_some (at x)) d ∙ some y) ∙ e))

  pub stays : is_some held ≡ true → held ≡ at (first_such test (ss ++ s ∷ []))
  stays e = by (first_such test ss) refl
    where
      by : (o : Option Spot) → first_such test ss ≡ o → held ≡ at (first_such test (ss ++ s ∷ []))
      by (Some y) d = is ∙ ap at (d ∙ sym (first_held test s ss y d))
      by None d = absurd (true≢false (sym e ∙ ap is_some is ∙ ap (λ (x : Option Spot). is_some (at x)) d ∙ none))

  pub misses : test s ≡ false → held ≡ at (first_such test (ss ++ s ∷ []))
  misses e = is ∙ ap at (sym (first_miss test s ss e))

  pub hits : is_some held ≡ false → test s ≡ true → at (Some s) ≡ at (first_such test (ss ++ s ∷ []))
  hits first e = sym (ap at (first_hit test s ss (none_yet first) e))
