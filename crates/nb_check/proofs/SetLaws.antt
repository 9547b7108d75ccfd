-- Sets of pages, of which some are taken out.
use Rattle.std.proofs.Common.{◌≡◌, ℕ, List, [], ◌++◌, refl, sym, ap, ◌∙◌, Bool, true, false, ◌&&◌, ◌||◌, not, nat_eq}
use Rattle.nb_check.proofs.Common.{list_any-append, has, IsWithout, is_among}

pub and_all : (a : Bool) → a ≡ (a && true)
and_all true = refl
and_all false = refl

-- none is taken out
pub without_none : (set : List ℕ) → IsWithout set [] set
without_none set p = and_all (has set p)

not_both : (a b c : Bool) → ((a && not b) && not c) ≡ (a && not (b || c))
not_both true true c = refl
not_both true false c = refl
not_both false b c = refl

-- some, and then others
pub without_both : (before : List ℕ) (ps : List ℕ) (mid : List ℕ) (qs : List ℕ) (after : List ℕ) → IsWithout before ps mid → IsWithout mid qs after → IsWithout before (ps ++ qs) after
without_both before ps mid qs after one two p =
    two p ∙ ap (λ (t : Bool). t && not (is_among p qs)) (one p) ∙ not_both (has before p) (is_among p ps) (is_among p qs)
    ∙ ap (λ (t : Bool). has before p && not t) (sym (list_any-append (nat_eq p) ps qs))
