-- The lists of statements, one of each session.
use Rattle.std.proofs.Common.{◌≡◌, ℕ, ◌<◌, List, [], ◌∷◌, ◌++◌, length, map, set, get_or, ap, sym, ◌∙◌}
use Rattle.nb_script.proofs.Common.{Vec, map-set, get_or-map}

-- the list of one of them grows
pub one_more : {A : Type 0} (vs : List (Vec A)) (i : ℕ) (old new : Vec A) (x : A) → i < length vs → new.items ≡ (get_or vs i old).items ++ x ∷ []
    → map (λ v. v.items) (set vs i new) ≡ set (map (λ v. v.items) vs) i (get_or (map (λ v. v.items) vs) i [] ++ x ∷ [])
one_more {A = A} vs i old new x h more =
    map-set (λ v. v.items) vs i new ∙ ap (set (map (λ v. v.items) vs) i) (more ∙ ap (λ (xs : List A). xs ++ x ∷ []) (sym (get_or-map (λ v. v.items) vs i old [] h)))
