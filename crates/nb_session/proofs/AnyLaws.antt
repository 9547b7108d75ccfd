-- Whether a statement of one of the sessions was refused.
use Rattle.std.proofs.Common.{◌≡◌, ℕ, ◌+◌, ◌<◌, List, [], ◌∷◌, ◌++◌, length, take, get_or, refl, sym, ap, ◌∙◌, Bool, true, false, ◌||◌}
use Rattle.nb_session.proofs.Common.{take_more, Asker, any_refused, or_assoc}

alone : (r : Bool) → r || false ≡ r
alone true = refl
alone false = refl

any_append : (xs : List Asker) (y : Asker) → any_refused (xs ++ y ∷ []) ≡ any_refused xs || y.refused
any_append [] y = alone y.refused
any_append (x ∷ xs) y = ap (λ (r : Bool). x.refused || r) (any_append xs y) ∙ or_assoc x.refused (any_refused xs) y.refused

-- one session more
pub any_more : (xs : List Asker) (i : ℕ) (a : Asker) (any refused : Bool) → i < length xs → a ≡ get_or xs i a → any ≡ any_refused (take i xs) → refused ≡ a.refused → (any || refused) ≡ any_refused (take (i + 1) xs)
any_more xs i a any refused within is so_far this =
    ap (λ (r : Bool). r || refused) so_far ∙ ap (λ (r : Bool). any_refused (take i xs) || r) (this ∙ ap (λ (x : Asker). x.refused) is)
    ∙ sym (any_append (take i xs) (get_or xs i a)) ∙ ap any_refused (sym (take_more xs i a within))
