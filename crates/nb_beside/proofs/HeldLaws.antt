-- Names that are held one after another.
use Rattle.std.proofs.Common.{◌≡◌, ℕ, List, [], ◌++◌, ap, sym, ◌∙◌, append_assoc}
use Rattle.std.proofs.lemmas.List.{append-nil}
use Rattle.nb_beside.specs.Changed.{IsHeld}

-- no more
pub none_held : (old : List (List ℕ)) → IsHeld [] old old
none_held old = sym (append-nil old)

-- these, and then those
pub both_held : (first next old between new : List (List ℕ)) → IsHeld first old between → IsHeld next between new → IsHeld (first ++ next) old new
both_held first next old between new is then = then ∙ (ap (λ (xs : List (List ℕ)). xs ++ next) is ∙ append_assoc old first next)
