use Rattle.std.proofs.Common.{ℕ, List, ap, ◌∙◌}
use Rattle.nb_check.proofs.Common.{has}
use Rattle.nb_check.proofs.SetBits.{none_has}
use Rattle.nb_check.proofs.set.PageSet.new.Goals as goal

pub returns-clause-empty : goal.returns-clause-empty
returns-clause-empty c p = ap (λ (xs : List ℕ). has xs p) (c.in_ok-bytes.ensures.items_if_clones_equal (λ y e. e)) ∙ none_has _ p
