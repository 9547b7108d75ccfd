-- What holds of each element of a list.
use Rattle.std.proofs.Common.{ℕ, zero, suc, List, [], ◌∷◌, get_or}
use Rattle.nb_session.proofs.Common.{AllByRecursion}

-- of the element at a place, where it holds of what stands for none
pub all_at : {A : Type 0} (P : A → Type 0) (xs : List A) (i : ℕ) (none : A) → P none → AllByRecursion P xs → P (get_or xs i none)
all_at P [] i none past all = past
all_at P (x ∷ xs) zero none past all = all.0
all_at P (x ∷ xs) (suc i) none past all = all_at P xs i none past all.1
