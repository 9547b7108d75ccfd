-- Files under equal names, and under others.
use Rattle.std.proofs.Common.{◌≡◌, ◌≢◌, inl, inr, ℕ, List, ◌∙◌, ap, Result, Ok, Err}
use Rattle.nb_change.proofs.Common.{File, Files, with_file, WholeOrNot}
pub use Rattle.nb_host.proofs.NameLaws.{decide, with_file-same, with_file-other}

-- of a file that was changed, whole or not, the others are as they were
pub whole-other : {T E : Type 0} (result : Result T E) (old new : Files) (n : List ℕ) (file : File) → WholeOrNot result old (with_file old n file) new → (m : List ℕ) → m ≢ n → new m ≡ old m
whole-other (Ok x) old new n file is m other = ap (λ (f : Files). f m) is ∙ with_file-other old n file m other
whole-other (Err e) old new n file (inl is) m other = ap (λ (f : Files). f m) is
whole-other (Err e) old new n file (inr is) m other = ap (λ (f : Files). f m) is ∙ with_file-other old n file m other
