-- Fronts of strokes, and what stands after them.
use Rattle.std.proofs.Common.{◌≡◌, ◌⊎◌, inl, inr, ⊎_elim, ℕ, suc, ◌≤◌, List, [], ◌∷◌, ◌++◌, length, take, refl, arith}
use Rattle.nb_change.proofs.Common.{Files, World, Names, Changes, after_all, Reached}
use Rattle.nb_change.proofs.ChangesLaws.{composed}

-- strokes after strokes
pub after_all-joined : {B S : Type 0} (apply : S → B → B) (base : B) (xs ys : List S) → after_all apply base (xs ++ ys) ≡ after_all apply (after_all apply base xs) ys
after_all-joined apply base [] ys = refl
after_all-joined apply base (x ∷ xs) ys = after_all-joined apply (apply x base) xs ys

module _ {B S : Type 0} (apply : S → B → B) (stands : B → Files → Type 0) where
  -- what stands before the first
  pub reached_first : (base : B) (xs : List S) (files : Files) → stands base files → Reached apply stands base xs files
  reached_first base [] files is = is
  reached_first base (x ∷ xs) files is = inl is

  -- a front of the first strokes is one of all
  pub reached_front : (base : B) (xs ys : List S) (files : Files) → Reached apply stands base xs files → Reached apply stands base (xs ++ ys) files
  reached_front base [] ys files is = reached_first base ys files is
  reached_front base (x ∷ xs) ys files is = ⊎_elim inl (λ r. inr (reached_front (apply x base) xs ys files r)) is

  -- and so are the first strokes with a front of those after
  pub reached_back : (base : B) (xs ys : List S) (files : Files) → Reached apply stands (after_all apply base xs) ys files → Reached apply stands base (xs ++ ys) files
  reached_back base [] ys files is = is
  reached_back base (x ∷ xs) ys files is = inr (reached_back (apply x base) xs ys files is)

  -- one run of strokes after another
  pub strokes_composed : (names : Names) (old mid new : World) (base : B) (xs ys : List S) → Changes old mid names (Reached apply stands base xs) → Changes mid new names (Reached apply stands (after_all apply base xs) ys)
      → Changes old new names (Reached apply stands base (xs ++ ys))
  strokes_composed names old mid new base xs ys first second =
      composed old mid new names (Reached apply stands base xs) (Reached apply stands (after_all apply base xs) ys) (Reached apply stands base (xs ++ ys)) first second (reached_front base xs ys) (reached_back base xs ys)

  -- so many of them
  pub record ReachedBy (base : B) (xs : List S) (files : Files) : Type 0 where
    pub count : ℕ
    pub most : count ≤ length xs
    pub is : stands (after_all apply base (take count xs)) files

  pub reached_by : (base : B) (xs : List S) (files : Files) → Reached apply stands base xs files → ReachedBy base xs files
  reached_by base [] files is = record { count = 0; most = omega arith; is = is }
  reached_by base (x ∷ xs) files (inl is) = record { count = 0; most = omega arith; is = is }
  reached_by base (x ∷ xs) files (inr is) =
      let by = reached_by (apply x base) xs files is in
      record { count = suc by.count; most = omega (arith, by.most); is = by.is }

-- less is said of what stands
pub reached_weaker : {B S : Type 0} (apply : S → B → B) (stands weak : B → Files → Type 0) (base : B) (xs : List S) (files : Files) → ((b : B) → stands b files → weak b files) → Reached apply stands base xs files → Reached apply weak base xs files
reached_weaker apply stands weak base [] files are is = are base is
reached_weaker apply stands weak base (x ∷ xs) files are is = ⊎_elim (λ s. inl (are base s)) (λ r. inr (reached_weaker apply stands weak (apply x base) xs files are r)) is
