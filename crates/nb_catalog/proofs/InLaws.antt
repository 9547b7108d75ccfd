-- What is among the elements of a list, element by element.
use Rattle.std.proofs.Common.{◌≡◌, inl, inr, ℕ, zero, suc, ◌<◌, List, [], ◌∷◌, length, map, refl, sym, ap, ◌∙◌, arith, ◌⊎◌, Bool, true, false, ◌||◌, cond, filter, Contains}
use Rattle.nb_catalog.proofs.Common.{list_any, slice_index_or, or_true}

abbrev pub In : {X : Type 0} → List X → X → Type 0
In [] x = ⊥
In (y ∷ ys) x = (y ≡ x) ⊎ In ys x

pub in_from : {X : Type 0} (xs : List X) (x : X) → Contains xs x → In xs x
in_from {X} xs x is = at xs is.0 is.1 is.2
  where
    at : (ys : List X) (k : ℕ) → k < length ys → slice_index_or ys k x ≡ x → In ys x
    at [] k there same = absurd (omega (arith, there))
    at (y ∷ ys) zero there same = inl same
    at (y ∷ ys) (suc k) there same = inr (at ys k (omega (arith, there)) same)

pub in_to : {X : Type 0} (xs : List X) (x : X) → In xs x → Contains xs x
in_to [] x is = absurd is
in_to (y ∷ ys) x (inl same) = (0, omega arith, same)
in_to (y ∷ ys) x (inr is) = let there = in_to ys x is in (suc there.0, omega (arith, there.1), there.2)

-- what a filter keeps passes
pub in_filter : {X : Type 0} (test : X → Bool) (xs : List X) (x : X) → In (filter test xs) x → In xs x × (test x ≡ true)
in_filter {X} test [] x is = absurd is
in_filter {X} test (y ∷ ys) x is = by (test y) refl is (in_filter test ys x)
  where
    by : (b : Bool) → test y ≡ b → In (cond b (y ∷ filter test ys) (filter test ys)) x → (In (filter test ys) x → In ys x × (test x ≡ true)) → ((y ≡ x) ⊎ In ys x) × (test x ≡ true)
    by true passes (inl same) behind = (inl same, ap test (sym same) ∙ passes)
    by true passes (inr further) behind = let found = behind further in (inr found.0, found.1)
    by false fails further behind = let found = behind further in (inr found.0, found.1)

-- what a map gives is given of something
pub in_map : {X Y : Type 0} (f : X → Y) (xs : List X) (y : Y) → In (map f xs) y → (x : X) × In xs x × (f x ≡ y)
in_map f [] y is = absurd is
in_map f (x ∷ xs) y (inl same) = (x, inl refl, same)
in_map f (x ∷ xs) y (inr is) = let found = in_map f xs y is in (found.0, inr found.1, found.2)

-- one that passes is found
pub any_of : {X : Type 0} (test : X → Bool) (xs : List X) (x : X) → In xs x → test x ≡ true → list_any test xs ≡ true
any_of test [] x is passes = absurd is
any_of test (y ∷ ys) x (inl same) passes = ap (λ (b : Bool). b || list_any test ys) (ap test same ∙ passes)
any_of test (y ∷ ys) x (inr is) passes = ap (λ (b : Bool). test y || b) (any_of test ys x is passes) ∙ or_true (test y)
