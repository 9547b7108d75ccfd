-- Laws of the table of a difference file: which entry names a page.
use Rattle.std.proofs.Common.{◌≡◌, ◌≢◌, ◌⊎◌, inl, inr, ℕ, suc, ◌<◌, List, [], ◌∷◌, ◌++◌, length, refl, sym, ap, subst, ◌∙◌, arith, Bool, true, false, ◌||◌, nat_eq, Option, Some, None}
use Rattle.nb_model.proofs.Common.{list_any, true≢false, eqb_tells, noted, entry_for, none_some, some_same}

-- an entry after another
abbrev behind_one : Option ℕ → Option ℕ
behind_one None = None
behind_one (Some i) = Some (suc i)

behind_none : (x : Option ℕ) → behind_one x ≡ None → x ≡ None
behind_none None e = refl
behind_none (Some i) e = absurd (none_some (suc i) (sym e))

behind_some : (x : Option ℕ) (k : ℕ) → behind_one x ≡ Some k → (i : ℕ) × (x ≡ Some i) × (k ≡ suc i)
behind_some None k e = absurd (none_some k e)
behind_some (Some i) k e = (i, refl, sym (some_same (suc i) k e))

-- the first entry, and the others
pub for_here : (p q : ℕ) (qs : List ℕ) → p ≡ q → entry_for p (q ∷ qs) ≡ Some 0
unfolding entry_for
for_here p q qs e = elim (eqb_tells p q) [ inl w ↦ rw (w.0, entry_for) refl | inr w ↦ absurd (w.1 e) ]

for_next : (p q : ℕ) (qs : List ℕ) → p ≢ q → entry_for p (q ∷ qs) ≡ behind_one (entry_for p qs)
unfolding entry_for
for_next p q qs other = elim (eqb_tells p q) [ inl w ↦ absurd (other w.1) | inr w ↦ rw (w.0, entry_for) refl ]

pub for_nothing : (p : ℕ) → entry_for p [] ≡ None
unfolding entry_for
for_nothing p = refl

-- an entry stays where more come after
pub for_front : (p k : ℕ) (xs ys : List ℕ) → entry_for p xs ≡ Some k → entry_for p (xs ++ ys) ≡ Some k
for_front p k [] ys e = absurd (none_some k (sym (for_nothing p) ∙ e))
for_front p k (x ∷ xs) ys e = elim (eqb_tells p x) [
  | inl w ↦ for_here p x (xs ++ ys) w.1 ∙ sym (for_here p x xs w.1) ∙ e
  | inr w ↦
      let old = behind_some (entry_for p xs) k (sym (for_next p x xs w.1) ∙ e) in
      for_next p x (xs ++ ys) w.1 ∙ ap behind_one (for_front p old.0 xs ys old.1) ∙ ap (λ (n : ℕ). Some n) (sym old.2)
]

-- an entry is one of the list
pub for_below : (p k : ℕ) (xs : List ℕ) → entry_for p xs ≡ Some k → k < length xs
for_below p k [] e = absurd (none_some k (sym (for_nothing p) ∙ e))
for_below p k (x ∷ xs) e = elim (eqb_tells p x) [
  | inl w ↦ let first : 0 ≡ k = some_same 0 k (sym (for_here p x xs w.1) ∙ e) in omega arith
  | inr w ↦
      let old = behind_some (entry_for p xs) k (sym (for_next p x xs w.1) ∙ e) in
      omega (arith, old.2, for_below p old.0 xs old.1)
]

-- an entry before the end of a front is one of the front
pub for_back : (p k : ℕ) (xs ys : List ℕ) → entry_for p (xs ++ ys) ≡ Some k → k < length xs → entry_for p xs ≡ Some k
for_back p k [] ys e low = absurd (omega arith)
for_back p k (x ∷ xs) ys e low = elim (eqb_tells p x) [
  | inl w ↦ for_here p x xs w.1 ∙ sym (for_here p x (xs ++ ys) w.1) ∙ e
  | inr w ↦
      let old = behind_some (entry_for p (xs ++ ys)) k (sym (for_next p x (xs ++ ys) w.1) ∙ e) in
      for_next p x xs w.1 ∙ ap behind_one (for_back p old.0 xs ys old.1 (omega (arith, old.2))) ∙ ap (λ (n : ℕ). Some n) (sym old.2)
]

-- one entry more
pub for_last : (p k q : ℕ) (xs : List ℕ) → entry_for p (xs ++ q ∷ []) ≡ Some k → (entry_for p xs ≡ Some k) ⊎ ((p ≡ q) × (k ≡ length xs))
for_last p k q [] e = elim (eqb_tells p q) [
  | inl w ↦ inr (w.1, sym (some_same 0 k (sym (for_here p q [] w.1) ∙ e)))
  | inr w ↦ absurd (none_some k (sym (for_next p q [] w.1 ∙ ap behind_one (for_nothing p)) ∙ e))
]
for_last p k q (x ∷ xs) e = elim (eqb_tells p x) [
  | inl w ↦ inl (for_here p x xs w.1 ∙ sym (for_here p x (xs ++ q ∷ []) w.1) ∙ e)
  | inr w ↦
      let old = behind_some (entry_for p (xs ++ q ∷ [])) k (sym (for_next p x (xs ++ q ∷ []) w.1) ∙ e) in
      elim (for_last p old.0 q xs old.1) [
        | inl before ↦ inl (for_next p x xs w.1 ∙ ap behind_one before ∙ ap (λ (n : ℕ). Some n) (sym old.2))
        | inr last ↦ inr (last.0, omega (arith, old.2, last.1))
      ]
]

for_itself : (p : ℕ) (xs : List ℕ) → entry_for p (xs ++ p ∷ []) ≡ None → ⊥
for_itself p [] e = none_some 0 (sym e ∙ for_here p p [] refl)
for_itself p (x ∷ xs) e = elim (eqb_tells p x) [
  | inl w ↦ none_some 0 (sym e ∙ for_here p x (xs ++ p ∷ []) w.1)
  | inr w ↦ for_itself p xs (behind_none (entry_for p (xs ++ p ∷ [])) (sym (for_next p x (xs ++ p ∷ []) w.1) ∙ e))
]

-- what is noted is there
for_any : (p : ℕ) (xs : List ℕ) → list_any (nat_eq p) xs ≡ true → entry_for p xs ≡ None → ⊥
for_any p [] any e = true≢false (sym any)
for_any p (x ∷ xs) any e = elim (eqb_tells p x) [
  | inl w ↦ none_some 0 (sym e ∙ for_here p x xs w.1)
  | inr w ↦ for_any p xs (ap (λ (t : Bool). t || list_any (nat_eq p) xs) (sym w.0) ∙ any) (behind_none (entry_for p xs) (sym (for_next p x xs w.1) ∙ e))
]

-- Page p is noted.
module _ (p : ℕ) (xs : List ℕ) where
  pub noted_front : (q k : ℕ) → entry_for q xs ≡ Some k → entry_for q (noted p xs) ≡ Some k
  unfolding noted
  noted_front q k e = by (list_any (nat_eq p) xs)
    where
      by : (t : Bool) → entry_for q (elim t as (λ z. List ℕ) [ true ↦ xs | false ↦ xs ++ p ∷ [] ]) ≡ Some k
      by true = e
      by false = for_front q k xs (p ∷ []) e

  pub noted_last : (q k : ℕ) → entry_for q (noted p xs) ≡ Some k → (entry_for q xs ≡ Some k) ⊎ ((q ≡ p) × (k ≡ length xs))
  unfolding noted
  noted_last q k = by (list_any (nat_eq p) xs)
    where
      by : (t : Bool) → entry_for q (elim t as (λ z. List ℕ) [ true ↦ xs | false ↦ xs ++ p ∷ [] ]) ≡ Some k → (entry_for q xs ≡ Some k) ⊎ ((q ≡ p) × (k ≡ length xs))
      by true e = inl e
      by false e = for_last q k p xs e

  pub noted_none : (q : ℕ) → entry_for q (noted p xs) ≡ None → (q ≢ p) × (entry_for q xs ≡ None)
  unfolding noted
  noted_none q e = (λ same. itself (subst (λ (n : ℕ). entry_for n (noted p xs) ≡ None) same e), before (entry_for q xs) refl)
    where
      itself : entry_for p (noted p xs) ≡ None → ⊥
      itself = by (list_any (nat_eq p) xs) refl
        where
          by : (t : Bool) → list_any (nat_eq p) xs ≡ t → entry_for p (elim t as (λ z. List ℕ) [ true ↦ xs | false ↦ xs ++ p ∷ [] ]) ≡ None → ⊥
          by true any none = for_any p xs any none
          by false any none = for_itself p xs none

      before : (x : Option ℕ) → entry_for q xs ≡ x → entry_for q xs ≡ None
      before None is = is
      before (Some k) is = absurd (none_some k (sym e ∙ noted_front q k is))
