-- Where a list that grew by one has its new element.
use Rattle.std.proofs.Common.{◌≡◌, ℕ, ◌+◌, List, [], ◌∷◌, ◌++◌, length, IsTrue, IsSomeAnd, Some, slice_get, subst, sym, ap, ◌∙◌, arith, length-append, ◌<◌, get_or, refl, Option, None, inl, inr}
use Rattle.nb_file.proofs.Common.{cases_lt, IsFreeFor}
use Rattle.std.proofs.Math.Seq.{get_or-append_seam}
use Rattle.std.proofs.lemmas.Option.{slice_get_read, slice_get_past}
use Rattle.std.specs.Cmp.Lexicographic.{nat_list_eq_equiv}
use Rattle.nb_host.specs.Names.{same_name}
use Rattle.nb_file.specs.Named.{IsNamedAt}

-- the last element of a list that grew by one
pub slice_get-append_last : {X : Type 0} (xs : List X) (x : X) → slice_get (xs ++ x ∷ []) (length xs) ≡ Some x
slice_get-append_last xs x =
    let longer : length (xs ++ x ∷ []) ≡ length xs + 1 = length-append xs (x ∷ []) in
    slice_get_read (xs ++ x ∷ []) (length xs + 1) (length xs) x (sym longer) (omega arith) (sym (get_or-append_seam xs x [] x))

-- it has the name that it was given
pub last_named : {X : Type 0} (named : X → List ℕ) (xs ys : List X) (x : X) (name : List ℕ) (k : ℕ) → ys ≡ xs ++ x ∷ [] → k ≡ length xs → named x ≡ name → IsNamedAt ys named name k
last_named named xs ys x name k grew last is_named =
    let at_last : slice_get ys k ≡ Some x = ap (λ zs. slice_get zs k) grew ∙ (ap (λ i. slice_get (xs ++ x ∷ []) i) last ∙ slice_get-append_last xs x) in
    let same : IsTrue (same_name (named x) name) = subst (λ n. IsTrue (same_name (named x) n)) is_named (nat_list_eq_equiv.refl (named x)) in
    subst (λ found. IsSomeAnd found (λ y. IsTrue (same_name (named y) name))) (sym at_last) same

module _ {X : Type 0} (named : X → List ℕ) (xs : List X) (x : X) (i : ℕ) (name : List ℕ) (is : x ≡ get_or xs i x) (has : IsNamedAt xs named name i) where
  within : i < length xs
  within = elim (cases_lt i (length xs)) [ inl l ↦ l | inr l ↦ absurd (subst (λ o. IsSomeAnd o (λ y. IsTrue (same_name (named y) name))) (slice_get_past xs i l) has) ]

  same : IsTrue (same_name (named x) name)
  same = subst (λ o. IsSomeAnd o (λ y. IsTrue (same_name (named y) name))) (slice_get_read xs (length xs) i x refl within is) has

  -- what may wait for a name may wait for the file that has it
  pub free_for_named : (own : Option (List ℕ)) → IsFreeFor own name → IsFreeFor own (named x)
  free_for_named None free = tt
  free_for_named (Some own) free = nat_list_eq_equiv.congr own name (named x) free ∙ nat_list_eq_equiv.symm name (named x) ∙ same

  -- and the other way round
  pub free_for_name : (own : Option (List ℕ)) → IsFreeFor own (named x) → IsFreeFor own name
  free_for_name None free = tt
  free_for_name (Some own) free = nat_list_eq_equiv.congr own (named x) name free ∙ same
