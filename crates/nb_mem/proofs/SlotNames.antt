-- The names in a list of slots.
use Rattle.std.proofs.Common.{◌≡◌, ℕ, zero, suc, ◌+◌, List, [], ◌∷◌, ◌++◌, get_or, refl, sym, ◌∙◌, ap, Option, None, Some, slice_set, cond}
use Rattle.nb_mem.proofs.Common.{position, position_from, position_from-zero, same_name, File, with_name, names_in, Slot}

module _ (n : List ℕ) where
  among_from : (slots : List Slot) (j : ℕ) → position_from (λ (s : Slot). same_name n s.name) j slots ≡ position_from (λ (m : List ℕ). same_name n m) j (names_in slots)
  among_from [] j = refl
  among_from (s ∷ ss) j = ap (λ r. cond (same_name n s.name) (Some j) r) (among_from ss (j + 1))

  among : (slots : List Slot) → position (λ (s : Slot). same_name n s.name) slots ≡ position (λ (m : List ℕ). same_name n m) (names_in slots)
  among slots = position_from-zero (λ (s : Slot). same_name n s.name) slots ∙ among_from slots 0 ∙ sym (position_from-zero (λ (m : List ℕ). same_name n m) (names_in slots))

  names-set : (slots : List Slot) (i : ℕ) (d : Slot) (file : File) → names_in (slice_set slots i (record { name = (get_or slots i d).name; file = file })) ≡ names_in slots
  names-set [] i d file = refl
  names-set (s ∷ ss) zero d file = refl
  names-set (s ∷ ss) (suc i) d file = ap (λ ns. s.name ∷ ns) (names-set ss i d file)

  names-push : (slots : List Slot) (s : Slot) → names_in (slots ++ s ∷ []) ≡ names_in slots ++ s.name ∷ []
  names-push [] s = refl
  names-push (t ∷ ss) s = ap (λ ns. t.name ∷ ns) (names-push ss s)

  with_name-by : (ns : List (List ℕ)) (o : Option ℕ) → position (λ (m : List ℕ). same_name n m) ns ≡ o → with_name n ns ≡ elim o as (λ _. List (List ℕ)) [ None ↦ ns ++ n ∷ [] | Some at ↦ ns ]
  unfolding with_name
  with_name-by ns o is = ap (λ (o : Option ℕ). elim o as (λ _. List (List ℕ)) [ None ↦ ns ++ n ∷ [] | Some at ↦ ns ]) is

  -- a slot that is there gets another file
  pub names-changed : (slots : List Slot) (i : ℕ) (slot : Slot) (file : File) → position (λ s. same_name n s.name) slots ≡ Some i → slot ≡ get_or slots i slot
      → names_in (slice_set slots i (record { name = slot.name; file = file })) ≡ with_name n (names_in slots)
  names-changed slots i slot file is at =
      ap (λ (s : Slot). names_in (slice_set slots i (record { name = s.name; file = file }))) at ∙ names-set slots i slot file
      ∙ sym (with_name-by (names_in slots) (Some i) (sym (among slots) ∙ is))

  -- one is added
  pub names-added : (slots : List Slot) (file : File) → position (λ s. same_name n s.name) slots ≡ None → names_in (slots ++ record { name = n; file = file } ∷ []) ≡ with_name n (names_in slots)
  names-added slots file is = names-push slots (record { name = n; file = file }) ∙ sym (with_name-by (names_in slots) None (sym (among slots) ∙ is))
