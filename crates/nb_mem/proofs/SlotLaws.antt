-- The file of a name in a list of slots, found and changed.
use Rattle.std.proofs.Common.{◌≡◌, ◌≢◌, ℕ, zero, suc, ◌+◌, ◌<◌, Bool, true, false, List, [], ◌∷◌, ◌++◌, length, get_or, refl, sym, ◌∙◌, ap, subst, arith, None, Some, slice_set, cond}
use Rattle.nb_mem.proofs.Common.{position, position_from, position_from-zero, same_name, File, with_file, files_in, Slot, with_file-same, with_file-other, with_file-again, with_file-swap}
use Rattle.std.specs.Cmp.Lexicographic.{told_text}
use Rattle.std.proofs.lemmas.List.Quantifiers.{position-Some}

module _ (n : List ℕ) where
  same : (s : Slot) → same_name n s.name ≡ true → n ≡ s.name
  same s is = told_text n s.name true (sym is)

  other : (s : Slot) → same_name n s.name ≡ false → n ≢ s.name
  other s is = told_text n s.name false (sym is)

  found_at : (slots : List Slot) (i : ℕ) (d : Slot) → i < length slots → same_name n (get_or slots i d).name ≡ true → ((k : ℕ) → k < i → same_name n (get_or slots k d).name ≡ false) → files_in slots n ≡ (get_or slots i d).file
  found_at [] i d low here before = absurd (omega arith)
  found_at (s ∷ ss) zero d low here before = subst (λ (m : List ℕ). with_file (files_in ss) s.name s.file m ≡ s.file) (sym (same s here)) (with_file-same (files_in ss) s.name s.file)
  found_at (s ∷ ss) (suc i) d low here before = with_file-other (files_in ss) s.name s.file n (other s (before 0 (omega arith))) ∙ found_at ss i d (omega arith) here (λ k lt. before (suc k) (omega arith))

  set_at : (slots : List Slot) (i : ℕ) (d : Slot) (file : File) → i < length slots → same_name n (get_or slots i d).name ≡ true → ((k : ℕ) → k < i → same_name n (get_or slots k d).name ≡ false)
      → files_in (slice_set slots i (record { name = (get_or slots i d).name; file = file })) ≡ with_file (files_in slots) n file
  set_at [] i d file low here before = absurd (omega arith)
  set_at (s ∷ ss) zero d file low here before =
      sym (with_file-again (files_in ss) s.name s.file file) ∙ ap (λ (m : List ℕ). with_file (files_in (s ∷ ss)) m file) (sym (same s here))
  set_at (s ∷ ss) (suc i) d file low here before =
      ap (λ F. with_file F s.name s.file) (set_at ss i d file (omega arith) here (λ k lt. before (suc k) (omega arith)))
      ∙ with_file-swap (files_in ss) n s.name file s.file (other s (before 0 (omega arith)))

  -- a slot that was found has the file of its name
  pub found : (slots : List Slot) (i : ℕ) (slot : Slot) → position (λ s. same_name n s.name) slots ≡ Some i → slot ≡ get_or slots i slot → files_in slots n ≡ slot.file
  found slots i slot is at = let f = position-Some (λ (s : Slot). same_name n s.name) slots i slot is in found_at slots i slot f.0 f.1 f.2 ∙ ap (λ (s : Slot). s.file) (sym at)

  -- its file is changed
  pub changed : (slots : List Slot) (i : ℕ) (slot : Slot) (file : File) → position (λ s. same_name n s.name) slots ≡ Some i → slot ≡ get_or slots i slot
      → files_in (slice_set slots i (record { name = slot.name; file = file })) ≡ with_file (files_in slots) n file
  changed slots i slot file is at =
      let f = position-Some (λ (s : Slot). same_name n s.name) slots i slot is in
      ap (λ (s : Slot). files_in (slice_set slots i (record { name = s.name; file = file }))) at ∙ set_at slots i slot file f.0 f.1 f.2

  -- where none is found, the first is none, and none is found in the rest
  first_not : (s : Slot) (ss : List Slot) (j : ℕ) → position_from (λ s. same_name n s.name) j (s ∷ ss) ≡ None → (same_name n s.name ≡ false) × (position_from (λ s. same_name n s.name) (j + 1) ss ≡ None)
  first_not s ss j = by_test (same_name n s.name)
    where
      by_test : (b : Bool) → cond b (Some j) (position_from (λ (s : Slot). same_name n s.name) (j + 1) ss) ≡ None → (b ≡ false) × (position_from (λ s. same_name n s.name) (j + 1) ss ≡ None)
      by_test true none = absurd (cc)
      by_test false none = (refl, none)

  none_from : (slots : List Slot) (j : ℕ) → position_from (λ s. same_name n s.name) j slots ≡ None → files_in slots n ≡ None
  none_from [] j none = refl
  none_from (s ∷ ss) j none =
      let f = first_not s ss j none in
      with_file-other (files_in ss) s.name s.file n (other s f.0) ∙ none_from ss (j + 1) f.1

  push_from : (slots : List Slot) (j : ℕ) (file : File) → position_from (λ s. same_name n s.name) j slots ≡ None → files_in (slots ++ record { name = n; file = file } ∷ []) ≡ with_file (files_in slots) n file
  push_from [] j file none = refl
  push_from (s ∷ ss) j file none =
      let f = first_not s ss j none in
      ap (λ F. with_file F s.name s.file) (push_from ss (j + 1) file f.1) ∙ with_file-swap (files_in ss) n s.name file s.file (other s f.0)

  -- no slot has the name
  pub not_found : (slots : List Slot) → position (λ s. same_name n s.name) slots ≡ None → files_in slots n ≡ None
  not_found slots none = none_from slots 0 (sym (position_from-zero (λ (s : Slot). same_name n s.name) slots) ∙ none)

  -- then one is added
  pub added : (slots : List Slot) (file : File) → position (λ s. same_name n s.name) slots ≡ None → files_in (slots ++ record { name = n; file = file } ∷ []) ≡ with_file (files_in slots) n file
  added slots file none = push_from slots 0 file (sym (position_from-zero (λ (s : Slot). same_name n s.name) slots) ∙ none)
