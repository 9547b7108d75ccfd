-- The files that a crash leaves, placed one after another.
use Rattle.std.proofs.Common.{◌≡◌, ◌≢◌, ◌⊎◌, inl, inr, ⊎_elim, ℕ, List, [], ◌∷◌, ◌++◌, refl, sym, ◌∙◌, ap, subst, Some, None}
use Rattle.nb_mem.proofs.Common.{File, Leaves, IsDurable, IsSilent, Entry, Slot, files_in, files_of, Now, Back, world_of, reads_left, placed, IsLeft, decide, at_same, at_other, with_file-same, with_file-other}

-- no slot has the name
abbrev pub IsUnnamed : List ℕ → List Slot → Type 0
IsUnnamed m [] = Unit {0}
IsUnnamed m (s ∷ ss) = (m ≢ s.name) × IsUnnamed m ss

IsUnnamed-push : (m : List ℕ) (ss : List Slot) (s : Slot) → IsUnnamed m ss → m ≢ s.name → IsUnnamed m (ss ++ s ∷ [])
IsUnnamed-push m [] s none other = (other, none)
IsUnnamed-push m (t ∷ ss) s none other = (none.0, IsUnnamed-push m ss s none.1 other)

IsUnnamed-none : (m : List ℕ) (ss : List Slot) → IsUnnamed m ss → files_in ss m ≡ None
IsUnnamed-none m [] none = refl
IsUnnamed-none m (s ∷ ss) none = with_file-other (files_in ss) s.name s.file m none.0 ∙ IsUnnamed-none m ss none.1

-- Of each name either a file that a crash leaves was placed, or the name is yet to come.
pub record IsLeftSoFar (stopped left : List Entry) (slots : List Slot) : Type 0 where
  pub files : (m : List ℕ) → Leaves (world_of stopped) m (files_of left m) ⊎ ((files_of left m ≡ None) × IsUnnamed m slots)
  pub durable : (n : List ℕ) → IsDurable (world_of left) n (files_of left n)
  pub silent : IsSilent (world_of []) (world_of left)

module _ (left : List Entry) (n bytes : List ℕ) (durable : (m : List ℕ) → IsDurable (world_of left) m (files_of left m)) where
  here : files_of (placed n (Some bytes) left) n ≡ Some bytes
  here = with_file-same (files_of left) n (Some bytes)

  durable_placed : (m : List ℕ) → IsDurable (world_of (placed n (Some bytes) left)) m (files_of (placed n (Some bytes) left) m)
  durable_placed m = ⊎_elim
      (λ same. subst (λ q. IsDurable (world_of (placed n (Some bytes) left)) q (files_of (placed n (Some bytes) left) q)) (sym same)
      (record { none_back = λ c back. absurd (at_same ⊥ (Back left n c) n back); only = λ c now. at_same (c ≡ Some bytes) (Now left n c) n now ∙ sym here }))
      (λ other. let kept = with_file-other (files_of left) n (Some bytes) m other in
      record { none_back = λ c back. (durable m).none_back c (at_other ⊥ (Back left m c) m n other back) ∙ sym kept; only = λ c now. (durable m).only c (at_other (c ≡ Some bytes) (Now left m c) m n other now) ∙ sym kept })
      (decide m n)

module _ (stopped left : List Entry) (slots : List Slot) (slot : Slot) (so_far : IsLeftSoFar stopped left slots) where
  files_then : (file : File) → Leaves (world_of stopped) slot.name file → (m : List ℕ) → (m ≡ slot.name) ⊎ (m ≢ slot.name)
      → Leaves (world_of stopped) m (files_of (placed slot.name file left) m) ⊎ ((files_of (placed slot.name file left) m ≡ None) × IsUnnamed m (slots ++ slot ∷ []))
  files_then None leaves m (inl same) = inl (⊎_elim (λ was. was) (λ none. subst (Leaves (world_of stopped) m) (sym none.0) (subst (λ q. Leaves (world_of stopped) q None) (sym same) leaves)) (so_far.files m))
  files_then (Some bytes) leaves m (inl same) = inl (subst (λ q. Leaves (world_of stopped) q (files_of (placed slot.name (Some bytes) left) q)) (sym same) (subst (Leaves (world_of stopped) slot.name) (sym (here left slot.name bytes so_far.durable)) leaves))
  files_then None leaves m (inr other) = ⊎_elim inl (λ none. inr (none.0, IsUnnamed-push m slots slot none.1 other)) (so_far.files m)
  files_then (Some bytes) leaves m (inr other) =
      let kept = with_file-other (files_of left) slot.name (Some bytes) m other in
      ⊎_elim (λ was. inl (subst (Leaves (world_of stopped) m) (sym kept) was)) (λ none. inr (kept ∙ none.0, IsUnnamed-push m slots slot none.1 other)) (so_far.files m)

  durable_then : (file : File) → (m : List ℕ) → IsDurable (world_of (placed slot.name file left)) m (files_of (placed slot.name file left) m)
  durable_then None m = so_far.durable m
  durable_then (Some bytes) m = durable_placed left slot.name bytes so_far.durable m

  silent_then : (file : File) → IsSilent (world_of []) (world_of (placed slot.name file left))
  silent_then None = so_far.silent
  silent_then (Some bytes) = record { said = so_far.silent.said; reads = so_far.silent.reads; guids = so_far.silent.guids; times = so_far.silent.times }

  -- one more
  pub one_placed : (file : File) → Leaves (world_of stopped) slot.name file → IsLeftSoFar stopped (placed slot.name file left) (slots ++ slot ∷ [])
  one_placed file leaves = record { files = λ m. files_then file leaves m (decide m slot.name); durable = durable_then file; silent = silent_then file }

-- all of them
pub all_placed : (stopped left : List Entry) (slots : List Slot) → files_in slots ≡ files_of stopped → IsLeftSoFar stopped left slots → IsLeft stopped left
all_placed stopped left slots all so_far = record {
  files = λ m. ⊎_elim (λ was. was) (λ none. subst (Leaves (world_of stopped) m) (ap (λ F. F m) (sym all) ∙ IsUnnamed-none m slots none.1 ∙ sym none.0) (reads_left stopped m)) (so_far.files m);
  durable = so_far.durable;
  silent = so_far.silent;
}
