-- The allocation pages of several groups of entries, written one after another.
use Rattle.std.proofs.Common.{◌≡◌, ◌⊎◌, inl, inr, ⊎_elim, ℕ, ◌+◌, ◌≤◌, List, refl, sym, ◌∙◌, subst, arith, IsTrue}
use Rattle.nb_delta.proofs.Common.{cases_lt, File, bytes_of, is_page_size, page_in, alloc_place, GroupStep, GroupPut, IsOfGroup, NotesSome, NotesAll}
use Rattle.nb_delta.proofs.EmptyLaws.{group_step, group_slots, group_others}

module _ (size : ℕ) (is_size : IsTrue (is_page_size size)) (entries : List ℕ) where
  -- the page of one group
  module _ (g : ℕ) (page : List ℕ) (is : IsOfGroup size entries g page) (before after : File) where
    -- as it was, or as it is written
    abbrev Noted : ℕ → Type 0
    Noted h = (page_in size (bytes_of after) (alloc_place size h) ≡ page_in size (bytes_of before) (alloc_place size h)) ⊎ IsOfGroup size entries h (page_in size (bytes_of after) (alloc_place size h))

    pub group_some : GroupStep size g page before after → NotesSome size entries g (g + 1) before after
    group_some step = record {
      each = λ h low high. let e : g ≡ h = omega arith in
          subst Noted e (⊎_elim (λ all. inl (all (alloc_place size g))) (λ put. inr (subst (λ (p : List ℕ). IsOfGroup size entries g p) (sym put.here) is)) step.pages.pages);
      others = λ h out. group_others size is_size g page before after step h (λ e. ⊎_elim (λ l. absurd (omega arith)) (λ l. absurd (omega arith)) out);
      slots = group_slots size is_size g page before after step;
      there = step.there;
      no_shorter = step.pages.longer;
    }

    pub group_all : GroupPut size g page before after → NotesAll size entries g (g + 1) before after
    group_all put = record {
      some = group_some (group_step size is_size g page before after put);
      all = λ h low high. let e : g ≡ h = omega arith in
          subst (λ (n : ℕ). IsOfGroup size entries n (page_in size (bytes_of after) (alloc_place size n))) e (subst (λ (p : List ℕ). IsOfGroup size entries g p) (sym put.pages.pages.here) is);
    }

  pub some_none : (first end : ℕ) (file : File) → NotesSome size entries first end file file
  some_none first end file = record { each = λ g low high. inl refl; others = λ g out. refl; slots = λ k. refl; there = λ is. is; no_shorter = omega arith }

  pub all_none : (first : ℕ) (file : File) → NotesAll size entries first first file file
  all_none first file = record { some = some_none first first file; all = λ g low high. absurd (omega arith) }

  -- one group more
  module _ (first g : ℕ) (order : first ≤ g) (b d c : File) where
    pub some_more : NotesSome size entries first g b d → NotesSome size entries g (g + 1) d c → NotesSome size entries first (g + 1) b c
    some_more so_far next = record {
      each = λ h low high. elim (cases_lt h g) [
        | inl l ↦ kept h (next.others h (inl l)) (so_far.each h low l)
        | inr l ↦ ⊎_elim (λ same. inl (same ∙ so_far.others h (inr l))) (λ new. inr new) (next.each h l high)
      ];
      others = λ h out. next.others h (⊎_elim (λ l. inl (omega arith)) (λ l. inr l) out) ∙ so_far.others h (⊎_elim (λ l. inl l) (λ l. inr (omega arith)) out);
      slots = λ k. next.slots k ∙ so_far.slots k;
      there = λ is. next.there (so_far.there is);
      no_shorter = let m = so_far.no_shorter in let n = next.no_shorter in omega arith;
    }
      where
        kept : (h : ℕ) → page_in size (bytes_of c) (alloc_place size h) ≡ page_in size (bytes_of d) (alloc_place size h)
            → (page_in size (bytes_of d) (alloc_place size h) ≡ page_in size (bytes_of b) (alloc_place size h)) ⊎ IsOfGroup size entries h (page_in size (bytes_of d) (alloc_place size h))
            → (page_in size (bytes_of c) (alloc_place size h) ≡ page_in size (bytes_of b) (alloc_place size h)) ⊎ IsOfGroup size entries h (page_in size (bytes_of c) (alloc_place size h))
        kept h same (inl was) = inl (same ∙ was)
        kept h same (inr new) = inr (subst (λ (p : List ℕ). IsOfGroup size entries h p) (sym same) new)

    pub all_more : NotesAll size entries first g b d → NotesAll size entries g (g + 1) d c → NotesAll size entries first (g + 1) b c
    all_more so_far next = record {
      some = some_more so_far.some next.some;
      all = λ h low high. elim (cases_lt h g) [
        | inl l ↦ subst (λ (p : List ℕ). IsOfGroup size entries h p) (sym (next.some.others h (inl l))) (so_far.all h low l)
        | inr l ↦ next.all h l high
      ];
    }

  -- of more groups less is said
  pub some_wider : (first g end : ℕ) (b c : File) → g ≤ end → NotesSome size entries first g b c → NotesSome size entries first end b c
  some_wider first g end b c more some = record {
    each = λ h low high. elim (cases_lt h g) [ inl l ↦ some.each h low l | inr l ↦ inl (some.others h (inr l)) ];
    others = λ h out. some.others h (⊎_elim (λ l. inl l) (λ l. inr (omega arith)) out);
    slots = some.slots;
    there = some.there;
    no_shorter = some.no_shorter;
  }
