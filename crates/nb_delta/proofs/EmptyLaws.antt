-- What a write of an allocation page leaves, and what stands once all after a group are empty.
use Rattle.std.proofs.Common.{◌≡◌, ◌≢◌, inl, inr, ⊎_elim, ℕ, ◌+◌, ◌*◌, ◌<◌, ◌≤◌, List, length, replicate, refl, sym, ap, ◌∙◌, subst, arith, IsTrue, Some}
use Rattle.nb_delta.proofs.Common.{cases_eq, mul-le-mul_right, File, bytes_of, with_page, PageLeft, is_page_size, slots_in, page_in, slot_place, alloc_place, slot_page, Stays, GroupStep, GroupPut, Empties}
use Rattle.nb_delta.proofs.ZeroLaws.{zeros_same}
use Rattle.nb_delta.proofs.PlaceLaws.{alloc_other, alloc_other_slot}
use Rattle.nb_delta.proofs.SpellLaws.{put_step, page_step, spells_behind}
use Rattle.nb_delta.proofs.StepLaws.{some_slots, there_after, has_told, has_read, has_there}

module _ (size : ℕ) (is_size : IsTrue (is_page_size size)) where
  -- the allocation page of group g is written
  module _ (g : ℕ) (page : List ℕ) (long : length page ≡ size) where
    pub group_left : (before after : File) → PageLeft (alloc_place size g * size) page before after → GroupStep size g page before after
    group_left before after left = record {
      pages = page_step size (alloc_place size g) page long before after left;
      there = λ is. there_after (alloc_place size g * size) page (bytes_of before) after (subst (λ (f : File). PageLeft (alloc_place size g * size) page f after) is left);
    }

    pub group_put : (before after : File) → after ≡ with_page before (alloc_place size g * size) page → GroupPut size g page before after
    group_put before after is = record {
      pages = put_step size (alloc_place size g) page long (bytes_of before) (bytes_of after) (ap (λ (f : File). bytes_of f) is);
      there = is ∙ ap (λ (f : File). Some (bytes_of f)) (sym is);
    }

  pub group_step : (g : ℕ) (page : List ℕ) (before after : File) → GroupPut size g page before after → GroupStep size g page before after
  group_step g page before after put = record { pages = record { pages = inr put.pages.pages; longer = put.pages.longer; grows = put.pages.grows }; there = λ is. put.there }

  -- no slot is an allocation page
  pub group_slots : (g : ℕ) (page : List ℕ) (before after : File) → GroupStep size g page before after → (k : ℕ) → slot_page size after k ≡ slot_page size before k
  group_slots g page before after step k =
      ⊎_elim (λ all. all (slot_place size k)) (λ put. put.others (slot_place size k) (λ e. alloc_other_slot size (some_slots size is_size) g k (sym e))) step.pages.pages

  pub group_others : (g : ℕ) (page : List ℕ) (before after : File) → GroupStep size g page before after → (h : ℕ) → h ≢ g → page_in size (bytes_of after) (alloc_place size h) ≡ page_in size (bytes_of before) (alloc_place size h)
  group_others g page before after step h ne = ⊎_elim (λ all. all (alloc_place size h)) (λ put. put.others (alloc_place size h) (alloc_other size h g ne)) step.pages.pages

  pub stays_none : (n : ℕ) (file : File) → Stays size n file file
  stays_none n file = record { tables = λ entries few has. has; zeros = λ m few has. has; slots = λ k. refl; no_shorter = omega arith }

  pub stays_joined : (n : ℕ) (b d c : File) → Stays size n b d → Stays size n d c → Stays size n b c
  stays_joined n b d c first second = record {
    tables = λ entries few has. second.tables entries few (first.tables entries few has);
    zeros = λ m few has. second.zeros m few (first.zeros m few has);
    slots = λ k. second.slots k ∙ first.slots k;
    no_shorter = let a = first.no_shorter in let b = second.no_shorter in omega arith;
  }

  -- a table stays where an allocation page after its last is written
  pub stays_step : (n g : ℕ) (page : List ℕ) (before after : File) → n < g * slots_in size → GroupStep size g page before after → Stays size n before after
  stays_step n g page before after low step = record {
    tables = λ entries few has.
        has_told size is_size after entries (step.there (has_there size is_size before entries has))
        (spells_behind size (some_slots size is_size) g page (bytes_of before) (bytes_of after) entries (has_read size is_size before entries has) (omega arith) step.pages);
    zeros = λ m few. zeros_same size m before after (λ h inside. group_others g page before after step h (λ e. absurd (let same = ap (λ (x : ℕ). x * slots_in size) e in omega (arith, same, inside, few, low))));
    slots = group_slots g page before after step;
    no_shorter = step.pages.longer;
  }

  -- the group after `g` is one of those after `first`
  pub behind_first : (n first g : ℕ) → first ≤ g → n < (first + 1) * slots_in size → n < (g + 1) * slots_in size
  behind_first n first g order low = let more : (first + 1) * slots_in size ≤ (g + 1) * slots_in size = mul-le-mul_right (slots_in size) (omega arith) in omega (arith, more)

  -- the same, from one stop to the next
  pub stays_more : (n first g : ℕ) (page : List ℕ) (b d c : File) → first ≤ g → n < (first + 1) * slots_in size → Stays size n b d → GroupStep size (g + 1) page d c → Stays size n b c
  stays_more n first g page b d c order low stays step = stays_joined n b d c stays (stays_step n (g + 1) page d c (behind_first n first g order low) step)

  pub empties_none : (first : ℕ) (file : File) → Empties size first first file file
  empties_none first file = record { stays = λ n low. stays_none n file; empty = λ g more less. absurd (omega arith); whole = λ g more less. absurd (omega arith) }

  -- one allocation page more was emptied
  pub empties_more : (first g : ℕ) (page : List ℕ) (b d c : File) → first ≤ g → page ≡ replicate size 0 → Empties size first g b d → GroupPut size (g + 1) page d c → Empties size first (g + 1) b c
  empties_more first g page b d c order zeros so_far put = record {
    stays = λ n low. stays_more n first g page b d c order low (so_far.stays n low) (group_step (g + 1) page d c put);
    empty = λ h more less. elim (cases_eq h (g + 1)) [
      | inl e ↦ ap (λ (n : ℕ). page_in size (bytes_of c) (alloc_place size n)) e ∙ put.pages.pages.here ∙ zeros
      | inr ne ↦ group_others (g + 1) page d c (group_step (g + 1) page d c put) h ne ∙ so_far.empty h more (omega arith)
    ];
    whole = λ h more less. elim (cases_eq h (g + 1)) [
      | inl e ↦ subst (λ (n : ℕ). (alloc_place size n + 1) * size ≤ length (bytes_of c)) (sym e) put.pages.whole
      | inr ne ↦ let was = so_far.whole h more (omega arith) in let longer = put.pages.longer in omega arith
    ];
  }
