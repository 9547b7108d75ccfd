-- What a page write leaves of a difference file, by its table and its slots.
use Rattle.std.proofs.Common.{◌≡◌, ◌≢◌, inl, inr, ⊎_elim, ℕ, ◌+◌, ◌-◌, ◌*◌, ◌/◌, ◌<◌, ◌≤◌, false, List, [], ◌∷◌, ◌++◌, length, drop, replicate, refl, sym, ap, ◌∙◌, subst, arith, IsTrue, length-append, Some, None, nat_eq, min}
use Rattle.nb_delta.proofs.Common.{list_any, length-replicate, mul-le-mul_right, File, bytes_of, with_page, PageLeft, is_page_size, slots_in, most_pages, page_in, slot_place, alloc_place, size_facts, HasTable, slot_page, HasSlot, HasZeros, Keeps, SlotStep, SlotPut, Adds, AddStep, IsAllocation, HasRoom, MakesRoom, Prepared, IsReady, IsNewest, Notes, NoteStep, cases_eq, WithPage, Put}
use Rattle.nb_delta.proofs.TableLaws.{Spells, same_place}
use Rattle.nb_delta.proofs.ZeroLaws.{zeros_all, zeros_same}
use Rattle.nb_delta.proofs.TellLaws.{table_read, table_told}
use Rattle.nb_delta.proofs.PlaceLaws.{in_group, group_is, slot_at, slot_other, alloc_other, alloc_other_slot}
use Rattle.nb_delta.proofs.SpellLaws.{put_step, from_put, page_step, spells_slot, spells_behind, spells_same, spells_more}

pub some_slots : (size : ℕ) → IsTrue (is_page_size size) → 0 < slots_in size
some_slots size is = let facts = size_facts size is in omega (arith, facts.at_least)

pub some_bytes : (size : ℕ) → IsTrue (is_page_size size) → 8 ≤ size
some_bytes size is = let facts = size_facts size is in omega (arith, facts.at_least)

-- after a page write the file is there where it was
pub there_after : (at : ℕ) (page b : List ℕ) (after : File) → PageLeft at page (Some b) after → after ≡ Some (bytes_of after)
there_after at page b after (inl same) = same ∙ ap (λ (f : File). Some (bytes_of f)) (sym same)
there_after at page b after (inr (inl put)) = put ∙ ap (λ (f : File). Some (bytes_of f)) (sym put)
there_after at page b after (inr (inr (k, fits, grown))) = grown ∙ ap (λ (f : File). Some (bytes_of f)) (sym grown)

left_there : (size at : ℕ) (page table : List ℕ) (before : File) → HasTable size before table → (after : File) → PageLeft at page before after → after ≡ Some (bytes_of after)
left_there size at page table (Some b) has after left = there_after at page b after left
left_there size at page table None has after left = absurd has

module _ (size : ℕ) (is_size : IsTrue (is_page_size size)) where
  -- what bytes spell is a file's table
  pub has_told : (file : File) (table : List ℕ) → file ≡ Some (bytes_of file) → Spells size (bytes_of file) table → HasTable size file table
  has_told file table there spells =
      subst (λ (f : File). HasTable size f table) (sym there) (table_told size (bytes_of file) table (some_slots size is_size) (let large = some_bytes size is_size in omega arith) spells)

  pub has_read : (file : File) (table : List ℕ) → HasTable size file table → Spells size (bytes_of file) table
  has_read (Some bytes) table has = table_read size bytes table (some_slots size is_size) (let large = some_bytes size is_size in omega arith) has
  has_read None table has = absurd has

  pub has_there : (file : File) (table : List ℕ) → HasTable size file table → file ≡ Some (bytes_of file)
  has_there (Some bytes) table has = refl
  has_there None table has = absurd has

  -- the table after a page write
  after_left : (at : ℕ) (page table : List ℕ) (before after : File) → PageLeft at page before after → (Spells size (bytes_of before) table → Spells size (bytes_of after) table) → HasTable size before table → HasTable size after table
  after_left at page table (Some b) after left goes has = has_told after table (there_after at page b after left) (goes (has_read (Some b) table has))
  after_left at page table None after left goes has = absurd has

  after_put : (table : List ℕ) (before after : File) → after ≡ Some (bytes_of after) → (Spells size (bytes_of before) table → Spells size (bytes_of after) table) → HasTable size before table → HasTable size after table
  after_put table before after there goes has = has_told after table there (goes (has_read before table has))

  -- a slot is written
  module _ (k : ℕ) (page : List ℕ) (long : length page ≡ size) where
    pub slot_left : (before after : File) → PageLeft (slot_place size k * size) page before after → SlotStep size k page before after
    slot_left before after left =
        let step = page_step size (slot_place size k) page long before after left in
        record {
          table = λ table has. after_left (slot_place size k * size) page table before after left (λ spells. spells_slot size (some_slots size is_size) k page (bytes_of before) (bytes_of after) table spells step) has;
          slot = ⊎_elim (λ all. inl (all (slot_place size k))) (λ put. inr put.here) step.pages;
          others = λ j other. ⊎_elim (λ all. all (slot_place size j)) (λ put. put.others (slot_place size j) (slot_other size (some_slots size is_size) j k other)) step.pages;
          zeros = λ m. zeros_same size m before after (λ g low. ⊎_elim (λ all. all (alloc_place size g)) (λ put. put.others (alloc_place size g) (alloc_other_slot size (some_slots size is_size) g k)) step.pages);
          no_shorter = step.longer;
        }

    pub slot_put : (before after : File) → after ≡ with_page before (slot_place size k * size) page → SlotPut size k page before after
    slot_put before after is =
        let put = put_step size (slot_place size k) page long (bytes_of before) (bytes_of after) (ap (λ (f : File). bytes_of f) is) in
        let there : after ≡ Some (bytes_of after) = is ∙ ap (λ (f : File). Some (bytes_of f)) (sym is) in
        record {
          table = λ table has. after_put table before after there (λ spells. spells_slot size (some_slots size is_size) k page (bytes_of before) (bytes_of after) table spells (from_put size (slot_place size k) page long (bytes_of before) (bytes_of after) put)) has;
          slot = put.pages.here;
          whole = put.whole;
          others = λ j other. put.pages.others (slot_place size j) (slot_other size (some_slots size is_size) j k other);
          zeros = λ m. zeros_same size m before after (λ g low. put.pages.others (alloc_place size g) (alloc_other_slot size (some_slots size is_size) g k));
          no_shorter = put.longer;
        }

  -- what a write of slot n keeps
  pub keeps_slot : (n : ℕ) (page : List ℕ) (before after : File) → SlotStep size n page before after → Keeps size n before after
  keeps_slot n page before after step = record { table = λ table few has. step.table table has; slots = λ k low. step.others k (λ e. absurd (omega arith)); zeros = λ m few has. step.zeros m has }

  pub keeps_put : (n : ℕ) (page : List ℕ) (before after : File) → SlotPut size n page before after → Keeps size n before after
  keeps_put n page before after put = record { table = λ table few has. put.table table has; slots = λ k low. put.others k (λ e. absurd (omega arith)); zeros = λ m few has. put.zeros m has }

  pub keeps_none : (n : ℕ) (file : File) → Keeps size n file file
  keeps_none n file = record { table = λ table few has. has; slots = λ k low. refl; zeros = λ m few has. has }

  pub keeps_joined : (n : ℕ) (b d c : File) → Keeps size n b d → Keeps size n d c → Keeps size n b c
  keeps_joined n b d c first second = record { table = λ table few has. second.table table few (first.table table few has); slots = λ k low. second.slots k low ∙ first.slots k low; zeros = λ m few has. second.zeros m few (first.zeros m few has) }

  -- the next allocation page is written, after entry n
  module _ (n h : ℕ) (low : n < h * slots_in size) (page : List ℕ) (long : length page ≡ size) where
    pub next_left : (before after : File) → PageLeft (alloc_place size h * size) page before after → Keeps size n before after
    next_left before after left =
        let step = page_step size (alloc_place size h) page long before after left in
        record {
          table = λ table few has. after_left (alloc_place size h * size) page table before after left (λ spells. spells_behind size (some_slots size is_size) h page (bytes_of before) (bytes_of after) table spells (omega arith) step) has;
          slots = λ k lower. ⊎_elim (λ all. all (slot_place size k)) (λ put. put.others (slot_place size k) (λ e. alloc_other_slot size (some_slots size is_size) h k (sym e))) step.pages;
          zeros = λ m few. zeros_same size m before after (λ g inside. ⊎_elim (λ all. all (alloc_place size g)) (λ put. put.others (alloc_place size g) (alloc_other size g h (λ e. absurd (let same = ap (λ (x : ℕ). x * slots_in size) e in omega (arith, same, inside, few, low))))) step.pages);
        }

    -- and the slot of entry n keeps its page
    pub next_put : (before after : File) → after ≡ with_page before (alloc_place size h * size) page → Put size (alloc_place size h) page (bytes_of before) (bytes_of after)
    next_put before after is = put_step size (alloc_place size h) page long (bytes_of before) (bytes_of after) (ap (λ (f : File). bytes_of f) is)

    pub next_slot : (k : ℕ) (before after : File) → after ≡ with_page before (alloc_place size h * size) page → slot_page size after k ≡ slot_page size before k
    next_slot k before after is = let put = next_put before after is in put.pages.others (slot_place size k) (λ e. alloc_other_slot size (some_slots size is_size) h k (sym e))

    pub next_keeps : (before after : File) → after ≡ with_page before (alloc_place size h * size) page → Keeps size n before after
    next_keeps before after is = next_left before after (inr (inl is))

  -- the allocation page with the new entry is written
  module _ (table : List ℕ) (number g i : ℕ) (low : i < slots_in size) (many : length table ≡ g * slots_in size + i) (fresh : list_any (nat_eq number) table ≡ false) (below : number < most_pages)
      (page : List ℕ) (long : length page ≡ size) (is : IsAllocation size page (table ++ number ∷ []) g (i + 1)) (before : File) (has : HasTable size before table) (whole : HasSlot size before (length table)) (room : HasRoom size before (length table)) where
    place : slot_place size (length table) ≡ alloc_place size g + 1 + i
    place = ap (λ (n : ℕ). slot_place size n) many ∙ slot_at size g i low

    slot_whole : (alloc_place size g + 2 + i) * size ≤ length (bytes_of before)
    slot_whole = let e : slot_place size (length table) + 1 ≡ alloc_place size g + 2 + i = omega (arith, place) in subst (λ (n : ℕ). n * size ≤ length (bytes_of before)) e whole

    next_room : i + 1 ≡ slots_in size → (page_in size (bytes_of before) (alloc_place size (g + 1)) ≡ replicate size 0) × ((alloc_place size (g + 1) + 1) * size ≤ length (bytes_of before))
    next_room full = room (g + 1) (omega (arith, full, many))

    page_whole : alloc_place size g * size + size ≤ length (bytes_of before)
    page_whole = let m : (alloc_place size g + 1) * size ≤ (alloc_place size g + 2 + i) * size = mul-le-mul_right size (omega arith) in let w = slot_whole in omega (arith, m)

    -- zeros stand after the numbers, or the entry is the last of its group and the next allocation page is one of zeros
    zeros_then : (after : File) → WithPage size (alloc_place size g) page (bytes_of before) (bytes_of after) → HasZeros size after (length table + 1)
    zeros_then after put h j low_j at = elim (cases_eq (i + 1) (slots_in size)) [
      | inl e ↦
          let next : h * slots_in size + j ≡ (g + 1) * slots_in size + 0 = omega (arith, at, many, e) in
          let same = same_place (slots_in size) (g + 1) 0 h j (some_slots size is_size) low_j next in
          let ne : h ≢ g = λ w. absurd (omega (arith, w, same.group)) in
          zeros_all size (4 + 4 * j) (page_in size (bytes_of after) (alloc_place size h))
          (put.others (alloc_place size h) (alloc_other size h g ne) ∙ ap (λ (n : ℕ). page_in size (bytes_of before) (alloc_place size n)) same.group ∙ (next_room e).0)
      | inr ne ↦
          let same = same_place (slots_in size) g (i + 1) h j (omega arith) low_j (omega (arith, at, many)) in
          ap (λ (n : ℕ). drop (4 + 4 * j) (page_in size (bytes_of after) (alloc_place size n))) same.group ∙ ap (λ (p : List ℕ). drop (4 + 4 * j) p) put.here
          ∙ ap (λ (n : ℕ). drop (4 + 4 * n) page) same.index ∙ is.behind ∙ ap (λ (n : ℕ). replicate (size - (4 + 4 * n)) 0) (sym same.index)
    ]

    noted : (after : File) → after ≡ Some (bytes_of after) → WithPage size (alloc_place size g) page (bytes_of before) (bytes_of after) → length (bytes_of before) ≤ length (bytes_of after) → Notes size table number before after
    noted after there put longer = record {
      table = has_told after (table ++ number ∷ []) there
          (spells_more size (some_slots size is_size) g i number page (bytes_of before) (bytes_of after) table (has_read before table has) low many fresh below (let large = some_bytes size is_size in omega arith) slot_whole next_room is put longer);
      slots = λ k lower. put.others (slot_place size k) (λ e. alloc_other_slot size (some_slots size is_size) g k (sym e));
      zeros = zeros_then after put;
    }

    pub note_put : (after : File) → after ≡ with_page before (alloc_place size g * size) page → Notes size table number before after
    note_put after done =
        let put = put_step size (alloc_place size g) page long (bytes_of before) (bytes_of after) (ap (λ (f : File). bytes_of f) done) in
        noted after (done ∙ ap (λ (f : File). Some (bytes_of f)) (sym done)) put.pages put.longer

    pub note_left : (after : File) → PageLeft (alloc_place size g * size) page before after → NoteStep size table number before after
    note_left after left =
        let step = page_step size (alloc_place size g) page long before after left in
        let inside = page_whole in
        ⊎_elim
        (λ all. inl (record {
          table = λ entries few had. after_left (alloc_place size g * size) page entries before after left (λ spells. spells_same size (some_slots size is_size) (alloc_place size g) page (bytes_of before) (bytes_of after) entries spells all step.longer step.grows inside) had;
          slots = λ k lower. all (slot_place size k);
          zeros = λ m few. zeros_same size m before after (λ h inside. all (alloc_place size h));
        }))
        (λ put. inr (noted after (left_there size (alloc_place size g * size) page table before has after left) put step.longer))
        step.pages

  -- the slot is written, and there is room
  pub prepared : (n : ℕ) (page : List ℕ) (before mid after : File) → SlotPut size n page before mid → MakesRoom size n mid after → Prepared size n page before after
  prepared n page before mid after put room = record {
    keeps = keeps_joined n before mid after (keeps_put n page before mid put) room.keeps;
    slot = room.slot ∙ put.slot;
    whole = let w = put.whole in let l = room.no_shorter in omega arith;
    room = room.room;
  }

  -- there is room after an entry that isn't the last of its group
  pub room_inner : (n h : ℕ) (file : File) → (n + 1) / slots_in size ≡ h → h * slots_in size ≢ n + 1 → MakesRoom size n file file
  room_inner n h file group inner = record {
    keeps = keeps_none n file;
    slot = refl;
    no_shorter = omega arith;
    room = λ g last. absurd (inner (let same = group_is (slots_in size) (n + 1) g 0 (some_slots size is_size) (omega arith) in let e = ap (λ (k : ℕ). k * slots_in size) (sym group ∙ same) in omega arith));
  }

  -- and after the last of a group where the next allocation page was emptied
  pub room_last : (n h : ℕ) (page : List ℕ) (before after : File) → n + 1 ≡ h * slots_in size → page ≡ replicate size 0 → after ≡ with_page before (alloc_place size h * size) page → MakesRoom size n before after
  room_last n h page before after last empty is =
      let low : n < h * slots_in size = omega arith in
      let long : length page ≡ size = ap (λ (xs : List ℕ). length xs) empty ∙ length-replicate {A = ℕ} size 0 in
      let put = next_put n h low page long before after is in
      record {
        keeps = next_keeps n h low page long before after is;
        slot = next_slot n h low page long n before after is;
        no_shorter = put.longer;
        room = λ g at.
            let same = group_is (slots_in size) (n + 1) g 0 (some_slots size is_size) (omega arith) in
            let here = group_is (slots_in size) (n + 1) h 0 (some_slots size is_size) (omega arith) in
            let e : g ≡ h = sym same ∙ here in
            (ap (λ (k : ℕ). page_in size (bytes_of after) (alloc_place size k)) e ∙ put.pages.here ∙ empty, subst (λ (k : ℕ). (alloc_place size k + 1) * size ≤ length (bytes_of after)) (sym e) put.whole);
      }

  -- an entry that was prepared and then noted
  pub added : (table : List ℕ) (number : ℕ) (page : List ℕ) (before mid after : File) → Prepared size (length table) page before mid → Notes size table number mid after → Adds size table number page before after
  added table number page before mid after ready notes = record {
    table = notes.table;
    slot = notes.slots (length table) (omega arith) ∙ ready.slot;
    others = λ k low. notes.slots k (omega arith) ∙ ready.keeps.slots k low;
    zeros = notes.zeros;
  }

  -- the table names it, or what a crash would have left before the call is kept
  pub add_step : (table : List ℕ) (number : ℕ) (page : List ℕ) (reads mid before after : File) → Prepared size (length table) page reads mid → Keeps size (length table) before mid → NoteStep size table number mid after → AddStep size table number page reads before after
  add_step table number page reads mid before after ready kept (inr notes) = inr (added table number page reads mid after ready notes)
  add_step table number page reads mid before after ready kept (inl keeps) = inl (record {
    table = λ entries few has. keeps.table entries (omega arith) (kept.table entries few has);
    slots = λ k low. keeps.slots k (omega arith) ∙ kept.slots k low;
    zeros = λ m few has. keeps.zeros m (omega arith) (kept.zeros m few has);
  })

  -- a prepared entry is ready to be noted
  pub ready : (entries before : List ℕ) (number place group : ℕ) (bytes page : List ℕ) (old file : File) → IsNewest entries before number → HasTable size old before → place ≡ length entries - 1 → group ≡ place / slots_in size
      → Prepared size place bytes old file → IsAllocation size page entries group (min (slots_in size) (length entries - group * slots_in size)) → IsReady size before number group page file
  ready entries before number place group bytes page old file newest has at in_group prepared fills =
      let some = some_slots size is_size in
      let long : length entries ≡ length before + 1 = ap (λ (xs : List ℕ). length xs) newest.is ∙ length-append before (number ∷ []) in
      let here : place ≡ length before = omega arith in
      let division : place / slots_in size * slots_in size ≤ place = omega arith in
      let above : place < place / slots_in size * slots_in size + slots_in size = omega arith in
      let product : group * slots_in size ≡ place / slots_in size * slots_in size = ap (λ (n : ℕ). n * slots_in size) in_group in
      let index : ℕ = place - group * slots_in size in
      let count : min (slots_in size) (length entries - group * slots_in size) ≡ place - group * slots_in size + 1 = omega arith in
      record {
        fresh = newest.fresh;
        below = newest.below;
        index = place - group * slots_in size;
        low = omega arith;
        many = omega arith;
        allocation = subst (λ (n : ℕ). IsAllocation size page (before ++ number ∷ []) group n) count
            (subst (λ (xs : List ℕ). IsAllocation size page xs group (min (slots_in size) (length entries - group * slots_in size))) newest.is fills);
        table = prepared.keeps.table before (omega arith) has;
        whole = subst (λ (n : ℕ). HasSlot size file n) here prepared.whole;
        room = subst (λ (n : ℕ). HasRoom size file n) here prepared.room;
      }

  pub newest_place : (entries before : List ℕ) (number place : ℕ) → IsNewest entries before number → place ≡ length entries - 1 → place ≡ length before
  newest_place entries before number place newest at =
      let long : length entries ≡ length before + 1 = ap (λ (xs : List ℕ). length xs) newest.is ∙ length-append before (number ∷ []) in
      omega arith

  -- the same, where pages of that size are called by other lengths
  module _ (first second : ℕ) (same : first ≡ size) (again : second ≡ size) (entries before : List ℕ) (number place group : ℕ) (bytes page : List ℕ) (old mid : File) (newest : IsNewest entries before number) (at : place ≡ length entries - 1) (prepared : Prepared size place bytes old mid) where
    pub ready_again : HasTable size old before → group ≡ place / slots_in size → IsAllocation first page entries group (min (slots_in first) (length entries - group * slots_in first)) → IsReady second before number group page mid
    ready_again has in_group fills =
        subst (λ (n : ℕ). IsReady n before number group page mid) (sym again)
        (ready entries before number place group bytes page old mid newest has at in_group prepared
        (subst (λ (n : ℕ). IsAllocation n page entries group (min (slots_in n) (length entries - group * slots_in n))) same fills))

    prepared_newest : Prepared size (length before) bytes old mid
    prepared_newest = subst (λ (n : ℕ). Prepared size n bytes old mid) (newest_place entries before number place newest at) prepared

    pub added_again : (new : File) → Notes second before number mid new → Adds size before number bytes old new
    added_again new notes = added before number bytes old mid new prepared_newest (subst (λ (n : ℕ). Notes n before number mid new) again notes)

    pub add_step_again : (b new : File) → Keeps size place b mid → NoteStep second before number mid new → AddStep size before number bytes old b new
    add_step_again b new keeps step =
        add_step before number bytes old mid b new prepared_newest (subst (λ (n : ℕ). Keeps size n b mid) (newest_place entries before number place newest at) keeps) (subst (λ (n : ℕ). NoteStep n before number mid new) again step)

  -- while the slot is written
  pub newest_keeps : (entries before : List ℕ) (number place : ℕ) (bytes : List ℕ) (reads b d : File) → IsNewest entries before number → place ≡ length entries - 1 → Keeps size place b d → AddStep size before number bytes reads b d
  newest_keeps entries before number place bytes reads b d newest at keeps = inl (subst (λ (n : ℕ). Keeps size n b d) (newest_place entries before number place newest at) keeps)
