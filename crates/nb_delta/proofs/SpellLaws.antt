-- What a page write leaves of the table of a difference file.
use Rattle.std.proofs.Common.{◌≡◌, ◌≢◌, ◌⊎◌, inl, inr, ⊎_elim, ℕ, ◌+◌, ◌-◌, ◌*◌, ◌<◌, ◌≤◌, false, List, [], ◌∷◌, ◌++◌, length, get_or, replicate, sym, ap, ◌∙◌, arith, length-append, nat_eq}
use Rattle.nb_delta.proofs.Common.{list_any, cases_lt, cases_eq, get_or_append_left, length-replicate, mul-le-mul_right, File, bytes_of, put_at, PageLeft, number_in, slots_in, most_pages, page_in, slot_place, alloc_place, WithPage, SamePages, Grows, PageStep, Put, IsAllocation}
use Rattle.nb_delta.proofs.EntryLaws.{entries_more}
use Rattle.nb_delta.proofs.GroupLaws.{zeros_count}
use Rattle.nb_delta.proofs.TableLaws.{count_at, number_at, Spells, same_place}
use Rattle.nb_delta.proofs.PageLaws.{grown_page, put_here, put_other, length-put_at}
use Rattle.nb_delta.proofs.PlaceLaws.{in_group, slot_at, alloc_rises, alloc_other, alloc_other_slot}

module _ (size i : ℕ) (page : List ℕ) (long : length page ≡ size) where
  pub put_step : (b c : List ℕ) → c ≡ put_at b (i * size) page → Put size i page b c
  put_step b c is =
      let n : length c ≡ i * size + length page + (length b - (i * size + length page)) = ap (λ (xs : List ℕ). length xs) is ∙ length-put_at b (i * size) page in
      record {
        pages = record {
          here = ap (λ (xs : List ℕ). page_in size xs i) is ∙ put_here size b i page long;
          others = λ j other. ap (λ (xs : List ℕ). page_in size xs j) is ∙ put_other size b i page j long other;
        };
        longer = omega arith;
        whole = omega (arith, long);
        grows = elim (cases_lt (i * size + size) (length b)) [ inl l ↦ inl (omega arith) | inr l ↦ inr (inr (omega arith)) ];
      }

  pub from_put : (b c : List ℕ) → Put size i page b c → PageStep size i page b c
  from_put b c put = record { pages = inr put.pages; longer = put.longer; grows = put.grows }

  pub page_step : (before after : File) → PageLeft (i * size) page before after → PageStep size i page (bytes_of before) (bytes_of after)
  page_step before after (inl same) = record {
    pages = inl (λ j. ap (λ (f : File). page_in size (bytes_of f) j) same);
    longer = omega (arith, ap (λ (f : File). length (bytes_of f)) same);
    grows = inl (ap (λ (f : File). length (bytes_of f)) same);
  }
  page_step before after (inr (inl put)) = from_put (bytes_of before) (bytes_of after) (put_step (bytes_of before) (bytes_of after) (ap (λ (f : File). bytes_of f) put))
  page_step before after (inr (inr (k, fits, grown))) =
      let is : bytes_of after ≡ bytes_of before ++ replicate (k * length page) 0 = ap (λ (f : File). bytes_of f) grown in
      let n : length (bytes_of after) ≡ length (bytes_of before) + k * length page =
      ap (λ (xs : List ℕ). length xs) is ∙ length-append (bytes_of before) (replicate (k * length page) 0) ∙ ap (λ (x : ℕ). length (bytes_of before) + x) (length-replicate {A = ℕ} (k * length page) 0) in
      record {
        pages = inl (λ j. ap (λ (xs : List ℕ). page_in size xs j) is ∙ grown_page size (bytes_of before) (k * length page) j);
        longer = omega arith;
        grows = elim (cases_lt k 1) [
          | inl l ↦ let z : k ≡ 0 = omega arith in let none : k * length page ≡ 0 * length page = ap (λ (x : ℕ). x * length page) z in inl (omega arith)
          | inr l ↦ let more : 1 * length page ≤ k * length page = mul-le-mul_right (length page) l in inr (inl (omega (arith, more, long)))
        ];
      }

-- the file ends before a page, or holds it whole
abbrev EndsAt : ℕ → ℕ → ℕ → Type 0
EndsAt size long place = (long ≡ place * size) ⊎ ((place + 1) * size ≤ long)

ends_after : (size old new place i : ℕ) → EndsAt size old place → old ≤ new → Grows size i old new → (i * size + size ≤ old) ⊎ (place ≤ i) → EndsAt size new place
ends_after size old new place i was longer (inl same) where_ = ⊎_elim (λ e. inl (omega arith)) (λ e. inr (omega arith)) was
ends_after size old new place i was longer (inr (inl more)) where_ = inr (⊎_elim (λ e. omega arith) (λ e. omega arith) was)
ends_after size old new place i was longer (inr (inr end)) (inl within) = ⊎_elim (λ e. inl (omega arith)) (λ e. inr (omega arith)) was
ends_after size old new place i was longer (inr (inr end)) (inr behind) = inr (let m : place * size ≤ i * size = mul-le-mul_right size behind in omega (arith, m))

module _ (size : ℕ) where
  -- a page write that is none of the allocation pages of the table
  pub spells_apart : (i : ℕ) (page b c table : List ℕ) → Spells size b table → PageStep size i page b c → ((g : ℕ) → g * slots_in size ≤ length table → alloc_place size g ≢ i)
      → ((i * size + size ≤ length b) ⊎ ((g j : ℕ) → j < slots_in size → length table ≡ g * slots_in size + j → alloc_place size g ≤ i)) → Spells size c table
  spells_apart i page b c table spells step other behind = record {
    holds = record {
      are = spells.holds.are;
      numbers = λ g j low inside. ap (λ (p : List ℕ). number_in (4 + 4 * j) 4 p) (same g (omega arith)) ∙ spells.holds.numbers g j low inside;
      slots = λ g j low inside. let was = spells.holds.slots g j low inside in omega (arith, was, step.longer);
    };
    full = λ g many. ap (λ (p : List ℕ). number_in 0 4 p) (same g (omega arith)) ∙ spells.full g many;
    last = λ g j low many. ap (λ (p : List ℕ). number_in 0 4 p) (same g (omega arith)) ∙ spells.last g j low many;
    ends = λ g j low many. ends_after size (length b) (length c) (alloc_place size g) i (spells.ends g j low many) step.longer step.grows (⊎_elim inl (λ f. inr (f g j low many)) behind);
  }
    where
      same : (g : ℕ) → g * slots_in size ≤ length table → page_in size c (alloc_place size g) ≡ page_in size b (alloc_place size g)
      same g low = ⊎_elim (λ all. all (alloc_place size g)) (λ put. put.others (alloc_place size g) (other g low)) step.pages

  module _ (some : 0 < slots_in size) where
    -- a write of a slot, of the table or after it
    pub spells_slot : (k : ℕ) (page b c table : List ℕ) → Spells size b table → PageStep size (slot_place size k) page b c → Spells size c table
    spells_slot k page b c table spells step =
        let at = in_group (slots_in size) k some in
        let place = ap (slot_place size) at.is ∙ slot_at size at.g at.i at.low in
        spells_apart (slot_place size k) page b c table spells step (λ g low. alloc_other_slot size some g k)
        (elim (cases_lt k (length table)) [
          | inl l ↦ let whole = spells.holds.slots at.g at.i at.low (omega (arith, l, at.is)) in let m : (slot_place size k + 1) * size ≡ (alloc_place size at.g + 2 + at.i) * size = ap (λ (n : ℕ). n * size) (let e : slot_place size k + 1 ≡ alloc_place size at.g + 2 + at.i = omega (arith, place) in e) in inl (omega (arith, whole, m))
          | inr l ↦ inr (λ g j low many. elim (cases_lt at.g g) [
            | inl m ↦ let more : (at.g + 1) * slots_in size ≤ g * slots_in size = mul-le-mul_right (slots_in size) (omega arith) in absurd (omega (arith, more, many, l, at.is, at.low))
            | inr m ↦ elim (cases_eq g at.g) [
              | inl e ↦ let same = ap (λ (n : ℕ). alloc_place size n) e in omega (arith, same, place)
              | inr ne ↦ let r = alloc_rises size g at.g (omega arith) in omega (arith, r, place)
            ]
          ])
        ])

    -- a write of an allocation page after the table's last
    pub spells_behind : (h : ℕ) (page b c table : List ℕ) → Spells size b table → length table < h * slots_in size → PageStep size (alloc_place size h) page b c → Spells size c table
    spells_behind h page b c table spells low step =
        spells_apart (alloc_place size h) page b c table spells step
        (λ g many. alloc_other size g h (λ e. let same = ap (λ (n : ℕ). n * slots_in size) e in omega (arith, same, many, low)))
        (inr (λ g j lower many. elim (cases_lt g h) [
          | inl l ↦ let r = alloc_rises size g h l in omega arith
          | inr l ↦ let more : h * slots_in size ≤ g * slots_in size = mul-le-mul_right (slots_in size) l in absurd (omega (arith, more, many, low))
        ]))

    -- the file only grew
    pub spells_same : (i : ℕ) (page b c table : List ℕ) → Spells size b table → SamePages size b c → length b ≤ length c → Grows size i (length b) (length c) → i * size + size ≤ length b → Spells size c table
    spells_same i page b c table spells same longer grows inside = record {
      holds = record {
        are = spells.holds.are;
        numbers = λ g j low here. ap (λ (p : List ℕ). number_in (4 + 4 * j) 4 p) (same (alloc_place size g)) ∙ spells.holds.numbers g j low here;
        slots = λ g j low here. let was = spells.holds.slots g j low here in omega (arith, was);
      };
      full = λ g many. ap (λ (p : List ℕ). number_in 0 4 p) (same (alloc_place size g)) ∙ spells.full g many;
      last = λ g j low many. ap (λ (p : List ℕ). number_in 0 4 p) (same (alloc_place size g)) ∙ spells.last g j low many;
      ends = λ g j low many. ends_after size (length b) (length c) (alloc_place size g) i (spells.ends g j low many) longer grows (inl inside);
    }

    -- the allocation page was written that has one entry more
    module _ (g i number : ℕ) (page b c table : List ℕ) (spells : Spells size b table) (low : i < slots_in size) (many : length table ≡ g * slots_in size + i)
        (fresh : list_any (nat_eq number) table ≡ false) (below : number < most_pages) (large : 4 ≤ size)
        (whole : (alloc_place size g + 2 + i) * size ≤ length b)
        (room : i + 1 ≡ slots_in size → (page_in size b (alloc_place size (g + 1)) ≡ replicate size 0) × ((alloc_place size (g + 1) + 1) * size ≤ length b))
        (is : IsAllocation size page (table ++ number ∷ []) g (i + 1)) (put : WithPage size (alloc_place size g) page b c) (longer : length b ≤ length c) where
      long : length (table ++ number ∷ []) ≡ g * slots_in size + i + 1
      long = omega (arith, length-append table (number ∷ []), many)

      other : (h : ℕ) → h ≢ g → page_in size c (alloc_place size h) ≡ page_in size b (alloc_place size h)
      other h ne = put.others (alloc_place size h) (alloc_other size h g ne)

      -- an entry's group is this one or one before
      before : (h j : ℕ) → h ≢ g → h * slots_in size + j ≤ g * slots_in size + i → h < g
      before h j ne inside = elim (cases_lt h g) [
        | inl l ↦ l
        | inr l ↦ let more : (g + 1) * slots_in size ≤ h * slots_in size = mul-le-mul_right (slots_in size) (omega arith) in absurd (omega (arith, more))
      ]

      numbers : (h j : ℕ) → j < slots_in size → h * slots_in size + j < length (table ++ number ∷ []) → number_at size c h j ≡ get_or (table ++ number ∷ []) (h * slots_in size + j) 0
      numbers h j lower inside = elim (cases_eq h g) [
        | inl e ↦
            let same = ap (λ (n : ℕ). n * slots_in size) e in
            let few : j < i + 1 = omega (arith, same, inside, long) in
            ap (λ (n : ℕ). number_in (4 + 4 * j) 4 (page_in size c (alloc_place size n))) e ∙ ap (λ (p : List ℕ). number_in (4 + 4 * j) 4 p) put.here ∙ is.numbers j few
            ∙ ap (λ (n : ℕ). get_or (table ++ number ∷ []) (n + j) 0) (sym same)
        | inr ne ↦
            let lesser = before h j ne (omega (arith, inside, long)) in
            let more : (h + 1) * slots_in size ≤ g * slots_in size = mul-le-mul_right (slots_in size) (omega arith) in
            let there : h * slots_in size + j < length table = omega (arith, more, lower, many) in
            ap (λ (p : List ℕ). number_in (4 + 4 * j) 4 p) (other h ne) ∙ spells.holds.numbers h j lower there ∙ sym (get_or_append_left table (number ∷ []) 0 (h * slots_in size + j) there)
      ]

      slots : (h j : ℕ) → j < slots_in size → h * slots_in size + j < length (table ++ number ∷ []) → (alloc_place size h + 2 + j) * size ≤ length c
      slots h j lower inside = elim (cases_lt (h * slots_in size + j) (length table)) [
        | inl l ↦ let was = spells.holds.slots h j lower l in omega (arith, was, longer)
        | inr l ↦
            let same = same_place (slots_in size) g i h j low lower (omega (arith, l, many, inside, long)) in
            let at : (alloc_place size h + 2 + j) * size ≡ (alloc_place size g + 2 + i) * size = ap (λ (n : ℕ). (alloc_place size n + 2 + j) * size) same.group ∙ ap (λ (n : ℕ). (alloc_place size g + 2 + n) * size) same.index in
            omega (arith, at, whole, longer)
      ]

      full : (h : ℕ) → (h + 1) * slots_in size ≤ length (table ++ number ∷ []) → count_at size c h ≡ slots_in size
      full h enough = elim (cases_eq h g) [
        | inl e ↦
            let same = ap (λ (n : ℕ). n * slots_in size) e in
            ap (λ (n : ℕ). number_in 0 4 (page_in size c (alloc_place size n))) e ∙ ap (λ (p : List ℕ). number_in 0 4 p) put.here ∙ is.count
            ∙ (let all : i + 1 ≡ slots_in size = omega (arith, same, enough, long, low) in all)
        | inr ne ↦
            let lesser : h < g = elim (cases_lt h g) [
              | inl l ↦ l
              | inr l ↦ let more : (g + 2) * slots_in size ≤ (h + 1) * slots_in size = mul-le-mul_right (slots_in size) (omega arith) in absurd (omega (arith, more, enough, long, low))
            ] in
            let more : (h + 1) * slots_in size ≤ g * slots_in size = mul-le-mul_right (slots_in size) (omega arith) in
            ap (λ (p : List ℕ). number_in 0 4 p) (other h ne) ∙ spells.full h (omega (arith, more, many))
      ]

      -- the last group is this one, or the next where this one is full
      last : (h j : ℕ) → j < slots_in size → length (table ++ number ∷ []) ≡ h * slots_in size + j → (count_at size c h ≡ j) × EndsAt size (length c) (alloc_place size h)
      last h j lower end = elim (cases_eq (i + 1) (slots_in size)) [
        | inl e ↦
            let next : h * slots_in size + j ≡ (g + 1) * slots_in size + 0 = omega (arith, end, long, e) in
            let same = same_place (slots_in size) (g + 1) 0 h j some lower next in
            let ne : h ≢ g = λ w. absurd (omega (arith, w, same.group)) in
            let empty : count_at size b (g + 1) ≡ 0 = ap (λ (p : List ℕ). number_in 0 4 p) (room e).0 ∙ zeros_count size large in (
              ap (λ (p : List ℕ). number_in 0 4 p) (other h ne) ∙ ap (λ (n : ℕ). count_at size b n) same.group ∙ empty ∙ sym same.index,
              inr (let r = (room e).1 in let at : (alloc_place size h + 1) * size ≡ (alloc_place size (g + 1) + 1) * size = ap (λ (n : ℕ). (alloc_place size n + 1) * size) same.group in omega (arith, r, at, longer)),
            )
        | inr ne ↦
            let same = same_place (slots_in size) g (i + 1) h j (omega arith) lower (omega (arith, end, long)) in (
              ap (λ (n : ℕ). number_in 0 4 (page_in size c (alloc_place size n))) same.group ∙ ap (λ (p : List ℕ). number_in 0 4 p) put.here ∙ is.count ∙ sym same.index,
              inr (let m : (alloc_place size g + 1) * size ≤ (alloc_place size g + 2 + i) * size = mul-le-mul_right size (omega arith) in
                  let at : (alloc_place size h + 1) * size ≡ (alloc_place size g + 1) * size = ap (λ (n : ℕ). (alloc_place size n + 1) * size) same.group in omega (arith, m, at, whole, longer)),
            )
      ]

      pub spells_more : Spells size c (table ++ number ∷ [])
      spells_more = record {
        holds = record { are = entries_more table number spells.holds.are fresh below; numbers = numbers; slots = slots };
        full = full;
        last = λ h j lower end. (last h j lower end).0;
        ends = λ h j lower end. (last h j lower end).1;
      }
