-- What of a file's bytes makes its table this list, and that the two are one.
use Rattle.std.proofs.Common.{◌≡◌, ◌⊎◌, inl, inr, ⊎_elim, ℕ, zero, suc, ◌+◌, ◌-◌, ◌*◌, ◌/◌, ◌<◌, ◌≤◌, false, List, [], ◌∷◌, ◌++◌, length, get_or, refl, sym, ap, ◌∙◌, subst, arith, length-append, nat_lt, ◌&&◌, ◌==◌, Result, Ok, Err}
use Rattle.nb_delta.proofs.Common.{cases_lt, cases_eq, cases_order, cases_Bool, ltb-false, eqb-true, eqb-false, eq-eqb, or_parts, and_cases, get_or_append_left, get_or-append_right, mul-le-mul_right, number_in, slots_in, page_in, alloc_place, entries_from, groups_from, AreEntries, is_unfit, err_ok, le-div}
use Rattle.nb_delta.proofs.EntryLaws.{entries_more}
use Rattle.nb_delta.proofs.ReadLaws.{entries_none, entry_unfit, entry_cut, entry_read, fit_named, fit_below}
use Rattle.nb_delta.proofs.GroupLaws.{is_misshapen, group_misshapen, group_broken, group_full, group_last, next_group, first_group}

-- the count of a group, and the number of its entry i
abbrev pub count_at : (size : ℕ) (bytes : List ℕ) (g : ℕ) → ℕ
count_at size bytes g = number_in 0 4 (page_in size bytes (alloc_place size g))

abbrev pub number_at : (size : ℕ) (bytes : List ℕ) (g i : ℕ) → ℕ
number_at size bytes g i = number_in (4 + 4 * i) 4 (page_in size bytes (alloc_place size g))

-- each entry has its number in its group's allocation page, and its slot whole
pub record Holds (size : ℕ) (bytes table : List ℕ) : Type 0 where
  pub are : AreEntries table
  pub numbers : (g i : ℕ) → i < slots_in size → g * slots_in size + i < length table → number_at size bytes g i ≡ get_or table (g * slots_in size + i) 0
  pub slots : (g i : ℕ) → i < slots_in size → g * slots_in size + i < length table → (alloc_place size g + 2 + i) * size ≤ length bytes

-- and the counts are those of full groups and one that isn't full, whose allocation page the file holds whole or not at all
pub record Spells (size : ℕ) (bytes table : List ℕ) : Type 0 where
  pub holds : Holds size bytes table
  pub full : (g : ℕ) → (g + 1) * slots_in size ≤ length table → count_at size bytes g ≡ slots_in size
  pub last : (g i : ℕ) → i < slots_in size → length table ≡ g * slots_in size + i → count_at size bytes g ≡ i
  pub ends : (g i : ℕ) → i < slots_in size → length table ≡ g * slots_in size + i → (length bytes ≡ alloc_place size g * size) ⊎ ((alloc_place size g + 1) * size ≤ length bytes)

-- an entry is in one group alone
pub record SamePlace (g i h j : ℕ) : Type 0 where
  pub group : h ≡ g
  pub index : j ≡ i

pub same_place : (room g i h j : ℕ) → i < room → j < room → h * room + j ≡ g * room + i → SamePlace g i h j
same_place room g i h j low lower same = elim (cases_order h g) [
  | inl e ↦ let m : h * room ≡ g * room = ap (λ (n : ℕ). n * room) e in record { group = e; index = omega (arith, m) }
  | inr (inl l) ↦ let m : (h + 1) * room ≤ g * room = mul-le-mul_right room (omega arith) in absurd (omega (arith, m))
  | inr (inr l) ↦ let m : (g + 1) * room ≤ h * room = mul-le-mul_right room (omega arith) in absurd (omega (arith, m))
]

-- a table that was read
abbrev ok_of : List ℕ → Result (List ℕ) ℕ
ok_of xs = Ok xs

ok_same : (xs ys : List ℕ) → ok_of xs ≡ ok_of ys → xs ≡ ys
ok_same xs ys e = cc

module _ (size : ℕ) (bytes : List ℕ) where
  -- one entry more
  holds_more : (g i : ℕ) (found : List ℕ) → i < slots_in size → Holds size bytes found → length found ≡ g * slots_in size + i → is_unfit (number_at size bytes g i) found ≡ false
      → (alloc_place size g + 2 + i) * size ≤ length bytes → Holds size bytes (found ++ number_at size bytes g i ∷ [])
  holds_more g i found low holds many fit whole = record {
    are = entries_more found (number_at size bytes g i) holds.are (fit_named _ found fit) (fit_below _ found fit);
    numbers = λ h j lower inside. elim (cases_lt (h * slots_in size + j) (length found)) [
      | inl l ↦ holds.numbers h j lower l ∙ sym (get_or_append_left found (number_at size bytes g i ∷ []) 0 (h * slots_in size + j) l)
      | inr l ↦
          let at : h * slots_in size + j ≡ g * slots_in size + i = omega (arith, inside, long, many) in
          let same = same_place (slots_in size) g i h j low lower at in
          ap (λ (n : ℕ). number_at size bytes n j) same.group ∙ ap (λ (n : ℕ). number_at size bytes g n) same.index
          ∙ sym (last_one (h * slots_in size + j) (omega (arith, at, many)))
    ];
    slots = λ h j lower inside. elim (cases_lt (h * slots_in size + j) (length found)) [
      | inl l ↦ holds.slots h j lower l
      | inr l ↦
          let at : h * slots_in size + j ≡ g * slots_in size + i = omega (arith, inside, long, many) in
          let same = same_place (slots_in size) g i h j low lower at in
          subst (λ (n : ℕ). (alloc_place size n + 2 + j) * size ≤ length bytes) (sym same.group) (subst (λ (n : ℕ). (alloc_place size g + 2 + n) * size ≤ length bytes) (sym same.index) whole)
    ];
  }
    where
      long : length (found ++ number_at size bytes g i ∷ []) ≡ length found + 1
      long = length-append found (number_at size bytes g i ∷ [])

      last_one : (k : ℕ) → k ≡ length found → get_or (found ++ number_at size bytes g i ∷ []) k 0 ≡ number_at size bytes g i
      last_one k e =
          let none : k - length found ≡ 0 = omega arith in
          get_or-append_right found (number_at size bytes g i ∷ []) (length found) k 0 refl (omega arith) ∙ ap (λ (n : ℕ). get_or (number_at size bytes g i ∷ []) n 0) none

  -- what was read of a group
  pub record Read (g : ℕ) (entries : List ℕ) (n : ℕ) : Type 0 where
    pub holds : Holds size bytes entries
    pub long : length entries ≡ g * slots_in size + n

  entries_read : (left g i : ℕ) (found entries : List ℕ) → Holds size bytes found → length found ≡ g * slots_in size + i → i + left ≤ slots_in size
      → entries_from size (alloc_place size g) i left bytes found ≡ Ok entries → Read g entries (i + left)
  entries_read zero g i found entries holds many few told =
      let same : found ≡ entries = ok_same found entries (sym (entries_none size (alloc_place size g) i bytes found) ∙ told) in
      record { holds = subst (λ (xs : List ℕ). Holds size bytes xs) same holds; long = omega (arith, many, ap (λ (xs : List ℕ). length xs) same) }
  entries_read (suc left) g i found entries holds many few told = elim (cases_Bool (is_unfit (number_at size bytes g i) found)) [
    | inl unfit ↦ absurd (err_ok (alloc_place size g) entries (sym (entry_unfit size (alloc_place size g) i left bytes found unfit) ∙ told))
    | inr fit ↦ elim (cases_Bool (nat_lt (length bytes) ((alloc_place size g + 2 + i) * size))) [
      | inl cut ↦ absurd (err_ok (alloc_place size g + 1 + i) entries (sym (entry_cut size (alloc_place size g) i left bytes found fit cut) ∙ told))
      | inr whole ↦
          let more = holds_more g i found (omega arith) holds many fit (ltb-false (length bytes) ((alloc_place size g + 2 + i) * size) whole) in
          let rest = entries_read left g (i + 1) (found ++ number_at size bytes g i ∷ []) entries more (omega (arith, many, length-append found (number_at size bytes g i ∷ []))) (omega arith)
          (sym (entry_read size (alloc_place size g) i left bytes found fit whole) ∙ told) in
          record { holds = rest.holds; long = omega (arith, rest.long) }
    ]
  ]

  module _ (some : 0 < slots_in size) (large : 0 < size) where
    -- after a full group
    behind_full : (g : ℕ) (entries : List ℕ) → Holds size bytes entries → length entries ≡ (g + 1) * slots_in size → alloc_place size (g + 1) * size ≤ length bytes
    behind_full g entries holds many =
        let last = holds.slots g (slots_in size - 1) (omega arith) (omega arith) in
        let at : alloc_place size g + 2 + (slots_in size - 1) ≡ alloc_place size (g + 1) = omega (arith, next_group size g) in
        subst (λ (n : ℕ). n * size ≤ length bytes) at last

    ends_at : (g n : ℕ) → alloc_place size g * size ≤ length bytes → is_misshapen size (alloc_place size g) bytes n ≡ false → (length bytes ≡ alloc_place size g * size) ⊎ ((alloc_place size g + 1) * size ≤ length bytes)
    ends_at g n inside fit =
        ⊎_elim (λ none. inl (let past = ltb-false (alloc_place size g * size) (length bytes) none in omega arith)) (λ whole. inr (ltb-false (length bytes) ((alloc_place size g + 1) * size) whole))
        (and_cases (nat_lt (alloc_place size g * size) (length bytes)) (nat_lt (length bytes) ((alloc_place size g + 1) * size))
        (or_parts (nat_lt (alloc_place size g * size) (length bytes) && nat_lt (length bytes) ((alloc_place size g + 1) * size)) (nat_lt (slots_in size) n) fit).0)

    fits : (g n : ℕ) → is_misshapen size (alloc_place size g) bytes n ≡ false → n ≤ slots_in size
    fits g n fit = ltb-false (slots_in size) n (or_parts (nat_lt (alloc_place size g * size) (length bytes) && nat_lt (length bytes) ((alloc_place size g + 1) * size)) (nat_lt (slots_in size) n) fit).1

    -- the last group was read
    spells_last : (g : ℕ) (table : List ℕ) → ((h : ℕ) → h < g → count_at size bytes h ≡ slots_in size) → alloc_place size g * size ≤ length bytes → is_misshapen size (alloc_place size g) bytes (count_at size bytes g) ≡ false
        → (count_at size bytes g ≡ slots_in size → ⊥) → Read g table (count_at size bytes g) → Spells size bytes table
    spells_last g table before inside fit less was = record {
      holds = was.holds;
      full = λ h many. before h (lower h many);
      last = λ h j low many. let same = at h j low many in ap (λ (n : ℕ). count_at size bytes n) same.group ∙ sym same.index;
      ends = λ h j low many. let same = at h j low many in
          subst (λ (n : ℕ). (length bytes ≡ alloc_place size n * size) ⊎ ((alloc_place size n + 1) * size ≤ length bytes)) (sym same.group) (ends_at g (count_at size bytes g) inside fit);
    }
      where
        below : count_at size bytes g < slots_in size
        below = let most = fits g (count_at size bytes g) fit in elim (cases_eq (count_at size bytes g) (slots_in size)) [ inl e ↦ absurd (less e) | inr ne ↦ omega arith ]

        at : (h j : ℕ) → j < slots_in size → length table ≡ h * slots_in size + j → SamePlace g (count_at size bytes g) h j
        at h j low many = let b = below in same_place (slots_in size) g (count_at size bytes g) h j b low (omega (arith, many, was.long))

        lower : (h : ℕ) → (h + 1) * slots_in size ≤ length table → h < g
        lower h many = let b = below in elim (cases_lt h g) [
          | inl l ↦ l
          | inr l ↦ let m : (g + 1) * slots_in size ≤ (h + 1) * slots_in size = mul-le-mul_right (slots_in size) (omega arith) in absurd (omega (arith, m, was.long))
        ]

    before_more : (g : ℕ) → ((h : ℕ) → h < g → count_at size bytes h ≡ slots_in size) → count_at size bytes g ≡ slots_in size → (h : ℕ) → h < g + 1 → count_at size bytes h ≡ slots_in size
    before_more g before here h low = elim (cases_lt h g) [
      | inl l ↦ before h l
      | inr l ↦ let e : h ≡ g = omega arith in ap (λ (n : ℕ). count_at size bytes n) e ∙ here
    ]

    pub groups_read : (most g : ℕ) (found table : List ℕ) → Holds size bytes found → length found ≡ g * slots_in size → ((h : ℕ) → h < g → count_at size bytes h ≡ slots_in size)
        → length bytes / size + 1 ≤ most + g → alloc_place size g * size ≤ length bytes → groups_from most size (alloc_place size g) bytes found ≡ Ok table → Spells size bytes table
    groups_read zero g found table holds many before fuel inside told =
        let pages = le-div (alloc_place size g) (length bytes) size large inside in
        let first = first_group size g in
        absurd (omega arith)
    groups_read (suc most) g found table holds many before fuel inside told = elim (cases_Bool (is_misshapen size (alloc_place size g) bytes (count_at size bytes g))) [
      | inl bad ↦ absurd (err_ok (alloc_place size g) table (sym (group_misshapen most size (alloc_place size g) bytes found bad) ∙ told))
      | inr fit ↦ by_entries fit (entries_from size (alloc_place size g) 0 (count_at size bytes g) bytes found) refl
          (λ entries is full was. groups_read most (g + 1) entries table was.holds (omega (arith, was.long, full)) (before_more g before full) (omega arith)
          (behind_full g entries was.holds (omega (arith, was.long, full)))
          (ap (λ (n : ℕ). groups_from most size n bytes entries) (sym (next_group size g)) ∙ sym (group_full most size (alloc_place size g) bytes found entries fit is (eq-eqb _ _ full)) ∙ told))
    ]
      where
        by_entries : is_misshapen size (alloc_place size g) bytes (count_at size bytes g) ≡ false → (r : Result (List ℕ) ℕ) → entries_from size (alloc_place size g) 0 (count_at size bytes g) bytes found ≡ r
            → ((entries : List ℕ) → entries_from size (alloc_place size g) 0 (count_at size bytes g) bytes found ≡ Ok entries → count_at size bytes g ≡ slots_in size → Read g entries (count_at size bytes g) → Spells size bytes table)
            → Spells size bytes table
        by_entries fit (Err page) is next = absurd (err_ok page table (sym (group_broken most size (alloc_place size g) bytes found page fit is) ∙ told))
        by_entries fit (Ok entries) is next =
            let few : 0 + count_at size bytes g ≤ slots_in size = omega (arith, fits g (count_at size bytes g) fit) in
            let was = entries_read (count_at size bytes g) g 0 found entries holds (omega arith) few is in
            let read : Read g entries (count_at size bytes g) = record { holds = was.holds; long = omega (arith, was.long) } in
            elim (cases_Bool (count_at size bytes g == slots_in size)) [
              | inl full ↦ next entries is (eqb-true _ _ full) read
              | inr less ↦
                  let same : entries ≡ table = ok_same entries table (sym (group_last most size (alloc_place size g) bytes found entries fit is less) ∙ told) in
                  spells_last g table before inside fit (eqb-false _ _ less) (subst (λ (xs : List ℕ). Read g xs (count_at size bytes g)) same read)
            ]
