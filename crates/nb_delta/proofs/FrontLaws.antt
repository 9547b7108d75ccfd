-- Where the allocation pages of some groups are written, the table has a front of the entries.
use Rattle.std.proofs.Common.{◌≡◌, inl, inr, ⊎_elim, ℕ, zero, suc, ◌+◌, ◌-◌, ◌*◌, ◌/◌, ◌<◌, ◌≤◌, List, [], ◌∷◌, ◌++◌, length, get_or, take, drop, replicate, refl, sym, ap, ◌∙◌, subst, arith, IsTrue, length-append, length-take-le, take-append-drop, Some, min, nat_eq}
use Rattle.nb_delta.proofs.Common.{list_any, IsDistinct, cases_eq, cases_lt, or_left, get_or_append_left, append_assoc, append-nil, list_any-append, mul-le-mul_right, File, bytes_of, number_in, is_page_size, slots_in, page_in, slot_place, alloc_place, AreEntries, size_facts, HasTable, HasZeros, Waits, HasFront, Fronts, HasAll, Empties, IsOfGroup, NotesSome, NotesAll, all_parts}
use Rattle.nb_delta.proofs.GroupLaws.{zeros_count}
use Rattle.nb_delta.proofs.TableLaws.{count_at, number_at, Spells, SamePlace, same_place}
use Rattle.nb_delta.proofs.ZeroLaws.{zeros_all, zeros_none}
use Rattle.nb_delta.proofs.PageLaws.{length-page_in}
use Rattle.nb_delta.proofs.PlaceLaws.{slot_at}
use Rattle.nb_delta.proofs.StepLaws.{some_slots, some_bytes, has_told, has_read, has_there}

distinct_front : (xs ys : List ℕ) → IsDistinct nat_eq (xs ++ ys) → IsDistinct nat_eq xs
unfolding IsDistinct
distinct_front [] ys are = tt
distinct_front (x ∷ xs) ys are = ((all_parts _ xs ys are.0).0, distinct_front xs ys are.1)

-- a front of entries
pub entries_front : (xs ys : List ℕ) → AreEntries (xs ++ ys) → AreEntries xs
entries_front xs ys are = record {
  below = λ page is. are.below page (list_any-append (nat_eq page) xs ys ∙ or_left (list_any (nat_eq page) xs) (list_any (nat_eq page) ys) is);
  once = distinct_front xs ys are.once;
}

-- bytes that spell a list, by the counts of its groups
module _ (size : ℕ) (some : 0 < slots_in size) (bytes list : List ℕ) (upto : ℕ) (are : AreEntries list)
    (numbers : (g i : ℕ) → i < slots_in size → g * slots_in size + i < length list → number_at size bytes g i ≡ get_or list (g * slots_in size + i) 0)
    (slots : (g i : ℕ) → i < slots_in size → g * slots_in size + i < length list → (alloc_place size g + 2 + i) * size ≤ length bytes)
    (counts : (g : ℕ) → g < upto → count_at size bytes g ≡ min (slots_in size) (length list - g * slots_in size))
    (bound : length list < upto * slots_in size)
    (next : (g : ℕ) → length list ≡ g * slots_in size → (alloc_place size g + 1) * size ≤ length bytes) where
  inside : (g : ℕ) → g * slots_in size ≤ length list → g < upto
  inside g low = elim (cases_lt g upto) [
    | inl l ↦ l
    | inr l ↦ let more : upto * slots_in size ≤ g * slots_in size = mul-le-mul_right (slots_in size) l in absurd (omega (arith, more, low, bound))
  ]

  ends : (g i : ℕ) → i < slots_in size → length list ≡ g * slots_in size + i → (alloc_place size g + 1) * size ≤ length bytes
  ends g zero low many = next g (omega arith)
  ends g (suc i) low many =
      let last = slots g i (omega arith) (omega arith) in
      let more : (alloc_place size g + 1) * size ≤ (alloc_place size g + 2 + i) * size = mul-le-mul_right size (omega arith) in
      omega (arith, last, more)

  pub spells_counts : Spells size bytes list
  spells_counts = record {
    holds = record { are = are; numbers = numbers; slots = slots };
    full = λ g many. counts g (inside g (omega arith)) ∙ (let all : min (slots_in size) (length list - g * slots_in size) ≡ slots_in size = omega (arith, many) in all);
    last = λ g i low many. counts g (inside g (omega arith)) ∙ (let few : min (slots_in size) (length list - g * slots_in size) ≡ i = omega (arith, many, low) in few);
    ends = λ g i low many. inr (ends g i low many);
  }

-- the groups of the waiting entries
pub record Places (room table entries first last end : ℕ) : Type 0 where
  pub begins : first * room ≤ table
  pub within : table < (first + 1) * room
  pub fills : last * room ≤ entries
  pub behind : entries < (last + 1) * room
  pub ends : entries ≤ end * room
  pub inside : (g : ℕ) → g < end → g * room < entries
  pub order : first < end
  pub more : table < entries

pub places_are : (room table entries drafted : ℕ) → 0 < room → 0 < drafted → entries ≡ table + drafted → Places room table entries ((entries - drafted) / room) (entries / room) ((entries - 1) / room + 1)
places_are room table entries drafted some waits many =
    let at : entries - drafted ≡ table = omega arith in
    let first_low : (entries - drafted) / room * room ≤ entries - drafted = omega arith in
    let first_high : entries - drafted < (entries - drafted) / room * room + room = omega arith in
    let last_low : entries / room * room ≤ entries = omega arith in
    let last_high : entries < entries / room * room + room = omega arith in
    let end_low : (entries - 1) / room * room ≤ entries - 1 = omega arith in
    let end_high : entries - 1 < (entries - 1) / room * room + room = omega arith in
    record {
      begins = omega (arith, first_low, at);
      within = omega (arith, first_high, at);
      fills = last_low;
      behind = omega (arith, last_high);
      ends = omega (arith, end_high);
      inside = λ g low. let more : g * room ≤ (entries - 1) / room * room = mul-le-mul_right room (omega arith) in omega (arith, more, end_low, waits, many);
      order = elim (cases_lt ((entries - drafted) / room) ((entries - 1) / room + 1)) [
        | inl l ↦ l
        | inr l ↦ let more : ((entries - 1) / room + 1) * room ≤ (entries - drafted) / room * room = mul-le-mul_right room l in absurd (omega (arith, more, first_low, end_high, waits, many))
      ];
      more = omega (arith, waits, many);
    }

-- the same, by what was computed
pub places_found : (room entries found_room found : ℕ) → found_room ≡ room → found ≡ entries → (table drafted : ℕ) → 0 < room → 0 < drafted → entries ≡ table + drafted
    → Places room table entries ((found - drafted) / found_room) (found / found_room) ((found - 1) / found_room + 1)
places_found room entries found_room found same again table drafted some waits many =
    subst (λ (r : ℕ). Places room table entries ((found - drafted) / r) (found / r) ((found - 1) / r + 1)) (sym same)
    (subst (λ (n : ℕ). Places room table entries ((n - drafted) / room) (n / room) ((n - 1) / room + 1)) (sym again) (places_are room table entries drafted some waits many))

-- groups up to the last of the entries are not empty
pub groups_inside : (room entries found_room found g : ℕ) → found_room ≡ room → found ≡ entries → 0 < room → 0 < entries → g < (found - 1) / found_room + 1 → g * room < entries
groups_inside room entries found_room found g same again some waits low =
    (places_found room entries found_room found same again 0 entries some waits (omega arith)).inside g low

pub waits_long : (size : ℕ) (entries : List ℕ) (drafted : ℕ) (table waiting : List ℕ) (file : File) → Waits size entries drafted table waiting file → length entries ≡ length table + drafted
waits_long size entries drafted table waiting file waits = ap (λ (xs : List ℕ). length xs) waits.all ∙ length-append table waiting ∙ ap (λ (n : ℕ). length table + n) waits.many

module _ (size : ℕ) (is_size : IsTrue (is_page_size size)) (entries table waiting : List ℕ) (drafted first last end : ℕ) (old ready new : File) (are : AreEntries entries) (waits : Waits size entries drafted table waiting old)
    (places : Places (slots_in size) (length table) (length entries) first last end) (empties : Empties size first last old ready) (notes : NotesSome size entries first end ready new) where
  some : 0 < slots_in size
  some = some_slots size is_size

  many : length entries ≡ length table + length waiting
  many = ap (λ (xs : List ℕ). length xs) waits.all ∙ length-append table waiting

  more_than : length table < length entries
  more_than = places.more

  has_ready : HasTable size ready table
  has_ready = (empties.stays (length table) places.within).tables table (omega arith) waits.has

  spells : Spells size (bytes_of ready) table
  spells = has_read size is_size ready table has_ready

  there : new ≡ Some (bytes_of new)
  there = notes.there (has_there size is_size ready table has_ready)

  long : length (bytes_of old) ≤ length (bytes_of new)
  long = let first_part = (empties.stays (length table) places.within).no_shorter in let second = notes.no_shorter in omega arith

  -- the slots of all entries are whole
  slots : (g i : ℕ) → i < slots_in size → g * slots_in size + i < length entries → (alloc_place size g + 2 + i) * size ≤ length (bytes_of new)
  slots g i low inside = elim (cases_lt (g * slots_in size + i) (length table)) [
    | inl l ↦ let was = (has_read size is_size old table waits.has).holds.slots g i low l in let longer = long in omega arith
    | inr l ↦
        let was = waits.slots (g * slots_in size + i) l inside in
        let at : slot_place size (g * slots_in size + i) + 1 ≡ alloc_place size g + 2 + i = omega (arith, slot_at size g i low) in
        let place : (slot_place size (g * slots_in size + i) + 1) * size ≡ (alloc_place size g + 2 + i) * size = ap (λ (n : ℕ). n * size) at in
        let longer = long in omega (arith, was, place, longer)
  ]

  -- what an allocation page of the table says
  number_before : (g i : ℕ) → i < slots_in size → g * slots_in size + i < length table → number_at size (bytes_of ready) g i ≡ get_or entries (g * slots_in size + i) 0
  number_before g i low inside =
      spells.holds.numbers g i low inside ∙ sym (get_or_append_left table waiting 0 (g * slots_in size + i) inside) ∙ ap (λ (xs : List ℕ). get_or xs (g * slots_in size + i) 0) (sym waits.all)

  -- the groups before the first of the waiting entries are as they were
  before_first : (g : ℕ) → g < first → IsOfGroup size entries g (page_in size (bytes_of new) (alloc_place size g))
  before_first g low =
      let full : (g + 1) * slots_in size ≤ first * slots_in size = mul-le-mul_right (slots_in size) (omega arith) in
      let begins = places.begins in
      let more = more_than in
      let same = notes.others g (inl low) in
      record {
        count = ap (λ (p : List ℕ). number_in 0 4 p) same ∙ spells.full g (omega (arith, full, begins))
            ∙ (let all : slots_in size ≡ min (slots_in size) (length entries - g * slots_in size) = omega (arith, full, begins, more) in all);
        numbers = λ i inside. ap (λ (p : List ℕ). number_in (4 + 4 * i) 4 p) same ∙ number_before g i (omega arith) (omega (arith, full, begins, inside));
        behind =
            let facts = size_facts size is_size in
            zeros_none size (4 + 4 * min (slots_in size) (length entries - g * slots_in size)) (page_in size (bytes_of new) (alloc_place size g)) (length-page_in size (bytes_of new) (alloc_place size g))
            (let fills : size ≤ 4 + 4 * min (slots_in size) (length entries - g * slots_in size) = omega (arith, facts.in_fours, facts.at_least, full, begins, more) in fills);
      }

  -- nothing of the waiting entries is named
  none_named : page_in size (bytes_of new) (alloc_place size first) ≡ page_in size (bytes_of ready) (alloc_place size first) → Spells size (bytes_of new) table
  none_named here = record {
    holds = record {
      are = spells.holds.are;
      numbers = λ g i low inside. ap (λ (p : List ℕ). number_in (4 + 4 * i) 4 p) (same g (omega arith)) ∙ spells.holds.numbers g i low inside;
      slots = λ g i low inside. slots g i low (let more = more_than in omega arith);
    };
    full = λ g enough. ap (λ (p : List ℕ). number_in 0 4 p) (same g (omega arith)) ∙ spells.full g enough;
    last = λ g i low end. ap (λ (p : List ℕ). number_in 0 4 p) (same g (omega arith)) ∙ spells.last g i low end;
    ends = λ g i low end.
        let next = slots g i low (let more = more_than in omega arith) in
        let more : (alloc_place size g + 1) * size ≤ (alloc_place size g + 2 + i) * size = mul-le-mul_right size (omega arith) in
        inr (omega (arith, next, more));
  }
    where
      same : (g : ℕ) → g * slots_in size ≤ length table → page_in size (bytes_of new) (alloc_place size g) ≡ page_in size (bytes_of ready) (alloc_place size g)
      same g low = elim (cases_lt g first) [
        | inl l ↦ notes.others g (inl l)
        | inr l ↦ elim (cases_eq g first) [
          | inl e ↦ subst (λ (n : ℕ). page_in size (bytes_of new) (alloc_place size n) ≡ page_in size (bytes_of ready) (alloc_place size n)) (sym e) here
          | inr ne ↦ let more : (first + 1) * slots_in size ≤ g * slots_in size = mul-le-mul_right (slots_in size) (omega arith) in let within = places.within in absurd (omega (arith, more, low, within))
        ]
      ]

  -- after the entries a full group ends with, there is an empty allocation page
  empty_behind : (g : ℕ) → first < g → g * slots_in size ≤ length entries → g ≤ last
  empty_behind g more inside = elim (cases_lt last g) [
    | inl l ↦ let high : (last + 1) * slots_in size ≤ g * slots_in size = mul-le-mul_right (slots_in size) (omega arith) in let behind = places.behind in absurd (omega (arith, high, inside, behind))
    | inr l ↦ l
  ]

  -- the groups before g are named, and the page of group g is empty
  module _ (g : ℕ) (more : first < g) (named : (h : ℕ) → h < g → IsOfGroup size entries h (page_in size (bytes_of new) (alloc_place size h))) (front rest : List ℕ) (split : entries ≡ front ++ rest) where
    number_of_front : (h i : ℕ) → i < slots_in size → h < g → h * slots_in size + i < length front → number_at size (bytes_of new) h i ≡ get_or front (h * slots_in size + i) 0
    number_of_front h i low lower inside =
        let whole : length entries ≡ length front + length rest = ap (λ (xs : List ℕ). length xs) split ∙ length-append front rest in
        (named h lower).numbers i (omega (arith, inside, whole, low)) ∙ ap (λ (xs : List ℕ). get_or xs (h * slots_in size + i) 0) split ∙ get_or_append_left front rest 0 (h * slots_in size + i) inside

    slots_of_front : (h i : ℕ) → i < slots_in size → h * slots_in size + i < length front → (alloc_place size h + 2 + i) * size ≤ length (bytes_of new)
    slots_of_front h i low inside =
        let whole : length entries ≡ length front + length rest = ap (λ (xs : List ℕ). length xs) split ∙ length-append front rest in
        slots h i low (omega (arith, inside, whole))

    are_front : AreEntries front
    are_front = entries_front front rest (subst (λ (xs : List ℕ). AreEntries xs) split are)

    lower_group : (h i : ℕ) → length front ≤ g * slots_in size → h * slots_in size + i < length front → h < g
    lower_group h i few inside = elim (cases_lt h g) [
      | inl l ↦ l
      | inr l ↦ let high : g * slots_in size ≤ h * slots_in size = mul-le-mul_right (slots_in size) l in absurd (omega (arith, high, few, inside))
    ]

    pub full_front : length front ≡ g * slots_in size → page_in size (bytes_of new) (alloc_place size g) ≡ page_in size (bytes_of ready) (alloc_place size g) → Spells size (bytes_of new) front
    full_front full here =
        let whole : length entries ≡ length front + length rest = ap (λ (xs : List ℕ). length xs) split ∙ length-append front rest in
        let inside : g ≤ last = empty_behind g more (omega (arith, full, whole)) in
        let large = some_bytes size is_size in
        spells_counts size some (bytes_of new) front (g + 1) are_front
        (λ h i low within. number_of_front h i low (lower_group h i (omega arith) within) within)
        slots_of_front
        (λ h low. elim (cases_eq h g) [
          | inl e ↦
              let same = ap (λ (n : ℕ). n * slots_in size) e in
              ap (λ (n : ℕ). count_at size (bytes_of new) n) e ∙ ap (λ (p : List ℕ). number_in 0 4 p) (here ∙ empties.empty g more inside) ∙ zeros_count size (omega arith)
              ∙ (let none : 0 ≡ min (slots_in size) (length front - h * slots_in size) = omega (arith, same, full) in none)
          | inr ne ↦
              let high : (h + 1) * slots_in size ≤ g * slots_in size = mul-le-mul_right (slots_in size) (omega arith) in
              (named h (omega arith)).count ∙ (let all : min (slots_in size) (length entries - h * slots_in size) ≡ min (slots_in size) (length front - h * slots_in size) = omega (arith, high, full, whole) in all)
        ])
        (let room = some in omega (arith, full, room))
        (λ h at. elim (cases_eq h g) [
          | inl e ↦ let was = empties.whole g more inside in let longer = notes.no_shorter in let same : (alloc_place size h + 1) * size ≡ (alloc_place size g + 1) * size = ap (λ (n : ℕ). (alloc_place size n + 1) * size) e in omega (arith, was, longer, same)
          | inr ne ↦ elim (cases_lt h g) [
            | inl l ↦ let high : (h + 1) * slots_in size ≤ g * slots_in size = mul-le-mul_right (slots_in size) (omega arith) in let room = some in absurd (omega (arith, high, at, full, room))
            | inr l ↦ let high : (g + 1) * slots_in size ≤ h * slots_in size = mul-le-mul_right (slots_in size) (omega arith) in let room = some in absurd (omega (arith, high, at, full, room))
          ]
        ])

    -- the last group isn't full
    pub all_front : length front ≡ length entries → length entries < g * slots_in size → ((h : ℕ) → h < g → h * slots_in size < length entries) → Spells size (bytes_of new) front
    all_front all high below =
        let few : length front ≤ g * slots_in size = omega (arith, all, high) in
        spells_counts size some (bytes_of new) front g are_front
        (λ h i low within. number_of_front h i low (lower_group h i few within) within)
        slots_of_front
        (λ h low. (named h low).count ∙ (let same : min (slots_in size) (length entries - h * slots_in size) ≡ min (slots_in size) (length front - h * slots_in size) = omega (arith, all) in same))
        (omega (arith, all, high))
        (λ h at. elim (cases_lt h g) [
          | inl l ↦ let within = below h l in absurd (omega (arith, within, at, all))
          | inr l ↦ let more : g * slots_in size ≤ h * slots_in size = mul-le-mul_right (slots_in size) l in absurd (omega (arith, more, at, all, high))
        ])

  -- groups up to g are named: those before the first, and these
  named_below : (g : ℕ) → ((h : ℕ) → first ≤ h → h < g → IsOfGroup size entries h (page_in size (bytes_of new) (alloc_place size h))) → (h : ℕ) → h < g → IsOfGroup size entries h (page_in size (bytes_of new) (alloc_place size h))
  named_below g named h low = elim (cases_lt h first) [ inl l ↦ before_first h l | inr l ↦ named h l low ]

  -- all groups are named
  pub all_named : ((h : ℕ) → first ≤ h → h < end → IsOfGroup size entries h (page_in size (bytes_of new) (alloc_place size h))) → HasTable size new entries
  all_named named =
      let order = places.order in
      let split : entries ≡ entries ++ [] = sym (append-nil entries) in
      has_told size is_size new entries there
      (elim (cases_eq (length entries) (end * slots_in size)) [
        | inl e ↦ full_front end order (named_below end named) entries [] split e (notes.others end (inr (omega arith)))
        | inr ne ↦ all_front end order (named_below end named) entries [] split refl (let high = places.ends in omega arith) places.inside
      ])

  -- zeros stand after the last of the numbers, or in the empty allocation page after a full group
  pub zeros : ((h : ℕ) → first ≤ h → h < end → IsOfGroup size entries h (page_in size (bytes_of new) (alloc_place size h))) → HasZeros size new (length entries)
  zeros named h j low at = elim (cases_lt h end) [
    | inl l ↦
        let from : first ≤ h = elim (cases_lt h first) [
          | inl m ↦ let high : (h + 1) * slots_in size ≤ first * slots_in size = mul-le-mul_right (slots_in size) (omega arith) in let begins = places.begins in let more = more_than in absurd (omega (arith, high, begins, more, at, low))
          | inr m ↦ m
        ] in
        let so_many : min (slots_in size) (length entries - h * slots_in size) ≡ j = omega (arith, at, low) in
        subst (λ (n : ℕ). drop (4 + 4 * n) (page_in size (bytes_of new) (alloc_place size h)) ≡ replicate (size - (4 + 4 * n)) 0) so_many (named h from l).behind
    | inr l ↦
        let order = places.order in
        let more : first < h = omega (arith, order, l) in
        zeros_all size (4 + 4 * j) (page_in size (bytes_of new) (alloc_place size h)) (notes.others h (inr l) ∙ empties.empty h more (empty_behind h more (omega (arith, at))))
  ]

  -- and they stay where nothing of the waiting entries is named
  first_zeros : HasZeros size old (length table) → page_in size (bytes_of new) (alloc_place size first) ≡ page_in size (bytes_of ready) (alloc_place size first) → HasZeros size new (length table + 0)
  first_zeros was here h j low at =
      let begins = places.begins in
      let within = places.within in
      let same : SamePlace first (length table - first * slots_in size) h j = same_place (slots_in size) first (length table - first * slots_in size) h j (omega (arith, begins, within)) low (omega (arith, at, begins)) in
      let ready_has : HasZeros size ready (length table) = (empties.stays (length table) places.within).zeros (length table) (omega arith) was in
      subst (λ (n : ℕ). drop (4 + 4 * j) (page_in size (bytes_of new) (alloc_place size n)) ≡ replicate (size - (4 + 4 * j)) 0) (sym same.group)
      (ap (λ (p : List ℕ). drop (4 + 4 * j) p) here ∙ subst (λ (n : ℕ). drop (4 + 4 * j) (page_in size (bytes_of ready) (alloc_place size n)) ≡ replicate (size - (4 + 4 * j)) 0) same.group (ready_has h j low (omega (arith, at))))

  -- the groups before g are named, and group g isn't
  stopped : (g : ℕ) → first < g → g < end → ((h : ℕ) → first ≤ h → h < g → IsOfGroup size entries h (page_in size (bytes_of new) (alloc_place size h)))
      → page_in size (bytes_of new) (alloc_place size g) ≡ page_in size (bytes_of ready) (alloc_place size g) → HasFront size table waiting old new
  stopped g more less named here =
      let inside = places.inside g less in
      let behind : (first + 1) * slots_in size ≤ g * slots_in size = mul-le-mul_right (slots_in size) (omega arith) in
      let within = places.within in
      let so_many = many in
      let n : ℕ = g * slots_in size - length table in
      let few : n ≤ length waiting = omega (arith, inside, behind, within, so_many) in
      let parts : waiting ≡ take n waiting ++ drop n waiting = sym (take-append-drop n waiting) in
      let split : entries ≡ (table ++ take n waiting) ++ drop n waiting = waits.all ∙ ap (λ (xs : List ℕ). table ++ xs) parts ∙ sym (append_assoc table (take n waiting) (drop n waiting)) in
      let long_front : length (table ++ take n waiting) ≡ g * slots_in size = length-append table (take n waiting) ∙ (let taken = length-take-le n waiting few in let sum : length table + length (take n waiting) ≡ g * slots_in size = omega (arith, taken, behind, within) in sum) in
      record {
        front = take n waiting;
        rest = drop n waiting;
        split = parts;
        has = has_told size is_size new (table ++ take n waiting) there (full_front g more (named_below g named) (table ++ take n waiting) (drop n waiting) split long_front here);
        zeros = λ was h j low at.
            let sum : length table + length (take n waiting) ≡ g * slots_in size = omega (arith, length-take-le n waiting few, behind, within) in
            let same : SamePlace g 0 h j = same_place (slots_in size) g 0 h j some low (omega (arith, at, sum)) in
            zeros_all size (4 + 4 * j) (page_in size (bytes_of new) (alloc_place size h))
            (ap (λ (k : ℕ). page_in size (bytes_of new) (alloc_place size k)) same.group ∙ here ∙ empties.empty g more (empty_behind g more (omega (arith, inside))));
      }

  -- the first group that isn't named
  find : (left g : ℕ) → g + left ≡ end → first ≤ g → ((h : ℕ) → first ≤ h → h < g → IsOfGroup size entries h (page_in size (bytes_of new) (alloc_place size h))) → HasFront size table waiting old new
  find zero g at order named = record {
    front = waiting;
    rest = [];
    split = sym (append-nil waiting);
    has = subst (λ (xs : List ℕ). HasTable size new xs) waits.all (all_named (λ h low high. named h low (omega arith)));
    zeros = λ was. subst (λ (n : ℕ). HasZeros size new n) many (zeros (λ h low high. named h low (omega arith)));
  }
  find (suc left) g at order named = ⊎_elim
      (λ same. elim (cases_eq g first) [
        | inl e ↦ record {
          front = [];
          rest = waiting;
          split = refl;
          has = subst (λ (xs : List ℕ). HasTable size new xs) (sym (append-nil table))
              (has_told size is_size new table there (none_named (subst (λ (n : ℕ). page_in size (bytes_of new) (alloc_place size n) ≡ page_in size (bytes_of ready) (alloc_place size n)) e same)));
          zeros = λ was. first_zeros was (subst (λ (n : ℕ). page_in size (bytes_of new) (alloc_place size n) ≡ page_in size (bytes_of ready) (alloc_place size n)) e same);
        }
        | inr ne ↦ stopped g (omega arith) (omega arith) named same
      ])
      (λ new_one. find left (g + 1) (omega arith) (omega arith) (λ h low high. elim (cases_lt h g) [
        | inl l ↦ named h low l
        | inr l ↦ let e : g ≡ h = omega arith in subst (λ (n : ℕ). IsOfGroup size entries n (page_in size (bytes_of new) (alloc_place size n))) e new_one
      ]))
      (notes.each g order (omega arith))

  all_slots : (k : ℕ) → page_in size (bytes_of new) (slot_place size k) ≡ page_in size (bytes_of old) (slot_place size k)
  all_slots k = notes.slots k ∙ (empties.stays (length table) places.within).slots k

  pub fronts : Fronts size table waiting old new
  fronts = let order = places.order in record {
    tables = find (end - first) first (omega arith) (omega arith) (λ h low high. absurd (omega arith));
    slots = all_slots;
    no_shorter = long;
  }

  pub has_all : NotesAll size entries first end ready new → HasAll size entries old new
  has_all all = record { has = all_named all.all; slots = all_slots; no_shorter = long }
