-- One step of reading the groups of a difference file.
use Rattle.std.proofs.Common.{◌≡◌, ℕ, suc, ◌+◌, ◌-◌, ◌*◌, ◌/◌, ◌<◌, ◌≤◌, Bool, true, false, List, [], ◌++◌, length, take, drop, replicate, refl, sym, ap, ◌∙◌, subst, arith, inl, inr, length-drop, nat_lt, ◌||◌, ◌&&◌, ◌==◌, Some, None, Result, Ok, Err, IsErr}
use Rattle.nb_delta.proofs.Common.{IsErrAnd, lt-ltb, le-ltb, cases_lt, or_from, or_left, or_right, and_from, and_left, and_right, ne_eqb, drop_all, take-replicate, take_all, take-append-le, length-replicate, mul-le-mul_right, File, ReadsPage, Fault, Refused, Device, Memory, BadDelta, number_in, number_of, slots_in, most_pages, page_in, alloc_place, entries_from, groups_from, table_of, Counts, Reads, ReadsGroup, none_some, le-div}
use Rattle.nb_fields.proofs.NumberLaws.{number_of-zeros}
use Rattle.nb_delta.proofs.ReadLaws.{entries_none}

-- the allocation page is held in part, or its count is too large
abbrev pub is_misshapen : (size at : ℕ) (bytes : List ℕ) → ℕ → Bool
is_misshapen size at bytes count = (nat_lt (at * size) (length bytes) && nat_lt (length bytes) ((at + 1) * size)) || nat_lt (slots_in size) count

module _ (most size at : ℕ) (bytes found : List ℕ) where
  abbrev count : ℕ
  count = number_in 0 4 (page_in size bytes at)

  pub group_misshapen : is_misshapen size at bytes count ≡ true → groups_from (suc most) size at bytes found ≡ Err at
  unfolding groups_from
  group_misshapen is = rw (is, groups_from) refl

  pub group_broken : (page : ℕ) → is_misshapen size at bytes count ≡ false → entries_from size at 0 count bytes found ≡ Err page → groups_from (suc most) size at bytes found ≡ Err page
  unfolding groups_from
  group_broken page fit is = rw (fit, is, groups_from) refl

  pub group_full : (entries : List ℕ) → is_misshapen size at bytes count ≡ false → entries_from size at 0 count bytes found ≡ Ok entries → (count == slots_in size) ≡ true → groups_from (suc most) size at bytes found ≡ groups_from most size (at + slots_in size + 1) bytes entries
  unfolding groups_from
  group_full entries fit is full = rw (fit, is, full, groups_from) refl

  pub group_last : (entries : List ℕ) → is_misshapen size at bytes count ≡ false → entries_from size at 0 count bytes found ≡ Ok entries → (count == slots_in size) ≡ false → groups_from (suc most) size at bytes found ≡ Ok entries
  unfolding groups_from
  group_last entries fit is last = rw (fit, is, last, groups_from) refl

-- a refusal that names the broken page
pub group_names : (form rest : Result (List ℕ) ℕ) (entries : List ℕ) (fault : Fault) (page : ℕ) → fault ≡ Refused (BadDelta page) → form ≡ Err page → ReadsGroup form (Err fault) rest entries
group_names form rest entries fault page is broken = subst (λ (f : Fault). ReadsGroup form (Err f) rest entries) (sym is) (record { page = page; broken = broken; named = refl })

-- a group whose allocation page is fit, by its entries
module _ (most size at : ℕ) (bytes found : List ℕ) (fit : is_misshapen size at bytes (number_in 0 4 (page_in size bytes at)) ≡ false) where
  faulty : (rest : Result (List ℕ) ℕ) (entries : List ℕ) (fault : Fault) → Reads (entries_from size at 0 (number_in 0 4 (page_in size bytes at)) bytes found) (Err fault) entries
      → ReadsGroup (groups_from (suc most) size at bytes found) (Err fault) rest entries
  faulty rest entries (Refused refusal) told = record { page = told.page; broken = group_broken most size at bytes found told.page fit told.broken; named = told.named }
  faulty rest entries Device told = tt
  faulty rest entries Memory told = tt

  pub group_fault : (rest : Result (List ℕ) ℕ) (entries : List ℕ) (fault : Fault) (result : Result Bool Fault) → IsErr result × IsErrAnd result (λ f. f ≡ fault)
      → Reads (entries_from size at 0 (number_in 0 4 (page_in size bytes at)) bytes found) (Err fault) entries → ReadsGroup (groups_from (suc most) size at bytes found) result rest entries
  group_fault rest entries fault (Ok x) is told = absurd is.1
  group_fault rest entries fault (Err e) is told = subst (λ (f : Fault). ReadsGroup (groups_from (suc most) size at bytes found) (Err f) rest entries) (sym is.1) (faulty rest entries fault told)

  pub group_told : (entries : List ℕ) (full : Bool) → full ≡ (number_in 0 4 (page_in size bytes at) == slots_in size) → entries_from size at 0 (number_in 0 4 (page_in size bytes at)) bytes found ≡ Ok entries
      → ReadsGroup (groups_from (suc most) size at bytes found) (Ok full) (groups_from most size (at + slots_in size + 1) bytes entries) entries
  group_told entries true is told = group_full most size at bytes found entries fit told (sym is)
  group_told entries false is told = group_last most size at bytes found entries fit told (sym is)

-- an allocation page that the file holds whole is misshapen by its count alone
pub whole_fit : (size at : ℕ) (bytes : List ℕ) (n : ℕ) → (at + 1) * size ≤ length bytes → n ≤ slots_in size → is_misshapen size at bytes n ≡ false
whole_fit size at bytes n whole few =
    or_from (nat_lt (at * size) (length bytes) && nat_lt (length bytes) ((at + 1) * size)) (nat_lt (slots_in size) n)
    (and_right (nat_lt (at * size) (length bytes)) (nat_lt (length bytes) ((at + 1) * size)) (le-ltb (length bytes) ((at + 1) * size) whole)) (le-ltb (slots_in size) n few)

pub count_misshapen : (size at : ℕ) (bytes : List ℕ) (n : ℕ) → slots_in size < n → is_misshapen size at bytes n ≡ true
count_misshapen size at bytes n many =
    or_right (nat_lt (at * size) (length bytes) && nat_lt (length bytes) ((at + 1) * size)) (nat_lt (slots_in size) n) (lt-ltb (slots_in size) n many)

pub part_misshapen : (size at : ℕ) (bytes : List ℕ) (n : ℕ) → at * size < length bytes → length bytes < (at + 1) * size → is_misshapen size at bytes n ≡ true
part_misshapen size at bytes n some short =
    or_left (nat_lt (at * size) (length bytes) && nat_lt (length bytes) ((at + 1) * size)) (nat_lt (slots_in size) n)
    (and_from (nat_lt (at * size) (length bytes)) (nat_lt (length bytes) ((at + 1) * size)) (lt-ltb (at * size) (length bytes) some) (lt-ltb (length bytes) ((at + 1) * size) short))

-- after the end of the file there are zeros
pub page_past : (size i : ℕ) (bytes : List ℕ) → length bytes ≤ i * size → page_in size bytes i ≡ replicate size 0
unfolding page_in
page_past size i bytes past =
    ap (λ (xs : List ℕ). take size (xs ++ replicate size 0)) (drop_all (i * size) bytes past) ∙ take_all size (replicate size 0) (omega (arith, length-replicate {A = ℕ} size 0))

pub zeros_count : (size : ℕ) → 4 ≤ size → number_in 0 4 (replicate size 0) ≡ 0
unfolding number_in
zeros_count size large = ap number_of (take-replicate 4 size 0 large) ∙ number_of-zeros 4

-- at the end of the file there is an empty group
pub end_told : (most size at : ℕ) (bytes found : List ℕ) → 8 ≤ size → length bytes ≤ at * size → groups_from (suc most) size at bytes found ≡ Ok found
end_told most size at bytes found large past =
    let none : number_in 0 4 (page_in size bytes at) ≡ 0 = ap (number_in 0 4) (page_past size at bytes past) ∙ zeros_count size (omega arith) in
    group_last most size at bytes found found
    (or_from (nat_lt (at * size) (length bytes) && nat_lt (length bytes) ((at + 1) * size)) (nat_lt (slots_in size) (number_in 0 4 (page_in size bytes at)))
    (and_left (nat_lt (at * size) (length bytes)) (nat_lt (length bytes) ((at + 1) * size)) (le-ltb (at * size) (length bytes) past))
    (le-ltb (slots_in size) (number_in 0 4 (page_in size bytes at)) (omega arith)))
    (ap (λ (n : ℕ). entries_from size at 0 n bytes found) none ∙ entries_none size at 0 bytes found)
    (ne_eqb (number_in 0 4 (page_in size bytes at)) (slots_in size) (λ e. absurd (omega arith)))

-- a page that was read whole
pub record IsPage (size at : ℕ) (bytes page : List ℕ) : Type 0 where
  pub is : page_in size bytes at ≡ page
  pub whole : (at + 1) * size ≤ length bytes

pub page_read : (file : File) (at : ℕ) (bytes before after : List ℕ) → file ≡ Some bytes → ReadsPage file (at * length before) before after true → IsPage (length before) at bytes after
unfolding page_in
page_read (Some xs) at bytes before after e read =
    let same : xs ≡ bytes = cc in
    let there : at * length before + length before ≤ length bytes = omega (arith, read.0, ap (λ (ys : List ℕ). length ys) same) in
    let enough : length before ≤ length (drop (at * length before) bytes) = omega (arith, there, length-drop (at * length before) bytes) in
    record {
      is = take-append-le (length before) (drop (at * length before) bytes) (replicate (length before) 0) enough ∙ ap (λ (ys : List ℕ). take (length before) (drop (at * length before) ys)) (sym same) ∙ sym read.1;
      whole = omega (arith, there);
    }
page_read None at bytes before after e read = absurd (none_some bytes e)

-- before the first group
pub groups_begun : (size : ℕ) (bytes : List ℕ) → table_of size bytes ≡ groups_from (length bytes / size + 1 - 0) size (alloc_place size 0) bytes []
unfolding table_of alloc_place
groups_begun size bytes =
    let at : 0 ≡ 0 * (slots_in size + 1) = omega arith in
    let most : length bytes / size + 1 ≡ length bytes / size + 1 - 0 = omega arith in
    ap (λ (n : ℕ). groups_from n size 0 bytes []) most ∙ ap (λ (n : ℕ). groups_from (length bytes / size + 1 - 0) size n bytes []) at

-- the group after
pub next_group : (size group : ℕ) → alloc_place size group + slots_in size + 1 ≡ alloc_place size (group + 1)
unfolding alloc_place
next_group size group = omega arith

-- a group's pages stand after the groups before it
pub first_group : (size group : ℕ) → group ≤ alloc_place size group
unfolding alloc_place
first_group size group = omega arith

-- a group that begins within the file, or at its end, is one of those that are looked at
pub one_more : (size group : ℕ) (bytes : List ℕ) → 0 < size → alloc_place size group * size ≤ length bytes → length bytes / size + 1 - group ≡ suc (length bytes / size + 1 - (group + 1))
one_more size group bytes some inside =
    let pages = le-div (alloc_place size group) (length bytes) size some inside in
    omega (arith, pages, first_group size group)

pub first_inside : (size : ℕ) (bytes : List ℕ) → alloc_place size 0 * size ≤ length bytes
unfolding alloc_place
first_inside size bytes = omega arith

-- so many groups were read, and each was full
pub record Behind (size : ℕ) (bytes : List ℕ) (group : ℕ) (entries : List ℕ) : Type 0 where
  pub form : table_of size bytes ≡ groups_from (length bytes / size + 1 - group) size (alloc_place size group) bytes entries
  pub inside : alloc_place size group * size ≤ length bytes

pub behind_none : (size : ℕ) (bytes : List ℕ) → Behind size bytes 0 []
behind_none size bytes = record { form = groups_begun size bytes; inside = first_inside size bytes }

-- one group more, of `n` bytes a page and with its allocation page at `at`
module _ (size n at group : ℕ) (bytes before after : List ℕ) (same : n ≡ size) (place : at ≡ alloc_place size group) (some : 0 < size) (so_far : Behind size bytes group before) where
  abbrev left : ℕ
  left = length bytes / size + 1 - (group + 1)

  now : table_of size bytes ≡ groups_from (suc left) n at bytes before
  now = so_far.form ∙ ap (λ (k : ℕ). groups_from k size (alloc_place size group) bytes before) (one_more size group bytes some so_far.inside)
      ∙ ap (λ (k : ℕ). groups_from (suc left) size k bytes before) (sym place) ∙ ap (λ (k : ℕ). groups_from (suc left) k at bytes before) (sym same)

  behind : at + slots_in n + 1 ≡ alloc_place size (group + 1)
  behind = ap (λ (k : ℕ). at + slots_in k + 1) same ∙ ap (λ (k : ℕ). k + slots_in size + 1) place ∙ next_group size group

  pub step_full : (full : Bool) → full ≡ true → ReadsGroup (groups_from (suc left) n at bytes before) (Ok full) (groups_from left n (at + slots_in n + 1) bytes after) after
      → (at + slots_in n + 1) * n ≤ length bytes → Behind size bytes (group + 1) after
  step_full true is told whole = record {
    form = now ∙ told ∙ ap (λ (k : ℕ). groups_from left n k bytes after) behind ∙ ap (λ (k : ℕ). groups_from left k (alloc_place size (group + 1)) bytes after) same;
    inside = subst (λ (k : ℕ). k * size ≤ length bytes) behind (subst (λ (k : ℕ). (at + slots_in n + 1) * k ≤ length bytes) same whole);
  }
  step_full false is told whole = cc

  pub step_last : (full : Bool) → full ≡ false → ReadsGroup (groups_from (suc left) n at bytes before) (Ok full) (groups_from left n (at + slots_in n + 1) bytes after) after → table_of size bytes ≡ Ok after
  step_last false is told = now ∙ told
  step_last true is told = cc

  stopped : (fault : Fault) → ReadsGroup (groups_from (suc left) n at bytes before) (Err fault) (groups_from left n (at + slots_in n + 1) bytes after) after → Reads (table_of size bytes) (Err fault) after
  stopped (Refused refusal) told = record { page = told.page; broken = now ∙ told.broken; named = told.named }
  stopped Device told = tt
  stopped Memory told = tt

  pub step_fault : (fault : Fault) (result : Result (Unit {0}) Fault) → IsErr result × IsErrAnd result (λ f. f ≡ fault)
      → ReadsGroup (groups_from (suc left) n at bytes before) (Err fault) (groups_from left n (at + slots_in n + 1) bytes after) after → Reads (table_of size bytes) result after
  step_fault fault (Ok x) is told = absurd is.1
  step_fault fault (Err e) is told = subst (λ (f : Fault). Reads (table_of size bytes) (Err f) after) (sym is.1) (stopped fault told)

-- what was counted of a group
pub counts_full : (full : Bool) (room before after : ℕ) → full ≡ true → Counts full room before after → (after ≡ before + room) × (after ≤ most_pages)
counts_full true room before after is counted = counted
counts_full false room before after is counted = cc

pub counts_last : (full : Bool) (room before after : ℕ) → full ≡ false → Counts full room before after → (before ≤ after) × (after < before + room)
counts_last false room before after is counted = counted
counts_last true room before after is counted = cc

pub groups_of : (group room n : ℕ) → 0 < room → group * room ≤ n → n < group * room + room → n / room ≡ group
groups_of group room n some low high = elim (cases_lt (n / room) group) [
  | inl l ↦ let more : (n / room + 1) * room ≤ group * room = mul-le-mul_right room (omega arith) in absurd (omega (arith, more))
  | inr l ↦ elim (cases_lt group (n / room)) [
    | inl m ↦ let more : (group + 1) * room ≤ n / room * room = mul-le-mul_right room (omega arith) in absurd (omega (arith, more))
    | inr m ↦ omega arith
  ]
]
