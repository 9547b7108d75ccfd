-- The inventory pages that a search reads, and the first of them that isn't of its kind.
use Rattle.std.proofs.Common.{◌≡◌, inl, inr, ℕ, suc, ◌+◌, ◌-◌, ◌*◌, ◌/◌, ◌<◌, ◌≤◌, length, refl, sym, ap, subst, ◌∙◌, arith, mul-le-mul_right, Bool, true, false, not, IsTrue, Option, Some, None, Result, Err, IsErr, IsErrAnd}
use Rattle.nb_alloc.proofs.Common.{div-mul-le_self, mul-div_cancel, le-div, true≢false, eqb_tells, leb_tells, is_page_size, bits_in, inventory_place, most_pages, bits-least, inventory_index, inventory_kind, Fault, Refused, Device, Memory, Refusal, NotDatabase, passed_on, Image, image_size, is_kind, inventory_of, free_from, first_not, maps_from, Cause, when, not_kind, first_behind, first_append, behind_none, maps_found, maps_split, IsLowestFree, free_from_is, div_rises, last_map, maps_up_to, Tested, AreTaken, RefusedFor, need_cause, AreMaps, none_some, some_none, some_same}

-- what a test of a page's kind tells
kind_by : (t : Bool) (p : ℕ) (r : Refusal) → when (not t) (NotDatabase p) ≡ Some r → (t ≡ false) × (r ≡ NotDatabase p)
kind_by true p r e = absurd (none_some r e)
kind_by false p r e = (refl, sym (some_same (NotDatabase p) r e))

pub kind_refused : (image : Image) (kind p : ℕ) (r : Refusal) → not_kind image kind p ≡ Some r → (is_kind image kind p ≡ false) × (r ≡ NotDatabase p)
kind_refused image kind p r e = kind_by (is_kind image kind p) p r e

kind_none : (t : Bool) (p : ℕ) → when (not t) (NotDatabase p) ≡ None → t ≡ true
kind_none true p e = refl
kind_none false p e = absurd (some_none (NotDatabase p) e)

pub kind_found : (image : Image) (kind p : ℕ) → not_kind image kind p ≡ None → is_kind image kind p ≡ true
kind_found image kind p e = kind_none (is_kind image kind p) p e

-- of inventory pages in order, one isn't of its kind, and those before it are
one_broken : (x : Image) (size count k : ℕ) → is_kind x inventory_kind (inventory_place size k) ≡ false → first_not x (maps_from size (suc count) k) ≡ Some (inventory_place size k)
unfolding first_not maps_from
one_broken x size count k e = ap (λ (t : Bool). elim t as (λ z. Option ℕ) [ true ↦ first_not x (maps_from size count (k + 1)) | false ↦ Some (inventory_place size k) ]) e

pub first_broken : (x : Image) (size k j m : ℕ) → k ≤ j → j ≤ m → ((i : ℕ) → k ≤ i → i < j → is_kind x inventory_kind (inventory_place size i) ≡ true) → is_kind x inventory_kind (inventory_place size j) ≡ false
    → first_not x (maps_from size (m + 1 - k) k) ≡ Some (inventory_place size j)
first_broken x size k j m low high before broken =
    let a : ℕ = j - k in
    let b : ℕ = m - j in
    let split : m + 1 - k ≡ a + suc b = omega (arith, low, high) in
    let there : k + a ≡ j = omega (arith, low) in
    ap (λ (n : ℕ). first_not x (maps_from size n k)) split ∙ ap (first_not x) (maps_split size a (suc b) k)
    ∙ first_append x (maps_from size a k) (maps_from size (suc b) (k + a))
    ∙ ap (λ (o : Option ℕ). first_behind o (first_not x (maps_from size (suc b) (k + a)))) (maps_found x size a k (λ i from below. before i from (omega (arith, below, there))))
    ∙ ap (λ (i : ℕ). first_behind None (first_not x (maps_from size (suc b) i))) there
    ∙ ap (first_behind None) (one_broken x size b j broken) ∙ behind_none (Some (inventory_place size j))

pub all_found : (x : Image) (size k m : ℕ) → k ≤ m → ((i : ℕ) → k ≤ i → i ≤ m → is_kind x inventory_kind (inventory_place size i) ≡ true) → first_not x (maps_from size (m + 1 - k) k) ≡ None
all_found x size k m low each = maps_found x size (m + 1 - k) k (λ i from below. each i from (omega (arith, below, low)))

-- Inventory pages are read one after the other, from that of page `from` on, up to that of page `page`.
module _ (image : Image) (from page : ℕ) (size : IsTrue (is_page_size (image_size image))) (behind : from ≤ page) (before : (k : ℕ) → from / bits_in (image_size image) ≤ k → k < page / bits_in (image_size image) → is_kind image inventory_kind (inventory_place (image_size image) k) ≡ true) where
  abbrev w : ℕ
  w = bits_in (image_size image)

  some : 0 < w
  some = omega (arith, bits-least (image_size image) size)

  start : from / w ≤ page / w
  start = div_rises from page w some behind

  -- the first that isn't of its kind
  pub read_broken : (r : Refusal) → AreTaken image from page → page < length image → not_kind image inventory_kind (inventory_of image page) ≡ Some r
      → need_cause (first_not image (maps_up_to image from (free_from (length image - from) from image))) ≡ Some r
  read_broken r taken low refused =
      let parts = kind_refused image 2 (inventory_of image page) r refused in
      let found : IsLowestFree image from (from + (length image - from)) (free_from (length image - from) from image) = free_from_is (length image - from) from image in
      let first = found.low in
      let high = found.high in
      let later : page ≤ free_from (length image - from) from image = elim (leb_tells page (free_from (length image - from) from image)) [
        | inl v ↦ v.1
        | inr v ↦ absurd (true≢false (sym (found.free (omega (arith, v.1, low, behind))) ∙ taken (free_from (length image - from) from image) first v.1 (omega (arith, v.1, low))))
      ] in
      ap need_cause (first_broken image (image_size image) (from / w) (page / w) (free_from (length image - from) from image / w) start (div_rises page (free_from (length image - from) from image) w some later) before parts.0)
      ∙ ap Some (sym parts.1)

  -- all of them are
  pub read_next : not_kind image inventory_kind (inventory_of image page) ≡ None → (k : ℕ) → from / w ≤ k → k ≤ page / w → is_kind image inventory_kind (inventory_place (image_size image) k) ≡ true
  read_next found k low high = elim (eqb_tells k (page / w)) [
    | inl e ↦ ap (λ (i : ℕ). is_kind image inventory_kind (inventory_place (image_size image) i)) e.1 ∙ kind_found image inventory_kind (inventory_of image page) found
    | inr e ↦ before k low (omega (arith, high, e.1))
  ]

  pub read_near : (free : ℕ) → free / w ≡ page / w → not_kind image inventory_kind (inventory_of image page) ≡ None → AreMaps image from free
  read_near free same found inside k low below there = read_next found k low (omega (arith, same, le-div k free w some below))

  pub read_end : (p : ℕ) → (from < page → page / w * w ≡ page) → length image ≤ page → AreMaps image from p
  read_end p whole end inside k low below there =
      let multiple : page / w * w ≡ page = whole (omega (arith, inside, end)) in
      before k low (elim (leb_tells (suc k) (page / w)) [
        | inl v ↦ v.1
        | inr v ↦ absurd (let more : page / w * w ≤ k * w = mul-le-mul_right w (omega (arith, v.1)) in omega (arith, more, multiple, there, end))
      ])

-- The search ended at page p: all up to its inventory page are of their kind, or that one isn't.
module _ (image : Image) (from p : ℕ) (size : IsTrue (is_page_size (image_size image))) (at : p ≡ free_from (length image - from) from image) (maps : AreMaps image from p) where
  abbrev v : ℕ
  v = bits_in (image_size image)

  positive : 0 < v
  positive = omega (arith, bits-least (image_size image) size)

  found : IsLowestFree image from (from + (length image - from)) p
  found = subst (IsLowestFree image from (from + (length image - from))) (sym at) (free_from_is (length image - from) from image)

  rise : from / v ≤ p / v
  rise = div_rises from p v positive found.low

  -- those before it
  earlier : (i : ℕ) → from / v ≤ i → i < p / v → is_kind image inventory_kind (inventory_place (image_size image) i) ≡ true
  earlier i low high =
      let first = found.low in
      let most = found.high in
      let step : (i + 1) * v ≤ p / v * v = mul-le-mul_right v (omega (arith, high)) in
      let whole = div-mul-le_self p v in
      let more : (i + 1) * v ≡ i * v + v = omega arith in
      elim (leb_tells (suc from) (length image)) [
        | inl w ↦ maps w.1 i low (omega (arith, step, whole, more)) (omega (arith, step, whole, more, positive, most, w.1))
        | inr w ↦ absurd (let same : p ≡ from = omega (arith, w.1, most, first) in omega (arith, low, high, ap (λ (n : ℕ). n / v) same))
      ]

  pub ends_found : not_kind image inventory_kind (inventory_of image p) ≡ None → first_not image (maps_up_to image from p) ≡ None
  ends_found none = all_found image (image_size image) (from / v) (p / v) rise (λ i low high. elim (eqb_tells i (p / v)) [
    | inl e ↦ ap (λ (n : ℕ). is_kind image inventory_kind (inventory_place (image_size image) n)) e.1 ∙ kind_found image inventory_kind (inventory_of image p) none
    | inr e ↦ earlier i low (omega (arith, high, e.1))
  ])

  pub ends_broken : (r : Refusal) → not_kind image inventory_kind (inventory_of image p) ≡ Some r → need_cause (first_not image (maps_up_to image from p)) ≡ Some r
  ends_broken r refused =
      let parts = kind_refused image 2 (inventory_of image p) r refused in
      ap need_cause (first_broken image (image_size image) (from / v) (p / v) (p / v) rise (omega arith) earlier parts.0) ∙ ap Some (sym parts.1)

  -- at the last page that a database may have
  pub ends_last : p ≡ most_pages → from < most_pages → first_not image (maps_up_to image from p) ≡ None
  ends_last end less =
      let first = found.low in
      let most = found.high in
      let long : most_pages ≤ length image = omega (arith, most, end, less) in
      let same : p / v ≡ 1048575 / v = ap (λ (n : ℕ). n / v) end ∙ last_map (image_size image) size in
      let whole = div-mul-le_self 1048575 v in
      all_found image (image_size image) (from / v) (p / v) rise (λ i low high.
      let step : i * v ≤ 1048575 / v * v = mul-le-mul_right v (omega (arith, high, same)) in
      maps (omega (arith, less, long)) i low (omega (arith, step, whole, end)) (omega (arith, step, whole, long)))

-- what a test of the first inventory page found is the refusal of the call that passes it on
pub refused_on : (S T : Type 0) (result : Result T Fault) (fault : Fault) (found cause : Cause) → IsErr result × IsErrAnd result (λ f. f ≡ fault) → ((r : Refusal) → found ≡ Some r → cause ≡ Some r)
    → Tested {T = S} (Err fault) found → RefusedFor result cause
refused_on S T result fault found cause passed are tested = subst (λ (x : Result T Fault). RefusedFor x cause) (sym (passed_on result fault passed)) (by fault tested)
  where
    by : (f : Fault) → Tested {T = S} (Err f) found → RefusedFor {T = T} (Err f) cause
    by (Refused r) e = are r e
    by Device e = tt
    by Memory e = tt

pub tested_by : (S T : Type 0) (result : Result T Fault) (fault : Fault) (found cause : Cause) → IsErr result × IsErrAnd result (λ f. f ≡ fault) → ((r : Refusal) → found ≡ Some r → cause ≡ Some r)
    → RefusedFor {T = S} (Err fault) found → Tested result cause
tested_by S T result fault found cause passed are tested = subst (λ (x : Result T Fault). Tested x cause) (sym (passed_on result fault passed)) (by fault tested)
  where
    by : (f : Fault) → RefusedFor {T = S} (Err f) found → Tested {T = T} (Err f) cause
    by (Refused r) e = are r e
    by Device e = tt
    by Memory e = tt

-- pages with their bits in one inventory page
pub index_same : (size p q : ℕ) → IsTrue (is_page_size size) → inventory_place size (q / bits_in size) ≡ inventory_place size (p / bits_in size) → q / bits_in size ≡ p / bits_in size
index_same size p q is same =
    let i : ℕ = inventory_place size (p / bits_in size) in
    sym (inventory_index size (q / bits_in size) i is same) ∙ inventory_index size (p / bits_in size) i is refl

-- the first page after them
pub next_group : (page w next : ℕ) → 0 < w → next ≡ (page / w + 1) * w → next / w ≡ page / w + 1
next_group page w next some e = ap (λ (n : ℕ). n / w) e ∙ mul-div_cancel (page / w + 1) some

pub next_whole : (page w next : ℕ) → 0 < w → next ≡ (page / w + 1) * w → next / w * w ≡ next
next_whole page w next some e = ap (λ (n : ℕ). n * w) (next_group page w next some e) ∙ sym e
