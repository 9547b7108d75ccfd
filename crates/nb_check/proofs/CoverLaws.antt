-- No page far after the end breaks a fact: its bit and its entry stand after the end too.
use Rattle.std.proofs.Common.{◌≡◌, inl, inr, ℕ, zero, suc, ◌+◌, ◌-◌, ◌*◌, ◌/◌, ◌%◌, ◌<◌, ◌≤◌, length, sym, ap, subst, ◌∙◌, arith, add-mul, mul-le-mul_right, suc-mul, IsTrue, false, Option, Some, None, nat_le}
use Rattle.nb_check.proofs.Common.{mod-lt, mul_assoc, div-add-mod', div-mul-add, and_left, cases_lt, is_page_size, bits_in, entries_in, inventory_place, scn_place, entries-least, bits-least, Page, Image, page_at, image_size, inventory_of, scn_page_of, lt_no, Fact, BlankPage, SystemPlace, TakenPast, LateStamp, WrongEntry, HeaderStamp, Broken, Extent, breaks, covered, IsFirstBelow, IsOf, IsMapOf, and_right}
use Rattle.nb_check.proofs.EntryLaws.{same_below, place_few, wrong_far}
use Rattle.nb_check.proofs.FactLaws.{blank_past, place_past, late_past, header_past}

-- where these pages break nothing, the first that is broken stays
pub first_far : (image : Image) (a b : ℕ) (broken : Option Broken) → a ≤ b → ((f : Fact) (p : ℕ) → a ≤ p → p < b → breaks image f p ≡ false) → IsFirstBelow image a broken → IsFirstBelow image b broken
first_far image a b None few none first = λ f p low. elim (cases_lt p a) [ inl less ↦ first f p less | inr high ↦ none f p (omega (arith, high)) low ]
first_far image a b (Some broken) few none first = (
  first.0,
  (let below = first.1 in omega (arith, below, few)),
  λ f p low before. elim (cases_lt p a) [ inl less ↦ first.2 f p less before | inr high ↦ none f p (omega (arith, high)) low ],
)

-- groups that come before end before
more_groups : (q m w : ℕ) → q < m → suc q * w ≤ m * w
more_groups q m w less = mul-le-mul_right w (omega (arith, less))

module _ (image : Image) (valid : IsTrue (is_page_size (image_size image))) where
  abbrev n : ℕ
  n = length image

  abbrev bits : ℕ
  bits = bits_in (image_size image)

  abbrev each : ℕ
  each = entries_in (image_size image)

  -- the end of the group of bits in which the length is
  abbrev pub group_end : ℕ
  group_end = (n / bits + 1) * bits

  some_bits : 7936 ≤ bits
  some_bits = bits-least (image_size image) valid

  some_entries : 248 ≤ each
  some_entries = entries-least (image_size image) valid

  length_parts : (n / bits) * bits + n % bits ≡ n
  length_parts = div-add-mod' n bits

  length_rest : n % bits < bits
  length_rest = mod-lt n {m = bits} (let some = some_bits in omega (arith, some))

  group_is : group_end ≡ (n / bits) * bits + bits
  group_is = add-mul (n / bits) 1 bits ∙ one_more
    where
      one_more : (n / bits) * bits + 1 * bits ≡ (n / bits) * bits + bits
      one_more = let one : 1 * bits ≡ bits = omega arith in ap (λ (k : ℕ). (n / bits) * bits + k) one

  pub length_within : n < group_end
  length_within = (let is = length_parts in let rest = length_rest in let end = group_is in omega (arith, is, rest, end))

  pub group_within : group_end ≤ covered image
  group_within = (let is = length_parts in let end = group_is in omega (arith, is, end))

  -- a page in it has its bit where the page after the last one has it
  same_bits : (p : ℕ) → n ≤ p → p < group_end → p / bits ≡ n / bits
  same_bits p past near =
      let is = length_parts in
      let end = group_is in
      let here : p ≡ (n / bits) * bits + (p - (n / bits) * bits) = omega (arith, is, past) in
      ap (λ (m : ℕ). m / bits) here ∙ div-mul-add (n / bits) bits (p - (n / bits) * bits) (omega (arith, is, end, past, near))

  pub map_same : (p : ℕ) → n ≤ p → p < group_end → inventory_of image p ≡ inventory_of image n
  map_same p past near = ap (inventory_place (image_size image)) (same_bits p past near)

  pub map_near : (p : ℕ) → 1 < n → n ≤ p → p < group_end → inventory_of image p < n
  map_near p more past near = subst (λ (i : ℕ). i < n) (sym (map_same p past near)) (by (n / bits) length_parts)
    where
      by : (k : ℕ) → k * bits + n % bits ≡ n → inventory_place (image_size image) k < n
      by zero is = more
      by (suc k) is = omega (arith, is, more)

  -- its inventory page stands after the end
  map_far : (p : ℕ) → group_end ≤ p → n ≤ inventory_of image p
  map_far p high = by (p / bits) (div-add-mod' p bits) (mod-lt p {m = bits} (let some = some_bits in omega (arith, some)))
    where
      by : (k : ℕ) → k * bits + p % bits ≡ p → p % bits < bits → n ≤ inventory_place (image_size image) k
      by zero is rest = absurd (let end = group_is in let some = some_bits in omega (arith, is, rest, end, high))
      by (suc k) is rest = elim (cases_lt (n / bits) (suc k)) [
        | inl less ↦ (let more : suc (n / bits) * bits ≤ suc k * bits = more_groups (n / bits) (suc k) bits less in let within = length_within in omega (arith, more, within))
        | inr other ↦ absurd (let few : suc (suc k) * bits ≤ suc (n / bits) * bits = more_groups (suc k) (suc (n / bits)) bits (omega (arith, other)) in let end = group_is in omega (arith, few, is, rest, end, high))
      ]

  -- and so does its SCN page
  entry_far : (p : ℕ) → group_end ≤ p → n ≤ scn_page_of image p
  entry_far p high = elim (cases_lt 2 n) [
    | inr few ↦ place_few (image_size image) valid (p / each) n (omega (arith, few))
    | inl more ↦ elim (cases_lt (scn_place (image_size image) (p / each)) n) [
      | inr far ↦ omega (arith, far)
      | inl low ↦ absurd (
          let within = length_within in
          let same : p / each ≡ (n - 1) / each = same_below (image_size image) valid p n (omega (arith, high, within)) more low in
          let here : (p / each) * each + p % each ≡ p = div-add-mod' p each in
          let last : ((n - 1) / each) * each + (n - 1) % each ≡ n - 1 = div-add-mod' (n - 1) each in
          let rest : p % each < each = mod-lt p {m = each} (let some = some_entries in omega (arith, some)) in
          let group : (p / each) * each ≡ ((n - 1) / each) * each = ap (λ (k : ℕ). k * each) same in
          no_group ((n - 1) / each) (omega (arith, last, within)) (omega (arith, here, rest, group, high)))
    ]
  ]
    where
      -- no group of entries begins before the end of a group of bits and ends after it
      no_group : (q : ℕ) → q * each < group_end → group_end < q * each + each → ⊥
      no_group q begins over =
          let whole : group_end ≡ ((n / bits + 1) * 32) * each = sym (mul_assoc (n / bits + 1) 32 each) in
          elim (cases_lt q ((n / bits + 1) * 32)) [
            | inl less ↦ absurd (let more : suc q * each ≤ ((n / bits + 1) * 32) * each = more_groups q ((n / bits + 1) * 32) each less in let next : suc q * each ≡ q * each + each = suc-mul q each in omega (arith, more, next, whole, over))
            | inr other ↦ absurd (let more : ((n / bits + 1) * 32) * each ≤ q * each = mul-le-mul_right each (omega (arith, other)) in omega (arith, more, whole, begins))
          ]

  taken_none : (p : ℕ) → n ≤ inventory_of image p → breaks image TakenPast p ≡ false
  unfolding breaks
  taken_none p far = and_right (nat_le (length image) p) _ (and_left _ _ (lt_no (inventory_of image p) (length image) far))

  -- a page after the group breaks nothing
  pub none_far : 0 < n → (f : Fact) (p : ℕ) → group_end ≤ p → breaks image f p ≡ false
  none_far some BlankPage p high = blank_past image p some (let within = length_within in omega (arith, within, high))
  none_far some SystemPlace p high = place_past image p some (let within = length_within in omega (arith, within, high))
  none_far some TakenPast p high = taken_none p (map_far p high)
  none_far some LateStamp p high = late_past image p some (let within = length_within in omega (arith, within, high))
  none_far some WrongEntry p high = wrong_far image p (let within = length_within in omega (arith, within, high)) (entry_far p high)
  none_far some HeaderStamp p high = header_past image p some (let within = length_within in omega (arith, within, high))

  -- nor does any at or past the end of a database of one page
  pub none_few : 0 < n → n ≤ 1 → (f : Fact) (p : ℕ) → n ≤ p → breaks image f p ≡ false
  none_few some few BlankPage p high = blank_past image p some high
  none_few some few SystemPlace p high = place_past image p some high
  none_few some few TakenPast p high = taken_none p (by (p / bits))
    where
      by : (k : ℕ) → n ≤ inventory_place (image_size image) k
      by zero = few
      by (suc k) = (let least = some_bits in omega (arith, least, few))
  none_few some few LateStamp p high = late_past image p some high
  none_few some few WrongEntry p high = wrong_far image p high (place_few (image_size image) valid (p / each) n (omega (arith, few)))
  none_few some few HeaderStamp p high = header_past image p some high

-- The same, by what a pass knows of the image.
module _ (image : Image) (size : ℕ) (extent : Extent) (valid : IsTrue (is_page_size size)) (of : IsOf image size extent) where
  pub valid_of : IsTrue (is_page_size (image_size image))
  valid_of = subst (λ (s : ℕ). IsTrue (is_page_size s)) of.size valid

  pub ends_of : (extent.count / bits_in size + 1) * bits_in size ≡ group_end image valid_of
  ends_of =
      ap (λ (s : ℕ). (extent.count / bits_in s + 1) * bits_in s) of.size
      ∙ ap (λ (m : ℕ). (m / bits_in (image_size image) + 1) * bits_in (image_size image)) of.count

  module _ (p : ℕ) (past : extent.count ≤ p) (covered_by : p < (extent.count / bits_in size + 1) * bits_in size) where
    behind : length image ≤ p
    behind = omega (arith, past, of.count)

    inside : p < group_end image valid_of
    inside = omega (arith, covered_by, ends_of)

    pub near_of : 1 < extent.count → inventory_of image p < length image
    near_of some = map_near image valid_of p (omega (arith, some, of.count)) behind inside

    pub map_on : (map : Page) → IsMapOf image extent.count map → IsMapOf image p map
    map_on map is more = is more ∙ ap (λ (m : ℕ). page_at image (inventory_of image m)) of.count ∙ ap (page_at image) (sym (map_same image valid_of p behind inside))

-- the end of the group of a number
pub group_most : (m w : ℕ) → 0 < w → (m < (m / w + 1) * w) × ((m / w + 1) * w ≤ m + w)
group_most m w some =
    let here : (m / w) * w + m % w ≡ m = div-add-mod' m w in
    let rest : m % w < w = mod-lt m {m = w} some in
    let one : 1 * w ≡ w = omega arith in
    let end : (m / w + 1) * w ≡ (m / w) * w + 1 * w = add-mul (m / w) 1 w in
    (omega (arith, here, rest, one, end), omega (arith, here, one, end))
