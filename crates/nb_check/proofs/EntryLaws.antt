-- The SCN entry of a page: on which page it stands, and when it is wrong.
use Rattle.std.proofs.Common.{◌≡◌, inl, inr, ℕ, zero, suc, ◌+◌, ◌-◌, ◌*◌, ◌/◌, ◌%◌, ◌<◌, ◌≤◌, length, get_or, sym, ap, subst, ◌∙◌, arith, IsTrue, Bool, true, false, ◌&&◌, ◌||◌, ◌==◌, nat_lt, nat_le, refl}
use Rattle.nb_check.proofs.Common.{mod-lt, div-mul-add, div-add-mod', and_left, and_parts, or_cases, cases_Bool, cases_lt, eqb-true, stamp_of, entry_of, is_page_size, entries_in, scn_place, is_scn_place, entries-least, entries, Page, Image, page_at, image_size, image_scn, scn_page_of, entry_number, scn_entry, has_entry, eq_no, eq_yes, lt_yes, lt_no, le_no, WrongEntry, breaks, le_yes, or_true, and_right}
use Rattle.nb_scn.proofs.EntryLaws.{get_or-entries}

-- Where the entries stand.
module _ (size : ℕ) (valid : IsTrue (is_page_size size)) where
  abbrev each : ℕ
  each = entries_in size

  least : 248 ≤ each
  least = entries-least size valid

  parts : (p : ℕ) → (p / each) * each + p % each ≡ p
  parts p = div-add-mod' p each

  small : (p : ℕ) → p % each < each
  small p = mod-lt p {m = each} (let some = least in omega (arith, some))

  -- the entry of a page below the end stands below the end
  pub place_below : (p n : ℕ) → p < n → 2 < n → scn_place size (p / each) < n
  place_below p n low more = by (p / each) (parts p)
    where
      by : (k : ℕ) → k * each + p % each ≡ p → scn_place size k < n
      by zero is = more
      by (suc k) is = omega (arith, is, low)

  -- That of a page at or past the end does where it is one of the last page's group,
  pub place_same : (p n : ℕ) → 2 < n → p / each ≡ (n - 1) / each → scn_place size (p / each) < n
  place_same p n more same = subst (λ (k : ℕ). scn_place size k < n) (sym same) (place_below (n - 1) n (omega (arith, more)) more)

  quotient : (k r : ℕ) → r < each → (k * each + r) / each ≡ k
  quotient k r low = div-mul-add k each r low

  pub same_below : (p n : ℕ) → n ≤ p → 2 < n → scn_place size (p / each) < n → p / each ≡ (n - 1) / each
  same_below p n past more low = by (p / each) (parts p) low
    where
      by : (k : ℕ) → k * each + p % each ≡ p → scn_place size k < n → k ≡ (n - 1) / each
      by zero is low =
          let rest = small p in
          let here : n - 1 ≡ 0 * each + (n - 1) = omega arith in
          sym (ap (λ (m : ℕ). m / each) here ∙ quotient 0 (n - 1) (omega (arith, is, rest, past, more)))
      by (suc k) is low =
          let rest = small p in
          let here : n - 1 ≡ suc k * each + (n - 1 - suc k * each) = omega (arith, low) in
          sym (ap (λ (m : ℕ). m / each) here ∙ quotient (suc k) (n - 1 - suc k * each) (omega (arith, is, rest, past, low)))

  -- and else not
  pub place_other : (p n : ℕ) → n ≤ p → 2 < n → (p / each ≡ (n - 1) / each → ⊥) → n ≤ scn_place size (p / each)
  place_other p n past more other = elim (cases_lt (scn_place size (p / each)) n) [ inl low ↦ absurd (other (same_below p n past more low)) | inr high ↦ omega (arith, high) ]

  -- two pages have no SCN page
  pub place_few : (k n : ℕ) → n ≤ 2 → n ≤ scn_place size k
  place_few zero n few = few
  place_few (suc k) n few = (let some = least in omega (arith, some, few))

  no_place : (p n : ℕ) → n ≤ p → 2 < n → p / each ≡ (n - 1) / each → is_scn_place size p ≡ true → ⊥
  unfolding is_scn_place
  no_place p n past more same holds = elim (or_cases (p == 2) (nat_lt 0 p && p % each == 0) holds) [
    | inl two ↦ (let at : p ≡ 2 = eqb-true p 2 two in omega (arith, at, past, more))
    | inr both ↦
        (let none : p % each ≡ 0 = eqb-true (p % each) 0 (and_parts (nat_lt 0 p) (p % each == 0) both).1 in
        let here = parts p in
        let last = parts (n - 1) in
        let group : (p / each) * each ≡ ((n - 1) / each) * each = ap (λ (k : ℕ). k * each) same in
        omega (arith, none, here, last, group, past, more))
  ]

  -- such a page is no SCN page itself
  pub plain_past : (p n : ℕ) → n ≤ p → 2 < n → p / each ≡ (n - 1) / each → is_scn_place size p ≡ false
  plain_past p n past more same = elim (cases_Bool (is_scn_place size p)) [ inl holds ↦ absurd (no_place p n past more same holds) | inr fails ↦ fails ]

module _ (image : Image) (p : ℕ) where
  -- page 0 and the SCN pages have none
  pub no_entry_first : p ≡ 0 → has_entry image p ≡ false
  unfolding has_entry
  no_entry_first e = ap (λ (t : Bool). elim (t || is_scn_place (image_size image) p) as (λ z. Bool) [ true ↦ false | false ↦ true ]) (eq_yes p 0 e)

  pub no_entry_place : is_scn_place (image_size image) p ≡ true → has_entry image p ≡ false
  unfolding has_entry
  no_entry_place place = ap (λ (t : Bool). elim (p == 0 || t) as (λ z. Bool) [ true ↦ false | false ↦ true ]) place ∙ ap (λ (t : Bool). elim t as (λ z. Bool) [ true ↦ false | false ↦ true ]) (or_true (p == 0))

  pub entry_there : (p ≡ 0 → ⊥) → is_scn_place (image_size image) p ≡ false → has_entry image p ≡ true
  unfolding has_entry
  entry_there some plain =
      ap (λ (t : Bool). elim (t || is_scn_place (image_size image) p) as (λ z. Bool) [ true ↦ false | false ↦ true ]) (eq_no p 0 some) ∙ ap (λ (t : Bool). elim t as (λ z. Bool) [ true ↦ false | false ↦ true ]) plain

  -- a page that has no entry has no wrong one
  pub wrong_none : has_entry image p ≡ false → breaks image WrongEntry p ≡ false
  unfolding breaks
  wrong_none none = and_left _ _ none

  abbrev low_by : (below beyond low : Bool) → Bool
  low_by below beyond low = below && (beyond || low)

  -- below the end
  pub wrong_here : has_entry image p ≡ true → p < length image → scn_page_of image p < length image
      → breaks image WrongEntry p ≡ (nat_lt (scn_entry image p) (stamp_of (page_at image p)) || nat_lt (image_scn image) (scn_entry image p))
  unfolding breaks
  wrong_here has below there =
      ap (λ (t : Bool). t && (low_by (nat_lt p (length image)) (nat_le (length image) (scn_page_of image p)) (nat_lt (scn_entry image p) (stamp_of (page_at image p))) || (nat_lt (scn_page_of image p) (length image) && nat_lt (image_scn image) (scn_entry image p)))) has
      ∙ ap (λ (t : Bool). low_by t (nat_le (length image) (scn_page_of image p)) (nat_lt (scn_entry image p) (stamp_of (page_at image p))) || (nat_lt (scn_page_of image p) (length image) && nat_lt (image_scn image) (scn_entry image p))) (lt_yes p (length image) below)
      ∙ ap (λ (t : Bool). (t || nat_lt (scn_entry image p) (stamp_of (page_at image p))) || (nat_lt (scn_page_of image p) (length image) && nat_lt (image_scn image) (scn_entry image p))) (le_no (length image) (scn_page_of image p) there)
      ∙ ap (λ (t : Bool). nat_lt (scn_entry image p) (stamp_of (page_at image p)) || (t && nat_lt (image_scn image) (scn_entry image p))) (lt_yes (scn_page_of image p) (length image) there)

  -- its SCN page isn't there
  pub wrong_short : has_entry image p ≡ true → p < length image → length image ≤ scn_page_of image p → breaks image WrongEntry p ≡ true
  unfolding breaks
  wrong_short has below far =
      ap (λ (t : Bool). t && (low_by (nat_lt p (length image)) (nat_le (length image) (scn_page_of image p)) (nat_lt (scn_entry image p) (stamp_of (page_at image p))) || (nat_lt (scn_page_of image p) (length image) && nat_lt (image_scn image) (scn_entry image p)))) has
      ∙ ap (λ (t : Bool). low_by t (nat_le (length image) (scn_page_of image p)) (nat_lt (scn_entry image p) (stamp_of (page_at image p))) || (nat_lt (scn_page_of image p) (length image) && nat_lt (image_scn image) (scn_entry image p))) (lt_yes p (length image) below)
      ∙ ap (λ (t : Bool). (t || nat_lt (scn_entry image p) (stamp_of (page_at image p))) || (nat_lt (scn_page_of image p) (length image) && nat_lt (image_scn image) (scn_entry image p))) (le_yes (length image) (scn_page_of image p) far)

  -- at or past the end
  pub wrong_past : has_entry image p ≡ true → length image ≤ p → scn_page_of image p < length image → breaks image WrongEntry p ≡ nat_lt (image_scn image) (scn_entry image p)
  unfolding breaks
  wrong_past has past there =
      ap (λ (t : Bool). t && (low_by (nat_lt p (length image)) (nat_le (length image) (scn_page_of image p)) (nat_lt (scn_entry image p) (stamp_of (page_at image p))) || (nat_lt (scn_page_of image p) (length image) && nat_lt (image_scn image) (scn_entry image p)))) has
      ∙ ap (λ (t : Bool). low_by t (nat_le (length image) (scn_page_of image p)) (nat_lt (scn_entry image p) (stamp_of (page_at image p))) || (nat_lt (scn_page_of image p) (length image) && nat_lt (image_scn image) (scn_entry image p))) (lt_no p (length image) past)
      ∙ ap (λ (t : Bool). t && nat_lt (image_scn image) (scn_entry image p)) (lt_yes (scn_page_of image p) (length image) there)

  pub wrong_far : length image ≤ p → length image ≤ scn_page_of image p → breaks image WrongEntry p ≡ false
  unfolding breaks
  wrong_far past far =
      ap (λ (t : Bool). has_entry image p && (low_by t (nat_le (length image) (scn_page_of image p)) (nat_lt (scn_entry image p) (stamp_of (page_at image p))) || (nat_lt (scn_page_of image p) (length image) && nat_lt (image_scn image) (scn_entry image p)))) (lt_no p (length image) past)
      ∙ ap (λ (t : Bool). has_entry image p && (t && nat_lt (image_scn image) (scn_entry image p))) (lt_no (scn_page_of image p) (length image) far) ∙ and_right (has_entry image p) false refl

-- The entry is read from its SCN page.
pub entry_read : (image : Image) (p size : ℕ) (scn_page : Page) → IsTrue (is_page_size size) → size ≡ image_size image → length scn_page ≡ size → scn_page ≡ page_at image (scn_page_of image p) → get_or (entries scn_page) (p % entries_in size) 0 ≡ scn_entry image p
unfolding scn_entry
entry_read image p size scn_page valid same long is =
    let few : p % entries_in (length scn_page) < entries_in (length scn_page) = subst (λ (s : ℕ). p % entries_in s < entries_in s) (sym long) (small size valid p) in
    ap (λ (s : ℕ). get_or (entries scn_page) (p % entries_in s) 0) (sym long) ∙ get_or-entries scn_page (p % entries_in (length scn_page)) few
    ∙ ap (λ (s : ℕ). entry_of scn_page (p % entries_in s)) (long ∙ same) ∙ ap (λ (page : Page). entry_of page (entry_number image p)) is
