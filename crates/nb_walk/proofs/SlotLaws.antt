-- The slots of a page, one by one.
use Rattle.std.proofs.Common.{◌≡◌, ◌≢◌, ℕ, zero, suc, ◌+◌, ◌-◌, ◌*◌, ◌/◌, ◌<◌, ◌≤◌, List, [], ◌∷◌, length, get_or, refl, sym, ap, ◌∙◌, arith, Bool, true, false, ◌&&◌, ◌||◌, slice_index}
use Rattle.nb_walk.proofs.Common.{list_all, number_of, number_in, part, Page, Chain, Slot, is_used, is_filled, is_slot, slots_from, slots_in, eq_no, eq_yes}
use Rattle.std.proofs.lemmas.Bool.{and_parts}

-- a number of one byte is that byte
pub byte_at : (at : ℕ) (bytes : List ℕ) → number_in at 1 bytes ≡ get_or bytes at 0
unfolding number_in number_of
byte_at zero [] = refl
byte_at zero (b ∷ bs) = omega arith
byte_at (suc at) [] = refl
byte_at (suc at) (b ∷ bs) = byte_at at bs

-- a slot is within its page
pub slot_inside : (n count slot : ℕ) → count ≡ (n - 32) / 256 → slot < count → 288 + 256 * slot ≤ n
slot_inside n count slot many low =
    let all : 256 * ((n - 32) / 256) ≤ n - 32 = omega arith in
    omega (arith, many, low, all)

-- the slots of a page from one on are that one and those after it
pub slots_step : (page : Page) (count slot : ℕ) → slot < count → slots_from (count - slot) (32 + 256 * slot) page ≡ part (32 + 256 * slot) 256 page ∷ slots_from (count - (slot + 1)) (32 + 256 * (slot + 1)) page
unfolding slots_from
slots_step page count slot low =
    let one : count - slot ≡ suc (count - (slot + 1)) = omega (arith, low) in
    let next : 32 + 256 * slot + 256 ≡ 32 + 256 * (slot + 1) = omega arith in
    ap (λ (n : ℕ). slots_from n (32 + 256 * slot) page) one ∙ ap (λ (a : ℕ). part (32 + 256 * slot) 256 page ∷ slots_from (count - (slot + 1)) a page) next

-- The slots of a page from one on, by a test.
module _ (test : Slot → Bool) (page : Page) (count slot : ℕ) (low : slot < count) where
  abbrev here : Slot
  here = part (32 + 256 * slot) 256 page

  abbrev these : List Slot
  these = slots_from (count - slot) (32 + 256 * slot) page

  abbrev rest : List Slot
  rest = slots_from (count - (slot + 1)) (32 + 256 * (slot + 1)) page

  parted : list_all test these ≡ (test here && list_all test rest)
  parted = ap (list_all test) (slots_step page count slot low)

  pub test_here : (whole : Bool) → whole ≡ list_all test these → test here ≡ false → whole ≡ false
  test_here whole is bad = is ∙ parted ∙ ap (λ (t : Bool). t && list_all test rest) bad

  pub test_next : (whole : Bool) → whole ≡ list_all test these → test here ≡ true → whole ≡ list_all test rest
  test_next whole is good = is ∙ parted ∙ ap (λ (t : Bool). t && list_all test rest) good

  -- where all pass
  pub passes_here : list_all test these ≡ true → test here ≡ true
  passes_here all = (and_parts (test here) (list_all test rest) (sym parted ∙ all)).0

  pub passes_next : list_all test these ≡ true → list_all test rest ≡ true
  passes_next all = (and_parts (test here) (list_all test rest) (sym parted ∙ all)).1

pub test_first : (test : Slot → Bool) (page : Page) (count : ℕ) → count ≡ (length page - 32) / 256 → list_all test (slots_in page) ≡ list_all test (slots_from (count - 0) 32 page)
unfolding slots_in
test_first test page count many =
    let all : (length page - 32) / 256 ≡ count - 0 = omega (arith, many) in
    ap (λ (n : ℕ). list_all test (slots_from n 32 page)) all

pub test_last : (test : Slot → Bool) (whole : Bool) (page : Page) (count slot : ℕ) → count ≤ slot → whole ≡ list_all test (slots_from (count - slot) (32 + 256 * slot) page) → whole ≡ true
unfolding slots_from
test_last test whole page count slot far is =
    let none : count - slot ≡ 0 = omega (arith, far) in
    is ∙ ap (λ (n : ℕ). list_all test (slots_from n (32 + 256 * slot) page)) none

-- whether a slot is of the form, by its first byte
module _ (chain : Chain) (slot : Slot) where
  abbrev first : ℕ
  first = slice_index slot 0

  pub slot_free : first ≡ 0 → is_slot chain slot ≡ true
  unfolding is_slot
  slot_free e = ap (λ (t : Bool). t || (is_used slot && is_filled chain slot)) (eq_yes first 0 e)

  by_use : first ≢ 0 → is_slot chain slot ≡ (is_used slot && is_filled chain slot)
  unfolding is_slot
  by_use e = ap (λ (t : Bool). t || (is_used slot && is_filled chain slot)) (eq_no first 0 e)

  pub slot_used : first ≡ 1 → is_slot chain slot ≡ is_filled chain slot
  slot_used e = by_use (λ d. absurd (omega (arith, d, e))) ∙ ap (λ (t : Bool). t && is_filled chain slot) (eq_yes first 1 e)

  pub slot_other : first ≢ 0 → first ≢ 1 → is_slot chain slot ≡ false
  slot_other no_zero no_one = by_use no_zero ∙ ap (λ (t : Bool). t && is_filled chain slot) (eq_no first 1 no_one)

  -- a slot of the form that isn't free is used
  pub used_of : is_slot chain slot ≡ true → first ≢ 0 → is_used slot ≡ true
  used_of form e = (and_parts (is_used slot) (is_filled chain slot) (sym (by_use e) ∙ form)).0

  pub filled_of : is_slot chain slot ≡ true → first ≢ 0 → is_filled chain slot ≡ true
  filled_of form e = (and_parts (is_used slot) (is_filled chain slot) (sym (by_use e) ∙ form)).1
