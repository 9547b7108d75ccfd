-- How many pages the copy of a level reads.
use Rattle.std.proofs.Common.{◌≡◌, ◌⊎◌, inl, inr, ℕ, zero, suc, ◌+◌, ◌%◌, ◌<◌, ◌≤◌, length, refl, sym, ap, ◌∙◌, arith, Bool, true, false, IsTrue, ◌==◌, ◌||◌, not, nat_lt, slice_index}
use Rattle.nb_copy.proofs.Common.{and_from, and_left, and_parts, or_left, or_right, ne_eqb, eq-eqb, lt-ltb, mod-eq_of_lt, is_page_size, entries_in, is_scn_place, size_facts, Page, Image, image_size, page_at, has_entry, scn_entry, scn_page_of, may_have_changed, entries, other-with, entry-is, is_above, loads_entries, one_if, reads_at, sum_below}

-- the turn of a page that reads an SCN page
loads_true : (size p index : ℕ) → index ≡ p % entries_in size → (p ≡ 1) ⊎ (index ≡ 0) → one_if (loads_entries size p) ≡ 1
unfolding loads_entries
loads_true size p index is (inl one) = ap one_if (or_left (p == 1) (p % entries_in size == 0) (eq-eqb p 1 one))
loads_true size p index is (inr none) = ap one_if (or_right (p == 1) (p % entries_in size == 0) (eq-eqb (p % entries_in size) 0 (sym is ∙ none)))

pub loads_seen : (size p bytes at index : ℕ) → bytes ≡ size → at ≡ p → index ≡ at % entries_in bytes → (at ≡ 1) ⊎ (index ≡ 0) → one_if (loads_entries size p) ≡ 1
loads_seen size p bytes at index same is number either =
    ap (λ n. one_if (loads_entries n p)) (sym same) ∙ ap (λ m. one_if (loads_entries bytes m)) (sym is) ∙ loads_true bytes at index number either

-- what the turn of page 0 reads, and that of a page after it
pub reads_first : (image : Image) (scn p : ℕ) → p ≡ 0 → reads_at image scn p ≡ 1
unfolding reads_at
reads_first image scn p is = ap (reads_at image scn) is

pub reads_behind : (image : Image) (scn p : ℕ) → 1 ≤ p → reads_at image scn p ≡ one_if (loads_entries (image_size image) p) + one_if (is_above image scn p)
unfolding reads_at
reads_behind image scn zero some = absurd (omega (arith, some))
reads_behind image scn (suc k) some = refl

-- it reads an SCN page, if it is to, and the page itself where its entry is above the SCN
pub reads_least : (image : Image) (scn p size : ℕ) → size ≡ image_size image → 1 ≤ p → one_if (loads_entries size p) ≤ reads_at image scn p
reads_least image scn p size same some =
    let is = ap (λ n. one_if (loads_entries n p)) same in
    omega (arith, is, reads_behind image scn p some)

pub reads_both : (image : Image) (scn p size : ℕ) → size ≡ image_size image → 1 ≤ p → is_above image scn p ≡ true → one_if (loads_entries size p) + 1 ≤ reads_at image scn p
reads_both image scn p size same some above =
    let is = ap (λ n. one_if (loads_entries n p)) same in
    omega (arith, is, ap one_if above, reads_behind image scn p some)

-- a page that was found to have an entry above the SCN
pub entry_above : (image : Image) (size p index scn value : ℕ) (old : Page) → size ≡ image_size image → index ≡ p % entries_in size → size ≡ length old → index < entries_in size → old ≡ page_at image (scn_page_of image p)
    → value ≡ slice_index (entries old) index → scn < value → 1 ≤ p → is_scn_place size p ≡ false → is_above image scn p ≡ true
unfolding is_above
entry_above image size p index scn value old same number long inside is found high some other =
    let known : slice_index (entries old) index ≡ scn_entry image p = entry-is image size p index old same number long inside is in
    and_from (has_entry image p) (nat_lt scn (scn_entry image p)) (other-with image p size same (λ e. absurd (omega (arith, e, some))) other)
    (lt-ltb scn (scn_entry image p) (omega (arith, known, found, high)))

-- so it may have changed since
pub above_may : (image : Image) (scn p : ℕ) → is_above image scn p ≡ true → may_have_changed image scn p ≡ true
unfolding is_above may_have_changed
above_may image scn p above = or_right (not (has_entry image p)) (nat_lt scn (scn_entry image p)) (and_parts (has_entry image p) (nat_lt scn (scn_entry image p)) above).1

-- page 0 and SCN pages have no entry
none_above : (image : Image) (scn p : ℕ) → has_entry image p ≡ false → one_if (is_above image scn p) ≡ 0
unfolding is_above
none_above image scn p none = ap one_if (and_left (has_entry image p) (nat_lt scn (scn_entry image p)) none)

entry_none : (image : Image) (p : ℕ) → (p == 0 || is_scn_place (image_size image) p) ≡ true → has_entry image p ≡ false
unfolding has_entry
entry_none image p is = ap (λ (t : Bool). elim t as (λ z. Bool) [ true ↦ false | false ↦ true ]) is

module _ (image : Image) (scn : ℕ) (is : IsTrue (is_page_size (image_size image))) where
  abbrev size : ℕ
  size = image_size image

  wide : 3 ≤ entries_in size
  wide = let facts = size_facts size is in omega (arith, facts.at_least)

  abbrev A : ℕ → ℕ
  A p = one_if (is_above image scn p)

  abbrev B : ℕ → ℕ
  B p = one_if (is_scn_place size p)

  abbrev C : ℕ → ℕ
  C p = one_if (loads_entries size p)

  -- a number that isn't 0 and is below the number of entries is no multiple of it
  no_multiple : (p : ℕ) → 1 ≤ p → p < entries_in size → (p % entries_in size == 0) ≡ false
  no_multiple p some low = ne_eqb (p % entries_in size) 0 (λ e. absurd (omega (arith, some, e, mod-eq_of_lt low)))

  -- after page 2 an SCN page is read where one stands
  at_place : (p : ℕ) → 3 ≤ p → C p ≡ B p
  unfolding loads_entries is_scn_place
  at_place p far =
      let one = ne_eqb p 1 (λ e. absurd (omega (arith, e, far))) in
      let two = ne_eqb p 2 (λ e. absurd (omega (arith, e, far))) in
      let some : nat_lt 0 p ≡ true = lt-ltb 0 p (omega (arith, far)) in
      rw (one, two, some) refl

  one_none : B 1 ≡ 0
  unfolding is_scn_place
  one_none = ap one_if (no_multiple 1 (omega arith) (omega (arith, wide)))

  two_none : C 2 ≡ 0
  unfolding loads_entries
  two_none = ap one_if (no_multiple 2 (omega arith) (omega (arith, wide)))

  first_loads : C 1 ≡ 1
  unfolding loads_entries
  first_loads = refl

  two_place : B 2 ≡ 1
  unfolding is_scn_place
  two_place = refl

  zero_place : B 0 ≡ 0
  unfolding is_scn_place
  zero_place = refl

  zero_above : A 0 ≡ 0
  zero_above = none_above image scn 0 (entry_none image 0 refl)

  two_above : A 2 ≡ 0
  unfolding is_scn_place
  two_above = none_above image scn 2 (entry_none image 2 refl)

  -- the turns of so many pages
  front : (k : ℕ) → sum_below (suc (suc (suc k))) (reads_at image scn) ≡ sum_below (suc (suc (suc k))) A + sum_below (suc (suc (suc k))) B + 1
  unfolding sum_below
  front zero =
      omega (arith, reads_first image scn 0 refl, reads_behind image scn 1 (omega arith), reads_behind image scn 2 (omega arith), zero_place, zero_above, one_none, first_loads, two_none, two_place, two_above)
  front (suc k) =
      let p : ℕ = suc (suc (suc k)) in
      omega (arith, front k, reads_behind image scn p (omega arith), at_place p (omega arith))

  pub reads_all : (n : ℕ) → 3 ≤ n → sum_below n (reads_at image scn) ≡ sum_below n A + sum_below n B + 1
  reads_all zero far = absurd (omega (arith, far))
  reads_all (suc zero) far = absurd (omega (arith, far))
  reads_all (suc (suc zero)) far = absurd (omega (arith, far))
  reads_all (suc (suc (suc k))) far = front k

-- a sum of what is no more is no more
pub sum_most : (n : ℕ) (f g : ℕ → ℕ) → ((p : ℕ) → p < n → f p ≤ g p) → sum_below n f ≤ sum_below n g
unfolding sum_below
sum_most zero f g most = omega arith
sum_most (suc k) f g most = omega (arith, sum_most k f g (λ p low. most p (omega (arith, low))), most k (omega arith))
