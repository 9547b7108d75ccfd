-- Where the SCN entry of a page stands, and which pages need none.
use Rattle.std.proofs.Common.{◌≡◌, ◌⊎◌, inl, inr, ℕ, zero, suc, ◌*◌, ◌/◌, ◌%◌, ◌<◌, ◌≤◌, length, refl, sym, ap, ◌∙◌, arith, Bool, true, false, slice_index, IsTrue, ◌==◌, ◌||◌, not, nat_lt}
use Rattle.nb_copy.proofs.Common.{div-eq_of_lt, mod-eq-sub-div-mul, div-mul-le_self, or_right, is_page_size, entries_in, scn_place, is_scn_place, size_facts, Page, Image, image_size, page_at, may_have_changed, entries, other-with, scn_page_of, scn_entry, has_entry, scn_page-is, entry-is, scn_place_of}
use Rattle.nb_model.proofs.ReadLaws.{lt_no}

-- an SCN page that isn't the first stands at the first page that it has an entry for
pub own_place : (size p : ℕ) → 1 ≤ p → p % entries_in size ≡ 0 → scn_place size (p / entries_in size) ≡ p
own_place size p some first =
    by (p / entries_in size) (omega (arith, mod-eq-sub-div-mul p (entries_in size), div-mul-le_self p (entries_in size), first))
  where
    by : (q : ℕ) → q * entries_in size ≡ p → scn_place size q ≡ p
    by zero is = absurd (omega (arith, is, some))
    by (suc q) is = is

-- the first stands at page 2
pub first_place : (size p : ℕ) → p < entries_in size → scn_place size (p / entries_in size) ≡ 2
first_place size p low = ap (scn_place size) (div-eq_of_lt low)

-- where the SCN page is that is read
pub loaded_place : (image : Image) (size p k index place : ℕ) → size ≡ image_size image → IsTrue (is_page_size size) → 1 ≤ p → k ≡ p / entries_in size → index ≡ p % entries_in size → place ≡ scn_place size k → (p ≡ 1) ⊎ (index ≡ 0)
    → 5 ≤ length image → p < length image → (place ≡ scn_page_of image p) × (place < length image)
loaded_place image size p k index place same is some cover number at (inl one) least low =
    let facts = size_facts size is in
    let two : place ≡ 2 = at ∙ ap (scn_place size) cover ∙ first_place size p (omega (arith, facts.at_least, one)) in
    (scn_page-is image size k p place same cover at, omega (arith, two, least))
loaded_place image size p k index place same is some cover number at (inr none) least low =
    let here : place ≡ p = at ∙ ap (scn_place size) cover ∙ own_place size p some (sym number ∙ none) in
    (scn_page-is image size k p place same cover at, omega (arith, here, low))

-- an SCN page's entries are in itself
pub own_page : (image : Image) (size p : ℕ) → size ≡ image_size image → IsTrue (is_page_size size) → is_scn_place size p ≡ true → scn_page_of image p ≡ p
own_page image size p same is place = ap (λ n. scn_place n (p / entries_in n)) (sym same) ∙ scn_place_of size p is place

-- page 0 and an SCN page have no entry, and may have changed
may_none : (image : Image) (scn p : ℕ) → (p == 0 || is_scn_place (image_size image) p) ≡ true → may_have_changed image scn p ≡ true
unfolding may_have_changed has_entry
may_none image scn p none = ap (λ (t : Bool). not (elim t as (λ z. Bool) [ true ↦ false | false ↦ true ]) || nat_lt scn (scn_entry image p)) none

pub may_first : (image : Image) (scn : ℕ) → may_have_changed image scn 0 ≡ true
may_first image scn = may_none image scn 0 refl

pub may_place : (image : Image) (size scn p : ℕ) → size ≡ image_size image → is_scn_place size p ≡ true → may_have_changed image scn p ≡ true
may_place image size scn p same place = may_none image scn p (or_right (p == 0) (is_scn_place (image_size image) p) (ap (λ n. is_scn_place n p) (sym same) ∙ place))

-- a page whose entry isn't above an SCN hasn't changed since
pub entry_low : (image : Image) (size p index scn value : ℕ) (old : Page) → size ≡ image_size image → index ≡ p % entries_in size → size ≡ length old → index < entries_in size → old ≡ page_at image (scn_page_of image p)
    → value ≡ slice_index (entries old) index → value ≤ scn → 1 ≤ p → is_scn_place size p ≡ false → may_have_changed image scn p ≡ false
unfolding may_have_changed
entry_low image size p index scn value old same number long inside is found low some other =
    let known : slice_index (entries old) index ≡ scn_entry image p = entry-is image size p index old same number long inside is in
    let has : has_entry image p ≡ true = other-with image p size same (λ e. absurd (omega (arith, e, some))) other in
    ap (λ (t : Bool). not t || nat_lt scn (scn_entry image p)) has ∙ lt_no scn (scn_entry image p) (omega (arith, known, found, low))
