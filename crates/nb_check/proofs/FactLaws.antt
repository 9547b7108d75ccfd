-- Which is the lowest fact that one page breaks.
use Rattle.std.proofs.Common.{◌≡◌, ◌↔◌, ℕ, ◌%◌, ◌<◌, ◌≤◌, length, get_or, refl, sym, ap, subst, ◌∙◌, arith, IsTrue, Bool, true, false, Some, None, ◌&&◌, ◌||◌, ◌==◌, not, nat_lt}
use Rattle.nb_check.proofs.Common.{and_left, bit_at-lt, is_zeros, kind_of, stamp_of, bits_in, is_inventory_place, is_scn_place, bit_of, inventory_kind, scn_kind, get_or-bits, Page, Image, page_at, first_page, image_size, image_scn, inventory_of, bit_number, is_free_page, head_in, eq_no, eq_yes, lt_yes, lt_no, le_no, Fact, BlankPage, SystemPlace, TakenPast, LateStamp, WrongEntry, HeaderStamp, breaks, number_of, IsLowestAt, IsOf, Extent, le_yes, never}
use Rattle.nb_pip.specs.Bits.{bits}

-- the extent is that of the image, whichever page of its size says so
pub of_entries : (image : Image) (size other : ℕ) (extent : Extent) → other ≡ size → IsOf image size extent → IsOf image other extent
of_entries image size other extent same of = record { size = same ∙ of.size; count = of.count; scn = of.scn }

no_higher : (fact : Fact) → 6 < number_of fact → ⊥
no_higher BlankPage less = omega (arith, less)
no_higher SystemPlace less = omega (arith, less)
no_higher TakenPast less = omega (arith, less)
no_higher LateStamp less = omega (arith, less)
no_higher WrongEntry less = omega (arith, less)
no_higher HeaderStamp less = omega (arith, less)

module _ (image : Image) (p : ℕ) where
  -- it breaks this one, and none before it
  pub lowest_is : (fact : Fact) → breaks image fact p ≡ true → (1 < number_of fact → breaks image BlankPage p ≡ false) → (2 < number_of fact → breaks image SystemPlace p ≡ false) → (3 < number_of fact → breaks image TakenPast p ≡ false)
      → (4 < number_of fact → breaks image LateStamp p ≡ false) → (5 < number_of fact → breaks image WrongEntry p ≡ false) → IsLowestAt image p (Some fact)
  lowest_is fact holds one two three four five = (holds, before)
    where
      before : (f : Fact) → number_of f < number_of fact → breaks image f p ≡ false
      before BlankPage less = one less
      before SystemPlace less = two less
      before TakenPast less = three less
      before LateStamp less = four less
      before WrongEntry less = five less
      before HeaderStamp less = absurd (no_higher fact less)

  -- it breaks none
  pub lowest_not : breaks image BlankPage p ≡ false → breaks image SystemPlace p ≡ false → breaks image TakenPast p ≡ false → breaks image LateStamp p ≡ false → breaks image WrongEntry p ≡ false → breaks image HeaderStamp p ≡ false
      → IsLowestAt image p None
  lowest_not one two three four five six = each
    where
      each : (f : Fact) → breaks image f p ≡ false
      each BlankPage = one
      each SystemPlace = two
      each TakenPast = three
      each LateStamp = four
      each WrongEntry = five
      each HeaderStamp = six

  -- the facts of a page below the length
  module _ (low : p < length image) where
    below : nat_lt p (length image) ≡ true
    below = lt_yes p (length image) low

    pub blank_here : breaks image BlankPage p ≡ is_zeros (page_at image p)
    unfolding breaks
    blank_here = ap (λ (t : Bool). t && is_zeros (page_at image p)) below

    abbrev other_kind : Bool
    other_kind = (is_inventory_place (image_size image) p && not (kind_of (page_at image p) == inventory_kind)) || (is_scn_place (image_size image) p && not (kind_of (page_at image p) == scn_kind))

    pub place_here : breaks image SystemPlace p ≡ other_kind
    unfolding breaks
    place_here = ap (λ (t : Bool). t && other_kind) below

    pub past_here : breaks image TakenPast p ≡ false
    unfolding breaks
    past_here = and_left _ _ (le_no (length image) p low)

    pub late_here : breaks image LateStamp p ≡ nat_lt (image_scn image) (stamp_of (page_at image p))
    unfolding breaks
    late_here = ap (λ (t : Bool). t && nat_lt (image_scn image) (stamp_of (page_at image p))) below

    -- and so the lowest that it breaks
    abbrev is_late : Bool
    is_late = nat_lt (image_scn image) (stamp_of (page_at image p))

    pub lowest_blank : is_zeros (page_at image p) ≡ true → IsLowestAt image p (Some BlankPage)
    lowest_blank e = lowest_is BlankPage (blank_here ∙ e) (λ less. absurd (omega (arith, less))) (λ less. absurd (omega (arith, less))) (λ less. absurd (omega (arith, less))) (λ less. absurd (omega (arith, less))) (λ less. absurd (omega (arith, less)))

    module _ (some : is_zeros (page_at image p) ≡ false) where
      pub lowest_place : other_kind ≡ true → IsLowestAt image p (Some SystemPlace)
      lowest_place e =
          lowest_is SystemPlace (place_here ∙ e) (λ less. blank_here ∙ some) (λ less. absurd (omega (arith, less))) (λ less. absurd (omega (arith, less))) (λ less. absurd (omega (arith, less))) (λ less. absurd (omega (arith, less)))

      module _ (placed : other_kind ≡ false) where
        pub lowest_late : is_late ≡ true → IsLowestAt image p (Some LateStamp)
        lowest_late e = lowest_is LateStamp (late_here ∙ e) (λ less. blank_here ∙ some) (λ less. place_here ∙ placed) (λ less. past_here) (λ less. absurd (omega (arith, less))) (λ less. absurd (omega (arith, less)))

        module _ (early : is_late ≡ false) where
          pub lowest_entry : breaks image WrongEntry p ≡ true → IsLowestAt image p (Some WrongEntry)
          lowest_entry e = lowest_is WrongEntry e (λ less. blank_here ∙ some) (λ less. place_here ∙ placed) (λ less. past_here) (λ less. late_here ∙ early) (λ less. absurd (omega (arith, less)))

          module _ (entered : breaks image WrongEntry p ≡ false) where
            pub lowest_header : breaks image HeaderStamp p ≡ true → IsLowestAt image p (Some HeaderStamp)
            lowest_header e = lowest_is HeaderStamp e (λ less. blank_here ∙ some) (λ less. place_here ∙ placed) (λ less. past_here) (λ less. late_here ∙ early) (λ less. entered)

            pub lowest_none : breaks image HeaderStamp p ≡ false → IsLowestAt image p None
            lowest_none e = lowest_not (blank_here ∙ some) (place_here ∙ placed) past_here (late_here ∙ early) entered e

  -- the header is tested on page 0 alone
  pub header_only : (p ≡ 0 → ⊥) → breaks image HeaderStamp p ≡ false
  unfolding breaks
  header_only other = and_left _ _ (eq_no p 0 other)

  pub header_test : p ≡ 0 → breaks image HeaderStamp p ≡ not (stamp_of (page_at image p) == image_scn image)
  unfolding breaks
  header_test e =
      ap (λ (t : Bool). t && not (stamp_of (first_page image) == image_scn image)) (eq_yes p 0 e) ∙ ap (λ (q : ℕ). not (stamp_of (page_at image q) == image_scn image)) (sym e)

  -- and of one at or past the end
  module _ (some : 0 < length image) (past : length image ≤ p) where
    beyond : nat_lt p (length image) ≡ false
    beyond = lt_no p (length image) past

    pub blank_past : breaks image BlankPage p ≡ false
    unfolding breaks
    blank_past = and_left _ _ beyond

    pub place_past : breaks image SystemPlace p ≡ false
    unfolding breaks
    place_past = and_left _ _ beyond

    pub late_past : breaks image LateStamp p ≡ false
    unfolding breaks
    late_past = and_left _ _ beyond

    pub header_past : breaks image HeaderStamp p ≡ false
    unfolding breaks
    header_past = and_left _ _ (eq_no p 0 (λ e. omega (arith, e, some, past)))

    taken_there : inventory_of image p < length image → breaks image TakenPast p ≡ not (is_free_page image p)
    unfolding breaks
    taken_there there =
        ap (λ (t : Bool). t && (nat_lt (inventory_of image p) (length image) && not (is_free_page image p))) (le_yes (length image) p past)
        ∙ ap (λ (t : Bool). t && not (is_free_page image p)) (lt_yes (inventory_of image p) (length image) there)

    pub lowest_taken : inventory_of image p < length image → not (is_free_page image p) ≡ true → IsLowestAt image p (Some TakenPast)
    lowest_taken there e = lowest_is TakenPast (taken_there there ∙ e) (λ less. blank_past) (λ less. place_past) (λ less. absurd (omega (arith, less))) (λ less. absurd (omega (arith, less))) (λ less. absurd (omega (arith, less)))

    pub lowest_entry_past : inventory_of image p < length image → not (is_free_page image p) ≡ false → breaks image WrongEntry p ≡ true → IsLowestAt image p (Some WrongEntry)
    lowest_entry_past there free e = lowest_is WrongEntry e (λ less. blank_past) (λ less. place_past) (λ less. taken_there there ∙ free) (λ less. late_past) (λ less. absurd (omega (arith, less)))

    pub lowest_none_past : inventory_of image p < length image → not (is_free_page image p) ≡ false → breaks image WrongEntry p ≡ false → IsLowestAt image p None
    lowest_none_past there free e = lowest_not blank_past place_past (taken_there there ∙ free) late_past e header_past

-- what the head of a page holds
pub kind_in : (page : Page) → (head_in page).kind ≡ kind_of page
unfolding head_in
kind_in page = refl

pub used_is : (image : Image) (size p : ℕ) (map : Page) → size ≡ image_size image → map ≡ page_at image (inventory_of image p) → length map ≡ size → p % bits_in size < bits_in size
    → (used : Bool) → (IsTrue used ↔ (get_or (bits map) (p % bits_in size) 0 ≡ 0)) → used ≡ not (is_free_page image p)
unfolding is_free_page
used_is image size p map same page long inside used is = by used is
  where
    bit : ℕ
    bit = p % bits_in size

    read_is : get_or (bits map) (p % bits_in size) 0 ≡ bit_of map (p % bits_in size)
    read_is = get_or-bits map (p % bits_in size) 0 (subst (λ (s : ℕ). p % bits_in size < bits_in s) (sym long) inside)

    free_is : is_free_page image p ≡ (get_or (bits map) (p % bits_in size) 0 == 1)
    free_is =
        ap (λ (m : Page). bit_of m (bit_number image p) == 1) (sym page) ∙ ap (λ (s : ℕ). bit_of map (p % bits_in s) == 1) (sym same) ∙ ap (λ (n : ℕ). n == 1) (sym read_is)

    by : (u : Bool) → (IsTrue u ↔ (get_or (bits map) (p % bits_in size) 0 ≡ 0)) → u ≡ not (is_free_page image p)
    by true w = sym (ap not (free_is ∙ eq_no _ 1 (λ e. absurd (omega (arith, e, w.0 refl)))))
    by false w =
        let small : bit_of map (p % bits_in size) < 2 = bit_at-lt _ _ in
        let other : get_or (bits map) (p % bits_in size) 0 ≡ 0 → ⊥ = λ e. never (w.1 e) in
        sym (ap not (free_is ∙ eq_yes _ 1 (omega (arith, small, read_is, other))))
