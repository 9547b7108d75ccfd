-- A pass goes on by one page.
use Rattle.std.proofs.Common.{◌≡◌, inl, inr, ℕ, zero, suc, ◌+◌, ◌-◌, ◌*◌, ◌/◌, ◌%◌, ◌<◌, ◌≤◌, refl, sym, ap, subst, ◌∙◌, arith, IsTrue, Bool, true, false, Option, Some, None, ◌⊎◌, ◌==◌}
use Rattle.nb_check.proofs.Common.{mod-lt, div-mul-add, mod-mul-add, div-add-mod', and_parts, or_cases, or_parts, or_right, and_from, true≢false, cases_lt, ltb-true, eqb-true, is_page_size, bits_in, entries_in, inventory_place, scn_place, is_inventory_place, is_scn_place, entries-least, bits-least, Page, Image, page_at, image_size, eq_yes, lt_yes, Fact, Broken, breaks, number_of, IsLowestAt, IsFirstBelow, IsMapOf, HasEntryOf}

pub below_more : (p n : ℕ) → p < n + 1 → (p < n) ⊎ (p ≡ n)
below_more p n low = elim (cases_lt p n) [ inl less ↦ inl less | inr other ↦ inr (omega (arith, low, other)) ]

-- page n breaks nothing
pub first_still : (image : Image) (n : ℕ) (broken : Option Broken) → IsFirstBelow image n broken → IsLowestAt image n None → IsFirstBelow image (n + 1) broken
first_still image n None first none = λ f p low. elim (below_more p n low) [ inl less ↦ first f p less | inr same ↦ ap (breaks image f) same ∙ none f ]
first_still image n (Some b) first none = (
  first.0,
  (let below = first.1 in omega (arith, below)),
  λ f p low before. elim (below_more p n low) [ inl less ↦ first.2 f p less before | inr same ↦ ap (breaks image f) same ∙ none f ],
)

-- what it breaks comes after
pub first_kept : (image : Image) (n : ℕ) (b : Broken) (fact : Fact) → IsFirstBelow image n (Some b) → IsLowestAt image n (Some fact) → number_of b.fact ≤ number_of fact → IsFirstBelow image (n + 1) (Some b)
first_kept image n b fact first lowest least = (
  first.0,
  (let below = first.1 in omega (arith, below)),
  λ f p low before. elim (below_more p n low) [
    | inl less ↦ first.2 f p less before
    | inr same ↦ elim before [
      | inl number ↦ ap (breaks image f) same ∙ lowest.1 f (omega (arith, number, least))
      | inr both ↦ absurd (let below = first.1 in let less = both.1 in omega (arith, below, less, same))
    ]
  ],
)

abbrev this : Fact → ℕ → Broken
this fact n = record { fact = fact; page = n }

-- what it breaks comes before
pub first_begun : (image : Image) (n : ℕ) (fact : Fact) → IsFirstBelow image n None → IsLowestAt image n (Some fact) → IsFirstBelow image (n + 1) (Some (this fact n))
first_begun image n fact first lowest = (
  lowest.0,
  omega arith,
  λ f p low before. elim (below_more p n low) [
    | inl less ↦ first f p less
    | inr same ↦ elim before [
      | inl number ↦ ap (breaks image f) same ∙ lowest.1 f number
      | inr both ↦ absurd (let less = both.1 in omega (arith, less, same))
    ]
  ],
)

pub first_lower : (image : Image) (n : ℕ) (b : Broken) (fact : Fact) → IsFirstBelow image n (Some b) → IsLowestAt image n (Some fact) → number_of fact < number_of b.fact → IsFirstBelow image (n + 1) (Some (this fact n))
first_lower image n b fact first lowest lower = (
  lowest.0,
  omega arith,
  λ f p low before. elim (below_more p n low) [
    | inl less ↦ elim before [
      | inl number ↦ first.2 f p less (inl (omega (arith, number, lower)))
      | inr both ↦ (let same : number_of f ≡ number_of fact = ap number_of both.0 in first.2 f p less (inl (omega (arith, same, lower))))
    ]
    | inr same ↦ elim before [
      | inl number ↦ ap (breaks image f) same ∙ lowest.1 f number
      | inr both ↦ absurd (let less = both.1 in omega (arith, less, same))
    ]
  ],
)

-- A number by its quotient and rest, and the next one.
module _ (w p : ℕ) (some : 1 < w) where
  abbrev q : ℕ
  q = p / w

  abbrev r : ℕ
  r = p % w

  parts : q * w + r ≡ p
  parts = div-add-mod' p w

  small : r < w
  small = mod-lt p {m = w} (omega (arith, some))

  -- it stays in the same group, or begins the next one
  pub same_group : r + 1 < w → ((p + 1) / w ≡ q) × ((p + 1) % w ≡ r + 1)
  same_group low =
      let e : p + 1 ≡ q * w + (r + 1) = (let is = parts in omega (arith, is)) in
      (ap (λ (n : ℕ). n / w) e ∙ div-mul-add q w (r + 1) low, ap (λ (n : ℕ). n % w) e ∙ mod-mul-add q w (r + 1) low)

  pub next_group : r + 1 ≡ w → ((p + 1) / w ≡ suc q) × ((p + 1) % w ≡ 0) × (p + 1 ≡ suc q * w)
  next_group last =
      let e : p + 1 ≡ suc q * w + 0 = (let is = parts in omega (arith, is, last)) in
      (ap (λ (n : ℕ). n / w) e ∙ div-mul-add (suc q) w 0 (omega (arith, some)), ap (λ (n : ℕ). n % w) e ∙ mod-mul-add (suc q) w 0 (omega (arith, some)), omega (arith, e))

  pub groups : (r + 1 < w) ⊎ (r + 1 ≡ w)
  groups = elim (cases_lt (r + 1) w) [ inl low ↦ inl low | inr other ↦ inr (let less = small in omega (arith, less, other)) ]

-- The page inventory page of the next page is this one, or the same.
module _ (size p : ℕ) (valid : IsTrue (is_page_size size)) where
  abbrev bits : ℕ
  bits = bits_in size

  many : 1 < bits
  many = (let least = bits-least size valid in omega (arith, least))

  no_place : (p + 1) % bits ≡ 0 → is_inventory_place size p ≡ true
  unfolding is_inventory_place
  no_place e = or_right (p == 1) _ (eq_yes _ _ e)

  place_is : is_inventory_place size p ≡ true → (p ≡ 1) ⊎ ((p + 1) % bits ≡ 0)
  unfolding is_inventory_place
  place_is holds = elim (or_cases _ _ holds) [ inl e ↦ inl (eqb-true _ _ e) | inr e ↦ inr (eqb-true _ _ e) ]

  pub map_kept : is_inventory_place size p ≡ false → inventory_place size ((p + 1) / bits) ≡ inventory_place size (p / bits)
  map_kept fails = elim (groups bits p many) [
    | inl low ↦ ap (inventory_place size) (same_group bits p many low).0
    | inr last ↦ absurd (true≢false (sym (no_place (next_group bits p many last).1) ∙ fails))
  ]

  first_map : p ≡ 1 → inventory_place size ((p + 1) / bits) ≡ p
  first_map e =
      let least = bits-least size valid in
      let here : p + 1 ≡ 0 * bits + 2 = omega (arith, e) in
      let two : (p + 1) / bits ≡ 0 = ap (λ (n : ℕ). n / bits) here ∙ div-mul-add 0 bits 2 (omega (arith, least)) in
      ap (inventory_place size) two ∙ sym e

  pub map_made : is_inventory_place size p ≡ true → inventory_place size ((p + 1) / bits) ≡ p
  map_made holds = elim (place_is holds) [
    | inl one ↦ first_map one
    | inr none ↦ elim (groups bits p many) [
      | inl low ↦ absurd (let other = (same_group bits p many low).1 in omega (arith, none, other))
      | inr last ↦
          (let group = next_group bits p many last in
          ap (inventory_place size) group.0 ∙ (let is = group.2 in omega (arith, is)))
    ]
  ]

-- The SCN page of a page is that page, or the same as of the page before.
module _ (size p : ℕ) (valid : IsTrue (is_page_size size)) where
  abbrev each : ℕ
  each = entries_in size

  enough : 1 < each
  enough = (let least = entries-least size valid in omega (arith, least))

  scn_made_at : (k : ℕ) → k * each + 0 ≡ p → 0 < p → scn_place size (p / each) ≡ p
  scn_made_at zero e some = absurd (omega (arith, e, some))
  scn_made_at (suc k) e some =
      let quotient : p / each ≡ suc k = ap (λ (n : ℕ). n / each) (sym e) ∙ div-mul-add (suc k) each 0 (let more = enough in omega (arith, more)) in
      ap (scn_place size) quotient ∙ omega (arith, e)

  pub entry_made : is_scn_place size p ≡ true → scn_place size (p / each) ≡ p
  unfolding is_scn_place
  entry_made holds = elim (or_cases _ _ holds) [
    | inl e ↦
        (let two : p ≡ 2 = eqb-true _ _ e in
        let least = entries-least size valid in
        let here : p ≡ 0 * each + 2 = omega (arith, two) in
        ap (λ (n : ℕ). scn_place size (n / each)) here ∙ ap (scn_place size) (div-mul-add 0 each 2 (omega (arith, least))) ∙ sym two)
    | inr e ↦
        (let both = and_parts _ _ e in
        let rest : p % each ≡ 0 = eqb-true _ _ both.1 in
        scn_made_at (p / each) (ap (λ (n : ℕ). (p / each) * each + n) (sym rest) ∙ div-add-mod' p each) (ltb-true _ _ both.0))
  ]

pub entry_kept : (size p : ℕ) → IsTrue (is_page_size size) → is_scn_place size p ≡ false → scn_place size (p / entries_in size) ≡ scn_place size ((p - 1) / entries_in size)
unfolding is_scn_place
entry_kept size zero valid fails = refl
entry_kept size (suc n) valid fails =
    let w : ℕ = entries_in size in
    let some : 1 < w = (let least = entries-least size valid in omega (arith, least)) in
    let next : suc n ≡ n + 1 = omega arith in
    let before : suc n - 1 ≡ n = omega arith in
    elim (groups w n some) [
      | inl low ↦ ap (λ (m : ℕ). scn_place size (m / w)) next ∙ ap (scn_place size) (same_group w n some low).0 ∙ ap (λ (m : ℕ). scn_place size (m / w)) (sym before)
      | inr last ↦
          absurd (true≢false (sym (and_from _ _ (lt_yes 0 (suc n) (omega arith)) (eq_yes _ _ (ap (λ (m : ℕ). m % w) next ∙ (next_group w n some last).1))) ∙ (or_parts _ _ fails).1))
    ]

-- so the pages that are kept are those of the next page
pub map_next : (image : Image) (p : ℕ) (map : Page) → IsTrue (is_page_size (image_size image)) → is_inventory_place (image_size image) p ≡ false → IsMapOf image p map → IsMapOf image (p + 1) map
map_next image p map valid fails is more = is more ∙ ap (page_at image) (sym (map_kept (image_size image) p valid fails))

pub map_here : (image : Image) (p : ℕ) (map : Page) → IsTrue (is_page_size (image_size image)) → is_inventory_place (image_size image) p ≡ true → map ≡ page_at image p → IsMapOf image (p + 1) map
map_here image p map valid holds is more = is ∙ ap (page_at image) (sym (map_made (image_size image) p valid holds))

pub entries_next : (image : Image) (p : ℕ) (entries : Page) → IsTrue (is_page_size (image_size image)) → is_scn_place (image_size image) p ≡ false → HasEntryOf image (p - 1) entries → HasEntryOf image p entries
entries_next image p entries valid fails is more = is more ∙ ap (page_at image) (sym (entry_kept (image_size image) p valid fails))

pub entries_here : (image : Image) (p : ℕ) (entries : Page) → IsTrue (is_page_size (image_size image)) → is_scn_place (image_size image) p ≡ true → entries ≡ page_at image p → HasEntryOf image p entries
entries_here image p entries valid holds is more = is ∙ ap (page_at image) (sym (entry_made (image_size image) p valid holds))

-- one of the pages is wanted, and kept
pub entries_kept : (image : Image) (p : ℕ) (page old new : Page) (wanted : Bool) → IsTrue (is_page_size (image_size image)) → wanted ≡ is_scn_place (image_size image) p → (wanted ≡ true → new ≡ page) → (wanted ≡ false → new ≡ old) → page ≡ page_at image p
    → HasEntryOf image (p - 1) old → HasEntryOf image p new
entries_kept image p page old new true valid is here there at has = entries_here image p new valid (sym is) (here refl ∙ at)
entries_kept image p page old new false valid is here there at has = subst (HasEntryOf image p) (sym (there refl)) (entries_next image p old valid (sym is) has)

pub map_kept_on : (image : Image) (p : ℕ) (page old new : Page) (wanted : Bool) → IsTrue (is_page_size (image_size image)) → wanted ≡ is_inventory_place (image_size image) p → (wanted ≡ true → new ≡ page) → (wanted ≡ false → new ≡ old) → page ≡ page_at image p
    → IsMapOf image p old → IsMapOf image (p + 1) new
map_kept_on image p page old new true valid is here there at has = map_here image p new valid (sym is) (here refl ∙ at)
map_kept_on image p page old new false valid is here there at has = subst (IsMapOf image (p + 1)) (sym (there refl)) (map_next image p old valid (sym is) has)

-- the first of both kinds
zero_group : (w : ℕ) → 0 < w → 0 / w ≡ 0
zero_group w some = let zeros : 0 ≡ 0 * w + 0 = omega arith in ap (λ (m : ℕ). m / w) zeros ∙ div-mul-add 0 w 0 some

pub first_map_is : (size : ℕ) → IsTrue (is_page_size size) → inventory_place size (0 / bits_in size) ≡ 1
first_map_is size valid = ap (inventory_place size) (zero_group (bits_in size) (let least = bits-least size valid in omega (arith, least)))

pub first_entries_are : (size : ℕ) → IsTrue (is_page_size size) → scn_place size (0 / entries_in size) ≡ 2
first_entries_are size valid = ap (scn_place size) (zero_group (entries_in size) (let least = entries-least size valid in omega (arith, least)))
