-- The search for a free page: what it finds, and what one inventory page says of it.
use Rattle.std.proofs.Common.{◌≡◌, inl, inr, ℕ, zero, suc, ◌+◌, ◌-◌, ◌*◌, ◌/◌, ◌%◌, ◌<◌, ◌≤◌, length, get_or, refl, sym, ap, subst, ◌∙◌, arith, Bool, true, false, ◌==◌, Option, Some, None, MatchOption, min, max}
use Rattle.nb_alloc.proofs.Common.{mul-add-mod_self_right, mod-eq_of_lt, div-mul-add, true≢false, eqb_tells, leb_tells, bits_in, inventory_place, bit_of, inventory_kind, bits, AreUsed, get_or-bits, Page, Image, page_at, image_size, inventory_of, is_free_page, free_from, not_kind, AreTaken, IsFreeNear, IsMap, IsEnd, EndsAt}
use Rattle.nb_pip.specs.Bits.{IsLowestFree}

-- what the search from page p on finds, of which `left` pages are left to look at
pub record Finds (image : Image) (left p q : ℕ) : Type 0 where
  pub low : p ≤ q
  pub high : q ≤ p + left
  pub before : (r : ℕ) → p ≤ r → r < q → is_free_page image r ≡ false
  pub free : q < p + left → is_free_page image q ≡ true

pub finds : (left p : ℕ) (image : Image) → Finds image left p (free_from left p image)
unfolding free_from
finds zero p image = record { low = omega arith; high = omega arith; before = λ r l h. absurd (omega arith); free = λ h. absurd (omega arith) }
finds (suc left) p image = by (finds left (p + 1) image) (is_free_page image p) refl
  where
    by : Finds image left (p + 1) (free_from left (p + 1) image) → (t : Bool) → is_free_page image p ≡ t → Finds image (suc left) p (elim t as (λ z. ℕ) [ true ↦ p | false ↦ free_from left (p + 1) image ])
    by rest true e = record { low = omega arith; high = omega arith; before = λ r l h. absurd (omega arith); free = λ h. e }
    by rest false e =
        let low = rest.low in
        let high = rest.high in
        record {
          low = omega arith;
          high = omega arith;
          before = λ r l h. elim (eqb_tells r p) [ inl w ↦ ap (is_free_page image) w.1 ∙ e | inr w ↦ rest.before r (omega (arith, w.1)) h ];
          free = λ h. rest.free (omega arith);
        }

-- there is one such page
pub finds_one : (image : Image) (left p q r : ℕ) → Finds image left p q → Finds image left p r → q ≡ r
finds_one image left p q r a b = elim (leb_tells (suc q) r) [
  | inl w ↦ absurd (true≢false (sym (a.free (let h = b.high in omega (arith, w.1))) ∙ b.before q a.low w.1))
  | inr w ↦ elim (leb_tells (suc r) q) [
    | inl v ↦ absurd (true≢false (sym (b.free (let h = a.high in omega (arith, v.1))) ∙ a.before r b.low v.1))
    | inr v ↦ omega (arith, w.1, v.1)
  ]
]

-- the pages with their bits in one inventory page
in_group : (w k q : ℕ) → k * w ≤ q → q < k * w + w → (q / w ≡ k) × (q % w ≡ q - k * w)
in_group w k q low high =
    let j : ℕ = q - k * w in
    let inside : j < w = omega arith in
    let whole : q ≡ k * w + j = omega arith in
    (ap (λ (n : ℕ). n / w) whole ∙ div-mul-add k w j inside, ap (λ (n : ℕ). n % w) whole ∙ mul-add-mod_self_right k w j ∙ mod-eq_of_lt inside)

-- The inventory page that has the bit of page `from`, read into `map`.
module _ (image : Image) (size from : ℕ) (map : Page) (same : size ≡ image_size image) (page : map ≡ page_at image (inventory_of image from)) (long : length map ≡ size) where
  abbrev w : ℕ
  w = bits_in size

  abbrev k : ℕ
  k = from / w

  map_is : map ≡ page_at image (inventory_place size k)
  map_is = page ∙ ap (λ (s : ℕ). page_at image (inventory_place s (from / bits_in s))) (sym same)

  group_map : (q : ℕ) → k * w ≤ q → q < k * w + w → inventory_of image q ≡ inventory_of image from
  group_map q low high =
      ap (λ (s : ℕ). inventory_place s (q / bits_in s)) (sym same) ∙ ap (inventory_place size) (in_group w k q low high).0 ∙ ap (λ (s : ℕ). inventory_place s (from / bits_in s)) same

  -- it says which of its pages are free
  free_there : (q : ℕ) → k * w ≤ q → q < k * w + w → is_free_page image q ≡ (get_or (bits map) (q - k * w) 0 == 1)
  unfolding is_free_page
  free_there q low high =
      let group = in_group w k q low high in
      let inside : q - k * w < w = omega arith in
      ap (λ (s : ℕ). bit_of (page_at image (inventory_place s (q / bits_in s))) (q % bits_in s) == 1) (sym same)
      ∙ ap (λ (n : ℕ). bit_of (page_at image (inventory_place size n)) (q % w) == 1) group.0
      ∙ ap (λ (n : ℕ). bit_of (page_at image (inventory_place size k)) n == 1) group.1
      ∙ ap (λ (m : Page). bit_of m (q - k * w) == 1) (sym map_is)
      ∙ ap (λ (n : ℕ). n == 1) (sym (get_or-bits map (q - k * w) 0 (subst (λ (s : ℕ). q - k * w < bits_in s) (sym long) inside)))

  module _ (bit end count : ℕ) (least : 0 < w) (number : bit ≡ from % w) (ends : end ≡ min ((from / w + 1) * w) count) (counted : count ≡ length image) where
    first : from - bit ≡ k * w
    first = omega (arith, number)

    no_later : end ≤ k * w + w
    no_later = omega (arith, ends)

    -- the bits say taken
    taken_within : (below : ℕ) → below ≤ end - (from - bit) → AreUsed (bits map) bit below → (r : ℕ) → from ≤ r → r < k * w + below → is_free_page image r ≡ false
    taken_within below most used r low high =
        let start = first in
        let last = no_later in
        let behind : k * w ≤ from = omega (arith, number) in
        let at : k * w + bit ≡ from = omega (arith, number) in
        free_there r (omega arith) (omega arith) ∙ ap (λ (n : ℕ). n == 1) (used (r - k * w) 0 (omega arith) (omega arith))

    -- none of them is free
    pub none_near : AreUsed (bits map) bit (end - (from - bit)) → AreTaken image from ((from / w + 1) * w)
    none_near used r low high inside =
        let start = first in
        let more : (from / w + 1) * w ≡ k * w + w = omega arith in
        let behind : k * w ≤ from = omega (arith, number) in
        taken_within (end - (from - bit)) (omega arith) used r low (omega (arith, ends, counted))

    -- the lowest of them
    pub one_near : (free : ℕ) → IsLowestFree (bits map) bit (end - (from - bit)) free → IsFreeNear image from (from - bit + free)
    one_near free lowest =
        let start = first in
        let last = no_later in
        let inside = lowest.inside in
        let behind = lowest.not_before in
        let at : k * w + bit ≡ from = omega (arith, number) in
        let place : from - bit + free ≡ k * w + free = omega arith in
        let low : k * w ≤ from - bit + free = omega arith in
        let high : from - bit + free < k * w + w = omega arith in
        let back : from - bit + free - k * w ≡ free = omega arith in
        record {
          not_before = omega arith;
          below = omega (arith, ends, counted);
          same = group_map (from - bit + free) low high;
          free = free_there (from - bit + free) low high ∙ ap (λ (n : ℕ). get_or (bits map) n 0 == 1) back ∙ ap (λ (n : ℕ). n == 1) lowest.free;
          taken_before = λ r l h i. taken_within free (omega arith) lowest.used_before r l (omega arith);
        }

-- the search goes on after them
pub taken_on : (image : Image) (from page next : ℕ) → AreTaken image from page → AreTaken image page next → AreTaken image from next
taken_on image from page next before here r low high inside = elim (leb_tells (suc r) page) [ inl w ↦ before r low w.1 inside | inr w ↦ here r (omega (arith, w.1)) high inside ]

-- what was found near, where something was
pub some_near : (image : Image) (page behind free : ℕ) (found : Option ℕ) → found ≡ Some free → MatchOption found (AreTaken image page behind) (IsFreeNear image page) → IsFreeNear image page free
some_near image page behind free found e near = subst (λ (o : Option ℕ). MatchOption o (AreTaken image page behind) (IsFreeNear image page)) e near

-- where nothing was, the search goes on after the pages with their bits in that inventory page
pub taken_behind : (image : Image) (from page size read next : ℕ) (found : Option ℕ) → size ≡ read → next ≡ (page / bits_in size + 1) * bits_in size → found ≡ None → AreTaken image from page
    → MatchOption found (AreTaken image page ((page / bits_in read + 1) * bits_in read)) (IsFreeNear image page) → AreTaken image from next
taken_behind image from page size read next found same is none before near =
    let end : ℕ = (page / bits_in read + 1) * bits_in read in
    let here : AreTaken image page end = subst (λ (o : Option ℕ). MatchOption o (AreTaken image page end) (IsFreeNear image page)) none near in
    subst (AreTaken image from) (sym (is ∙ ap (λ (s : ℕ). (page / bits_in s + 1) * bits_in s) same)) (taken_on image from page end before here)

-- what it answers
pub found_near : (image : Image) (from page free : ℕ) → AreTaken image from page → from ≤ page → IsFreeNear image page free → free ≡ free_from (length image - from) from image
found_near image from page free before behind near =
    let low = near.not_before in
    let below = near.below in
    finds_one image (length image - from) from free (free_from (length image - from) from image)
    (record { low = omega arith; high = omega arith; before = λ r l h. taken_on image from page free before near.taken_before r l h (omega arith); free = λ h. near.free }) (finds (length image - from) from image)

pub found_none : (image : Image) (from page : ℕ) → AreTaken image from page → length image ≤ page → max from (length image) ≡ free_from (length image - from) from image
found_none image from page before end =
    finds_one image (length image - from) from (max from (length image)) (free_from (length image - from) from image)
    (record { low = omega arith; high = omega arith; before = λ r l h. before r l (omega arith) (omega arith); free = λ h. absurd (omega arith) }) (finds (length image - from) from image)

-- pages with their bits in one group have one inventory page
same_map : (image : Image) (size p q : ℕ) → size ≡ image_size image → p / bits_in size ≡ q / bits_in size → inventory_of image p ≡ inventory_of image q
same_map image size p q same e = ap (λ (s : ℕ). inventory_place s (p / bits_in s)) (sym same) ∙ ap (inventory_place size) e ∙ ap (λ (s : ℕ). inventory_place s (q / bits_in s)) same

map_of : (image : Image) (p q : ℕ) (map : Page) → inventory_of image q ≡ inventory_of image p → not_kind image inventory_kind (inventory_of image p) ≡ None → map ≡ page_at image (inventory_of image p) → IsMap image q map
map_of image p q map there kind page = record { kind = ap (λ (r : ℕ). not_kind image inventory_kind r) there ∙ kind; page = page ∙ ap (page_at image) (sym there) }

-- the inventory page that was read for page `page` is that of the page found near
pub map_near : (image : Image) (page free : ℕ) (map : Page) → IsFreeNear image page free → not_kind image inventory_kind (inventory_of image page) ≡ None → map ≡ page_at image (inventory_of image page) → IsEnd image free map
map_near image page free map near kind read =
    let low = near.below in
    let last : free ≡ min free (length image - 1) = omega arith in
    record { most = omega arith; last = subst (λ (q : ℕ). IsMap image q map) last (map_of image page free map near.same kind read) }

-- and that of the last page below the length before the group after
pub map_behind : (image : Image) (size page next : ℕ) (map : Page) → size ≡ image_size image → 0 < bits_in size → page < length image → next ≡ (page / bits_in size + 1) * bits_in size
    → not_kind image inventory_kind (inventory_of image page) ≡ None → map ≡ page_at image (inventory_of image page) → IsMap image (min next (length image) - 1) map
map_behind image size page next map same least low behind kind read =
    let w : ℕ = bits_in size in
    let k : ℕ = page / w in
    let q : ℕ = min next (length image) - 1 in
    let front : k * w ≤ page = omega arith in
    let back : page < k * w + w = omega (arith, least) in
    let more : (k + 1) * w ≡ k * w + w = omega arith in
    let start : k * w ≤ q = omega (arith, front, back, more, behind, low) in
    let end : q < k * w + w = omega (arith, front, back, more, behind, low) in
    map_of image page q map (same_map image size q page same (in_group w k q start end).0) kind read

-- at the length it is that of the last page
pub map_last : (image : Image) (from page p : ℕ) (map : Page) → length image ≤ page → p ≡ max from (length image) → (from < page → IsMap image (min page (length image) - 1) map) → EndsAt image from p map
map_last image from page p map end is looked inside =
    let last : min page (length image) - 1 ≡ min p (length image - 1) = omega arith in
    record { most = omega arith; last = subst (λ (q : ℕ). IsMap image q map) last (looked (omega arith)) }

-- How many inventory pages there are from that of page `from` on up to that of the last page before one, and up to that after the end.
abbrev pub maps_before : (w from page count : ℕ) → ℕ
maps_before w from page count = min (page / w) (count / w + 1) - from / w
