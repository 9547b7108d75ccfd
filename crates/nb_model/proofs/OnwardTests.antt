-- What the search for a new page needs next, told on the image as it stood before.
use Rattle.std.proofs.Common.{◌≡◌, ◌≢◌, inl, inr, ℕ, ◌+◌, ◌-◌, ◌/◌, ◌<◌, ◌≤◌, List, [], ◌++◌, length, refl, sym, ap, subst, ◌∙◌, arith, Bool, true, false, ◌==◌, ◌||◌, ◌&&◌, nat_lt, IsTrue, Option}
use Rattle.nb_model.proofs.Common.{eqb-true, eqb-false, ltb-true, ltb-false, eqb_tells, leb_tells, is_page_size, entries_in, bits_in, inventory_place, is_inventory_place, is_scn_place, is_system_place, most_pages, bits-least, scn_place-some, inventory_kind, scn_kind, Image, image_size, HasItsEntry, is_kind, inventory_of, scn_page_of, lowest_free, free_from, Need, first_not, maps_from, entry_page, is_kept, needed_at, next_place, maps_on, entry_on, map_entry_on, needed_on}
use Rattle.nb_model.proofs.SoundLaws.{inventory_place_some, scn_page_there, inventory_there}
use Rattle.nb_model.proofs.NeedLaws.{first_behind, first_append, behind_none, maps_found, maps_alike, maps_split, entry_moves, first_none, entry_found, entry_alike, ready_none}
use Rattle.nb_model.proofs.FirstFree.{IsLowestFree, free_from_is, lowest_one, lowest_is}
use Rattle.nb_model.proofs.PlaceOrder.{div_rises, map_places_from, map_place_is, maps_rise, map_behind, scn_behind}
use Rattle.nb_model.proofs.OnwardLaws.{IsOnTheWay}

-- a page where no system page stands
pub plain_from : (size p : ℕ) → is_inventory_place size p ≡ false → is_scn_place size p ≡ false → is_system_place size p ≡ false
unfolding is_system_place
plain_from size p e f = ap (λ (t : Bool). t || is_scn_place size p) e ∙ f

module _ (old now : Image) (from made fresh : ℕ) (way : IsOnTheWay old now from made fresh) where
  abbrev size : ℕ
  size = image_size old

  abbrev w : ℕ
  w = bits_in size

  is_size : IsTrue (is_page_size size)
  is_size = subst (λ (s : ℕ). IsTrue (is_page_size s)) way.size way.shaped.size

  some_bits : 0 < w
  some_bits = omega (arith, bits-least size is_size)

  -- a page from there on with its bit in the fresh inventory page: so has the first
  fresh_first : (q : ℕ) → from ≤ q → inventory_of old q ≡ fresh → inventory_of old from ≡ fresh
  fresh_first q behind own =
      let low = way.fresh_before in
      let some : fresh ≢ 0 = λ e. absurd (omega (arith, e, own, inventory_place_some size (q / w) is_size)) in
      omega (arith, own, maps_rise size from q is_size behind, map_behind size fresh from is_size (way.fresh_place some) low)

  next_lowest : (t : Bool) → (inventory_of old from == fresh) ≡ t → IsLowestFree now 5 (length now) (elim t as (λ z. ℕ) [ true ↦ from | false ↦ free_from (length old - from) from old ])
  next_lowest true e =
      let own : inventory_of old from ≡ fresh = eqb-true (inventory_of old from) fresh e in
      let long = way.long in
      record { low = way.five; high = omega (arith, long); before = λ q five low. way.taken q five low; free = λ low. way.fresh_bits from (omega arith) low own }
  next_lowest false e =
      let found : IsLowestFree old from (from + (length old - from)) (free_from (length old - from) from old) = free_from_is (length old - from) from old in
      let low = found.low in
      let high = found.high in
      let five = way.five in
      let long = way.long in
      let other : (q : ℕ) → from ≤ q → inventory_of old q ≢ fresh = λ q behind own. eqb-false (inventory_of old from) fresh e (fresh_first q behind own) in
      record {
        low = omega (arith, low, five);
        high = omega (arith, high, long);
        before = λ q least below. elim (leb_tells from q) [
          | inl v ↦ way.bits q v.1 (omega (arith, below, high, v.1)) (other q v.1) ∙ found.before q v.1 below
          | inr v ↦ way.taken q least v.1
        ];
        free = λ below. way.bits (free_from (length old - from) from old) low (omega (arith, below, long, low)) (other (free_from (length old - from) from old) low) ∙ found.free (omega (arith, below, long, low));
      }

  pub next_is : lowest_free now ≡ next_place old from fresh
  next_is = lowest_one now 5 (length now) (lowest_free now) (next_place old from fresh) (lowest_is now (let five = way.five in let long = way.long in omega (arith, five, long))) (next_lowest (inventory_of old from == fresh) refl)

  -- an entry's SCN page is of its kind in both, or in neither
  pub entry_same : (q : ℕ) → made ≤ q → first_not now (entry_page now q) ≡ first_not old (entry_on old made q)
  entry_same q behind = ap (first_not now) page_is ∙ by (scn_page_of old q == made) refl
    where
      page_is : entry_page now q ≡ entry_page old q
      page_is = entry_moves old now q way.size

      s : ℕ
      s = scn_page_of old q

      at : is_scn_place size s ≡ true
      at = scn_page_there size (q / entries_in size) is_size

      later : s ≢ made → made < s
      later other = elim (eqb_tells made 0) [
        | inl e ↦ omega (arith, e.1, scn_place-some size (q / entries_in size) is_size)
        | inr e ↦ omega (arith, scn_behind size made q is_size (way.made_place e.1) behind, other)
      ]

      by : (t : Bool) → (scn_page_of old q == made) ≡ t → first_not now (entry_page old q) ≡ first_not old (elim t as (λ z. List Need) [ true ↦ [] | false ↦ entry_page old q ])
      by true e =
          let same : s ≡ made = eqb-true s made e in
          let some : made ≢ 0 = λ none. absurd (omega (arith, none, same, scn_place-some size (q / entries_in size) is_size)) in
          entry_found now old q (ap (is_kind now scn_kind) same ∙ way.made_page some) ∙ sym (first_none old)
      by false e = entry_alike now old q (way.entries s at (later (eqb-false s made e)))

  -- the search was there before
  pub map_entry_same : (p : ℕ) → from ≤ p → first_not now (entry_page now (inventory_of now p)) ≡ first_not old (map_entry_on old from made p)
  map_entry_same p behind = ap (λ (q : ℕ). first_not now (entry_page now q)) same ∙ by (nat_lt 5 from) (inventory_of old p == inventory_of old (from - 1)) refl refl
    where
      same : inventory_of now p ≡ inventory_of old p
      same = ap (λ (s : ℕ). inventory_place s (p / bits_in s)) way.size

      i : ℕ
      i = inventory_of old p

      -- asked for
      there : 5 < from → i ≡ inventory_of old (from - 1) → HasItsEntry now i
      there more e = subst (HasItsEntry now) (ap (λ (s : ℕ). inventory_place s ((from - 1) / bits_in s)) way.size ∙ sym e) (way.asked more)

      -- or new
      made_low : (5 < from → i ≢ inventory_of old (from - 1)) → made ≤ i
      made_low other = elim (eqb_tells made 0) [
        | inl e ↦ omega (arith, e.1)
        | inr e ↦
            let five = way.five in
            let before = way.made_before in
            let more : 5 < from = omega (arith, way.made_five e.1, before) in
            let rise = maps_rise size (from - 1) p is_size (omega (arith, behind)) in
            elim (leb_tells (from - 1) i) [
              | inl v ↦ omega (arith, v.1, before)
              | inr v ↦ absurd (omega (arith, other more, rise, map_behind size i (from - 1) is_size (inventory_there size (p / w) is_size) v.1))
            ]
      ]

      fresh_one : (5 < from → i ≢ inventory_of old (from - 1)) → first_not now (entry_page now i) ≡ first_not old (entry_on old made i)
      fresh_one other = entry_same i (made_low other)

      by : (t u : Bool) → nat_lt 5 from ≡ t → (inventory_of old p == inventory_of old (from - 1)) ≡ u
          → first_not now (entry_page now i) ≡ first_not old (elim (nat_lt 5 from && inventory_of old p == inventory_of old (from - 1)) as (λ z. List Need) [ true ↦ [] | false ↦ entry_on old made i ])
      by true true e f =
          ready_none now i (there (ltb-true 5 from e) (eqb-true i (inventory_of old (from - 1)) f)) ∙ sym (first_none old)
          ∙ ap (λ (b : Bool). first_not old (elim b as (λ z. List Need) [ true ↦ [] | false ↦ entry_on old made i ])) (sym (ap (λ (b : Bool). b && inventory_of old p == inventory_of old (from - 1)) e ∙ f))
      by true false e f =
          fresh_one (λ more. eqb-false i (inventory_of old (from - 1)) f)
          ∙ ap (λ (b : Bool). first_not old (elim b as (λ z. List Need) [ true ↦ [] | false ↦ entry_on old made i ])) (sym (ap (λ (b : Bool). b && inventory_of old p == inventory_of old (from - 1)) e ∙ f))
      by false u e f =
          fresh_one (λ more. absurd (omega (arith, more, ltb-false 5 from e)))
          ∙ ap (λ (b : Bool). first_not old (elim b as (λ z. List Need) [ true ↦ [] | false ↦ entry_on old made i ])) (sym (ap (λ (b : Bool). b && inventory_of old p == inventory_of old (from - 1)) e))

  -- page p is the system page of its place in both, or in neither
  pub kept_same : (p : ℕ) → from ≤ p → is_kept now p ≡ is_kept old p
  unfolding is_kept
  kept_same p behind =
      ap (λ (s : ℕ). is_system_place s p && is_kind now (elim (is_inventory_place s p) as (λ z. ℕ) [ true ↦ 2 | false ↦ 10 ]) p) way.size
      ∙ by (is_inventory_place size p) refl (is_scn_place size p) refl
    where
      map_there : is_inventory_place size p ≡ true → is_kind now inventory_kind p ≡ is_kind old inventory_kind p
      map_there at =
          let place : inventory_place size ((p + 1) / w) ≡ p = map_place_is size p is_size at in
          let low = way.fresh_before in
          ap (is_kind now inventory_kind) (sym place)
          ∙ way.ahead ((p + 1) / w) (div_rises from (p + 1) w some_bits (omega (arith, behind))) (λ e. absurd (omega (arith, e, place, low, behind)))
          ∙ ap (is_kind old inventory_kind) place

      entry_there : is_scn_place size p ≡ true → is_kind now scn_kind p ≡ is_kind old scn_kind p
      entry_there at = let low = way.made_before in way.entries p at (omega (arith, low, behind))

      with : Bool → Bool → Bool
      with t b = t && b

      none : is_inventory_place size p ≡ false → is_scn_place size p ≡ false → is_system_place size p ≡ false
      none e f = plain_from size p e f

      by : (t : Bool) → is_inventory_place size p ≡ t → (u : Bool) → is_scn_place size p ≡ u
          → (is_system_place size p && is_kind now (elim (is_inventory_place size p) as (λ z. ℕ) [ true ↦ 2 | false ↦ 10 ]) p) ≡ (is_system_place size p && is_kind old (elim (is_inventory_place size p) as (λ z. ℕ) [ true ↦ 2 | false ↦ 10 ]) p)
      by true e u f =
          ap (λ (t : Bool). is_system_place size p && is_kind now (elim t as (λ z. ℕ) [ true ↦ 2 | false ↦ 10 ]) p) e ∙ ap (λ (b : Bool). is_system_place size p && b) (map_there e)
          ∙ ap (λ (t : Bool). is_system_place size p && is_kind old (elim t as (λ z. ℕ) [ true ↦ 2 | false ↦ 10 ]) p) (sym e)
      by false e true f =
          ap (λ (t : Bool). is_system_place size p && is_kind now (elim t as (λ z. ℕ) [ true ↦ 2 | false ↦ 10 ]) p) e ∙ ap (λ (b : Bool). is_system_place size p && b) (entry_there f)
          ∙ ap (λ (t : Bool). is_system_place size p && is_kind old (elim t as (λ z. ℕ) [ true ↦ 2 | false ↦ 10 ]) p) (sym e)
      by false e false f =
          ap (λ (b : Bool). b && is_kind now (elim (is_inventory_place size p) as (λ z. ℕ) [ true ↦ 2 | false ↦ 10 ]) p) (none e f)
          ∙ ap (λ (b : Bool). b && is_kind old (elim (is_inventory_place size p) as (λ z. ℕ) [ true ↦ 2 | false ↦ 10 ]) p) (sym (none e f))

  -- the inventory pages that are still to be read
  pub maps_same : (p : ℕ) → from ≤ p → p ≡ next_place old from fresh → first_not now (maps_from size (p / w + 1) 0) ≡ first_not old (maps_on old from fresh p)
  maps_same p behind at =
      ap (first_not now) (ap (λ (n : ℕ). maps_from size n 0) split ∙ maps_split size (from / w) (p / w + 1 - from / w) 0)
      ∙ first_append now (maps_from size (from / w) 0) (maps_from size (p / w + 1 - from / w) (0 + from / w))
      ∙ ap (λ (o : Option ℕ). first_behind o (first_not now (maps_from size (p / w + 1 - from / w) (0 + from / w)))) (maps_found now size (from / w) 0 (λ j low high. way.maps j (omega (arith, high))))
      ∙ behind_none (first_not now (maps_from size (p / w + 1 - from / w) (0 + from / w)))
      ∙ ap (λ (k : ℕ). first_not now (maps_from size (p / w + 1 - from / w) k)) (let e : 0 + from / w ≡ from / w = omega arith in e)
      ∙ by (inventory_of old from == fresh) refl at
    where
      before : from / w ≤ p / w
      before = div_rises from p w some_bits behind

      split : p / w + 1 ≡ from / w + (p / w + 1 - from / w)
      split = omega (arith, before)

      other : inventory_of old from ≢ fresh → (j : ℕ) → from / w ≤ j → inventory_place size j ≢ fresh
      other ne j low own =
          let some : fresh ≢ 0 = λ e. absurd (omega (arith, e, own, inventory_place_some size j is_size)) in
          let first = way.fresh_before in
          ne (omega (arith, own, map_places_from size (from / w) j is_size low, map_behind size fresh from is_size (way.fresh_place some) first))

      by : (t : Bool) → (inventory_of old from == fresh) ≡ t → p ≡ (elim t as (λ z. ℕ) [ true ↦ from | false ↦ free_from (length old - from) from old ])
          → first_not now (maps_from size (p / w + 1 - from / w) (from / w)) ≡ first_not old (elim t as (λ z. List Need) [ true ↦ [] | false ↦ maps_from size (p / w + 1 - from / w) (from / w) ])
      by true e same =
          let own : inventory_of old from ≡ fresh = eqb-true (inventory_of old from) fresh e in
          let some : fresh ≢ 0 = λ none. absurd (omega (arith, none, own, inventory_place_some size (from / w) is_size)) in
          let one : p / w ≡ from / w = ap (λ (n : ℕ). n / w) same in
          maps_found now size (p / w + 1 - from / w) (from / w) (λ j low high. ap (λ (k : ℕ). is_kind now inventory_kind (inventory_place size k)) (omega (arith, low, high, one)) ∙ ap (is_kind now inventory_kind) own ∙ way.fresh_map some)
          ∙ sym (first_none old)
      by false e same = maps_alike now old size (p / w + 1 - from / w) (from / w) (λ j low high. way.ahead j low (other (eqb-false (inventory_of old from) fresh e) j low))

  -- so what the new page needs is tested alike
  pub needs_same : (p : ℕ) → from ≤ p → p ≡ next_place old from fresh → first_not now (needed_at now p) ≡ first_not old (needed_on old from made fresh p)
  unfolding needed_at
  needs_same p behind at =
      ap (λ (s : ℕ). first_not now (maps_from s (p / bits_in s + 1) 0 ++ rest_now)) way.size
      ∙ first_append now (maps_from size (p / w + 1) 0) rest_now
      ∙ ap (λ (o : Option ℕ). first_behind o (first_not now rest_now)) (maps_same p behind at)
      ∙ ap (first_behind (first_not old (maps_on old from fresh p))) (rest_same (p == most_pages))
      ∙ sym (first_append old (maps_on old from fresh p) (rest_old (p == most_pages)))
    where
      rest_now : List Need
      rest_now = elim (p == most_pages) [ true ↦ [] | false ↦ entry_page now (inventory_of now p) ++ elim (is_kept now p) [ true ↦ [] | false ↦ entry_page now p ] ]

      rest_old : Bool → List Need
      rest_old t = elim t [ true ↦ [] | false ↦ map_entry_on old from made p ++ elim (is_kept old p) [ true ↦ [] | false ↦ entry_on old made p ] ]

      own_now : Bool → List Need
      own_now t = elim t [ true ↦ [] | false ↦ entry_page now p ]

      own_old : Bool → List Need
      own_old t = elim t [ true ↦ [] | false ↦ entry_on old made p ]

      own_same : (t : Bool) → first_not now (own_now t) ≡ first_not old (own_old t)
      own_same true = first_none now ∙ sym (first_none old)
      own_same false = let low = way.made_before in entry_same p (omega (arith, low, behind))

      rest_same : (t : Bool) → first_not now (elim t as (λ z. List Need) [ true ↦ [] | false ↦ entry_page now (inventory_of now p) ++ own_now (is_kept now p) ]) ≡ first_not old (rest_old t)
      rest_same true = first_none now ∙ sym (first_none old)
      rest_same false =
          first_append now (entry_page now (inventory_of now p)) (own_now (is_kept now p))
          ∙ ap (λ (o : Option ℕ). first_behind o (first_not now (own_now (is_kept now p)))) (map_entry_same p behind)
          ∙ ap (λ (t : Bool). first_behind (first_not old (map_entry_on old from made p)) (first_not now (own_now t))) (kept_same p behind)
          ∙ ap (first_behind (first_not old (map_entry_on old from made p))) (own_same (is_kept old p))
          ∙ sym (first_append old (map_entry_on old from made p) (own_old (is_kept old p)))
