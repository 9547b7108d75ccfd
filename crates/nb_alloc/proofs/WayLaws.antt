-- The search for new pages on a database that nothing was written to yet: it is refused as the draft of the new page is.
use Rattle.std.proofs.Common.{◌≡◌, ◌≢◌, inl, inr, ℕ, zero, suc, ◌+◌, ◌-◌, ◌/◌, ◌<◌, ◌≤◌, List, [], ◌∷◌, length, refl, sym, ap, subst, ◌∙◌, arith, Bool, true, false, ◌==◌, IsTrue, Option, Some, None, Result, Ok, Err, IsErr, IsErrAnd}
use Rattle.nb_alloc.proofs.Common.{Fault, Device, Memory, passed_on, Tested, true≢false, eqb-true, eqb_tells, leb_tells, is_page_size, bits_in, inventory_place, is_inventory_place, is_scn_place, is_system_place, most_pages, Refusal, NotDatabase, Full, Image, image_size, Draft, drafted, no_page, is_kind, is_free_page, inventory_of, put, take_page, lowest_free, free_from, system_kind, first_not, maps_from, needed_at, new_within, new_page, when, first_cause, lowest_broken, bits-least, inventory_kind, scn_kind, joined_new, plain_place, places_apart, eq_yes, IsLowestFree, free_from_is, lowest_is, div_rises, map_place_is, IsReady, Visits, system_visits, plain_visits, next_place, needed_on, IsMadeBehind, same_made, made_here, IsFreshBehind, same_fresh, fresh_here, IsOnTheWay, way_begins, way_further, inventory_place_some, first_behind, first_append, behind_none, first_none, maps_found, draft_cause, last_map, Met, met, round_at, try_stops, try_full, try_more, try_last, clear_cause, joined_cause, need_cause, way_cause, Behind, IsKnown, gone, IsSearchable, Searches, AtPlace, AtKnown, GoesTo, IsShort, Finds, Refuses, EndsBy, first_here, first_next, some_none, no_cause, none_some}
use Rattle.nb_host.specs.declared.faults.Fault.TheVariants.{Refused as RefusedFault}
use Rattle.nb_model.proofs.OnwardTests.{next_is, needs_same}
use Rattle.nb_alloc.proofs.BehindLaws.{known_plain, known_gone}
use Rattle.nb_alloc.proofs.PassLaws.{place_free}
use Rattle.nb_alloc.proofs.FullLaws.{three_apart}

-- the cause of a draft that ends at a page, and of one for which no page is left
pub stopped_cause : (x : Image) (q : ℕ) → draft_cause (record (drafted x) { broken = q ∷ [] }) ≡ Some (NotDatabase q)
unfolding first_cause lowest_broken
stopped_cause x q = refl

pub full_cause : (x : Image) → draft_cause (no_page (drafted x)) ≡ Some (Full most_pages)
unfolding first_cause lowest_broken
full_cause x = refl

pub search_begins : (old start : Image) (from made fresh : ℕ) → IsOnTheWay old start from made fresh → Searches old start start from from made fresh (length start + 4)
search_begins old start from made fresh way =
    let long = way.long in
    let five = way.five in
    record {
      way = way;
      longer = omega (arith, long);
      five = five;
      near = omega (arith, long);
      places = λ q low high. absurd (omega (arith, low, high, long));
      enough = omega arith;
      rests = λ kind payload. record { cause = refl; image = refl; number = refl };
    }

module _ (old start now : Image) (first from made fresh left : ℕ) (s : Searches old start now first from made fresh (suc left)) (most : length old ≤ most_pages) (p : ℕ) (at : p ≡ next_place old from fresh) where
  abbrev size : ℕ
  size = image_size old

  way : IsOnTheWay old now from made fresh
  way = s.way

  lowest : lowest_free now ≡ p
  lowest = next_is old now from made fresh way ∙ sym at

  found : IsLowestFree now 5 (length now) p
  found = subst (IsLowestFree now 5 (length now)) lowest (lowest_is now (let five = way.five in let long = way.long in omega (arith, five, long)))

  pub from_p : from ≤ p
  from_p = by (inventory_of old from == fresh) at
    where
      by : (t : Bool) → p ≡ (elim t as (λ z. ℕ) [ true ↦ from | false ↦ free_from (length old - from) from old ]) → from ≤ p
      by true e = omega (arith, e)
      by false e = omega (arith, e, (free_from_is (length old - from) from old).low)

  there : p ≤ length now
  there = found.high

  same : first_not now (needed_at now p) ≡ first_not old (needed_on old from made fresh p)
  same = needs_same old now from made fresh way p from_p at

  none_now : (o : Option ℕ) → first_not old (needed_on old from made fresh p) ≡ o → first_not now (needed_at now (lowest_free now)) ≡ o
  none_now o e = ap (λ (n : ℕ). first_not now (needed_at now n)) lowest ∙ same ∙ e

  -- it ends at a page that isn't of its kind,
  pub search_stops : (q kind : ℕ) (payload : ℕ → List ℕ) → first_not old (needed_on old from made fresh p) ≡ Some q → draft_cause (new_page kind payload (drafted start)).0 ≡ Some (NotDatabase q)
  search_stops q kind payload e = (s.rests kind payload).cause ∙ ap (λ (x : Draft × ℕ). draft_cause x.0) (try_stops now kind payload left q (none_now (Some q) e)) ∙ stopped_cause now q

  -- or where no page is left.
  pub search_full : (kind : ℕ) (payload : ℕ → List ℕ) → first_not old (needed_on old from made fresh p) ≡ None → p ≡ most_pages → draft_cause (new_page kind payload (drafted start)).0 ≡ Some (Full most_pages)
  search_full kind payload e end =
      (s.rests kind payload).cause ∙ ap (λ (x : Draft × ℕ). draft_cause x.0) (try_full now kind payload left (none_now None e) (ap (λ (n : ℕ). n == most_pages) lowest ∙ yes end)) ∙ full_cause now
    where
      yes : p ≡ most_pages → (p == most_pages) ≡ true
      yes e = elim (eqb_tells p most_pages) [ inl w ↦ w.0 | inr w ↦ absurd (w.1 e) ]

  -- Then the image is as it was.
  pub stops_image : (q kind : ℕ) (payload : ℕ → List ℕ) → first_not old (needed_on old from made fresh p) ≡ Some q → (new_page kind payload (drafted start)).0.image ≡ now
  stops_image q kind payload e = (s.rests kind payload).image ∙ ap (λ (x : Draft × ℕ). x.0.image) (try_stops now kind payload left q (none_now (Some q) e))

  pub full_image : (kind : ℕ) (payload : ℕ → List ℕ) → first_not old (needed_on old from made fresh p) ≡ None → p ≡ most_pages → (new_page kind payload (drafted start)).0.image ≡ now
  full_image kind payload e end = (s.rests kind payload).image ∙ ap (λ (x : Draft × ℕ). x.0.image) (try_full now kind payload left (none_now None e) (eq_yes (lowest_free now) most_pages (lowest ∙ end)))

  size_is : IsTrue (is_page_size size)
  size_is = subst (λ (n : ℕ). IsTrue (is_page_size n)) way.size way.shaped.size

  five_p : 5 ≤ p
  five_p = let five = way.five in omega (arith, five, from_p)

  module _ (none : first_not old (needed_on old from made fresh p) ≡ None) (other : p ≢ most_pages) where
    no : (lowest_free now == most_pages) ≡ false
    no = ap (λ (n : ℕ). n == most_pages) lowest ∙ elim (eqb_tells p most_pages) [ inl w ↦ absurd (other w.1) | inr w ↦ w.0 ]

    all_met : Met now p
    all_met = met now p (same ∙ none)

    ready : IsReady now p
    ready = all_met.ready other

    tested : (k : ℕ) → k ≤ p / bits_in size → is_kind now inventory_kind (inventory_place size k) ≡ true
    tested k le = subst (λ (n : ℕ). is_kind now inventory_kind (inventory_place n k) ≡ true) way.size (all_met.maps k (subst (λ (n : ℕ). k ≤ p / bits_in n) (sym way.size) le))

    before : (q : ℕ) → from ≤ q → q < p → is_free_page now q ≡ false
    before q low high = let five = way.five in found.before q (omega (arith, low, five)) high

    scn_same : is_scn_place size p ≡ true → is_kind now scn_kind p ≡ is_kind old scn_kind p
    scn_same at = let low = way.made_before in way.entries p at (omega (arith, low, from_p))

    map_same : is_inventory_place size p ≡ true → is_kind now inventory_kind p ≡ is_kind old inventory_kind p
    map_same at =
        let place : inventory_place size ((p + 1) / bits_in size) ≡ p = map_place_is size p is_size at in
        let low = way.fresh_before in
        ap (is_kind now inventory_kind) (sym place)
        ∙ way.ahead ((p + 1) / bits_in size) (div_rises from (p + 1) (bits_in size) (omega (arith, bits-least size is_size)) (omega (arith, from_p))) (λ e. absurd (omega (arith, e, place, low, from_p)))
        ∙ ap (is_kind old inventory_kind) place
      where
        is_size : IsTrue (is_page_size size)
        is_size = subst (λ (n : ℕ). IsTrue (is_page_size n)) way.size way.shaped.size

    -- what is passed without its page, told on the image before
    scn_place_now : is_scn_place (image_size now) p ≡ is_scn_place size p
    scn_place_now = ap (λ (n : ℕ). is_scn_place n p) way.size

    map_place_now : is_inventory_place (image_size now) p ≡ is_inventory_place size p
    map_place_now = ap (λ (n : ℕ). is_inventory_place n p) way.size

    made_now : (m : ℕ) → IsMadeBehind old p made m → IsMadeBehind now p made m
    made_now m (same_made e kept) = same_made e (λ at. let there = sym scn_place_now ∙ at in scn_same there ∙ kept there)
    made_now m (made_here e at none) = made_here e (scn_place_now ∙ at) (scn_same at ∙ none)

    fresh_now : (f : ℕ) → IsFreshBehind old p fresh f → IsFreshBehind now p fresh f
    fresh_now f (same_fresh e kept) = same_fresh e (λ at. let there = sym map_place_now ∙ at in map_same there ∙ kept there)
    fresh_now f (fresh_here e at none) = fresh_here e (map_place_now ∙ at) (map_same at ∙ none)

    -- It goes on after a system place,
    module _ (system : is_system_place size p ≡ true) (m f : ℕ) (made_is : IsMadeBehind old p made m) (fresh_is : IsFreshBehind old p fresh f) where
      system_now : is_system_place (image_size now) p ≡ true
      system_now = ap (λ (n : ℕ). is_system_place n p) way.size ∙ system

      visits : Visits now p (system_kind now p) (round_at p now)
      visits = system_visits now p way.shaped (let five = way.five in omega (arith, five, from_p)) there ready system_now

      of_map : is_inventory_place size p ≡ true → system_kind now p ≡ 2
      of_map at = ap (λ (t : Bool). elim t as (λ z. ℕ) [ true ↦ 2 | false ↦ 10 ]) (ap (λ (n : ℕ). is_inventory_place n p) way.size ∙ at)

      of_entries : is_scn_place size p ≡ true → system_kind now p ≡ 10
      of_entries at = by (is_inventory_place (image_size now) p) refl
        where
          by : (t : Bool) → is_inventory_place (image_size now) p ≡ t → system_kind now p ≡ 10
          by false e = ap (λ (t : Bool). elim t as (λ z. ℕ) [ true ↦ 2 | false ↦ 10 ]) e
          by true e = absurd (places_apart (image_size now) p way.shaped.size e (ap (λ (n : ℕ). is_scn_place n p) way.size ∙ at))

      next_way : IsOnTheWay old (round_at p now).image (p + 1) m f
      next_way = way_further old now (round_at p now).image from made fresh p (system_kind now p) m f way visits.on before from_p there of_map of_entries tested ready.map_entry (made_now m made_is) (fresh_now f fresh_is)

      near_next : p + 1 ≤ length start + 2
      near_next = elim (leb_tells p (length start + 1)) [
        | inl v ↦ omega (arith, v.1)
        | inr v ↦
            let longer = s.longer in
            let long = way.long in
            let least = way_start in
            let q : ℕ = p - 2 in
            let end : p ≡ from = omega (arith, there, from_p, v.1, longer, long) in
            let two : q + 2 ≡ p = omega (arith, v.1) in
            let low : length start ≤ q = omega (arith, v.1) in
            let high : q < from = omega (arith, v.1, end) in
            absurd (true≢false (sym system ∙ ap (is_system_place size) (sym two) ∙ three_apart size q is_size (omega (arith, low, least)) (s.places q low high)))
      ]
        where
          way_start : 3 ≤ length start
          way_start = let near = s.near in let five = way.five in omega (arith, near, five)

          is_size : IsTrue (is_page_size size)
          is_size = subst (λ (n : ℕ). IsTrue (is_page_size n)) way.size way.shaped.size

      pub search_on : Searches old start (round_at p now).image first (p + 1) m f left
      search_on =
          let enough = s.enough in
          let longer = s.longer in
          let long = way.long in
          record {
            way = next_way;
            longer = longer;
            five = s.five;
            near = near_next;
            places = λ q low high. elim (eqb_tells q p) [
              | inl w ↦ ap (is_system_place size) w.1 ∙ system
              | inr w ↦ elim (leb_tells from q) [
                | inl v ↦ absurd (omega (arith, v.1, w.1, high, low, longer, long, there))
                | inr v ↦ s.places q low v.1
              ]
            ];
            enough = omega (arith, enough, from_p);
            rests = λ kind payload.
                let rest = s.rests kind payload in
                let e : new_within (suc left) kind payload (drafted now) ≡ joined_new (round_at p now) (new_within left kind payload (drafted (round_at p now).image)) =
                subst (λ (n : ℕ). new_within (suc left) kind payload (drafted now) ≡ joined_new (round_at n now) (new_within left kind payload (drafted (round_at n now).image))) lowest
                (try_more now kind payload left (none_now None none) no (ap (is_system_place (image_size now)) lowest ∙ system_now)) in
                record {
                  cause = rest.cause ∙ ap (λ (x : Draft × ℕ). draft_cause x.0) e ∙ joined_cause (round_at p now) (new_within left kind payload (drafted (round_at p now).image)).0 visits.clear;
                  image = rest.image ∙ ap (λ (x : Draft × ℕ). x.0.image) e;
                  number = rest.number ∙ ap (λ (x : Draft × ℕ). x.1) e;
                };
          }

      -- with what is known of the page after it,
      pub known_on : (b : Behind) → IsKnown old now b → IsKnown old (round_at p now).image (gone p m f b)
      known_on b known =
          let low = way.made_before in
          let below = way.fresh_before in
          known_gone old now (round_at p now).image p (system_kind now p) b known way.size size_is five_p visits.on there system of_map of_entries made fresh m f (omega (arith, low, from_p)) (omega (arith, below, from_p)) (made_now m made_is) (fresh_now f fresh_is)

    -- and ends with a page.
    module _ (plain : is_system_place size p ≡ false) (kind : ℕ) (payload : ℕ → List ℕ) (short : length (payload p) ≤ 1008) where
      plain_now : is_system_place (image_size now) p ≡ false
      plain_now = ap (λ (n : ℕ). is_system_place n p) way.size ∙ plain

      abbrev last : Draft
      last = take_page p (put p kind (payload p) (drafted now))

      last_visits : Visits now p kind last
      last_visits = plain_visits now p kind (payload p) way.shaped (let five = way.five in omega (arith, five, from_p)) there ready plain_now short

      last_is : new_within (suc left) kind payload (drafted now) ≡ (last, p)
      last_is = subst (λ (n : ℕ). new_within (suc left) kind payload (drafted now) ≡ (take_page n (put n kind (payload n) (drafted now)), n)) lowest
          (try_last now kind payload left (none_now None none) no (ap (is_system_place (image_size now)) lowest ∙ plain_now))

      no_map : is_inventory_place size p ≡ true → ⊥
      no_map at = true≢false (sym at ∙ (plain_place size p plain).0)

      no_entries : is_scn_place size p ≡ true → ⊥
      no_entries at = true≢false (sym at ∙ (plain_place size p plain).1)

      pub search_found : draft_cause (new_page kind payload (drafted start)).0 ≡ None
      search_found = (s.rests kind payload).cause ∙ ap (λ (x : Draft × ℕ). draft_cause x.0) last_is ∙ clear_cause last last_visits.clear

      pub search_number : (new_page kind payload (drafted start)).1 ≡ p
      search_number = (s.rests kind payload).number ∙ ap (λ (x : Draft × ℕ). x.1) last_is

      pub search_behind : IsOnTheWay old (new_page kind payload (drafted start)).0.image (p + 1) made fresh
      search_behind = subst (λ (x : Image). IsOnTheWay old x (p + 1) made fresh) (sym ((s.rests kind payload).image ∙ ap (λ (x : Draft × ℕ). x.0.image) last_is))
          (way_further old now last.image from made fresh p kind made fresh way last_visits.on before from_p there (λ at. absurd (no_map at)) (λ at. absurd (no_entries at)) tested ready.map_entry
          (same_made refl (λ at. absurd (no_entries (sym scn_place_now ∙ at)))) (same_fresh refl (λ at. absurd (no_map (sym map_place_now ∙ at)))))

      pub known_found : kind ≡ 5 → (b : Behind) → IsKnown old now b → IsKnown old (new_page kind payload (drafted start)).0.image b
      known_found is b known = subst (λ (x : Image). IsKnown old x b) (sym ((s.rests kind payload).image ∙ ap (λ (x : Draft × ℕ). x.0.image) last_is)) (known_plain old now last.image p kind b known way.size size_is five_p last_visits.on there plain is)

-- a search always has a try left
pub search_left : (old start now : Image) (first from made fresh tries : ℕ) → Searches old start now first from made fresh tries → (left : ℕ) × (tries ≡ suc left)
search_left old start now first from made fresh zero s = absurd (let enough = s.enough in let near = s.near in let five = s.five in omega (arith, enough, near, five))
search_left old start now first from made fresh (suc left) s = (left, refl)

-- at the last page that a database may have a new page needs the inventory pages alone
needs_last : (x : Image) {size : ℕ} → first_not x (maps_from size (most_pages / bits_in size + 1) 0) ≡ None → size ≡ image_size x → first_not x (needed_at x most_pages) ≡ None
unfolding needed_at
needs_last x {size} none same =
    first_append x (maps_from (image_size x) (most_pages / bits_in (image_size x) + 1) 0) []
    ∙ ap (λ (o : Option ℕ). first_behind o (first_not x [])) (subst (λ (n : ℕ). first_not x (maps_from n (most_pages / bits_in n + 1) 0) ≡ None) same none)
    ∙ behind_none (first_not x []) ∙ first_none x

-- Where the search ends at the last page that a database may have, no page is left.
module _ (old start now : Image) (first from made fresh tries : ℕ) (s : Searches old start now first from made fresh tries) (most : length old ≤ most_pages) (end : from ≡ most_pages) where
  end_way : IsOnTheWay old now from made fresh
  end_way = s.way

  abbrev end_size : ℕ
  end_size = image_size old

  abbrev w : ℕ
  w = bits_in end_size

  end_is_size : IsTrue (is_page_size end_size)
  end_is_size = subst (λ (n : ℕ). IsTrue (is_page_size n)) end_way.size end_way.shaped.size

  end_at : next_place old from fresh ≡ most_pages
  end_at = by (inventory_of old from == fresh)
    where
      by : (t : Bool) → (elim t as (λ z. ℕ) [ true ↦ from | false ↦ free_from (length old - from) from old ]) ≡ most_pages
      by true = end
      by false =
          let none : length old - from ≡ 0 = omega (arith, most, end) in
          let found = free_from_is (length old - from) from old in
          let low = found.low in
          let high = found.high in
          omega (arith, low, high, none, end)

  each : (k : ℕ) → 0 ≤ k → k < 0 + (from / w + 1) → is_kind now inventory_kind (inventory_place end_size k) ≡ true
  each k low high = elim (leb_tells (suc k) (from / w)) [
    | inl v ↦ end_way.maps k v.1
    | inr v ↦
        let last : from / w ≡ (from - 1) / w = ap (λ (n : ℕ). n / w) end ∙ last_map end_size end_is_size ∙ ap (λ (n : ℕ). n / w) (let e : 1048575 ≡ from - 1 = omega (arith, end) in e) in
        let same : k ≡ (from - 1) / w = omega (arith, v.1, high, last) in
        ap (λ (n : ℕ). is_kind now inventory_kind (inventory_place end_size n)) same ∙ ap (λ (n : ℕ). is_kind now inventory_kind (inventory_place n ((from - 1) / bits_in n))) (sym end_way.size) ∙ end_way.read (omega (arith, end))
  ]

  maps_none : first_not now (maps_from end_size (from / w + 1) 0) ≡ None
  maps_none = maps_found now end_size (from / w + 1) 0 each

  end_none : first_not old (needed_on old from made fresh (next_place old from fresh)) ≡ None
  end_none =
      let same : next_place old from fresh ≡ from = end_at ∙ sym end in
      sym (needs_same old now from made fresh end_way (next_place old from fresh) (omega (arith, same)) refl)
      ∙ ap (λ (n : ℕ). first_not now (needed_at now n)) (end_at) ∙ needs_last now (ap (λ (n : ℕ). first_not now (maps_from end_size (n / w + 1) 0)) (sym end) ∙ maps_none) (sym end_way.size)

  pub end_cause : way_cause old from made fresh ≡ Some (Full most_pages)
  end_cause =
      ap (λ (o : Option ℕ). first_cause (need_cause o ∷ when (next_place old from fresh == most_pages) (Full most_pages) ∷ [])) end_none
      ∙ ap (λ (n : ℕ). first_cause (None ∷ when (n == most_pages) (Full most_pages) ∷ [])) end_at
      ∙ first_next None (Some (Full most_pages) ∷ []) refl ∙ first_here (Some (Full most_pages)) [] (Full most_pages) refl

-- what the cause of a search tells
way_none : (old : Image) (from made fresh p : ℕ) → p ≡ next_place old from fresh → way_cause old from made fresh ≡ None → (first_not old (needed_on old from made fresh p) ≡ None) × (p ≢ most_pages)
way_none old from made fresh p at none = by (first_not old (needed_on old from made fresh p)) (p == most_pages) refl refl (subst (λ (n : ℕ). first_cause (need_cause (first_not old (needed_on old from made fresh n)) ∷ when (n == most_pages) (Full most_pages) ∷ []) ≡ None) (sym at) none)
  where
    Q : Option ℕ → Bool → Type 0
    Q o t = first_cause (need_cause o ∷ when t (Full most_pages) ∷ []) ≡ None

    by : (o : Option ℕ) (t : Bool) → first_not old (needed_on old from made fresh p) ≡ o → (p == most_pages) ≡ t → Q o t → (first_not old (needed_on old from made fresh p) ≡ None) × (p ≢ most_pages)
    by None false e f q = (e, λ same. absurd (elim (eqb_tells p most_pages) [ inl w ↦ true≢false (sym w.0 ∙ f) | inr w ↦ w.1 same ]))
    by None true e f q = absurd (some_none (Full most_pages) (sym (first_next None (Some (Full most_pages) ∷ []) refl ∙ first_here (Some (Full most_pages)) [] (Full most_pages) refl) ∙ q))
    by (Some r) t e f q = absurd (some_none (NotDatabase r) (sym (first_here (Some (NotDatabase r)) (when t (Full most_pages) ∷ []) (NotDatabase r) refl) ∙ q))

-- it comes to the next page, or is refused as the draft is
module _ (old start now : Image) (first from made fresh tries : ℕ) (s : Searches old start now first from made fresh tries) (most : length old ≤ most_pages) where
  more : (left : ℕ) × (tries ≡ suc left)
  more = search_left old start now first from made fresh tries s

  again : Searches old start now first from made fresh (suc more.0)
  again = subst (Searches old start now first from made fresh) more.1 s

  pub at_place : (place m f : ℕ) → place ≡ next_place old from fresh → way_cause old from made fresh ≡ None → IsMadeBehind old place made m → IsFreshBehind old place fresh f → AtPlace old start first place m f
  at_place place m f at none made_is fresh_is =
      let parts = way_none old from made fresh place at none in
      record { now = now; from = from; made_before = made; fresh_before = fresh; left = more.0; search = again; at = at; none = parts.0; other = parts.1; made_is = made_is; fresh_is = fresh_is }

  pub refused_at : (r : Refusal) (kind : ℕ) (payload : ℕ → List ℕ) → way_cause old from made fresh ≡ Some r → draft_cause (new_page kind payload (drafted start)).0 ≡ Some r
  refused_at r kind payload e = by (first_not old (needed_on old from made fresh (next_place old from fresh))) (next_place old from fresh == most_pages) refl refl e
    where
      by : (o : Option ℕ) (t : Bool) → first_not old (needed_on old from made fresh (next_place old from fresh)) ≡ o → (next_place old from fresh == most_pages) ≡ t
          → first_cause (need_cause o ∷ when t (Full most_pages) ∷ []) ≡ Some r → draft_cause (new_page kind payload (drafted start)).0 ≡ Some r
      by (Some q) t is end c =
          search_stops old start now first from made fresh more.0 again most (next_place old from fresh) refl q kind payload is ∙ sym (first_here (Some (NotDatabase q)) (when t (Full most_pages) ∷ []) (NotDatabase q) refl) ∙ c
      by None true is end c =
          search_full old start now first from made fresh more.0 again most (next_place old from fresh) refl kind payload is (eqb-true (next_place old from fresh) most_pages end)
          ∙ sym (first_next None (Some (Full most_pages) ∷ []) refl ∙ first_here (Some (Full most_pages)) [] (Full most_pages) refl) ∙ c
      by None false is end c = absurd (none_some r (sym (first_next None (None ∷ []) refl ∙ first_next None [] refl ∙ no_cause) ∙ c))

  pub refused_image : (r : Refusal) (kind : ℕ) (payload : ℕ → List ℕ) → way_cause old from made fresh ≡ Some r → (new_page kind payload (drafted start)).0.image ≡ now
  refused_image r kind payload e = by (first_not old (needed_on old from made fresh (next_place old from fresh))) (next_place old from fresh == most_pages) refl refl e
    where
      by : (o : Option ℕ) (t : Bool) → first_not old (needed_on old from made fresh (next_place old from fresh)) ≡ o → (next_place old from fresh == most_pages) ≡ t
          → first_cause (need_cause o ∷ when t (Full most_pages) ∷ []) ≡ Some r → (new_page kind payload (drafted start)).0.image ≡ now
      by (Some q) t is end c = stops_image old start now first from made fresh more.0 again most (next_place old from fresh) refl q kind payload is
      by None true is end c = full_image old start now first from made fresh more.0 again most (next_place old from fresh) refl kind payload is (eqb-true (next_place old from fresh) most_pages end)
      by None false is end c = absurd (none_some r (sym (first_next None (None ∷ []) refl ∙ first_next None [] refl ∙ no_cause) ∙ c))

-- At a page that isn't the place of a system page the search ends.
module _ (old start : Image) (first place made fresh : ℕ) (h : AtPlace old start first place made fresh) (most : length old ≤ most_pages) where
  module _ (plain : is_system_place (image_size old) place ≡ false) (kind : ℕ) (payload : ℕ → List ℕ) (short : length (payload place) ≤ 1008) where
    pub found_at : draft_cause (new_page kind payload (drafted start)).0 ≡ None
    found_at = search_found old start h.now first h.from h.made_before h.fresh_before h.left h.search most place h.at h.none h.other plain kind payload short

    pub number_at : (new_page kind payload (drafted start)).1 ≡ place
    number_at = search_number old start h.now first h.from h.made_before h.fresh_before h.left h.search most place h.at h.none h.other plain kind payload short

    same_made_at : IsMadeBehind old place h.made_before made → made ≡ h.made_before
    same_made_at (same_made e kept) = e
    same_made_at (made_here e at none) = absurd (true≢false (sym at ∙ (plain_place (image_size old) place plain).1))

    same_fresh_at : IsFreshBehind old place h.fresh_before fresh → fresh ≡ h.fresh_before
    same_fresh_at (same_fresh e kept) = e
    same_fresh_at (fresh_here e at none) = absurd (true≢false (sym at ∙ (plain_place (image_size old) place plain).0))

    pub behind_at : IsOnTheWay old (new_page kind payload (drafted start)).0.image (place + 1) made fresh
    behind_at =
        subst (λ (m : ℕ). IsOnTheWay old (new_page kind payload (drafted start)).0.image (place + 1) m fresh) (sym (same_made_at h.made_is))
        (subst (λ (f : ℕ). IsOnTheWay old (new_page kind payload (drafted start)).0.image (place + 1) h.made_before f) (sym (same_fresh_at h.fresh_is))
        (search_behind old start h.now first h.from h.made_before h.fresh_before h.left h.search most place h.at h.none h.other plain kind payload short))

-- The same with what is known of the page after the search: it begins,
pub goes_begin : (old start : Image) (from made fresh : ℕ) (b : Behind) → IsOnTheWay old start from made fresh → GoesTo old start from from made fresh b b
goes_begin old start from made fresh b way = record { now = start; tries = length start + 4; search = search_begins old start from made fresh way; known = λ k. k }

-- it comes to the next page,
pub goes_at : (old start : Image) (first from made fresh : ℕ) (before after : Behind) → GoesTo old start first from made fresh before after → length old ≤ most_pages → (place m f : ℕ) → place ≡ next_place old from fresh → way_cause old from made fresh ≡ None
    → IsMadeBehind old place made m → IsFreshBehind old place fresh f → AtKnown old start first place m f before after
unfolding at_place
goes_at old start first from made fresh before after s most place m f at none made_is fresh_is = record { at = at_place old start s.now first from made fresh s.tries s.search most place m f at none made_is fresh_is; known = s.known }

-- it goes on after the place of a system page,
pub goes_on : (old start : Image) (first place made fresh : ℕ) (before after : Behind) → AtKnown old start first place made fresh before after → length old ≤ most_pages → is_system_place (image_size old) place ≡ true
    → GoesTo old start first (place + 1) made fresh before (gone place made fresh after)
goes_on old start first place made fresh before after k most system =
    let h : AtPlace old start first place made fresh = k.at in
    record {
      now = (round_at place h.now).image;
      tries = h.left;
      search = search_on old start h.now first h.from h.made_before h.fresh_before h.left h.search most place h.at h.none h.other system made fresh h.made_is h.fresh_is;
      known = λ begun. known_on old start h.now first h.from h.made_before h.fresh_before h.left h.search most place h.at h.none h.other system made fresh h.made_is h.fresh_is after (k.known begun);
    }

-- it ends with a page,
pub goes_found : (old start : Image) (first place made fresh : ℕ) (before after : Behind) → AtKnown old start first place made fresh before after → length old ≤ most_pages → is_system_place (image_size old) place ≡ false
    → Finds old start (place + 1) made fresh before after
goes_found old start first place made fresh before after k most plain =
    let h : AtPlace old start first place made fresh = k.at in
    record {
      cause = λ kind payload short. found_at old start first place made fresh h most plain kind payload (short place);
      number = λ kind payload short. ap (λ (n : ℕ). n + 1) (number_at old start first place made fresh h most plain kind payload (short place));
      way = λ kind payload short. behind_at old start first place made fresh h most plain kind payload (short place);
      known = λ payload short begun.
          known_found old start h.now first h.from h.made_before h.fresh_before h.left h.search most place h.at h.none h.other plain 5 payload (short place) refl after (k.known begun);
    }

-- or is refused.
pub goes_refused : (old start : Image) (first from made fresh : ℕ) (before after : Behind) → GoesTo old start first from made fresh before after → length old ≤ most_pages → (r : Refusal) → way_cause old from made fresh ≡ Some r → Refuses old start before after r
goes_refused old start first from made fresh before after s most r e =
    let now : Image = s.now in
    let from_now : Searches old now now from from made fresh (length now + 4) = search_begins old now from made fresh s.search.way in
    record {
      now = now;
      cause = λ kind payload. refused_at old start now first from made fresh s.tries s.search most r kind payload e;
      image = λ kind payload. refused_image old start now first from made fresh s.tries s.search most r kind payload e;
      again = λ kind payload. refused_at old now now from from made fresh (length now + 4) from_now most r kind payload e;
      again_image = λ kind payload. refused_image old now now from from made fresh (length now + 4) from_now most r kind payload e;
      known = s.known;
    }

pub goes_failed : (S T : Type 0) (result : Result T Fault) (fault : Fault) (old start : Image) (first from made fresh a b d : ℕ) (before after : Behind) → IsErr result × IsErrAnd result (λ f. f ≡ fault)
    → GoesTo old start first from made fresh before after → length old ≤ most_pages → Tested {T = S} (Err fault) (way_cause old from made fresh) → EndsBy result old start a b d before after
goes_failed S T result fault old start first from made fresh a b d before after passed s most tested =
    subst (λ (x : Result T Fault). EndsBy x old start a b d before after) (sym (passed_on result fault passed)) (by fault tested)
  where
    by : (f : Fault) → Tested {T = S} (Err f) (way_cause old from made fresh) → EndsBy {T = T} (Err f) old start a b d before after
    by (RefusedFault r) e = goes_refused old start first from made fresh before after s most r e
    by Device e = tt
    by Memory e = tt

-- a search that begins
pub begins_at : (x : Image) (from made fresh : ℕ) → from ≡ 5 → made ≡ 0 → fresh ≡ 0 → IsSearchable x → IsOnTheWay x x from made fresh
begins_at x from made fresh a b c may =
    subst (λ (n : ℕ). IsOnTheWay x x n made fresh) (sym a) (subst (λ (m : ℕ). IsOnTheWay x x 5 m fresh) (sym b) (subst (λ (f : ℕ). IsOnTheWay x x 5 0 f) (sym c) (way_begins x may.shaped may.long)))

pub place_begins : (x : Image) (from fresh size : ℕ) → from ≡ 5 → fresh ≡ 0 → size ≡ image_size x → IsTrue (is_page_size size) → (inventory_of x from ≢ fresh) × (next_place x from fresh ≡ lowest_free x)
unfolding lowest_free
place_begins x from fresh size a b same sized =
    let some = inventory_place_some (image_size x) (from / bits_in (image_size x)) (subst (λ (s : ℕ). IsTrue (is_page_size s)) same sized) in
    let other : inventory_of x from ≢ fresh = λ e. absurd (omega (arith, some, e, b)) in
    (other, place_free x from fresh other ∙ ap (λ (n : ℕ). free_from (length x - n) n x) a)

-- what ended it ends the call that passes it on
pub ends_passed : (S T : Type 0) (result : Result T Fault) (fault : Fault) (old start : Image) (from made fresh : ℕ) (before after : Behind) → IsErr result × IsErrAnd result (λ f. f ≡ fault)
    → EndsBy {T = S} (Err fault) old start from made fresh before after → EndsBy result old start from made fresh before after
ends_passed S T result fault old start from made fresh before after passed ends = subst (λ (x : Result T Fault). EndsBy x old start from made fresh before after) (sym (passed_on result fault passed)) (by fault ends)
  where
    by : (f : Fault) → EndsBy {T = S} (Err f) old start from made fresh before after → EndsBy {T = T} (Err f) old start from made fresh before after
    by (RefusedFault r) e = e
    by Device e = tt
    by Memory e = tt

-- what the end of the search says of its draft
pub ends_tested : {T : Type 0} (result : Result T Fault) (old start : Image) (from made fresh : ℕ) (before after : Behind) (kind : ℕ) (payload : ℕ → List ℕ) → IsShort payload → EndsBy result old start from made fresh before after
    → Tested result (draft_cause (new_page kind payload (drafted start)).0)
ends_tested (Ok value) old start from made fresh before after kind payload short ends = ends.cause kind payload short
ends_tested (Err (RefusedFault r)) old start from made fresh before after kind payload short ends = ends.cause kind payload
ends_tested (Err Device) old start from made fresh before after kind payload short ends = tt
ends_tested (Err Memory) old start from made fresh before after kind payload short ends = tt
