-- How far the search for a new page has come, told on the image as it stood before: what it needs there next is the same.
use Rattle.std.proofs.Common.{◌≡◌, ◌≢◌, inl, inr, ℕ, suc, ◌+◌, ◌-◌, ◌*◌, ◌/◌, ◌<◌, ◌≤◌, length, refl, sym, ap, subst, ◌∙◌, arith, mul-le-mul_right, Bool, true, false, ◌==◌, ◌&&◌, nat_lt, IsTrue, max}
use Rattle.nb_model.proofs.Common.{div-eq_of_lt, div-mul-le_self, eqb_tells, leb_tells, is_page_size, bits_in, inventory_place, is_inventory_place, is_scn_place, kind_of, bits-least, inventory_kind, scn_kind, Image, page_at, image_size, HasItsEntry, is_kind, inventory_of, scn_page_of, is_free_page, IsMadeBehind, same_made, made_here, IsFreshBehind, same_fresh, fresh_here}
use Rattle.nb_model.proofs.SoundLaws.{inventory_place_some, inventory_there}
use Rattle.nb_model.proofs.NewSound.{inventory_before}
use Rattle.nb_model.proofs.StepLaws.{IsShaped, IsVisited, scn_page_moves, map_entry_before}
use Rattle.nb_model.proofs.PlaceOrder.{div_rises, map_places_from, map_place_is, map_behind}
use Rattle.nb_model.proofs.RoundLaws.{kind_found}

-- `now` is the image after a search that started at `old`, has come up to page `from`, and went past places without their system pages:
-- the last of an SCN page was `made`, the last of an inventory page `fresh`, 0 for none.
pub record IsOnTheWay (old now : Image) (from made fresh : ℕ) : Type 0 where
  pub shaped : IsShaped now
  pub size : image_size now ≡ image_size old
  pub five : 5 ≤ from
  pub long : length now ≡ max (length old) from
  pub made_before : made < from
  pub fresh_before : fresh < from
  pub made_five : made ≢ 0 → 5 ≤ made
  pub made_place : made ≢ 0 → is_scn_place (image_size old) made ≡ true
  pub fresh_place : fresh ≢ 0 → is_inventory_place (image_size old) fresh ≡ true
  pub taken : (q : ℕ) → 5 ≤ q → q < from → is_free_page now q ≡ false
  pub bits : (q : ℕ) → from ≤ q → q < length old → inventory_of old q ≢ fresh → is_free_page now q ≡ is_free_page old q
  pub fresh_bits : (q : ℕ) → from ≤ q → q < length now → inventory_of old q ≡ fresh → is_free_page now q ≡ true
  pub maps : (k : ℕ) → k < from / bits_in (image_size old) → is_kind now inventory_kind (inventory_place (image_size old) k) ≡ true
  pub fresh_map : fresh ≢ 0 → is_kind now inventory_kind fresh ≡ true
  pub ahead : (k : ℕ) → from / bits_in (image_size old) ≤ k → inventory_place (image_size old) k ≢ fresh → is_kind now inventory_kind (inventory_place (image_size old) k) ≡ is_kind old inventory_kind (inventory_place (image_size old) k)
  pub made_page : made ≢ 0 → is_kind now scn_kind made ≡ true
  pub entries : (s : ℕ) → is_scn_place (image_size old) s ≡ true → made < s → is_kind now scn_kind s ≡ is_kind old scn_kind s
  pub asked : 5 < from → HasItsEntry now (inventory_of now (from - 1))
  pub read : 5 < from → is_kind now inventory_kind (inventory_of now (from - 1)) ≡ true

-- at the start
pub way_begins : (x : Image) → IsShaped x → 5 ≤ length x → IsOnTheWay x x 5 0 0
way_begins x h least =
    let bits_least = bits-least (image_size x) h.size in
    let small : 5 < bits_in (image_size x) = omega (arith, bits_least) in
    let none : 5 / bits_in (image_size x) ≡ 0 = div-eq_of_lt small in
    record {
      shaped = h;
      size = refl;
      five = omega arith;
      long = omega (arith, least);
      made_before = omega arith;
      fresh_before = omega arith;
      made_five = λ some. absurd (some refl);
      made_place = λ some. absurd (some refl);
      fresh_place = λ some. absurd (some refl);
      taken = λ q from below. absurd (omega (arith, from, below));
      bits = λ q from below other. refl;
      fresh_bits = λ q from below own. absurd (omega (arith, own, inventory_place_some (image_size x) (q / bits_in (image_size x)) h.size));
      maps = λ k low. absurd (omega (arith, low, none));
      fresh_map = λ some. absurd (some refl);
      ahead = λ k from other. refl;
      made_page = λ some. absurd (some refl);
      entries = λ s at behind. refl;
      asked = λ more. absurd (omega (arith, more));
      read = λ more. absurd (omega (arith, more));
    }

-- a visit changes the kind of no other page
below_same : (r a b p : ℕ) → b ≡ max a (p + 1) → p ≤ a → r ≢ p → nat_lt r b ≡ nat_lt r a
below_same r a b p long there ne = elim (leb_tells (suc r) a) [
  | inl w ↦ elim (leb_tells (suc r) b) [ inl v ↦ v.0 ∙ sym w.0 | inr v ↦ absurd (omega (arith, w.1, v.1, long)) ]
  | inr w ↦ elim (leb_tells (suc r) b) [ inl v ↦ absurd (omega (arith, w.1, v.1, long, there, ne)) | inr v ↦ v.0 ∙ sym w.0 ]
]

pub kind_same : (now next : Image) (p kind k r : ℕ) → IsVisited now next p kind → p ≤ length now → r ≢ p → is_kind next k r ≡ is_kind now k r
unfolding is_kind
kind_same now next p kind k r on there ne =
    ap (λ (t : Bool). t && kind_of (page_at next r) == k) (below_same r (length now) (length next) p on.long there ne)
    ∙ ap (λ (n : ℕ). nat_lt r (length now) && n == k) (on.kinds r ne)

-- A page further: the search came to page p, the lowest free page, and left it taken.
module _ (old now next : Image) (from made fresh p kind m f : ℕ) (way : IsOnTheWay old now from made fresh) (on : IsVisited now next p kind)
    (lowest : (q : ℕ) → from ≤ q → q < p → is_free_page now q ≡ false) (from_p : from ≤ p) (there : p ≤ length now)
    (of_map : is_inventory_place (image_size old) p ≡ true → kind ≡ 2) (of_entries : is_scn_place (image_size old) p ≡ true → kind ≡ 10)
    (tested : (k : ℕ) → k ≤ p / bits_in (image_size old) → is_kind now inventory_kind (inventory_place (image_size old) k) ≡ true)
    (entry : HasItsEntry now (inventory_of now p)) (made_is : IsMadeBehind now p made m) (fresh_is : IsFreshBehind now p fresh f) where
  abbrev size : ℕ
  size = image_size old

  abbrev w : ℕ
  w = bits_in size

  is_size : IsTrue (is_page_size size)
  is_size = subst (λ (s : ℕ). IsTrue (is_page_size s)) way.size way.shaped.size

  some_bits : 0 < w
  some_bits = omega (arith, bits-least size is_size)

  next_size : image_size next ≡ size
  next_size = on.size ∙ way.size

  long : length next ≡ max (length old) (p + 1)
  long = let a = way.long in omega (arith, on.long, a, from_p)

  -- a page is of a kind as it was, unless it was visited
  same_kind : (k r : ℕ) → r ≢ p → is_kind next k r ≡ is_kind now k r
  same_kind k r ne = kind_same now next p kind k r on there ne

  here_kind : is_kind next kind p ≡ true
  here_kind = kind_found next kind p (omega (arith, on.long)) on.of_kind

  -- the inventory pages up to that of page p don't stand at p
  map_not_here : (k : ℕ) → k ≤ p / w → inventory_place size k ≢ p
  map_not_here k le e =
      let five = way.five in
      absurd (omega (arith, e, map_places_from size k (p / w) is_size le, inventory_before size p is_size (omega (arith, five, from_p))))

  taken : (q : ℕ) → 5 ≤ q → q < p + 1 → is_free_page next q ≡ false
  taken q five low = elim (eqb_tells q p) [
    | inl e ↦ ap (is_free_page next) e.1 ∙ on.here
    | inr e ↦ on.others q e.1 (λ own. absurd (omega (arith, own, inventory_before (image_size now) q way.shaped.size (omega (arith, five)), low))) ∙ elim (leb_tells from q) [
      | inl v ↦ lowest q v.1 (omega (arith, low, e.1))
      | inr v ↦ way.taken q five v.1
    ]
  ]

  maps : (k : ℕ) → k < (p + 1) / w → is_kind next inventory_kind (inventory_place size k) ≡ true
  maps k low =
      let five = way.five in
      let least = bits-least size is_size in
      let near : (p + 1) / w ≤ p / w + 1 = behind_one p w some_bits in
      same_kind 2 (inventory_place size k) (map_not_here k (omega (arith, low, near))) ∙ tested k (omega (arith, low, near))
    where
      behind_one : (p n : ℕ) → 0 < n → (p + 1) / n ≤ p / n + 1
      behind_one p n some =
          let a : (p + 1) / n * n ≤ p + 1 = div-mul-le_self (p + 1) n in
          elim (leb_tells ((p + 1) / n) (p / n + 1)) [
            | inl v ↦ v.1
            | inr v ↦
                let b : (p / n + 2) * n ≤ (p + 1) / n * n = mul-le-mul_right n (omega (arith, v.1)) in
                let c : p < (p / n + 1) * n = omega arith in
                let d : (p / n + 2) * n ≡ (p / n + 1) * n + n = omega arith in
                absurd (omega (arith, a, b, c, d, some))
          ]

  inventory_same : (q : ℕ) → inventory_of now q ≡ inventory_of old q
  inventory_same q = ap (λ (s : ℕ). inventory_place s (q / bits_in s)) way.size

  asked : HasItsEntry next (inventory_of next (p + 1 - 1))
  asked =
      let e : p + 1 - 1 ≡ p = omega arith in
      let five = way.five in
      let same : inventory_of next (p + 1 - 1) ≡ inventory_of now p = ap (λ (q : ℕ). inventory_of next q) e ∙ ap (λ (s : ℕ). inventory_place s (p / bits_in s)) on.size in
      let before = map_entry_before now p way.shaped.size (omega (arith, five, from_p)) in
      subst (HasItsEntry next) (sym same) (scn_page_moves now next (inventory_of now p) on.size
      (λ is. same_kind 10 (scn_page_of now (inventory_of now p)) (λ e. absurd (omega (arith, e, before))) ∙ is) entry)

  read : is_kind next inventory_kind (inventory_of next (p + 1 - 1)) ≡ true
  read =
      let e : p + 1 - 1 ≡ p = omega arith in
      let same : inventory_of next (p + 1 - 1) ≡ inventory_of old p = ap (λ (q : ℕ). inventory_of next q) e ∙ ap (λ (s : ℕ). inventory_place s (p / bits_in s)) next_size in
      ap (is_kind next inventory_kind) same ∙ same_kind 2 (inventory_of old p) (map_not_here (p / w) (omega arith)) ∙ tested (p / w) (omega arith)

  scn_made : is_scn_place size p ≡ true → is_kind next scn_kind p ≡ true
  scn_made at = subst (λ (n : ℕ). is_kind next n p ≡ true) (of_entries at) here_kind

  map_made : is_inventory_place size p ≡ true → is_kind next inventory_kind p ≡ true
  map_made at = subst (λ (n : ℕ). is_kind next n p ≡ true) (of_map at) here_kind

  made_no_p : made ≢ p
  made_no_p e = absurd (let low = way.made_before in omega (arith, e, low, from_p))

  fresh_no_p : fresh ≢ p
  fresh_no_p e = absurd (let low = way.fresh_before in omega (arith, e, low, from_p))

  -- what depends on which SCN place was passed last
  record ByMade : Type 0 where
    before : m < p + 1
    five : m ≢ 0 → 5 ≤ m
    place : m ≢ 0 → is_scn_place size m ≡ true
    page : m ≢ 0 → is_kind next scn_kind m ≡ true
    entries : (s : ℕ) → is_scn_place size s ≡ true → m < s → is_kind next scn_kind s ≡ is_kind old scn_kind s

  by_made : IsMadeBehind now p made m → ByMade
  by_made (same_made same kept_now) = let kept : is_scn_place size p ≡ true → is_kind now scn_kind p ≡ true = λ at. kept_now (ap (λ (n : ℕ). is_scn_place n p) way.size ∙ at) in let low = way.made_before in record {
    before = omega (arith, same, low, from_p);
    five = λ some. omega (arith, same, way.made_five (λ e. some (same ∙ e)));
    place = λ some. ap (is_scn_place size) same ∙ way.made_place (λ e. some (same ∙ e));
    page = λ some. ap (is_kind next scn_kind) same ∙ same_kind 10 made made_no_p ∙ way.made_page (λ e. some (same ∙ e));
    entries = λ s at behind. elim (eqb_tells s p) [
      | inl e ↦
          let here : is_scn_place size p ≡ true = ap (is_scn_place size) (sym e.1) ∙ at in
          ap (is_kind next scn_kind) e.1 ∙ scn_made here ∙ sym (kept here) ∙ way.entries p here (omega (arith, low, from_p)) ∙ ap (is_kind old scn_kind) (sym e.1)
      | inr e ↦ same_kind 10 s e.1 ∙ way.entries s at (omega (arith, same, behind))
    ];
  }
  by_made (made_here same at_now none) = let at : is_scn_place size p ≡ true = ap (λ (n : ℕ). is_scn_place n p) (sym way.size) ∙ at_now in let low = way.made_before in record {
    before = omega (arith, same);
    five = λ some. let five = way.five in omega (arith, same, five, from_p);
    place = λ some. ap (is_scn_place size) same ∙ at;
    page = λ some. ap (is_kind next scn_kind) same ∙ scn_made at;
    entries = λ s place behind. same_kind 10 s (λ e. absurd (omega (arith, e, same, behind))) ∙ way.entries s place (omega (arith, same, behind, low, from_p));
  }

  -- and which place of an inventory page
  record ByFresh : Type 0 where
    before : f < p + 1
    place : f ≢ 0 → is_inventory_place size f ≡ true
    page : f ≢ 0 → is_kind next inventory_kind f ≡ true
    bits : (q : ℕ) → p + 1 ≤ q → q < length old → inventory_of old q ≢ f → is_free_page next q ≡ is_free_page old q
    free : (q : ℕ) → p + 1 ≤ q → q < length next → inventory_of old q ≡ f → is_free_page next q ≡ true
    ahead : (k : ℕ) → (p + 1) / w ≤ k → inventory_place size k ≢ f → is_kind next inventory_kind (inventory_place size k) ≡ is_kind old inventory_kind (inventory_place size k)

  -- page p is an inventory place where a page has its bit there
  map_at : (q : ℕ) → inventory_of now q ≡ p → is_inventory_place size p ≡ true
  map_at q own = ap (is_inventory_place size) (sym own ∙ inventory_same q) ∙ inventory_there size (q / w) is_size

  not_p : (q : ℕ) → p + 1 ≤ q → q ≢ p
  not_p q behind e = absurd (omega (arith, e, behind))

  old_ahead : (k : ℕ) → (p + 1) / w ≤ k → inventory_place size k ≢ fresh → is_kind now inventory_kind (inventory_place size k) ≡ is_kind old inventory_kind (inventory_place size k)
  old_ahead k behind other = way.ahead k (omega (arith, behind, div_rises from (p + 1) w some_bits (omega (arith, from_p)))) other

  by_fresh : IsFreshBehind now p fresh f → ByFresh
  by_fresh (same_fresh same kept_now) = let kept : is_inventory_place size p ≡ true → is_kind now inventory_kind p ≡ true = λ at. kept_now (ap (λ (n : ℕ). is_inventory_place n p) way.size ∙ at) in let low = way.fresh_before in record {
    before = omega (arith, same, low, from_p);
    place = λ some. ap (is_inventory_place size) same ∙ way.fresh_place (λ e. some (same ∙ e));
    page = λ some. ap (is_kind next inventory_kind) same ∙ same_kind 2 fresh fresh_no_p ∙ way.fresh_map (λ e. some (same ∙ e));
    bits = λ q behind inside other. elim (eqb_tells (inventory_of now q) p) [
      | inl e ↦ on.kept_map (kept (map_at q e.1)) q (not_p q behind) e.1 ∙ way.bits q (omega (arith, behind, from_p)) inside (λ own. other (own ∙ sym same))
      | inr e ↦ on.others q (not_p q behind) e.1 ∙ way.bits q (omega (arith, behind, from_p)) inside (λ own. other (own ∙ sym same))
    ];
    free = λ q behind inside own.
        let here : inventory_of now q ≡ fresh = inventory_same q ∙ own ∙ same in
        let longer = on.long in
        on.others q (not_p q behind) (λ e. fresh_no_p (sym here ∙ e)) ∙ way.fresh_bits q (omega (arith, behind, from_p)) (omega (arith, inside, longer, behind)) (own ∙ same);
    ahead = λ k behind other. elim (eqb_tells (inventory_place size k) p) [
      | inl e ↦
          let here : is_inventory_place size p ≡ true = ap (is_inventory_place size) (sym e.1) ∙ inventory_there size k is_size in
          ap (is_kind next inventory_kind) e.1 ∙ map_made here ∙ sym (kept here) ∙ ap (is_kind now inventory_kind) (sym e.1) ∙ old_ahead k behind (λ own. fresh_no_p (sym own ∙ e.1))
      | inr e ↦ same_kind 2 (inventory_place size k) e.1 ∙ old_ahead k behind (λ own. other (own ∙ sym same))
    ];
  }
  by_fresh (fresh_here same at_now none) = let at : is_inventory_place size p ≡ true = ap (λ (n : ℕ). is_inventory_place n p) (sym way.size) ∙ at_now in let low = way.fresh_before in record {
    before = omega (arith, same);
    place = λ some. ap (is_inventory_place size) same ∙ at;
    page = λ some. ap (is_kind next inventory_kind) same ∙ map_made at;
    bits = λ q behind inside other.
        on.others q (not_p q behind) (λ own. other (sym (inventory_same q) ∙ own ∙ sym same))
        ∙ way.bits q (omega (arith, behind, from_p)) inside (λ own. absurd (omega (arith, own, map_behind size p q is_size at (omega (arith, behind)), low, from_p)));
    free = λ q behind inside own. on.new_map none q (not_p q behind) (inventory_same q ∙ own ∙ same);
    ahead = λ k behind other.
        same_kind 2 (inventory_place size k) (λ e. other (e ∙ sym same))
        ∙ old_ahead k behind (λ own. absurd (omega (arith, own, map_places_from size ((p + 1) / w) k is_size behind, map_place_is size p is_size at, low, from_p)));
  }

  pub way_further : IsOnTheWay old next (p + 1) m f
  way_further =
      let made_by : ByMade = by_made made_is in
      let fresh_by : ByFresh = by_fresh fresh_is in
      let five = way.five in
      record {
        shaped = on.shaped;
        size = next_size;
        five = omega (arith, five, from_p);
        long = long;
        made_before = made_by.before;
        fresh_before = fresh_by.before;
        made_five = made_by.five;
        made_place = made_by.place;
        fresh_place = fresh_by.place;
        taken = taken;
        bits = fresh_by.bits;
        fresh_bits = fresh_by.free;
        maps = maps;
        fresh_map = fresh_by.page;
        ahead = fresh_by.ahead;
        made_page = made_by.page;
        entries = made_by.entries;
        asked = λ more. asked;
        read = λ more. read;
      }
