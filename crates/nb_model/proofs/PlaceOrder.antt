-- The places of system pages rise with the pages that they have.
use Rattle.std.proofs.Common.{◌≡◌, inl, inr, ℕ, zero, suc, ◌+◌, ◌*◌, ◌/◌, ◌%◌, ◌<◌, ◌≤◌, sym, ap, ◌∙◌, arith, mul-le-mul_right, true, ◌==◌, IsTrue}
use Rattle.nb_model.proofs.Common.{div-mul-le_self, div-eq_of_lt, eqb-true, or_cases, eqb_tells, is_page_size, entries_in, bits_in, inventory_place, scn_place, is_inventory_place, is_scn_place, bits-least, entries-least, scn_place-some}
use Rattle.std.proofs.lemmas.Nat.{le-div}
use Rattle.nb_model.proofs.SoundLaws.{scn_place_of}

pub div_rises : (a b n : ℕ) → 0 < n → a ≤ b → a / n ≤ b / n
div_rises a b n some le = le-div (a / n) b n some (omega (arith, div-mul-le_self a n, le))

pub map_places_rise : (size j k : ℕ) → IsTrue (is_page_size size) → j < k → inventory_place size j < inventory_place size k
map_places_rise size j zero is low = absurd (omega (arith, low))
map_places_rise size zero (suc k) is low =
    let least = bits-least size is in
    let more : bits_in size ≤ suc k * bits_in size = omega arith in
    omega (arith, least, more)
map_places_rise size (suc j) (suc k) is low =
    let least = bits-least size is in
    let next : suc (suc j) * bits_in size ≤ suc k * bits_in size = mul-le-mul_right (bits_in size) (omega (arith, low)) in
    let step : suc (suc j) * bits_in size ≡ suc j * bits_in size + bits_in size = omega arith in
    let more : bits_in size ≤ suc j * bits_in size = omega arith in
    omega (arith, least, next, step, more)

pub map_places_from : (size j k : ℕ) → IsTrue (is_page_size size) → j ≤ k → inventory_place size j ≤ inventory_place size k
map_places_from size j k is le = elim (eqb_tells j k) [
  | inl w ↦ omega (arith, ap (inventory_place size) w.1)
  | inr w ↦ omega (arith, map_places_rise size j k is (omega (arith, le, w.1)))
]

-- the inventory page at a place has the page after it as its first
pub map_place_is : (size p : ℕ) → IsTrue (is_page_size size) → is_inventory_place size p ≡ true → inventory_place size ((p + 1) / bits_in size) ≡ p
unfolding is_inventory_place
map_place_is size p is at =
    let least = bits-least size is in
    elim (or_cases (p == 1) ((p + 1) % bits_in size == 0) at) [
      | inl one ↦
          let first : p ≡ 1 = eqb-true p 1 one in
          let small : p + 1 < bits_in size = omega (arith, first, least) in
          ap (inventory_place size) (div-eq_of_lt small) ∙ sym first
      | inr whole ↦
          let none : (p + 1) % bits_in size ≡ 0 = eqb-true ((p + 1) % bits_in size) 0 whole in
          let all : (p + 1) / bits_in size * bits_in size ≡ p + 1 = omega arith in
          by ((p + 1) / bits_in size) all
    ]
  where
    by : (k : ℕ) → k * bits_in size ≡ p + 1 → inventory_place size k ≡ p
    by zero e = absurd (omega (arith, e))
    by (suc k) e = omega (arith, e)

-- the inventory page of a page isn't after that of a later page
pub maps_rise : (size p q : ℕ) → IsTrue (is_page_size size) → p ≤ q → inventory_place size (p / bits_in size) ≤ inventory_place size (q / bits_in size)
maps_rise size p q is le =
    let least = bits-least size is in
    map_places_from size (p / bits_in size) (q / bits_in size) is (div_rises p q (bits_in size) (omega (arith, least)) le)

-- nor before an inventory page that stands before that
pub map_behind : (size p q : ℕ) → IsTrue (is_page_size size) → is_inventory_place size p ≡ true → p < q → p ≤ inventory_place size (q / bits_in size)
map_behind size p q is at low = omega (arith, map_place_is size p is at, maps_rise size (p + 1) q is (omega (arith, low)))

-- so of SCN pages
pub scn_places_from : (size j k : ℕ) → IsTrue (is_page_size size) → j ≤ k → scn_place size j ≤ scn_place size k
scn_places_from size zero k is le = scn_place-some size k is
scn_places_from size (suc j) zero is le = absurd (omega (arith, le))
scn_places_from size (suc j) (suc k) is le = mul-le-mul_right (entries_in size) le

pub scn_pages_rise : (size p q : ℕ) → IsTrue (is_page_size size) → p ≤ q → scn_place size (p / entries_in size) ≤ scn_place size (q / entries_in size)
scn_pages_rise size p q is le =
    let least = entries-least size is in
    scn_places_from size (p / entries_in size) (q / entries_in size) is (div_rises p q (entries_in size) (omega (arith, least)) le)

pub scn_behind : (size p q : ℕ) → IsTrue (is_page_size size) → is_scn_place size p ≡ true → p ≤ q → p ≤ scn_place size (q / entries_in size)
scn_behind size p q is at low = omega (arith, scn_place_of size p is at, scn_pages_rise size p q is low)
