-- System pages apart from each other, and what doesn't change whether a page was left.
use Rattle.std.proofs.Common.{◌≡◌, inl, inr, ℕ, suc, ◌+◌, ◌*◌, ◌/◌, ◌%◌, ◌<◌, ◌≤◌, List, refl, ◌∙◌, arith, mul-le-mul_right, Bool, true, false, ◌==◌, ◌&&◌, ◌||◌, nat_lt, IsTrue}
use Rattle.nb_alloc.proofs.Common.{and_parts, or_cases, eqb-true, leb_tells, is_page_size, entries_in, bits_in, is_inventory_place, is_scn_place, is_system_place, entries-least, image_scn, Draft, wrote, written, needs, is_kind, scn_page_of, scn_entry, has_entry, entry_written, entry_raised, raised, put, either}

-- a system page stands at a multiple of the entries, or before one
multiple : (size p : ℕ) → IsTrue (is_page_size size) → 3 ≤ p → is_system_place size p ≡ true → (k : ℕ) × ((p ≤ k * entries_in size) × (k * entries_in size ≤ p + 1))
unfolding is_system_place is_inventory_place is_scn_place
multiple size p is behind system =
    let least = entries-least size is in
    elim (or_cases (p == 1 || (p + 1) % bits_in size == 0) (p == 2 || (nat_lt 0 p && p % entries_in size == 0)) system) [
      | inl inventory ↦ elim (or_cases (p == 1) ((p + 1) % bits_in size == 0) inventory) [
        | inl one ↦ absurd (omega (arith, eqb-true p 1 one))
        | inr whole ↦
            let none : (p + 1) % bits_in size ≡ 0 = eqb-true ((p + 1) % bits_in size) 0 whole in
            let all : bits_in size * ((p + 1) / bits_in size) + (p + 1) % bits_in size ≡ p + 1 = omega arith in
            let as_entries : 32 * ((p + 1) / bits_in size) * entries_in size ≡ p + 1 = omega arith in
            (32 * ((p + 1) / bits_in size), (omega arith, omega arith))
      ]
      | inr scn ↦ elim (or_cases (p == 2) (nat_lt 0 p && p % entries_in size == 0) scn) [
        | inl two ↦ absurd (omega (arith, eqb-true p 2 two))
        | inr whole ↦
            let none : p % entries_in size ≡ 0 = eqb-true (p % entries_in size) 0 (and_parts (nat_lt 0 p) (p % entries_in size == 0) whole).1 in
            let all : p / entries_in size * entries_in size ≡ p = omega arith in
            (p / entries_in size, (omega arith, omega arith))
      ]
    ]

-- so of three pages in a row one is none
pub three_apart : (size p : ℕ) → IsTrue (is_page_size size) → 3 ≤ p → is_system_place size p ≡ true → is_system_place size (p + 2) ≡ false
three_apart size p is behind system = by (is_system_place size (p + 2)) refl
  where
    apart : (s a c : ℕ) → 4 ≤ s → a * s < c * s → c * s ≤ a * s + 3 → ⊥
    apart s a c some less near = elim (leb_tells c a) [
      | inl w ↦ absurd (let le : c * s ≤ a * s = mul-le-mul_right s w.1 in omega arith)
      | inr w ↦ absurd (let le : suc a * s ≤ c * s = mul-le-mul_right s w.1 in let more : suc a * s ≡ a * s + s = omega arith in omega arith)
    ]

    by : (t : Bool) → is_system_place size (p + 2) ≡ t → is_system_place size (p + 2) ≡ false
    by false e = e
    by true e =
        let first = multiple size p is behind system in
        let second = multiple size (p + 2) is (omega arith) e in
        let least = entries-least size is in
        let a = first.1.0 in
        let b = first.1.1 in
        let c = second.1.0 in
        let d = second.1.1 in
        absurd (apart (entries_in size) first.0 second.0 (omega arith) (omega arith) (omega arith))

-- What reading and writing do to whether a page was left: nothing.
pub needs_full : (kind p : ℕ) (d : Draft) → (needs kind p d).full ≡ d.full
unfolding needs
needs_full kind p d = either (λ (e : Draft). e.full ≡ d.full) (is_kind d.image kind p) _ _ refl refl

entry_full : (p : ℕ) (d : Draft) → (entry_raised p d).full ≡ d.full
unfolding entry_raised entry_written written wrote
entry_full p d = either (λ (e : Draft). e.full ≡ d.full) (nat_lt (scn_entry d.image p) (image_scn d.image)) _ _ refl refl

raised_full : (p : ℕ) (d : Draft) → (raised p d).full ≡ d.full
unfolding raised
raised_full p d = either (λ (e : Draft). e.full ≡ d.full) (has_entry d.image p) _ _ (entry_full p _ ∙ needs_full 10 (scn_page_of d.image p) d) refl

pub put_full : (p kind : ℕ) (payload : List ℕ) (d : Draft) → (put p kind payload d).full ≡ d.full
unfolding put written wrote
put_full p kind payload d = raised_full p d
