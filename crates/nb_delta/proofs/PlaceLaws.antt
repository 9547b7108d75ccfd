-- Slots and allocation pages stand in different places.
use Rattle.std.proofs.Common.{◌≡◌, ◌≢◌, inl, inr, ℕ, ◌+◌, ◌-◌, ◌*◌, ◌/◌, ◌<◌, ◌≤◌, refl, ap, arith}
use Rattle.nb_delta.proofs.Common.{cases_lt, cases_eq, mul-le-mul_right, slots_in, slot_place, alloc_place}

-- an entry by its group and its place in the group
pub record InGroup (room k : ℕ) : Type 0 where
  pub g : ℕ
  pub i : ℕ
  pub low : i < room
  pub is : k ≡ g * room + i

pub in_group : (room k : ℕ) → 0 < room → InGroup room k
in_group room k some = record { g = k / room; i = k - k / room * room; low = omega arith; is = omega arith }

pub group_is : (room k g i : ℕ) → i < room → k ≡ g * room + i → k / room ≡ g
group_is room k g i low is = elim (cases_lt (k / room) g) [
  | inl l ↦ let more : (k / room + 1) * room ≤ g * room = mul-le-mul_right room (omega arith) in absurd (omega (arith, more))
  | inr l ↦ elim (cases_lt g (k / room)) [
    | inl m ↦ let more : (g + 1) * room ≤ k / room * room = mul-le-mul_right room (omega arith) in absurd (omega (arith, more))
    | inr m ↦ omega arith
  ]
]

module _ (size : ℕ) where
  -- the slot after the allocation page of its group
  pub slot_at : (g i : ℕ) → i < slots_in size → slot_place size (g * slots_in size + i) ≡ alloc_place size g + 1 + i
  unfolding slot_place alloc_place
  slot_at g i low =
      let group = group_is (slots_in size) (g * slots_in size + i) g i low refl in
      omega (arith, group)

  pub alloc_is : (g : ℕ) → alloc_place size g ≡ g * slots_in size + g
  unfolding alloc_place
  alloc_is g = omega arith

  pub alloc_rises : (g h : ℕ) → g < h → alloc_place size g + slots_in size < alloc_place size h
  alloc_rises g h low =
      let more : (g + 1) * slots_in size ≤ h * slots_in size = mul-le-mul_right (slots_in size) (omega arith) in
      omega (arith, more, alloc_is g, alloc_is h)

  pub alloc_other : (g h : ℕ) → g ≢ h → alloc_place size g ≢ alloc_place size h
  alloc_other g h other same = elim (cases_lt g h) [
    | inl l ↦ let r = alloc_rises g h l in absurd (omega arith)
    | inr l ↦ elim (cases_eq g h) [ inl e ↦ other e | inr ne ↦ let r = alloc_rises h g (omega arith) in absurd (omega arith) ]
  ]

  module _ (some : 0 < slots_in size) where
    pub slot_rises : (j k : ℕ) → j < k → slot_place size j < slot_place size k
    slot_rises j k low =
        let a = in_group (slots_in size) j some in
        let b = in_group (slots_in size) k some in
        let at_a = ap (slot_place size) a.is in
        let at_b = ap (slot_place size) b.is in
        let is_a = slot_at a.g a.i a.low in
        let is_b = slot_at b.g b.i b.low in
        elim (cases_lt a.g b.g) [
          | inl l ↦ let r = alloc_rises a.g b.g l in omega (arith, at_a, at_b, is_a, is_b, a.low)
          | inr l ↦ elim (cases_eq a.g b.g) [
            | inl e ↦ let same = ap (λ (n : ℕ). n * slots_in size) e in let places = ap (λ (n : ℕ). alloc_place size n) e in omega (arith, at_a, at_b, is_a, is_b, same, places, a.is, b.is)
            | inr ne ↦ let more : (b.g + 1) * slots_in size ≤ a.g * slots_in size = mul-le-mul_right (slots_in size) (omega arith) in absurd (omega (arith, more, a.is, b.is, b.low))
          ]
        ]

    pub slot_other : (j k : ℕ) → j ≢ k → slot_place size j ≢ slot_place size k
    slot_other j k other same = elim (cases_lt j k) [
      | inl l ↦ let r = slot_rises j k l in absurd (omega arith)
      | inr l ↦ elim (cases_eq j k) [ inl e ↦ other e | inr ne ↦ let r = slot_rises k j (omega arith) in absurd (omega arith) ]
    ]

    pub alloc_other_slot : (g k : ℕ) → alloc_place size g ≢ slot_place size k
    alloc_other_slot g k same =
        let at = in_group (slots_in size) k some in
        let here = ap (slot_place size) at.is in
        let is = slot_at at.g at.i at.low in
        elim (cases_lt g at.g) [
          | inl l ↦ let r = alloc_rises g at.g l in absurd (omega (arith, here, is))
          | inr l ↦ elim (cases_eq g at.g) [
            | inl e ↦ let places = ap (λ (n : ℕ). alloc_place size n) e in absurd (omega (arith, here, is, places))
            | inr ne ↦ let r = alloc_rises at.g g (omega arith) in absurd (omega (arith, here, is, at.low))
          ]
        ]
