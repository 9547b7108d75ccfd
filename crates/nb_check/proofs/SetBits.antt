-- A set of pages of which one byte is changed at one bit.
use Rattle.std.proofs.Common.{◌≡◌, ◌≢◌, inl, inr, ℕ, ◌/◌, ◌%◌, ◌<◌, ◌≤◌, List, [], ◌∷◌, length, get_or, replicate, refl, sym, ap, ◌∙◌, arith, Bool, true, false, ◌&&◌, ◌||◌, ◌==◌, not, nat_eq}
use Rattle.nb_check.proofs.Common.{cases_eq, cases_lt, get_or-set_same, get_or-set_other, get_or_past, get_or-replicate, length-replicate, bit_at-zero, SetsBit, eq_no, eq_yes, has, IsWithout}
use Rattle.std.specs.Int.{bit_at}
use Rattle.std.proofs.Math.ListN.{set}
use Rattle.std.proofs.lemmas.Grind.{get_or-set_at}

and_true : (t : Bool) → t ≡ (t && not false)
and_true true = refl
and_true false = refl

and_none : (t : Bool) → false ≡ (t && not true)
and_none true = refl
and_none false = refl

module _ (pages : List ℕ) (page byte v : ℕ) (low : page / 8 < length pages) (sets : SetsBit (get_or pages (page / 8) 0) byte (page % 8) v) where
  abbrev changed : List ℕ
  changed = set pages (page / 8) byte

  here : has changed page ≡ (v == 1)
  unfolding has
  here = ap (λ (b : ℕ). bit_at b (page % 8) == 1) (get_or-set_same pages (page / 8) byte 0 low) ∙ ap (λ (n : ℕ). n == 1) sets.here

  elsewhere : (p : ℕ) → p ≢ page → has changed p ≡ has pages p
  unfolding has
  elsewhere p other = ap (λ (n : ℕ). n == 1) (elim (cases_eq (p / 8) (page / 8)) [
    | inl same ↦
        ap (λ (b : ℕ). bit_at b (p % 8)) (get_or-set_at pages (page / 8) (p / 8) byte 0 same low)
        ∙ sets.others (p % 8) (omega arith) (λ e. other (omega (arith, e, same))) ∙ ap (λ (i : ℕ). bit_at (get_or pages i 0) (p % 8)) (sym same)
    | inr apart ↦ ap (λ (b : ℕ). bit_at b (p % 8)) (get_or-set_other pages (page / 8) (p / 8) byte 0 apart)
  ])

-- zeros have no page
pub none_has : (n p : ℕ) → has (replicate n 0) p ≡ false
unfolding has
none_has n p = ap (λ (b : ℕ). bit_at b (p % 8) == 1) none ∙ ap (λ (v : ℕ). v == 1) (bit_at-zero (p % 8))
  where
    none : ◌≡◌ {A = ℕ} (get_or (replicate n 0) (p / 8) 0) 0
    none = elim (cases_lt (p / 8) n) [
      | inl low ↦ get_or-replicate n (p / 8) 0 0 low
      | inr high ↦ get_or_past (replicate n 0) (p / 8) 0 (omega (arith, high, length-replicate {A = ℕ} n 0))
    ]

-- the bit becomes 1
pub inserted : (pages : List ℕ) (page byte : ℕ) → page / 8 < length pages → SetsBit (get_or pages (page / 8) 0) byte (page % 8) 1 → (p : ℕ) → has (set pages (page / 8) byte) p ≡ (nat_eq p page || has pages p)
inserted pages page byte low sets p = elim (cases_eq p page) [
  | inl same ↦ ap (has (set pages (page / 8) byte)) same ∙ here pages page byte 1 low sets ∙ ap (λ (t : Bool). t || has pages p) (sym (eq_yes p page same))
  | inr other ↦ elsewhere pages page byte 1 low sets p other ∙ ap (λ (t : Bool). t || has pages p) (sym (eq_no p page other))
]

-- the bit becomes 0
pub removed : (pages : List ℕ) (page byte : ℕ) → page / 8 < length pages → SetsBit (get_or pages (page / 8) 0) byte (page % 8) 0 → IsWithout pages (page ∷ []) (set pages (page / 8) byte)
removed pages page byte low sets p = elim (cases_eq p page) [
  | inl same ↦ ap (has (set pages (page / 8) byte)) same ∙ here pages page byte 0 low sets ∙ and_none (has pages p) ∙ ap (λ (t : Bool). has pages p && not (t || false)) (sym (eq_yes p page same))
  | inr other ↦ elsewhere pages page byte 0 low sets p other ∙ and_true (has pages p) ∙ ap (λ (t : Bool). has pages p && not (t || false)) (sym (eq_no p page other))
]

-- there is no room for the page, so it isn't in the set
pub past : (pages : List ℕ) (page : ℕ) → length pages ≤ page / 8 → has pages page ≡ false
unfolding has
past pages page far = ap (λ (b : ℕ). bit_at b (page % 8) == 1) (get_or_past pages (page / 8) 0 far) ∙ ap (λ (n : ℕ). n == 1) (bit_at-zero (page % 8))

pub removed_past : (pages : List ℕ) (page : ℕ) → length pages ≤ page / 8 → IsWithout pages (page ∷ []) pages
removed_past pages page far p = elim (cases_eq p page) [
  | inl same ↦ ap (has pages) same ∙ past pages page far ∙ and_none (has pages p) ∙ ap (λ (t : Bool). has pages p && not (t || false)) (sym (eq_yes p page same))
  | inr other ↦ and_true (has pages p) ∙ ap (λ (t : Bool). has pages p && not (t || false)) (sym (eq_no p page other))
]
