-- The data pages that are taken, below one page more.
use Rattle.std.proofs.Common.{◌≡◌, ◌≢◌, inl, inr, ℕ, ◌+◌, List, sym, ap, ◌∙◌, arith, Bool, true, false, ◌&&◌, ◌||◌, ◌==◌, not, nat_lt, nat_eq}
use Rattle.nb_check.proofs.Common.{and_left, and_from, cases_lt, eqb_tells, kind_of, data_kind, Image, page_at, is_free_page, is_taken_data, eq_no, eq_yes, lt_yes, lt_no, HoldsTaken, has, and_right}

lt_next : (p n : ℕ) → p ≢ n → nat_lt p n ≡ nat_lt p (n + 1)
lt_next p n other = elim (cases_lt p n) [
  | inl low ↦ lt_yes p n low ∙ sym (lt_yes p (n + 1) (omega (arith, low)))
  | inr high ↦ lt_no p n (omega (arith, high)) ∙ sym (lt_no p (n + 1) (omega (arith, high, other)))
]

pub taken_none : (image : Image) (set : List ℕ) → ((p : ℕ) → has set p ≡ false) → HoldsTaken image 0 set
taken_none image set empty p = empty p ∙ sym (and_left (nat_lt p 0) (is_taken_data image p) (lt_no p 0 (omega arith)))

module _ (image : Image) (n : ℕ) (set : List ℕ) (held : HoldsTaken image n set) where
  -- it isn't one
  pub taken_passed : is_taken_data image n ≡ false → HoldsTaken image (n + 1) set
  taken_passed none p = held p ∙ elim (eqb_tells p n) [
    | inl w ↦
        ap (λ (t : Bool). t && is_taken_data image p) (lt_no p n (omega (arith, w.1)))
        ∙ sym (and_right (nat_lt p (n + 1)) (is_taken_data image p) (ap (is_taken_data image) w.1 ∙ none))
    | inr w ↦ ap (λ (t : Bool). t && is_taken_data image p) (lt_next p n w.1)
  ]

  -- it is one
  pub taken_more : (new : List ℕ) → is_taken_data image n ≡ true → ((p : ℕ) → has new p ≡ (nat_eq p n || has set p)) → HoldsTaken image (n + 1) new
  taken_more new one more p = more p ∙ elim (eqb_tells p n) [
    | inl w ↦
        ap (λ (t : Bool). t || has set p) w.0
        ∙ sym (and_from (nat_lt p (n + 1)) (is_taken_data image p) (lt_yes p (n + 1) (omega (arith, w.1))) (ap (is_taken_data image) w.1 ∙ one))
    | inr w ↦ ap (λ (t : Bool). t || has set p) w.0 ∙ held p ∙ ap (λ (t : Bool). t && is_taken_data image p) (lt_next p n w.1)
  ]

-- which pages are taken data pages
module _ (image : Image) (n : ℕ) where
  pub other_kind : kind_of (page_at image n) ≢ data_kind → is_taken_data image n ≡ false
  other_kind other = and_right (not (is_free_page image n)) (kind_of (page_at image n) == data_kind) (eq_no (kind_of (page_at image n)) 5 other)

  pub not_taken : not (is_free_page image n) ≡ false → is_taken_data image n ≡ false
  not_taken free = and_left (not (is_free_page image n)) (kind_of (page_at image n) == data_kind) free

  pub taken_data : not (is_free_page image n) ≡ true → kind_of (page_at image n) ≡ data_kind → is_taken_data image n ≡ true
  taken_data taken five = and_from (not (is_free_page image n)) (kind_of (page_at image n) == data_kind) taken (eq_yes (kind_of (page_at image n)) 5 five)
