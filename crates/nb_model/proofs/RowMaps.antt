-- Rows as a finite map: keys rise, and two maps are the same where each key has the same text in both.
use Rattle.std.proofs.Common.{◌≡◌, ◌≢◌, inl, inr, ℕ, suc, ◌<◌, List, [], ◌∷◌, refl, sym, ap, subst, ◌∙◌, arith, Bool, true, false, ◌&&◌, ◌==◌, nat_lt, nat_eq, Option, Some, None, option_map}
use Rattle.nb_model.proofs.Common.{AllByRecursion, true≢false, eqb_tells, leb_tells, Spot, is_used, key_of, text_in, first_such, row_spot, RowMap, IsRising, with_row, without_row, row_at, rows_in, eq_other, eq_self, some_none, some_same}

abbrev Row : Type 0
Row = ℕ × List ℕ

-- all keys are above this one
abbrev Above : ℕ → RowMap → Type 0
Above m rs = AllByRecursion (λ (s : Row). m < s.0) rs

above_less : (m n : ℕ) (rs : RowMap) → m < n → Above n rs → Above m rs
above_less m n [] less all = tt
above_less m n (r ∷ rs) less all = (omega (arith, less, all.0), above_less m n rs less all.1)

-- a row more
with_above : (m key : ℕ) (text : List ℕ) (rs : RowMap) → m < key → Above m rs → Above m (with_row key text rs)
unfolding with_row
with_above m key text [] less all = (less, tt)
with_above m key text (r ∷ rs) less all = by (nat_lt key r.0) (nat_eq key r.0) (with_above m key text rs less all.1)
  where
    by : (a b : Bool) → Above m (with_row key text rs)
        → Above m (elim a as (λ z. RowMap) [ true ↦ (key, text) ∷ r ∷ rs | false ↦ elim b as (λ z. RowMap) [ true ↦ (key, text) ∷ rs | false ↦ r ∷ with_row key text rs ] ])
    by true b rest = (less, all)
    by false true rest = (less, all.1)
    by false false rest = (all.0, rest)

pub with_rising : (key : ℕ) (text : List ℕ) (rs : RowMap) → IsRising rs → IsRising (with_row key text rs)
unfolding with_row
with_rising key text [] rising = (tt, tt)
with_rising key text (r ∷ rs) rising = elim (leb_tells (suc key) r.0) [
  | inl w ↦ by true (nat_eq key r.0) w.0 refl (λ e. w.1) (λ e other. absurd (true≢false e)) (with_rising key text rs rising.1)
  | inr w ↦ by false (nat_eq key r.0) w.0 refl (λ e. absurd (true≢false (sym e))) (λ e other. omega (arith, w.1, other)) (with_rising key text rs rising.1)
]
  where
    different : nat_eq key r.0 ≡ false → key ≢ r.0
    different e = elim (eqb_tells key r.0) [ inl w ↦ absurd (true≢false (sym w.0 ∙ e)) | inr w ↦ w.1 ]

    equal : nat_eq key r.0 ≡ true → key ≡ r.0
    equal e = elim (eqb_tells key r.0) [ inl w ↦ w.1 | inr w ↦ absurd (true≢false (sym e ∙ w.0)) ]

    by : (a b : Bool) → nat_lt key r.0 ≡ a → nat_eq key r.0 ≡ b → (a ≡ true → key < r.0) → (a ≡ false → key ≢ r.0 → r.0 < key) → IsRising (with_row key text rs)
        → IsRising (elim (nat_lt key r.0) as (λ z. RowMap) [ true ↦ (key, text) ∷ r ∷ rs | false ↦ elim (nat_eq key r.0) as (λ z. RowMap) [ true ↦ (key, text) ∷ rs | false ↦ r ∷ with_row key text rs ] ])
    by true b is also less more rest = rw is ((less refl, above_less key r.0 rs (less refl) rising.0), rising)
    by false true is also less more rest = rw (is, also) (subst (λ (k : ℕ). Above k rs) (sym (equal also)) rising.0, rising.1)
    by false false is also less more rest = rw (is, also) (with_above r.0 key text rs (more refl (different also)) rising.0, rest)

-- a row fewer
without_above : (m key : ℕ) (rs : RowMap) → Above m rs → Above m (without_row key rs)
unfolding without_row
without_above m key [] all = tt
without_above m key (r ∷ rs) all = by (nat_eq key r.0) (without_above m key rs all.1)
  where
    by : (b : Bool) → Above m (without_row key rs) → Above m (elim b as (λ z. RowMap) [ true ↦ without_row key rs | false ↦ r ∷ without_row key rs ])
    by true rest = rest
    by false rest = (all.0, rest)

pub without_rising : (key : ℕ) (rs : RowMap) → IsRising rs → IsRising (without_row key rs)
unfolding without_row
without_rising key [] rising = tt
without_rising key (r ∷ rs) rising = by (nat_eq key r.0) (without_rising key rs rising.1)
  where
    by : (b : Bool) → IsRising (without_row key rs) → IsRising (elim b as (λ z. RowMap) [ true ↦ without_row key rs | false ↦ r ∷ without_row key rs ])
    by true rest = rest
    by false rest = (without_above r.0 key rs rising.0, rest)

-- The keys of the rows in slots rise.
pub rows_rise : (ss : List Spot) → IsRising (rows_in ss)
unfolding rows_in
rows_rise [] = tt
rows_rise (s ∷ ss) = by (is_used s.bytes) (rows_rise ss)
  where
    by : (b : Bool) → IsRising (rows_in ss) → IsRising (elim b as (λ z. RowMap) [ true ↦ with_row (key_of s.bytes) (text_in s.bytes) (rows_in ss) | false ↦ rows_in ss ])
    by true rest = with_rising (key_of s.bytes) (text_in s.bytes) (rows_in ss) rest
    by false rest = rest

-- What stands under a key.
abbrev here : ℕ → Row → RowMap → Option (List ℕ)
here key r rs = elim (nat_eq key r.0) as (λ z. Option (List ℕ)) [ true ↦ Some r.1 | false ↦ row_at key rs ]

at_first : (key : ℕ) (r : Row) (rs : RowMap) → row_at key (r ∷ rs) ≡ here key r rs
unfolding row_at
at_first key r rs = refl

equal_by : (key other : ℕ) → nat_eq key other ≡ true → key ≡ other
equal_by key other e = elim (eqb_tells key other) [ inl w ↦ w.1 | inr w ↦ absurd (true≢false (sym e ∙ w.0)) ]

here_same : (key : ℕ) (text : List ℕ) (rs : RowMap) → row_at key ((key, text) ∷ rs) ≡ Some text
here_same key text rs = at_first key (key, text) rs ∙ ap (λ (t : Bool). elim t as (λ z. Option (List ℕ)) [ true ↦ Some text | false ↦ row_at key rs ]) (eq_self key)

here_other : (key : ℕ) (r : Row) (rs : RowMap) → key ≢ r.0 → row_at key (r ∷ rs) ≡ row_at key rs
here_other key r rs ne = at_first key r rs ∙ ap (λ (t : Bool). elim t as (λ z. Option (List ℕ)) [ true ↦ Some r.1 | false ↦ row_at key rs ]) (eq_other key r.0 ne)

pub with_here : (key : ℕ) (text : List ℕ) (rs : RowMap) → row_at key (with_row key text rs) ≡ Some text
unfolding with_row
with_here key text [] = here_same key text []
with_here key text (r ∷ rs) = by (nat_lt key r.0) (nat_eq key r.0) refl (with_here key text rs)
  where
    by : (a b : Bool) → nat_eq key r.0 ≡ b → row_at key (with_row key text rs) ≡ Some text
        → row_at key (elim a as (λ z. RowMap) [ true ↦ (key, text) ∷ r ∷ rs | false ↦ elim b as (λ z. RowMap) [ true ↦ (key, text) ∷ rs | false ↦ r ∷ with_row key text rs ] ]) ≡ Some text
    by true b is rest = here_same key text (r ∷ rs)
    by false true is rest = here_same key text rs
    by false false is rest = at_first key r (with_row key text rs) ∙ ap (λ (t : Bool). elim t as (λ z. Option (List ℕ)) [ true ↦ Some r.1 | false ↦ row_at key (with_row key text rs) ]) is ∙ rest

pub with_there : (key other : ℕ) (text : List ℕ) (rs : RowMap) → other ≢ key → row_at other (with_row key text rs) ≡ row_at other rs
unfolding with_row
with_there key other text [] ne = here_other other (key, text) [] ne
with_there key other text (r ∷ rs) ne = by (nat_lt key r.0) (nat_eq key r.0) refl (with_there key other text rs ne)
  where
    by : (a b : Bool) → nat_eq key r.0 ≡ b → row_at other (with_row key text rs) ≡ row_at other rs
        → row_at other (elim a as (λ z. RowMap) [ true ↦ (key, text) ∷ r ∷ rs | false ↦ elim b as (λ z. RowMap) [ true ↦ (key, text) ∷ rs | false ↦ r ∷ with_row key text rs ] ]) ≡ row_at other (r ∷ rs)
    by true b is rest = here_other other (key, text) (r ∷ rs) ne
    by false true is rest = here_other other (key, text) rs ne ∙ sym (here_other other r rs (λ e. ne (e ∙ sym (equal_by key r.0 is))))
    by false false is rest = at_first other r (with_row key text rs) ∙ ap (λ (o : Option (List ℕ)). elim (nat_eq other r.0) as (λ z. Option (List ℕ)) [ true ↦ Some r.1 | false ↦ o ]) rest ∙ sym (at_first other r rs)

none_at : (key : ℕ) → row_at key [] ≡ None
unfolding row_at
none_at key = refl

pub without_here : (key : ℕ) (rs : RowMap) → row_at key (without_row key rs) ≡ None
unfolding without_row
without_here key [] = none_at key
without_here key (r ∷ rs) = by (nat_eq key r.0) refl (without_here key rs)
  where
    by : (b : Bool) → nat_eq key r.0 ≡ b → row_at key (without_row key rs) ≡ None → row_at key (elim b as (λ z. RowMap) [ true ↦ without_row key rs | false ↦ r ∷ without_row key rs ]) ≡ None
    by true is rest = rest
    by false is rest = at_first key r (without_row key rs) ∙ ap (λ (t : Bool). elim t as (λ z. Option (List ℕ)) [ true ↦ Some r.1 | false ↦ row_at key (without_row key rs) ]) is ∙ rest

pub without_there : (key other : ℕ) (rs : RowMap) → other ≢ key → row_at other (without_row key rs) ≡ row_at other rs
unfolding without_row
without_there key other [] ne = refl
without_there key other (r ∷ rs) ne = by (nat_eq key r.0) refl (without_there key other rs ne)
  where
    by : (b : Bool) → nat_eq key r.0 ≡ b → row_at other (without_row key rs) ≡ row_at other rs → row_at other (elim b as (λ z. RowMap) [ true ↦ without_row key rs | false ↦ r ∷ without_row key rs ]) ≡ row_at other (r ∷ rs)
    by true is rest = rest ∙ sym (here_other other r rs (λ e. ne (e ∙ sym (equal_by key r.0 is))))
    by false is rest = at_first other r (without_row key rs) ∙ ap (λ (o : Option (List ℕ)). elim (nat_eq other r.0) as (λ z. Option (List ℕ)) [ true ↦ Some r.1 | false ↦ o ]) rest ∙ sym (at_first other r rs)

-- Rising maps with the same text under each key are the same.
above_none : (key : ℕ) (rs : RowMap) → Above key rs → row_at key rs ≡ None
above_none key [] all = none_at key
above_none key (r ∷ rs) all = here_other key r rs (λ e. absurd (omega (arith, e, all.0))) ∙ above_none key rs all.1

pub same_maps : (a b : RowMap) → IsRising a → IsRising b → ((key : ℕ) → row_at key a ≡ row_at key b) → a ≡ b
same_maps [] [] ra rb same = refl
same_maps [] (s ∷ ss) ra rb same = absurd (some_none s.1 (sym (here_same s.0 s.1 ss) ∙ sym (same s.0) ∙ none_at s.0))
same_maps (r ∷ rs) [] ra rb same = absurd (some_none r.1 (sym (here_same r.0 r.1 rs) ∙ same r.0 ∙ none_at r.0))
same_maps (r ∷ rs) (s ∷ ss) ra rb same = elim (eqb_tells r.0 s.0) [
  | inl w ↦
      let key : r.0 ≡ s.0 = w.1 in
      let text : r.1 ≡ s.1 = some_same r.1 s.1 (sym (here_same r.0 r.1 rs) ∙ same r.0 ∙ ap (λ (k : ℕ). row_at k (s ∷ ss)) key ∙ here_same s.0 s.1 ss) in
      let rest : rs ≡ ss = same_maps rs ss ra.1 rb.1 (λ k. tail k key) in
      ap (λ (xs : RowMap). r ∷ xs) rest ∙ ap (λ (k : ℕ). (k, r.1) ∷ ss) key ∙ ap (λ (t : List ℕ). (s.0, t) ∷ ss) text
  | inr w ↦ elim (leb_tells (suc r.0) s.0) [
    | inl less ↦ absurd (some_none r.1 (sym (here_same r.0 r.1 rs) ∙ same r.0 ∙ above_none r.0 (s ∷ ss) (less.1, above_less r.0 s.0 ss less.1 rb.0)))
    | inr more ↦ let above : s.0 < r.0 = omega (arith, more.1, w.1) in absurd (some_none s.1 (sym (here_same s.0 s.1 ss) ∙ sym (same s.0) ∙ above_none s.0 (r ∷ rs) (above, above_less s.0 r.0 rs above ra.0)))
  ]
]
  where
    tail : (k : ℕ) → r.0 ≡ s.0 → row_at k rs ≡ row_at k ss
    tail k key = elim (eqb_tells k r.0) [
      | inl w ↦ ap (λ (n : ℕ). row_at n rs) w.1 ∙ above_none r.0 rs ra.0 ∙ sym (ap (λ (n : ℕ). row_at n ss) (w.1 ∙ key) ∙ above_none s.0 ss rb.0)
      | inr w ↦ sym (here_other k r rs w.1) ∙ same k ∙ here_other k s ss (λ e. w.1 (e ∙ sym key))
    ]

-- The text under a key is that of the first used slot with that key.
pub rows_at : (key : ℕ) (ss : List Spot) → row_at key (rows_in ss) ≡ option_map (λ (s : Spot). text_in s.bytes) (row_spot key ss)
unfolding rows_in row_spot first_such
rows_at key [] = none_at key
rows_at key (s ∷ ss) = by (is_used s.bytes) (rows_at key ss)
  where
    rest : Option Spot
    rest = first_such (λ x. is_used x.bytes && key_of x.bytes == key) ss

    text_of : Spot → List ℕ
    text_of x = text_in x.bytes

    by : (t : Bool) → row_at key (rows_in ss) ≡ option_map text_of rest
        → row_at key (elim t as (λ z. RowMap) [ true ↦ with_row (key_of s.bytes) (text_in s.bytes) (rows_in ss) | false ↦ rows_in ss ])
        ≡ option_map text_of (elim (t && key_of s.bytes == key) as (λ z. Option Spot) [ true ↦ Some s | false ↦ rest ])
    by false before = before
    by true before = elim (eqb_tells (key_of s.bytes) key) [
      | inl w ↦
          ap (λ (k : ℕ). row_at k (with_row (key_of s.bytes) (text_in s.bytes) (rows_in ss))) (sym w.1) ∙ with_here (key_of s.bytes) (text_in s.bytes) (rows_in ss)
          ∙ ap (λ (t : Bool). option_map text_of (elim t as (λ z. Option Spot) [ true ↦ Some s | false ↦ rest ])) (sym w.0)
      | inr w ↦
          with_there (key_of s.bytes) key (text_in s.bytes) (rows_in ss) (λ e. w.1 (sym e)) ∙ before
          ∙ ap (λ (t : Bool). option_map text_of (elim t as (λ z. Option Spot) [ true ↦ Some s | false ↦ rest ])) (sym w.0)
    ]
