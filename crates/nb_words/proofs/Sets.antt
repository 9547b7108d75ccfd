-- How often each flag was given tells which set of flags was given.
use Rattle.std.proofs.Common.{◌⊎◌, slice_index, ◌≡◌, ◌∙◌, ◌+◌, ◌<◌, ℕ, ◌==◌, ◌&&◌, ◌||◌, Bool, true, false, min, List, [], ◌∷◌, length, refl, ap, ap₂, sym, subst, inl, inr, codes, nat_eq, nat_lt, arith}
use Rattle.nb_words.proofs.Common.{list_all, list_any, position_or_len, bytes_eq-Decides, cases_Bool, and_parts, and_from, or_cases, eqb-true, eq-eqb, lt-ltb, ltb-true, true≢false, are_flags, is_flag, row_at, row_of, times, counts_of}
use Rattle.std.specs.Cmp.Lexicographic.{pointwise}
use Rattle.nb_words.proofs.UseLaws.{times_hit, times_miss}
use Rattle.nb_words.proofs.Looks.{turned}

-- a letter stands in a list where it stands there once or more
any_times : (x : ℕ) (flags : List ℕ) → list_any (nat_eq x) flags ≡ nat_lt 0 (times x flags)
any_times x [] = refl
any_times x (y ∷ ys) = elim (cases_Bool (y == x)) [
  | inl e ↦ ap (λ b. b || list_any (nat_eq x) ys) (turned x y ∙ e) ∙ sym (lt-ltb 0 (times x (y ∷ ys)) (let n = times_hit x y ys e in omega (arith, n)))
  | inr e ↦ ap (λ b. b || list_any (nat_eq x) ys) (turned x y ∙ e) ∙ any_times x ys ∙ sym (ap (λ n. nat_lt 0 n) (times_miss x y ys e))
]

-- how often all flags are given
abbrev total : List ℕ → ℕ
total flags = times 66 flags + times 82 flags + times 76 flags + times 83 flags + times 78 flags + times 70 flags + times 73 flags

total_one : (x : ℕ) (xs : List ℕ) → is_flag x ≡ true → total (x ∷ xs) ≡ total xs + 1
total_one x xs h = one (or_cases (x == 66) _ h) where
  at : (k : ℕ) → total (k ∷ xs) ≡ total xs + 1 → (x == k) ≡ true → total (x ∷ xs) ≡ total xs + 1
  at k e same = subst (λ (n : ℕ). total (n ∷ xs) ≡ total xs + 1) (sym (eqb-true x k same)) e

  seven : ((x == 73) || false) ≡ true → total (x ∷ xs) ≡ total xs + 1
  seven h = elim (or_cases (x == 73) false h) [ inl e ↦ at 73 (omega arith) e | inr e ↦ absurd (true≢false (sym e)) ]

  six : ((x == 70) || ((x == 73) || false)) ≡ true → total (x ∷ xs) ≡ total xs + 1
  six h = elim (or_cases (x == 70) _ h) [ inl e ↦ at 70 (omega arith) e | inr e ↦ seven e ]

  five : ((x == 78) || ((x == 70) || ((x == 73) || false))) ≡ true → total (x ∷ xs) ≡ total xs + 1
  five h = elim (or_cases (x == 78) _ h) [ inl e ↦ at 78 (omega arith) e | inr e ↦ six e ]

  four : ((x == 83) || ((x == 78) || ((x == 70) || ((x == 73) || false)))) ≡ true → total (x ∷ xs) ≡ total xs + 1
  four h = elim (or_cases (x == 83) _ h) [ inl e ↦ at 83 (omega arith) e | inr e ↦ five e ]

  three : ((x == 76) || ((x == 83) || ((x == 78) || ((x == 70) || ((x == 73) || false))))) ≡ true → total (x ∷ xs) ≡ total xs + 1
  three h = elim (or_cases (x == 76) _ h) [ inl e ↦ at 76 (omega arith) e | inr e ↦ four e ]

  two : ((x == 82) || ((x == 76) || ((x == 83) || ((x == 78) || ((x == 70) || ((x == 73) || false)))))) ≡ true → total (x ∷ xs) ≡ total xs + 1
  two h = elim (or_cases (x == 82) _ h) [ inl e ↦ at 82 (omega arith) e | inr e ↦ three e ]

  one : ((x == 66) ≡ true) ⊎ (((x == 82) || ((x == 76) || ((x == 83) || ((x == 78) || ((x == 70) || ((x == 73) || false)))))) ≡ true) → total (x ∷ xs) ≡ total xs + 1
  one (inl e) = at 66 (omega arith) e
  one (inr e) = two e

total_is : (flags : List ℕ) → list_all is_flag flags ≡ true → length flags ≡ total flags
total_is [] all = refl
total_is (x ∷ xs) all =
    let parts = and_parts (is_flag x) (list_all is_flag xs) all in
    let one = total_one x xs parts.0 in
    let rest = total_is xs parts.1 in
    omega (arith, one, rest)

-- ---- no flag, one, or two

none_from : (flags : List ℕ) → length flags ≡ 0 → are_flags flags [] ≡ true
none_from flags e = and_from (length flags == 0) true (eq-eqb (length flags) 0 e) refl

none_to : (flags : List ℕ) → are_flags flags [] ≡ true → length flags ≡ 0
none_to flags h = eqb-true (length flags) 0 (and_parts (length flags == 0) true h).0

has : (x : ℕ) (flags : List ℕ) → 0 < times x flags → list_any (nat_eq x) flags ≡ true
has x flags some = any_times x flags ∙ lt-ltb 0 (times x flags) some

one_from : (x : ℕ) (flags : List ℕ) → length flags ≡ 1 → 0 < times x flags → are_flags flags (x ∷ []) ≡ true
one_from x flags e some = and_from (length flags == 1) (list_any (nat_eq x) flags && true) (eq-eqb (length flags) 1 e) (and_from (list_any (nat_eq x) flags) true (has x flags some) refl)

one_to : (x : ℕ) (flags : List ℕ) → are_flags flags (x ∷ []) ≡ true → (length flags ≡ 1) × (0 < times x flags)
one_to x flags h =
    let parts = and_parts (length flags == 1) (list_any (nat_eq x) flags && true) h in
    (eqb-true (length flags) 1 parts.0, ltb-true 0 (times x flags) (sym (any_times x flags) ∙ (and_parts (list_any (nat_eq x) flags) true parts.1).0))

two_from : (x y : ℕ) (flags : List ℕ) → length flags ≡ 2 → 0 < times x flags → 0 < times y flags → are_flags flags (x ∷ y ∷ []) ≡ true
two_from x y flags e some other =
    and_from (length flags == 2) (list_any (nat_eq x) flags && (list_any (nat_eq y) flags && true)) (eq-eqb (length flags) 2 e)
    (and_from (list_any (nat_eq x) flags) (list_any (nat_eq y) flags && true) (has x flags some) (and_from (list_any (nat_eq y) flags) true (has y flags other) refl))

two_to : (x y : ℕ) (flags : List ℕ) → are_flags flags (x ∷ y ∷ []) ≡ true → (length flags ≡ 2) × ((0 < times x flags) × (0 < times y flags))
two_to x y flags h =
    let parts = and_parts (length flags == 2) (list_any (nat_eq x) flags && (list_any (nat_eq y) flags && true)) h in
    let both = and_parts (list_any (nat_eq x) flags) (list_any (nat_eq y) flags && true) parts.1 in
    (eqb-true (length flags) 2 parts.0, (ltb-true 0 (times x flags) (sym (any_times x flags) ∙ both.0), ltb-true 0 (times y flags) (sym (any_times y flags) ∙ (and_parts (list_any (nat_eq y) flags) true both.1).0)))

-- ---- seven counts

both_true : (p q : Bool) → (p ≡ true → q ≡ true) → (q ≡ true → p ≡ true) → p ≡ q
both_true true q f g = sym (f refl)
both_true false true f g = g refl
both_true false false f g = refl

-- so often each flag is given
record Counts (flags : List ℕ) (b r l s n f i : ℕ) : Type 0 where
  at_b : b ≡ min (times 66 flags) 255
  at_r : r ≡ min (times 82 flags) 255
  at_l : l ≡ min (times 76 flags) 255
  at_s : s ≡ min (times 83 flags) 255
  at_n : n ≡ min (times 78 flags) 255
  at_f : f ≡ min (times 70 flags) 255
  at_i : i ≡ min (times 73 flags) 255

set_is : (flags : List ℕ) (b r l s n f i : ℕ) (q : Bool) → (Counts flags b r l s n f i → q ≡ true) → (q ≡ true → Counts flags b r l s n f i) → pointwise nat_eq (b ∷ r ∷ l ∷ s ∷ n ∷ f ∷ i ∷ []) (counts_of flags) ≡ q
set_is flags b r l s n f i q to from =
    let mine = b ∷ r ∷ l ∷ s ∷ n ∷ f ∷ i ∷ [] in
    let decides = bytes_eq-Decides mine (counts_of flags) in
    both_true (pointwise nat_eq mine (counts_of flags)) q
    (λ h.
    let e : mine ≡ counts_of flags = decides.0 h in
    to (record {
      at_b = ap (λ (t : List ℕ). slice_index t 0) e;
      at_r = ap (λ (t : List ℕ). slice_index t 1) e;
      at_l = ap (λ (t : List ℕ). slice_index t 2) e;
      at_s = ap (λ (t : List ℕ). slice_index t 3) e;
      at_n = ap (λ (t : List ℕ). slice_index t 4) e;
      at_f = ap (λ (t : List ℕ). slice_index t 5) e;
      at_i = ap (λ (t : List ℕ). slice_index t 6) e;
    }))
    (λ h. let c = from h in decides.1 (all_same c.at_b c.at_r c.at_l c.at_s c.at_n c.at_f c.at_i)) where
      all_same : {b r l s n f i x1 x2 x3 x4 x5 x6 x7 : ℕ} → b ≡ x1 → r ≡ x2 → l ≡ x3 → s ≡ x4 → n ≡ x5 → f ≡ x6 → i ≡ x7
          → (b ∷ r ∷ l ∷ s ∷ n ∷ f ∷ i ∷ []) ≡ (x1 ∷ x2 ∷ x3 ∷ x4 ∷ x5 ∷ x6 ∷ x7 ∷ [])
      all_same e1 e2 e3 e4 e5 e6 e7 = ap₂ (λ (x : ℕ) (t : List ℕ). x ∷ t) e1 (ap₂ (λ (x : ℕ) (t : List ℕ). x ∷ t) e2 (ap₂ (λ (x : ℕ) (t : List ℕ). x ∷ t) e3 (ap₂ (λ (x : ℕ) (t : List ℕ). x ∷ t) e4 (ap₂ (λ (x : ℕ) (t : List ℕ). x ∷ t) e5 (ap₂ (λ (x : ℕ) (t : List ℕ). x ∷ t) e6 (ap (λ (x : ℕ). x ∷ []) e7))))))

-- ---- the sets

module _ (flags : List ℕ) (len : length flags ≡ total flags) where
  no_flags : pointwise nat_eq (counts_of (codes "")) (counts_of flags) ≡ are_flags flags (codes "")
  no_flags = set_is flags 0 0 0 0 0 0 0 (are_flags flags (codes ""))
      (λ c. none_from flags (omega (arith, len, c.at_b, c.at_r, c.at_l, c.at_s, c.at_n, c.at_f, c.at_i)))
      (λ h.
      let e = none_to flags h in
      record { at_b = omega (arith, len, e); at_r = omega (arith, len, e); at_l = omega (arith, len, e); at_s = omega (arith, len, e); at_n = omega (arith, len, e); at_f = omega (arith, len, e); at_i = omega (arith, len, e) })

  -- of a set of one flag
  single : (x b r l s n f i : ℕ) → (Counts flags b r l s n f i → (length flags ≡ 1) × (0 < times x flags)) → (length flags ≡ 1 → 0 < times x flags → Counts flags b r l s n f i)
      → pointwise nat_eq (b ∷ r ∷ l ∷ s ∷ n ∷ f ∷ i ∷ []) (counts_of flags) ≡ are_flags flags (x ∷ [])
  single x b r l s n f i to from = set_is flags b r l s n f i (are_flags flags (x ∷ [])) (λ c. one_from x flags (to c).0 (to c).1) (λ h. from (one_to x flags h).0 (one_to x flags h).1)

  double : (x y b r l s n f i : ℕ) → (Counts flags b r l s n f i → (length flags ≡ 2) × ((0 < times x flags) × (0 < times y flags))) → (length flags ≡ 2 → 0 < times x flags → 0 < times y flags → Counts flags b r l s n f i)
      → pointwise nat_eq (b ∷ r ∷ l ∷ s ∷ n ∷ f ∷ i ∷ []) (counts_of flags) ≡ are_flags flags (x ∷ y ∷ [])
  double x y b r l s n f i to from = set_is flags b r l s n f i (are_flags flags (x ∷ y ∷ [])) (λ c. two_from x y flags (to c).0 (to c).1.0 (to c).1.1) (λ h. from (two_to x y flags h).0 (two_to x y flags h).1.0 (two_to x y flags h).1.1)

  back_up : pointwise nat_eq (counts_of (codes "B")) (counts_of flags) ≡ are_flags flags (codes "B")
  back_up = single 66 1 0 0 0 0 0 0 (λ c. (omega (arith, len, c.at_b, c.at_r, c.at_l, c.at_s, c.at_n, c.at_f, c.at_i), omega (arith, c.at_b))) (λ e some. record { at_b = omega (arith, len, e, some); at_r = omega (arith, len, e, some); at_l = omega (arith, len, e, some); at_s = omega (arith, len, e, some); at_n = omega (arith, len, e, some); at_f = omega (arith, len, e, some); at_i = omega (arith, len, e, some) })

  restore : pointwise nat_eq (counts_of (codes "R")) (counts_of flags) ≡ are_flags flags (codes "R")
  restore = single 82 0 1 0 0 0 0 0 (λ c. (omega (arith, len, c.at_b, c.at_r, c.at_l, c.at_s, c.at_n, c.at_f, c.at_i), omega (arith, c.at_r))) (λ e some. record { at_b = omega (arith, len, e, some); at_r = omega (arith, len, e, some); at_l = omega (arith, len, e, some); at_s = omega (arith, len, e, some); at_n = omega (arith, len, e, some); at_f = omega (arith, len, e, some); at_i = omega (arith, len, e, some) })

  lock : pointwise nat_eq (counts_of (codes "L")) (counts_of flags) ≡ are_flags flags (codes "L")
  lock = single 76 0 0 1 0 0 0 0 (λ c. (omega (arith, len, c.at_b, c.at_r, c.at_l, c.at_s, c.at_n, c.at_f, c.at_i), omega (arith, c.at_l))) (λ e some. record { at_b = omega (arith, len, e, some); at_r = omega (arith, len, e, some); at_l = omega (arith, len, e, some); at_s = omega (arith, len, e, some); at_n = omega (arith, len, e, some); at_f = omega (arith, len, e, some); at_i = omega (arith, len, e, some) })

  unlock : pointwise nat_eq (counts_of (codes "N")) (counts_of flags) ≡ are_flags flags (codes "N")
  unlock = single 78 0 0 0 0 1 0 0 (λ c. (omega (arith, len, c.at_b, c.at_r, c.at_l, c.at_s, c.at_n, c.at_f, c.at_i), omega (arith, c.at_n))) (λ e some. record { at_b = omega (arith, len, e, some); at_r = omega (arith, len, e, some); at_l = omega (arith, len, e, some); at_s = omega (arith, len, e, some); at_n = omega (arith, len, e, some); at_f = omega (arith, len, e, some); at_i = omega (arith, len, e, some) })

  fix_up : pointwise nat_eq (counts_of (codes "F")) (counts_of flags) ≡ are_flags flags (codes "F")
  fix_up = single 70 0 0 0 0 0 1 0 (λ c. (omega (arith, len, c.at_b, c.at_r, c.at_l, c.at_s, c.at_n, c.at_f, c.at_i), omega (arith, c.at_f))) (λ e some. record { at_b = omega (arith, len, e, some); at_r = omega (arith, len, e, some); at_l = omega (arith, len, e, some); at_s = omega (arith, len, e, some); at_n = omega (arith, len, e, some); at_f = omega (arith, len, e, some); at_i = omega (arith, len, e, some) })

  apply : pointwise nat_eq (counts_of (codes "IR")) (counts_of flags) ≡ are_flags flags (codes "IR")
  apply = double 73 82 0 1 0 0 0 0 1 (λ c. (omega (arith, len, c.at_b, c.at_r, c.at_l, c.at_s, c.at_n, c.at_f, c.at_i), (omega (arith, c.at_i), omega (arith, c.at_r)))) (λ e some other. record { at_b = omega (arith, len, e, some, other); at_r = omega (arith, len, e, some, other); at_l = omega (arith, len, e, some, other); at_s = omega (arith, len, e, some, other); at_n = omega (arith, len, e, some, other); at_f = omega (arith, len, e, some, other); at_i = omega (arith, len, e, some, other) })

  lock_with_size : pointwise nat_eq (counts_of (codes "LS")) (counts_of flags) ≡ are_flags flags (codes "LS")
  lock_with_size = double 76 83 0 0 1 1 0 0 0 (λ c. (omega (arith, len, c.at_b, c.at_r, c.at_l, c.at_s, c.at_n, c.at_f, c.at_i), (omega (arith, c.at_l), omega (arith, c.at_s)))) (λ e some other. record { at_b = omega (arith, len, e, some, other); at_r = omega (arith, len, e, some, other); at_l = omega (arith, len, e, some, other); at_s = omega (arith, len, e, some, other); at_n = omega (arith, len, e, some, other); at_f = omega (arith, len, e, some, other); at_i = omega (arith, len, e, some, other) })

-- the row of the counts is that of the flags
eight : {a b c d e f g h k l m n o p q r : Bool} → a ≡ k → b ≡ l → c ≡ m → d ≡ n → e ≡ o → f ≡ p → g ≡ q → h ≡ r
    → position_or_len (λ t. t) (a ∷ b ∷ c ∷ d ∷ e ∷ f ∷ g ∷ h ∷ []) ≡ position_or_len (λ t. t) (k ∷ l ∷ m ∷ n ∷ o ∷ p ∷ q ∷ r ∷ [])
eight e1 e2 e3 e4 e5 e6 e7 e8 = ap (position_or_len (λ t. t)) (next e1 (next e2 (next e3 (next e4 (next e5 (next e6 (next e7 (last e8)))))))) where
  last : {a b : Bool} → a ≡ b → (a ∷ []) ≡ (b ∷ [])
  last e = ap (λ (t : Bool). t ∷ []) e

  next : {a b : Bool} {xs ys : List Bool} → a ≡ b → xs ≡ ys → (a ∷ xs) ≡ (b ∷ ys)
  next e f = ap₂ (λ (t : Bool) (ts : List Bool). t ∷ ts) e f

pub row_is : (flags : List ℕ) → list_all is_flag flags ≡ true → row_at (counts_of flags) ≡ row_of flags
row_is flags all =
    let len = total_is flags all in
    eight (no_flags flags len) (back_up flags len) (restore flags len) (apply flags len) (lock flags len) (lock_with_size flags len) (unlock flags len) (fix_up flags len)
