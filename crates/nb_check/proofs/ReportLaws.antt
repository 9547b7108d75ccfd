-- The pages of a set, in rising order.
use Rattle.std.proofs.Common.{◌≡◌, ℕ, zero, suc, ◌+◌, ◌-◌, ◌<◌, ◌≤◌, List, [], ◌∷◌, ◌++◌, length, get_or, refl, sym, ap, length-append, ◌∙◌, arith, Bool, true, false, cond, ◌&&◌, not, nat_lt}
use Rattle.nb_check.proofs.Common.{filter, range_with_len, ltb-true, ltb-false, append-nil, Image, lt_yes, lt_no, is_among, is_taken_data, is_leaked, leaked, reached, HoldsTaken, has, room_of, pages_in, IsWithout}
use Rattle.std.proofs.lemmas.List.Elements.{filter-append}
use Rattle.nb_check.proofs.AmongLaws.{among_range, among_behind}
use Rattle.nb_check.proofs.SetBits.{past}
use Rattle.nb_check.proofs.BackLaws.{filter_same}

-- a range in two parts
pub range_split : (n m a : ℕ) → range_with_len a (n + m) ≡ range_with_len a n ++ range_with_len (a + n) m
range_split zero m a =
    let all : zero + m ≡ m = omega arith in
    let here : a ≡ a + zero = omega arith in
    ap (range_with_len a) all ∙ ap (λ (b : ℕ). range_with_len b m) here
range_split (suc n) m a =
    let more : suc n + m ≡ suc (n + m) = omega arith in
    let same : a + 1 + n ≡ a + suc n = omega arith in
    ap (range_with_len a) more ∙ ap (λ (xs : List ℕ). a ∷ xs) (range_split n m (a + 1)) ∙ ap (λ (b : ℕ). a ∷ (range_with_len (a + 1) n ++ range_with_len b m)) same

-- no more pass than there are
pub filtered_most : (test : ℕ → Bool) (n a : ℕ) → length (filter test (range_with_len a n)) ≤ n
filtered_most test zero a = omega arith
filtered_most test (suc n) a = by (test a) (filtered_most test n (a + 1))
  where
    by : (t : Bool) → length (filter test (range_with_len (a + 1) n)) ≤ n → length (cond t (a ∷ filter test (range_with_len (a + 1) n)) (filter test (range_with_len (a + 1) n))) ≤ suc n
    by true rest = omega (arith, rest)
    by false rest = omega (arith, rest)

module _ (test : ℕ → Bool) where
  abbrev up_to : ℕ → List ℕ
  up_to n = filter test (range_with_len 0 n)

  abbrev one : ℕ → Bool → List ℕ
  one n t = cond t (n ∷ []) []

  -- with one number more
  up_to_more : (n : ℕ) → up_to (n + 1) ≡ up_to n ++ one n (test n)
  up_to_more n =
      let here : 0 + n ≡ n = omega arith in
      ap (filter test) (range_split n 1 0) ∙ filter-append test (range_with_len 0 n) (range_with_len (0 + n) 1) ∙ ap (λ (m : ℕ). up_to n ++ one m (test m)) here

  pub one_more : (n : ℕ) → test n ≡ true → up_to (n + 1) ≡ up_to n ++ n ∷ []
  one_more n holds = up_to_more n ∙ ap (λ (t : Bool). up_to n ++ one n t) holds

  pub none_more : (n : ℕ) → test n ≡ false → up_to (n + 1) ≡ up_to n
  none_more n fails = up_to_more n ∙ ap (λ (t : Bool). up_to n ++ one n t) fails ∙ append-nil (up_to n)

  pub counted : (n : ℕ) → test n ≡ true → length (up_to (n + 1)) ≡ length (up_to n) + 1
  counted n holds = ap length (one_more n holds) ∙ length-append (up_to n) (n ∷ [])

  pub passed : (n : ℕ) → test n ≡ false → length (up_to (n + 1)) ≡ length (up_to n)
  passed n fails = ap length (none_more n fails)

  front_get : (fs rs : List ℕ) (x : ℕ) → get_or (fs ++ x ∷ rs) (length fs) 0 ≡ x
  front_get [] rs x = refl
  front_get (f ∷ fs) rs x = front_get fs rs x

  -- a number that passes stands after those that are lower
  pub listed : (room n : ℕ) → n < room → test n ≡ true → get_or (up_to room) (length (up_to n)) 0 ≡ n
  listed room n low holds =
      let parts : room ≡ n + suc (room - n - 1) = omega (arith, low) in
      let here : 0 + n ≡ n = omega arith in
      let all : up_to room ≡ up_to n ++ (n ∷ filter test (range_with_len (n + 1) (room - n - 1))) =
      ap up_to parts ∙ ap (filter test) (range_split n (suc (room - n - 1)) 0) ∙ filter-append test (range_with_len 0 n) (range_with_len (0 + n) (suc (room - n - 1)))
      ∙ ap (λ (m : ℕ). up_to n ++ filter test (range_with_len m (suc (room - n - 1)))) here
      ∙ ap (λ (t : Bool). up_to n ++ cond t (n ∷ filter test (range_with_len (n + 1) (room - n - 1))) (filter test (range_with_len (n + 1) (room - n - 1)))) holds in
      ap (λ (xs : List ℕ). get_or xs (length (up_to n)) 0) all ∙ front_get (up_to n) (filter test (range_with_len (n + 1) (room - n - 1))) n

-- a page is among those of the set where the set has it
pub among_pages : (set : List ℕ) (p : ℕ) → is_among p (pages_in set) ≡ has set p
unfolding pages_in
among_pages set p = by (nat_lt p (room_of set)) refl
  where
    by : (t : Bool) → nat_lt p (room_of set) ≡ t → is_among p (filter (has set) (range_with_len 0 (room_of set))) ≡ has set p
    by true e = among_range (has set) p (room_of set) 0 (omega arith) (omega (arith, ltb-true p (room_of set) e))
    by false e = (let far = ltb-false p (room_of set) e in among_behind (has set) p (room_of set) 0 (omega (arith, far)) ∙ sym (past set p (omega (arith, far))))

-- none of a range passes
pub none_left : (test : ℕ → Bool) (n a : ℕ) → ((q : ℕ) → a ≤ q → q < a + n → test q ≡ false) → filter test (range_with_len a n) ≡ []
none_left test zero a none = refl
none_left test (suc n) a none =
    ap (λ (t : Bool). cond t (a ∷ filter test (range_with_len (a + 1) n)) (filter test (range_with_len (a + 1) n))) (none a (omega arith) (omega arith)) ∙ none_left test n (a + 1) (λ q low high. none q (omega (arith, low)) (omega (arith, high)))

-- The data pages that are taken, without those that are reached, are the leaked ones.
module _ (image : Image) (taken_data rest : List ℕ) (taken : HoldsTaken image (length image) taken_data) (out : IsWithout taken_data (reached image) rest) where
  abbrev n : ℕ
  n = length image

  below : (p : ℕ) → p < n → has rest p ≡ is_leaked image p
  below p low = out p ∙ ap (λ (t : Bool). t && not (is_among p (reached image))) (taken p ∙ ap (λ (t : Bool). t && is_taken_data image p) (lt_yes p n low))

  far : (p : ℕ) → n ≤ p → has rest p ≡ false
  far p high = out p ∙ ap (λ (t : Bool). t && not (is_among p (reached image))) (taken p ∙ ap (λ (t : Bool). t && is_taken_data image p) (lt_no p n high))

  pub leaked_pages : n ≤ room_of rest → pages_in rest ≡ leaked image
  unfolding pages_in leaked
  leaked_pages room =
      let parts : room_of rest ≡ n + (room_of rest - n) = omega (arith, room) in
      ap (λ (m : ℕ). filter (has rest) (range_with_len 0 m)) parts ∙ ap (filter (has rest)) (range_split n (room_of rest - n) 0) ∙ filter-append (has rest) (range_with_len 0 n) (range_with_len (0 + n) (room_of rest - n))
      ∙ ap (λ (xs : List ℕ). filter (has rest) (range_with_len 0 n) ++ xs) (none_left (has rest) (room_of rest - n) (0 + n) (λ q low high. far q (omega (arith, low)))) ∙ append-nil (filter (has rest) (range_with_len 0 n))
      ∙ filter_same (has rest) (is_leaked image) n 0 (λ q low high. below q (omega (arith, high)))
