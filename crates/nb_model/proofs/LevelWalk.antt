-- The walk over the pages of a level file that is read: what holds at its end, and of pages before others that it holds of, holds of all.
use Rattle.std.proofs.Common.{◌≡◌, ◌≢◌, inl, inr, ℕ, zero, suc, ◌+◌, ◌*◌, ◌<◌, ◌≤◌, List, [], ◌∷◌, ◌++◌, length, drop, refl, sym, ap, subst, ◌∙◌, arith, Bool, true, false, not, ◌&&◌, ◌||◌, ◌==◌, nat_lt, nat_le, Option, Some, None, Result, Ok, Err}
use Rattle.nb_model.proofs.Common.{true≢false, eqb-true, or_parts, eqb_tells, leb_tells, number_in, part, most_pages, Numbered, Head, Test, first_fault, behind, end_mark, read_end, read_singles, read_runs, pages_in, barred_after, is_bad_number, is_first_page, not_le, err_not_ok, ok_same}
use Rattle.nb_model.proofs.ReadLaws.{AreClear, single_tests, run_tests, single_there, run_there}

-- where no test fails each is passed
clear_head : (t : Test) (ts : List Test) → first_fault (t ∷ ts) ≡ None → (t.0 ≡ false) × (first_fault ts ≡ None)
unfolding first_fault
clear_head (true, at) ts e = absurd (cc e)
clear_head (false, at) ts e = (refl, e)

pub none_clear : (ts : List Test) → first_fault ts ≡ None → AreClear ts
none_clear [] e = tt
none_clear (t ∷ ts) e = let h = clear_head t ts e in (h.0, none_clear ts h.1)

pub not_long : (a b : ℕ) → nat_lt a b ≡ false → b ≤ a
not_long a b e = elim (leb_tells (suc a) b) [ inl w ↦ absurd (true≢false (sym w.0 ∙ e)) | inr w ↦ omega arith ]

pub not_same : (a b : ℕ) → (a == b) ≡ false → a ≢ b
not_same a b e = elim (eqb_tells a b) [ inl w ↦ absurd (true≢false (sym w.0 ∙ e)) | inr w ↦ w.1 ]

-- a test of page 0 alone
pub zero_tells : (n : ℕ) (b : Bool) → (n == 0 && not b) ≡ false → n ≡ 0 → b ≡ true
zero_tells n true e is = refl
zero_tells n false e is = absurd (true≢false (sym (ap (λ (k : ℕ). k == 0 && true) is) ∙ e))

-- what a number that may stand there is
pub record IsGood (count least n : ℕ) : Type 0 where
  pub begins : count ≡ 0 → n ≡ 0
  pub low : least ≤ n
  pub small : n < most_pages

pub good : (count least n : ℕ) → is_bad_number count least n ≡ false → IsGood count least n
good count least n e =
    let parts = or_parts (count == 0 && not (n == 0)) (nat_lt n least || nat_le most_pages n) e in
    let ends = or_parts (nat_lt n least) (nat_le most_pages n) parts.1 in
    record { begins = λ none. eqb-true n 0 (zero_tells count (n == 0) parts.0 none); low = not_long n least ends.0; small = not_le most_pages n ends.1 }

-- what is read after pages
record IsBehind (rs : List Numbered) (rest : Result (List Numbered) ℕ) (all : List Numbered) : Type 0 where
  pub more : List Numbered
  pub read : rest ≡ Ok more
  pub is : all ≡ rs ++ more

read_behind : (rs : List Numbered) (rest : Result (List Numbered) ℕ) (all : List Numbered) → behind rs rest ≡ Ok all → IsBehind rs rest all
read_behind rs (Ok more) all e = record { more = more; read = refl; is = sym (ok_same (rs ++ more) all (Ok (rs ++ more)) refl e) }
read_behind rs (Err at) all e = absurd (err_not_ok at all (Err at) refl e)

-- the first page of a file is page 0
abbrev pub FirstIsZero : Head → List Numbered → Type 0
FirstIsZero h [] = ⊥
FirstIsZero h (r ∷ rs) = (r.0 ≡ 0) × (is_first_page h r.1 ≡ true)

singles_short : (left : ℕ) (h : Head) (at count least : ℕ) (rest : List ℕ) → nat_lt (length rest) 4 ≡ true → read_singles (suc left) h at count least rest ≡ Err (at + length rest)
unfolding read_singles
singles_short left h at count least rest short = rw (short, read_singles) refl

singles_mark : (left : ℕ) (h : Head) (at count least : ℕ) (rest : List ℕ) → nat_lt (length rest) 4 ≡ false → (number_in 0 4 rest == end_mark) ≡ true → read_singles (suc left) h at count least rest ≡ read_end at count rest
unfolding read_singles
singles_mark left h at count least rest long mark = rw (long, read_singles) (rw (mark, read_singles) refl)

singles_bad : (left : ℕ) (h : Head) (at count least : ℕ) (rest : List ℕ) (place : ℕ) → nat_lt (length rest) 4 ≡ false → (number_in 0 4 rest == end_mark) ≡ false
    → first_fault (single_tests h at count least rest (number_in 0 4 rest)) ≡ Some place → read_singles (suc left) h at count least rest ≡ Err place
unfolding read_singles
singles_bad left h at count least rest place long other bad = rw (long, read_singles) (rw (other, read_singles) (rw (bad, read_singles) refl))

singles_none : (h : Head) (at count least : ℕ) (rest : List ℕ) → read_singles zero h at count least rest ≡ Err at
unfolding read_singles
singles_none h at count least rest = refl

-- version 101
module _ (h : Head) (P : (count least : ℕ) (rest : List ℕ) (rs : List Numbered) → Type 0) (ended : (at count least : ℕ) (rest : List ℕ) (rs : List Numbered) → number_in 0 4 rest ≡ end_mark → read_end at count rest ≡ Ok rs → P count least rest rs)
    (on : (at count least : ℕ) (rest : List ℕ) (more : List Numbered) → AreClear (single_tests h at count least rest (number_in 0 4 rest)) → P (count + 1) (number_in 0 4 rest + 1) (drop (4 + h.size) rest) more
    → P count least rest ((number_in 0 4 rest, part 4 h.size rest) ∷ more)) where
  abbrev SinglesAre : (left : ℕ) → Type 0
  SinglesAre left = (at count least : ℕ) (rest : List ℕ) (rs : List Numbered) → read_singles left h at count least rest ≡ Ok rs → P count least rest rs

  singles_more : (left : ℕ) → SinglesAre left → SinglesAre (suc left)
  singles_more left again at count least rest rs e = by_long (nat_lt (length rest) 4) refl
    where
      n : ℕ
      n = number_in 0 4 rest

      taken : AreClear (single_tests h at count least rest n) → IsBehind ((n, part 4 h.size rest) ∷ []) (read_singles left h (at + 4 + h.size) (count + 1) (n + 1) (drop (4 + h.size) rest)) rs → P count least rest rs
      taken clear later = subst (P count least rest) (sym later.is) (on at count least rest later.more clear (again (at + 4 + h.size) (count + 1) (n + 1) (drop (4 + h.size) rest) later.more later.read))

      by_tests : nat_lt (length rest) 4 ≡ false → (n == end_mark) ≡ false → (x : Option ℕ) → first_fault (single_tests h at count least rest n) ≡ x → P count least rest rs
      by_tests long other (Some place) is = absurd (err_not_ok place rs _ (singles_bad left h at count least rest place long other is) e)
      by_tests long other None is = taken (none_clear (single_tests h at count least rest n) is) (read_behind ((n, part 4 h.size rest) ∷ []) _ rs (sym (single_there left h at count least rest long other is) ∙ e))

      by_mark : nat_lt (length rest) 4 ≡ false → (b : Bool) → (n == end_mark) ≡ b → P count least rest rs
      by_mark long true is = ended at count least rest rs (eqb-true n end_mark is) (sym (singles_mark left h at count least rest long is) ∙ e)
      by_mark long false is = by_tests long is (first_fault (single_tests h at count least rest n)) refl

      by_long : (b : Bool) → nat_lt (length rest) 4 ≡ b → P count least rest rs
      by_long true is = absurd (err_not_ok (at + length rest) rs _ (singles_short left h at count least rest is) e)
      by_long false is = by_mark is (number_in 0 4 rest == end_mark) refl

  pub singles_are : (left : ℕ) → SinglesAre left
  singles_are zero at count least rest rs e = absurd (err_not_ok at rs _ (singles_none h at count least rest) e)
  singles_are (suc left) at count least rest rs e = singles_more left (singles_are left) at count least rest rs e

runs_short : (left : ℕ) (h : Head) (at count least barred : ℕ) (rest : List ℕ) → nat_lt (length rest) 4 ≡ true → read_runs (suc left) h at count least barred rest ≡ Err (at + length rest)
unfolding read_runs
runs_short left h at count least barred rest short = rw (short, read_runs) refl

runs_mark : (left : ℕ) (h : Head) (at count least barred : ℕ) (rest : List ℕ) → nat_lt (length rest) 4 ≡ false → (number_in 0 4 rest == end_mark) ≡ true → read_runs (suc left) h at count least barred rest ≡ read_end at count rest
unfolding read_runs
runs_mark left h at count least barred rest long mark = rw (long, read_runs) (rw (mark, read_runs) refl)

runs_bad : (left : ℕ) (h : Head) (at count least barred : ℕ) (rest : List ℕ) (place : ℕ) → nat_lt (length rest) 4 ≡ false → (number_in 0 4 rest == end_mark) ≡ false
    → first_fault (run_tests h at count least barred rest (number_in 0 4 rest) (number_in 4 4 rest)) ≡ Some place → read_runs (suc left) h at count least barred rest ≡ Err place
unfolding read_runs
runs_bad left h at count least barred rest place long other bad = rw (long, read_runs) (rw (other, read_runs) (rw (bad, read_runs) refl))

runs_none : (h : Head) (at count least barred : ℕ) (rest : List ℕ) → read_runs zero h at count least barred rest ≡ Err at
unfolding read_runs
runs_none h at count least barred rest = refl

-- version 102
module _ (h : Head) (P : (count least barred : ℕ) (rest : List ℕ) (rs : List Numbered) → Type 0) (ended : (at count least barred : ℕ) (rest : List ℕ) (rs : List Numbered) → number_in 0 4 rest ≡ end_mark → read_end at count rest ≡ Ok rs → P count least barred rest rs)
    (on : (at count least barred : ℕ) (rest : List ℕ) (more : List Numbered) → AreClear (run_tests h at count least barred rest (number_in 0 4 rest) (number_in 4 4 rest))
    → P (count + number_in 4 4 rest) (number_in 0 4 rest + number_in 4 4 rest) (barred_after (number_in 0 4 rest) (number_in 4 4 rest)) (drop (8 + number_in 4 4 rest * h.size) rest) more
    → P count least barred rest (pages_in h.size (number_in 4 4 rest) (number_in 0 4 rest) (drop 8 rest) ++ more)) where
  abbrev RunsAre : (left : ℕ) → Type 0
  RunsAre left = (at count least barred : ℕ) (rest : List ℕ) (rs : List Numbered) → read_runs left h at count least barred rest ≡ Ok rs → P count least barred rest rs

  runs_more : (left : ℕ) → RunsAre left → RunsAre (suc left)
  runs_more left again at count least barred rest rs e = by_long (nat_lt (length rest) 4) refl
    where
      n : ℕ
      n = number_in 0 4 rest

      m : ℕ
      m = number_in 4 4 rest

      far : ℕ
      far = 8 + m * h.size

      taken : AreClear (run_tests h at count least barred rest n m) → IsBehind (pages_in h.size m n (drop 8 rest)) (read_runs left h (at + 8 + m * h.size) (count + m) (n + m) (barred_after n m) (drop far rest)) rs → P count least barred rest rs
      taken clear later = subst (P count least barred rest) (sym later.is) (on at count least barred rest later.more clear (again (at + 8 + m * h.size) (count + m) (n + m) (barred_after n m) (drop far rest) later.more later.read))

      by_tests : nat_lt (length rest) 4 ≡ false → (n == end_mark) ≡ false → (x : Option ℕ) → first_fault (run_tests h at count least barred rest n m) ≡ x → P count least barred rest rs
      by_tests long other (Some place) is = absurd (err_not_ok place rs _ (runs_bad left h at count least barred rest place long other is) e)
      by_tests long other None is = taken (none_clear (run_tests h at count least barred rest n m) is) (read_behind (pages_in h.size m n (drop 8 rest)) _ rs (sym (run_there left h at count least barred rest long other is) ∙ e))

      by_mark : nat_lt (length rest) 4 ≡ false → (b : Bool) → (n == end_mark) ≡ b → P count least barred rest rs
      by_mark long true is = ended at count least barred rest rs (eqb-true n end_mark is) (sym (runs_mark left h at count least barred rest long is) ∙ e)
      by_mark long false is = by_tests long is (first_fault (run_tests h at count least barred rest n m)) refl

      by_long : (b : Bool) → nat_lt (length rest) 4 ≡ b → P count least barred rest rs
      by_long true is = absurd (err_not_ok (at + length rest) rs _ (runs_short left h at count least barred rest is) e)
      by_long false is = by_mark is (number_in 0 4 rest == end_mark) refl

  pub runs_are : (left : ℕ) → RunsAre left
  runs_are zero at count least barred rest rs e = absurd (err_not_ok at rs _ (runs_none h at count least barred rest) e)
  runs_are (suc left) at count least barred rest rs e = runs_more left (runs_are left) at count least barred rest rs e
