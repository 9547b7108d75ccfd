-- What it says of bytes that they are read as runs.
use Rattle.std.proofs.Common.{◌≡◌, ◌≢◌, ◌⊎◌, inl, inr, ℕ, suc, ◌+◌, ◌*◌, ◌≤◌, List, length, drop, refl, sym, ap, ◌∙◌, arith, true, false, not, ◌==◌, nat_lt, Option, None, Some, Result, Ok, Err}
use Rattle.nb_gather.proofs.Common.{eqb_tells, number_in, Numbered, Head, Test, first_fault, behind, read_end, read_runs, pages_in, barred_after, end_mark, AreClear, eq_yes, run_tests, end_tests, not_both, true_or_false, err_ok, or_parts}
use Rattle.nb_model.proofs.LevelWalk.{none_clear, not_long}

some_or : (o : Option ℕ) → ((p : ℕ) × (o ≡ Some p)) ⊎ (o ≡ None)
some_or None = inr refl
some_or (Some p) = inl (p, refl)

not_no : (a b : ℕ) → not (a == b) ≡ false → a ≡ b
not_no a b is = elim (eqb_tells a b) [ inl w ↦ w.1 | inr w ↦ absurd (not_both (not (a == b)) (ap not w.0) is) ]

-- with pages before
pub behind_ok : (rs vs : List Numbered) (r : Result (List Numbered) ℕ) → behind rs r ≡ Ok vs → (ws : List Numbered) × (r ≡ Ok ws)
behind_ok rs vs (Ok ws) is = (ws, refl)
behind_ok rs vs (Err at) is = absurd (err_ok at vs is)

-- what is read after a run
abbrev pub rest_runs : (left : ℕ) → Head → (at count : ℕ) (rest : List ℕ) → Result (List Numbered) ℕ
rest_runs left h at count rest =
    let n : ℕ = number_in 0 4 rest in
    let m : ℕ = number_in 4 4 rest in read_runs left h (at + 8 + m * h.size) (count + m) (n + m) (barred_after n m) (drop (8 + m * h.size) rest)

module _ (left : ℕ) (h : Head) (at count least barred : ℕ) (rest : List ℕ) where
  abbrev pub tests : List Test
  tests = run_tests h at count least barred rest (number_in 0 4 rest) (number_in 4 4 rest)

  short_read : nat_lt (length rest) 4 ≡ true → read_runs (suc left) h at count least barred rest ≡ Err (at + length rest)
  unfolding read_runs
  short_read short = rw (short, read_runs) refl

  end_read : nat_lt (length rest) 4 ≡ false → (number_in 0 4 rest == end_mark) ≡ true → read_runs (suc left) h at count least barred rest ≡ read_end at count rest
  unfolding read_runs
  end_read long mark = rw (long, read_runs) (rw (mark, read_runs) refl)

  fault_read : nat_lt (length rest) 4 ≡ false → (number_in 0 4 rest == end_mark) ≡ false → (p : ℕ) → first_fault tests ≡ Some p → read_runs (suc left) h at count least barred rest ≡ Err p
  unfolding read_runs
  fault_read long other p fault = rw (long, read_runs) (rw (other, read_runs) (rw (fault, read_runs) refl))

  run_read : nat_lt (length rest) 4 ≡ false → (number_in 0 4 rest == end_mark) ≡ false → first_fault tests ≡ None
      → read_runs (suc left) h at count least barred rest ≡ behind (pages_in h.size (number_in 4 4 rest) (number_in 0 4 rest) (drop 8 rest)) (rest_runs left h at count rest)
  unfolding read_runs
  run_read long other clear = rw (long, read_runs) (rw (other, read_runs) (rw (clear, read_runs) refl))

  -- the end stands there, or a run and what stands after it
  abbrev pub IsEnd : Type 0
  IsEnd = (number_in 0 4 rest ≡ end_mark) × ((vs : List Numbered) × (read_end at count rest ≡ Ok vs))

  abbrev pub IsRunThere : Type 0
  IsRunThere = (number_in 0 4 rest ≢ end_mark) × AreClear tests × ((vs : List Numbered) × (rest_runs left h at count rest ≡ Ok vs))

  pub runs_are : (vs : List Numbered) → read_runs (suc left) h at count least barred rest ≡ Ok vs → IsEnd ⊎ IsRunThere
  runs_are vs is = elim (true_or_false (nat_lt (length rest) 4)) [
    | inl short ↦ absurd (err_ok (at + length rest) vs (sym (short_read short) ∙ is))
    | inr long ↦ elim (eqb_tells (number_in 0 4 rest) end_mark) [
      | inl mark ↦ inl (mark.1, (vs, sym (end_read long mark.0) ∙ is))
      | inr other ↦ elim (some_or (first_fault tests)) [
        | inl fault ↦ absurd (err_ok fault.0 vs (sym (fault_read long other.0 fault.0 fault.1) ∙ is))
        | inr clear ↦ inr (other.1, none_clear tests clear, behind_ok (pages_in h.size (number_in 4 4 rest) (number_in 0 4 rest) (drop 8 rest)) vs (rest_runs left h at count rest) (sym (run_read long other.0 clear) ∙ is))
      ]
    ]
  ]

  -- what the tests of a run tell
  pub record RunFacts : Type 0 where
    pub some : number_in 4 4 rest ≢ 0
    pub fits : 8 + number_in 4 4 rest * h.size ≤ length rest

  pub run_facts : AreClear tests → RunFacts
  run_facts clear = record {
    some = λ zero_. not_both (number_in 4 4 rest == 0) (eq_yes (number_in 4 4 rest) 0 zero_) (or_parts (number_in 4 4 rest == 0) _ clear.1.1.0).0;
    fits = not_long (length rest) (8 + number_in 4 4 rest * h.size) clear.1.1.1.1.1.0;
  }

-- the tests of the end
module _ (at count : ℕ) (rest : List ℕ) where
  end_fault : (p : ℕ) → first_fault (end_tests at count rest) ≡ Some p → read_end at count rest ≡ Err p
  unfolding read_end
  end_fault p fault = rw (fault, read_end) refl

  pub record EndFacts : Type 0 where
    pub long : length rest ≡ 8
    pub counted : number_in 4 4 rest ≡ count

  pub end_facts : (vs : List Numbered) → read_end at count rest ≡ Ok vs → EndFacts
  end_facts vs is = elim (some_or (first_fault (end_tests at count rest))) [
    | inl fault ↦ absurd (err_ok fault.0 vs (sym (end_fault fault.0 fault.1) ∙ is))
    | inr none ↦
        let clear = none_clear (end_tests at count rest) none in
        let most : length rest ≤ 8 = not_long 8 (length rest) clear.1.1.1.0 in
        let least : 8 ≤ length rest = not_long (length rest) 8 clear.1.0 in
        record { long = omega (arith, most, least); counted = not_no (number_in 4 4 rest) count clear.1.1.0 }
  ]
