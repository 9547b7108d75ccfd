-- Reading step by step gives what the grammar reads.
use Rattle.std.proofs.Common.{◌≡◌, ◌⊎◌, inl, inr, ℕ, zero, suc, ◌+◌, ◌-◌, ◌*◌, ◌<◌, ◌≤◌, List, [], ◌∷◌, ◌++◌, length, take, drop, refl, sym, ap, ◌∙◌, arith, append_assoc, length-drop, Option, Some, None, Result, Ok, Err, Bool, true, false, not, ◌&&◌, ◌||◌, ◌==◌, nat_lt}
use Rattle.nb_level.proofs.Common.{cases_lt, drop-drop, take_all, length-take-le, part, number_in, part-take, number_in-take, most_pages, Numbered, Head, first_fault, ends_before, behind, read_end, read_singles, read_runs, pages_in, barred_after, is_bad_number, is_first_page, end_mark, lt_no, lt_yes, Step, end_step, single_step, run_step, read_rest}
use Rattle.std.proofs.Math.Nat.{suc-mul}

-- pages before pages
pub behind-behind : (xs ys : List Numbered) (r : Result (List Numbered) ℕ) → behind xs (behind ys r) ≡ behind (xs ++ ys) r
behind-behind xs ys (Ok more) = ap (λ (l : List Numbered). Ok l) (sym (append_assoc xs ys more))
behind-behind xs ys (Err at) = refl

pub behind-none : (r : Result (List Numbered) ℕ) → behind [] r ≡ r
behind-none (Ok more) = refl
behind-none (Err at) = refl

-- the rest of a run, by whether the file has it whole
abbrev rest_by : (cut : Bool) (fuel left : ℕ) → Head → (at count least barred : ℕ) (rest : List ℕ) → Result (List Numbered) ℕ
rest_by cut fuel left h at count least barred rest = elim cut [
  | true ↦ Err (at + length rest)
  | false ↦ behind (pages_in h.size left least rest) (read_runs fuel h (at + left * h.size) (count + left) (least + left) barred (drop (left * h.size) rest))
]

rest-by : (cut : Bool) (fuel left : ℕ) (h : Head) (at count least barred : ℕ) (rest : List ℕ) → nat_lt (length rest) (left * h.size) ≡ cut → read_rest fuel left h at count least barred rest ≡ rest_by cut fuel left h at count least barred rest
unfolding read_rest
rest-by cut fuel left h at count least barred rest e = ap (λ b. rest_by b fuel left h at count least barred rest) e

-- what is read after a step of version 101
abbrev pub after_single : (fuel : ℕ) → Head → (at count : ℕ) (rest : List ℕ) → Step → Result (List Numbered) ℕ
after_single fuel h at count rest (Err place) = Err place
after_single fuel h at count rest (Ok None) = Ok []
after_single fuel h at count rest (Ok (Some s)) = behind ((s.0, part 4 h.size rest) ∷ []) (read_singles fuel h (at + 4 + h.size) (count + 1) (s.0 + 1) (drop (4 + h.size) rest))

-- and of version 102
abbrev pub after_run : (fuel : ℕ) → Head → (at count : ℕ) (rest : List ℕ) → Step → Result (List Numbered) ℕ
after_run fuel h at count rest (Err place) = Err place
after_run fuel h at count rest (Ok None) = Ok []
after_run fuel h at count rest (Ok (Some s)) = read_rest fuel s.1 h (at + 8) count s.0 (barred_after s.0 s.1) (drop 8 rest)

end_single : (fuel : ℕ) (h : Head) (at count : ℕ) (rest : List ℕ) → read_end at count rest ≡ after_single fuel h at count rest (end_step at count rest)
unfolding read_end end_step
end_single fuel h at count rest = from (first_fault ((count == 0, at) ∷ ends_before 8 at rest ∷ (not (number_in 4 4 rest == count), at + 4) ∷ (nat_lt 8 (length rest), at + 8) ∷ [])) where
  from : (o : Option ℕ) → elim o [ Some place ↦ Err place | None ↦ Ok [] ] ≡ after_single fuel h at count rest (elim o [ Some place ↦ Err place | None ↦ Ok None ])
  from (Some place) = refl
  from None = refl

end_run : (fuel : ℕ) (h : Head) (at count : ℕ) (rest : List ℕ) → read_end at count rest ≡ after_run fuel h at count rest (end_step at count rest)
unfolding read_end end_step
end_run fuel h at count rest = from (first_fault ((count == 0, at) ∷ ends_before 8 at rest ∷ (not (number_in 4 4 rest == count), at + 4) ∷ (nat_lt 8 (length rest), at + 8) ∷ [])) where
  from : (o : Option ℕ) → elim o [ Some place ↦ Err place | None ↦ Ok [] ] ≡ after_run fuel h at count rest (elim o [ Some place ↦ Err place | None ↦ Ok None ])
  from (Some place) = refl
  from None = refl

-- one step of version 101
pub singles-step : (fuel : ℕ) (h : Head) (at count least : ℕ) (rest : List ℕ) → read_singles (suc fuel) h at count least rest ≡ after_single fuel h at count rest (single_step h at count least rest)
unfolding read_singles single_step
singles-step fuel h at count least rest = from (nat_lt (length rest) 4) (number_in 0 4 rest == end_mark) (first_fault (
    (is_bad_number count least (number_in 0 4 rest), at)
    ∷ ends_before (4 + h.size) at rest
    ∷ (number_in 0 4 rest == 0 && not (is_first_page h (part 4 h.size rest)), at + 4)
    ∷ [])) where
      n : ℕ
      n = number_in 0 4 rest

      from : (short ends : Bool) (o : Option ℕ) →
          elim short [
            | true ↦ Err (at + length rest)
            | false ↦ elim ends [
              | true ↦ read_end at count rest
              | false ↦ elim o [
                | Some place ↦ Err place
                | None ↦ behind ((number_in 0 4 rest, part 4 h.size rest) ∷ []) (read_singles fuel h (at + 4 + h.size) (count + 1) (number_in 0 4 rest + 1) (drop (4 + h.size) rest))
              ]
            ]
          ]
          ≡ after_single fuel h at count rest (elim short [
            | true ↦ Err (at + length rest)
            | false ↦ elim ends [
              | true ↦ end_step at count rest
              | false ↦ elim o [
                | Some place ↦ Err place
                | None ↦ Ok (Some (number_in 0 4 rest, 1))
              ]
            ]
          ])
      from true ends o = refl
      from false true o = end_single fuel h at count rest
      from false false (Some place) = refl
      from false false None = refl

-- A step looks at some numbers of the bytes and at some tests of their length. Where the bytes are long enough for all tests, a
-- front of them tells as much as all.
abbrev by_end : (at count : ℕ) (short more : Bool) (place m : ℕ) → Step
by_end at count short more place m = elim (first_fault ((count == 0, at) ∷ (short, place) ∷ (not (m == count), at + 4) ∷ (more, at + 8) ∷ [])) [ Some p ↦ Err p | None ↦ Ok None ]

end-window : (at count k : ℕ) (rest : List ℕ) → 9 ≤ k → k ≤ length rest → end_step at count (take k rest) ≡ end_step at count rest
unfolding end_step first_fault
end-window at count k rest large long =
    let w : List ℕ = take k rest in
    let size : length w ≡ k = length-take-le k rest long in
    let pw : ℕ = at + length w in
    let pr : ℕ = at + length rest in
    let mr : ℕ = number_in 4 4 rest in
    let one : by_end at count (nat_lt (length w) 8) (nat_lt 8 (length w)) pw (number_in 4 4 w) ≡ by_end at count false true pw mr =
    ap (λ (x : Bool). by_end at count x (nat_lt 8 (length w)) pw (number_in 4 4 w)) (lt_no (length w) 8 (omega arith))
    ∙ ap (λ (x : Bool). by_end at count false x pw (number_in 4 4 w)) (lt_yes 8 (length w) (omega arith))
    ∙ ap (by_end at count false true pw) (number_in-take k 4 4 rest (omega arith)) in
    let two : by_end at count false true pr mr ≡ by_end at count (nat_lt (length rest) 8) (nat_lt 8 (length rest)) pr mr =
    ap (λ (x : Bool). by_end at count false x pr mr) (sym (lt_yes 8 (length rest) (omega arith)))
    ∙ ap (λ (x : Bool). by_end at count x (nat_lt 8 (length rest)) pr mr) (sym (lt_no (length rest) 8 (omega arith))) in
    one ∙ two

abbrev by_single : (h : Head) (at count least : ℕ) (short cut : Bool) (place n : ℕ) (ends : Step) (page : List ℕ) → Step
by_single h at count least short cut place n ends page = elim short [
  | true ↦ Err place
  | false ↦ elim (n == end_mark) [
    | true ↦ ends
    | false ↦ elim (first_fault ((is_bad_number count least n, at) ∷ (cut, place) ∷ (n == 0 && not (is_first_page h page), at + 4) ∷ [])) [ Some p ↦ Err p | None ↦ Ok (Some (n, 1)) ]
  ]
]

pub single-window : (h : Head) (at count least : ℕ) (rest : List ℕ) → 5 ≤ h.size → single_step h at count least (take (4 + h.size) rest) ≡ single_step h at count least rest
unfolding single_step first_fault
single-window h at count least rest large = elim (cases_lt (length rest) (4 + h.size)) [
  | inl short ↦ ap (single_step h at count least) (take_all (4 + h.size) rest (omega arith))
  | inr long ↦
      let k : ℕ = 4 + h.size in
      let w : List ℕ = take k rest in
      let size : length w ≡ k = length-take-le k rest (omega arith) in
      let pw : ℕ = at + length w in
      let pr : ℕ = at + length rest in
      let n : ℕ = number_in 0 4 rest in
      let g : List ℕ = part 4 h.size rest in
      let e : Step = end_step at count rest in
      let B = by_single h at count least in
      let one : B (nat_lt (length w) 4) (nat_lt (length w) k) pw (number_in 0 4 w) (end_step at count w) (part 4 h.size w) ≡ B false false pw n e g =
      ap (λ (x : Bool). B x (nat_lt (length w) k) pw (number_in 0 4 w) (end_step at count w) (part 4 h.size w)) (lt_no (length w) 4 (omega arith))
      ∙ ap (λ (x : Bool). B false x pw (number_in 0 4 w) (end_step at count w) (part 4 h.size w)) (lt_no (length w) k (omega arith))
      ∙ ap (λ (x : ℕ). B false false pw x (end_step at count w) (part 4 h.size w)) (number_in-take k 0 4 rest (omega arith))
      ∙ ap (λ (x : Step). B false false pw n x (part 4 h.size w)) (end-window at count k rest (omega arith) (omega arith))
      ∙ ap (λ (x : List ℕ). B false false pw n e x) (part-take k 4 h.size rest (omega arith)) in
      let two : B false false pr n e g ≡ B (nat_lt (length rest) 4) (nat_lt (length rest) k) pr n e g =
      ap (λ (x : Bool). B false x pr n e g) (sym (lt_no (length rest) k (omega arith)))
      ∙ ap (λ (x : Bool). B x (nat_lt (length rest) k) pr n e g) (sym (lt_no (length rest) 4 (omega arith))) in
      one ∙ two
]

abbrev by_run : (h : Head) (at count least barred : ℕ) (short head cut : Bool) (place n m : ℕ) (ends : Step) (page : List ℕ) → Step
by_run h at count least barred short head cut place n m ends page = elim short [
  | true ↦ Err place
  | false ↦ elim (n == end_mark) [
    | true ↦ ends
    | false ↦ elim (first_fault (
        (is_bad_number count least n || n == barred, at) ∷ (head, place) ∷ (m == 0 || (nat_lt 16 m || nat_lt most_pages (n + m)), at + 4) ∷ (cut, place) ∷ (n == 0 && not (is_first_page h page), at + 8) ∷ [])) [
          | Some p ↦ Err p
          | None ↦ Ok (Some (n, m))
        ]
  ]
]

pub run-window : (h : Head) (at count least barred : ℕ) (rest : List ℕ) → 5 ≤ h.size → run_step h at count least barred (take (8 + h.size) rest) ≡ run_step h at count least barred rest
unfolding run_step first_fault
run-window h at count least barred rest large = elim (cases_lt (length rest) (8 + h.size)) [
  | inl short ↦ ap (run_step h at count least barred) (take_all (8 + h.size) rest (omega arith))
  | inr long ↦
      let k : ℕ = 8 + h.size in
      let w : List ℕ = take k rest in
      let size : length w ≡ k = length-take-le k rest (omega arith) in
      let pw : ℕ = at + length w in
      let pr : ℕ = at + length rest in
      let n : ℕ = number_in 0 4 rest in
      let m : ℕ = number_in 4 4 rest in
      let g : List ℕ = part 8 h.size rest in
      let e : Step = end_step at count rest in
      let B = by_run h at count least barred in
      let one : B (nat_lt (length w) 4) (nat_lt (length w) 8) (nat_lt (length w) k) pw (number_in 0 4 w) (number_in 4 4 w) (end_step at count w) (part 8 h.size w) ≡ B false false false pw n m e g =
      ap (λ (x : Bool). B x (nat_lt (length w) 8) (nat_lt (length w) k) pw (number_in 0 4 w) (number_in 4 4 w) (end_step at count w) (part 8 h.size w)) (lt_no (length w) 4 (omega arith))
      ∙ ap (λ (x : Bool). B false x (nat_lt (length w) k) pw (number_in 0 4 w) (number_in 4 4 w) (end_step at count w) (part 8 h.size w)) (lt_no (length w) 8 (omega arith))
      ∙ ap (λ (x : Bool). B false false x pw (number_in 0 4 w) (number_in 4 4 w) (end_step at count w) (part 8 h.size w)) (lt_no (length w) k (omega arith))
      ∙ ap (λ (x : ℕ). B false false false pw x (number_in 4 4 w) (end_step at count w) (part 8 h.size w)) (number_in-take k 0 4 rest (omega arith))
      ∙ ap (λ (x : ℕ). B false false false pw n x (end_step at count w) (part 8 h.size w)) (number_in-take k 4 4 rest (omega arith))
      ∙ ap (λ (x : Step). B false false false pw n m x (part 8 h.size w)) (end-window at count k rest (omega arith) (omega arith))
      ∙ ap (λ (x : List ℕ). B false false false pw n m e x) (part-take k 8 h.size rest (omega arith)) in
      let two : B false false false pr n m e g ≡ B (nat_lt (length rest) 4) (nat_lt (length rest) 8) (nat_lt (length rest) k) pr n m e g =
      ap (λ (x : Bool). B false false x pr n m e g) (sym (lt_no (length rest) k (omega arith)))
      ∙ ap (λ (x : Bool). B false x (nat_lt (length rest) k) pr n m e g) (sym (lt_no (length rest) 8 (omega arith)))
      ∙ ap (λ (x : Bool). B x (nat_lt (length rest) 8) (nat_lt (length rest) k) pr n m e g) (sym (lt_no (length rest) 4 (omega arith))) in
      one ∙ two
]

-- one step of version 102
module _ (fuel : ℕ) (h : Head) (at count least barred : ℕ) (rest : List ℕ) where
  abbrev n : ℕ
  n = number_in 0 4 rest

  abbrev m : ℕ
  m = number_in 4 4 rest

  abbrev place : ℕ
  place = at + length rest

  -- what stands after the run's head
  abbrev run_there : Result (List Numbered) ℕ
  run_there = behind (pages_in h.size m n (drop 8 rest)) (read_runs fuel h (at + 8 + m * h.size) (count + m) (n + m) (barred_after n m) (drop (8 + m * h.size) rest))

  -- by the tests: of the number, of the run's head, of the number of pages, of page 0 being there, of page 0, of all pages; and of the first page being there
  by_tests : (t1 t2 t3 t4 t5 t6 u4 : Bool)
      → (t3 ≡ false → u4 ≡ true → (t4 ≡ true) ⊎ ((t4 ≡ false) × (t5 ≡ false) × (t6 ≡ true)))
      → (u4 ≡ false → t4 ≡ false)
      → (t2 ≡ false → ((t6 ≡ true) × (read_rest fuel m h (at + 8) count n (barred_after n m) (drop 8 rest) ≡ Err place))
      ⊎ ((t6 ≡ false) × (read_rest fuel m h (at + 8) count n (barred_after n m) (drop 8 rest) ≡ run_there)))
      → elim (first_fault ((t1, at) ∷ (t2, place) ∷ (t3, at + 4) ∷ (t4, place) ∷ (t5, at + 8) ∷ (t6, place) ∷ [])) [ Some p ↦ Err p | None ↦ run_there ]
      ≡ after_run fuel h at count rest (elim (first_fault ((t1, at) ∷ (t2, place) ∷ (t3, at + 4) ∷ (u4, place) ∷ (t5, at + 8) ∷ [])) [ Some p ↦ Err p | None ↦ Ok (Some (n, m)) ])
  unfolding first_fault
  by_tests true t2 t3 t4 t5 t6 u4 short long all = refl
  by_tests false true t3 t4 t5 t6 u4 short long all = refl
  by_tests false false true t4 t5 t6 u4 short long all = refl
  by_tests false false false t4 t5 t6 true short long all = elim (short refl refl) [
    | inl e ↦ rw e refl
    | inr e ↦ rw (e.0, e.1, e.2) refl
  ]
  by_tests false false false t4 true t6 false short long all = rw (long refl) refl
  by_tests false false false t4 false t6 false short long all = elim (all refl) [
    | inl e ↦ rw (long refl, e.0) (sym e.1)
    | inr e ↦ rw (long refl, e.0) (sym e.1)
  ]

  -- the run that begins here
  run-whole : nat_lt (length rest) 8 ≡ false
      → ((nat_lt (length rest) (8 + m * h.size) ≡ true) × (read_rest fuel m h (at + 8) count n (barred_after n m) (drop 8 rest) ≡ Err place))
      ⊎ ((nat_lt (length rest) (8 + m * h.size) ≡ false) × (read_rest fuel m h (at + 8) count n (barred_after n m) (drop 8 rest) ≡ run_there))
  run-whole head =
      let some : 8 ≤ length rest = lt_no_back (length rest) 8 head in
      let size : length (drop 8 rest) ≡ length rest - 8 = length-drop 8 rest in
      elim (cases_lt (length rest) (8 + m * h.size)) [
        | inl short ↦ inl (
          lt_yes (length rest) (8 + m * h.size) short,
          rest-by true fuel m h (at + 8) count n (barred_after n m) (drop 8 rest) (lt_yes (length (drop 8 rest)) (m * h.size) (omega (arith, size, short, some))) ∙ ap (λ (k : ℕ). Err k) (omega (arith, size, some)),
        )
        | inr long ↦ inr (
          lt_no (length rest) (8 + m * h.size) long,
          rest-by false fuel m h (at + 8) count n (barred_after n m) (drop 8 rest) (lt_no (length (drop 8 rest)) (m * h.size) (omega (arith, size, long)))
              ∙ ap (λ l. behind (pages_in h.size m n (drop 8 rest)) (read_runs fuel h (at + 8 + m * h.size) (count + m) (n + m) (barred_after n m) l)) (drop-drop (m * h.size) 8 rest),
        )
      ] where
        lt_no_back : (a b : ℕ) → nat_lt a b ≡ false → b ≤ a
        lt_no_back a b e = elim (cases_lt a b) [ inl below ↦ absurd (let yes = lt_yes a b below in cc) | inr above ↦ above ]

  first-there : (m == 0 || (nat_lt 16 m || nat_lt most_pages (n + m))) ≡ false → nat_lt (length rest) (8 + h.size) ≡ true
      → ((n == 0 && nat_lt (length rest) (8 + h.size)) ≡ true)
      ⊎ (((n == 0 && nat_lt (length rest) (8 + h.size)) ≡ false) × ((n == 0 && not (is_first_page h (part 8 h.size rest))) ≡ false) × (nat_lt (length rest) (8 + m * h.size) ≡ true))
  first-there few short = from (n == 0) refl (some_pages m few) where
    some_pages : (k : ℕ) → (k == 0 || (nat_lt 16 k || nat_lt most_pages (n + k))) ≡ false → nat_lt (length rest) (8 + k * h.size) ≡ true
    some_pages zero e = absurd (cc)
    some_pages (suc k) e = lt_yes (length rest) (8 + suc k * h.size) (below (cases_lt (length rest) (8 + h.size))) where
      below : (length rest < 8 + h.size) ⊎ (8 + h.size ≤ length rest) → length rest < 8 + suc k * h.size
      below (inl low) = omega (arith, low, suc-mul k h.size)
      below (inr high) = absurd (let no = lt_no (length rest) (8 + h.size) high in cc)

    from : (b : Bool) → (n == 0) ≡ b → nat_lt (length rest) (8 + m * h.size) ≡ true
        → ((n == 0 && nat_lt (length rest) (8 + h.size)) ≡ true)
        ⊎ (((n == 0 && nat_lt (length rest) (8 + h.size)) ≡ false) × ((n == 0 && not (is_first_page h (part 8 h.size rest))) ≡ false) × (nat_lt (length rest) (8 + m * h.size) ≡ true))
    from true is all = inl (rw (is, short) refl)
    from false is all = inr (rw is refl, rw is refl, all)

  no-page : (x : Bool) → nat_lt (length rest) (8 + h.size) ≡ false → (x && nat_lt (length rest) (8 + h.size)) ≡ false
  no-page true e = e
  no-page false e = refl

  pub runs-step : read_runs (suc fuel) h at count least barred rest ≡ after_run fuel h at count rest (run_step h at count least barred rest)
  unfolding read_runs run_step
  runs-step = from (nat_lt (length rest) 4) (n == end_mark) where
    from : (short ends : Bool) →
        elim short [
          | true ↦ Err place
          | false ↦ elim ends [
            | true ↦ read_end at count rest
            | false ↦ elim (first_fault (
                (is_bad_number count least n || n == barred, at)
                ∷ ends_before 8 at rest
                ∷ (m == 0 || (nat_lt 16 m || nat_lt most_pages (n + m)), at + 4)
                ∷ (n == 0 && nat_lt (length rest) (8 + h.size), place)
                ∷ (n == 0 && not (is_first_page h (part 8 h.size rest)), at + 8)
                ∷ ends_before (8 + m * h.size) at rest
                ∷ [])) [ Some p ↦ Err p | None ↦ run_there ]
          ]
        ]
        ≡ after_run fuel h at count rest (elim short [
          | true ↦ Err place
          | false ↦ elim ends [
            | true ↦ end_step at count rest
            | false ↦ elim (first_fault (
                (is_bad_number count least n || n == barred, at)
                ∷ ends_before 8 at rest
                ∷ (m == 0 || (nat_lt 16 m || nat_lt most_pages (n + m)), at + 4)
                ∷ ends_before (8 + h.size) at rest
                ∷ (n == 0 && not (is_first_page h (part 8 h.size rest)), at + 8)
                ∷ [])) [ Some p ↦ Err p | None ↦ Ok (Some (n, m)) ]
          ]
        ])
    from true ends = refl
    from false true = end_run fuel h at count rest
    from false false = by_tests (is_bad_number count least n || n == barred) (nat_lt (length rest) 8) (m == 0 || (nat_lt 16 m || nat_lt most_pages (n + m)))
        (n == 0 && nat_lt (length rest) (8 + h.size)) (n == 0 && not (is_first_page h (part 8 h.size rest))) (nat_lt (length rest) (8 + m * h.size)) (nat_lt (length rest) (8 + h.size))
        first-there (no-page (n == 0)) run-whole

-- any fuel that is as long as the bytes serves
pub singles-fuel : (f g : ℕ) (h : Head) (at count least : ℕ) (rest : List ℕ) → length rest ≤ f → length rest ≤ g → read_singles f h at count least rest ≡ read_singles g h at count least rest
unfolding read_singles
singles-fuel zero zero h at count least rest one two = refl
singles-fuel zero (suc g) h at count least [] one two = ap (λ (k : ℕ). Err k) (omega arith)
singles-fuel zero (suc g) h at count least (x ∷ rest) one two = absurd (omega arith)
singles-fuel (suc f) zero h at count least [] one two = ap (λ (k : ℕ). Err k) (omega arith)
singles-fuel (suc f) zero h at count least (x ∷ rest) one two = absurd (omega arith)
singles-fuel (suc f) (suc g) h at count least rest one two =
    singles-step f h at count least rest
    ∙ from (single_step h at count least rest) (λ q. singles-fuel f g h (at + 4 + h.size) (count + 1) q (drop (4 + h.size) rest) (omega (arith, length-drop (4 + h.size) rest)) (omega (arith, length-drop (4 + h.size) rest)))
    ∙ sym (singles-step g h at count least rest) where
      from : (s : Step) → ((q : ℕ) → read_singles f h (at + 4 + h.size) (count + 1) q (drop (4 + h.size) rest) ≡ read_singles g h (at + 4 + h.size) (count + 1) q (drop (4 + h.size) rest))
          → after_single f h at count rest s ≡ after_single g h at count rest s
      from (Err p) same = refl
      from (Ok None) same = refl
      from (Ok (Some s)) same = ap (behind ((s.0, part 4 h.size rest) ∷ [])) (same (s.0 + 1))

-- the rest of a run, by what stands after it
rest-same : (f g left : ℕ) (h : Head) (at count least barred : ℕ) (rest : List ℕ)
    → read_runs f h (at + left * h.size) (count + left) (least + left) barred (drop (left * h.size) rest) ≡ read_runs g h (at + left * h.size) (count + left) (least + left) barred (drop (left * h.size) rest)
    → read_rest f left h at count least barred rest ≡ read_rest g left h at count least barred rest
rest-same f g left h at count least barred rest same = from (nat_lt (length rest) (left * h.size)) refl where
  from : (b : Bool) → nat_lt (length rest) (left * h.size) ≡ b → read_rest f left h at count least barred rest ≡ read_rest g left h at count least barred rest
  from true e = rest-by true f left h at count least barred rest e ∙ sym (rest-by true g left h at count least barred rest e)
  from false e = rest-by false f left h at count least barred rest e ∙ ap (behind (pages_in h.size left least rest)) same ∙ sym (rest-by false g left h at count least barred rest e)

pub runs-fuel : (f g : ℕ) (h : Head) (at count least barred : ℕ) (rest : List ℕ) → length rest ≤ f → length rest ≤ g → read_runs f h at count least barred rest ≡ read_runs g h at count least barred rest
unfolding read_runs
runs-fuel zero zero h at count least barred rest one two = refl
runs-fuel zero (suc g) h at count least barred [] one two = ap (λ (k : ℕ). Err k) (omega arith)
runs-fuel zero (suc g) h at count least barred (x ∷ rest) one two = absurd (omega arith)
runs-fuel (suc f) zero h at count least barred [] one two = ap (λ (k : ℕ). Err k) (omega arith)
runs-fuel (suc f) zero h at count least barred (x ∷ rest) one two = absurd (omega arith)
runs-fuel (suc f) (suc g) h at count least barred rest one two =
    runs-step f h at count least barred rest
    ∙ from (run_step h at count least barred rest) (λ at' count' least' barred' k. runs-fuel f g h at' count' least' barred' (drop k (drop 8 rest)) (shorter k f one) (shorter k g two))
    ∙ sym (runs-step g h at count least barred rest) where
      shorter : (k e : ℕ) → length rest ≤ suc e → length (drop k (drop 8 rest)) ≤ e
      shorter k e le = omega (arith, length-drop k (drop 8 rest), length-drop 8 rest)

      from : (s : Step) → ((at' count' least' barred' k : ℕ) → read_runs f h at' count' least' barred' (drop k (drop 8 rest)) ≡ read_runs g h at' count' least' barred' (drop k (drop 8 rest)))
          → after_run f h at count rest s ≡ after_run g h at count rest s
      from (Err p) same = refl
      from (Ok None) same = refl
      from (Ok (Some s)) same = rest-same f g s.1 h (at + 8) count s.0 (barred_after s.0 s.1) (drop 8 rest)
          (same (at + 8 + s.1 * h.size) (count + s.1) (s.0 + s.1) (barred_after s.0 s.1) (s.1 * h.size))

-- the same reading
same_runs : (fuel : ℕ) (h : Head) (barred a b c d e f : ℕ) (r s : List ℕ) → a ≡ b → c ≡ d → e ≡ f → r ≡ s → read_runs fuel h a c e barred r ≡ read_runs fuel h b d f barred s
same_runs fuel h barred a b c d e f r s one two three four =
    ap (λ (x : ℕ). read_runs fuel h x c e barred r) one ∙ ap (λ (x : ℕ). read_runs fuel h b x e barred r) two ∙ ap (λ (x : ℕ). read_runs fuel h b d x barred r) three ∙ ap (read_runs fuel h b d f barred) four

-- a run of which nothing is left
pub rest-none : (fuel : ℕ) (h : Head) (at count least barred : ℕ) (rest : List ℕ) → read_rest fuel 0 h at count least barred rest ≡ read_runs fuel h at count least barred rest
unfolding pages_in
rest-none fuel h at count least barred rest =
    let none : 0 * h.size ≡ 0 = omega arith in
    rest-by false fuel 0 h at count least barred rest (lt_no (length rest) (0 * h.size) (omega arith))
    ∙ behind-none (read_runs fuel h (at + 0 * h.size) (count + 0) (least + 0) barred (drop (0 * h.size) rest))
    ∙ same_runs fuel h barred (at + 0 * h.size) at (count + 0) count (least + 0) least (drop (0 * h.size) rest) rest (omega (arith, none)) (omega arith) (omega arith) (ap (λ k. drop k rest) none)

-- the next page of a run
pub rest-more : (fuel left : ℕ) (h : Head) (at count least barred : ℕ) (rest : List ℕ) → h.size ≤ length rest
    → read_rest fuel (suc left) h at count least barred rest ≡ behind ((least, take h.size rest) ∷ []) (read_rest fuel left h (at + h.size) (count + 1) (least + 1) barred (drop h.size rest))
unfolding pages_in
rest-more fuel left h at count least barred rest long =
    let size : length (drop h.size rest) ≡ length rest - h.size = length-drop h.size rest in
    let more : suc left * h.size ≡ left * h.size + h.size = suc-mul left h.size in
    let first : List Numbered = (least, take h.size rest) ∷ [] in
    let others : List Numbered = pages_in h.size left (least + 1) (drop h.size rest) in
    elim (cases_lt (length rest) (suc left * h.size)) [
      | inl short ↦
          let cut : nat_lt (length rest) (suc left * h.size) ≡ true = lt_yes (length rest) (suc left * h.size) short in
          let cut' : nat_lt (length (drop h.size rest)) (left * h.size) ≡ true = lt_yes (length (drop h.size rest)) (left * h.size) (omega (arith, size, more, short, long)) in
          rest-by true fuel (suc left) h at count least barred rest cut ∙ ap (λ (k : ℕ). Err k) (omega (arith, size, long))
          ∙ sym (ap (behind first) (rest-by true fuel left h (at + h.size) (count + 1) (least + 1) barred (drop h.size rest) cut'))
      | inr whole ↦
          let uncut : nat_lt (length rest) (suc left * h.size) ≡ false = lt_no (length rest) (suc left * h.size) whole in
          let uncut' : nat_lt (length (drop h.size rest)) (left * h.size) ≡ false = lt_no (length (drop h.size rest)) (left * h.size) (omega (arith, size, more, whole)) in
          let after : Result (List Numbered) ℕ = read_runs fuel h (at + h.size + left * h.size) (count + 1 + left) (least + 1 + left) barred (drop (left * h.size) (drop h.size rest)) in
          rest-by false fuel (suc left) h at count least barred rest uncut
          ∙ ap (behind ((least, take h.size rest) ∷ others))
          (same_runs fuel h barred (at + suc left * h.size) (at + h.size + left * h.size) (count + suc left) (count + 1 + left) (least + suc left) (least + 1 + left)
          (drop (suc left * h.size) rest) (drop (left * h.size) (drop h.size rest)) (omega (arith, more)) (omega arith) (omega arith)
          (ap (λ k. drop k rest) (omega (arith, more)) ∙ sym (drop-drop (left * h.size) h.size rest)))
          ∙ sym (behind-behind first others after)
          ∙ sym (ap (behind first) (rest-by false fuel left h (at + h.size) (count + 1) (least + 1) barred (drop h.size rest) uncut'))
    ]

-- the file ends inside a run's page
pub rest-cut : (fuel left : ℕ) (h : Head) (at count least barred : ℕ) (rest : List ℕ) → length rest < h.size → read_rest fuel (suc left) h at count least barred rest ≡ Err (at + length rest)
rest-cut fuel left h at count least barred rest short =
    rest-by true fuel (suc left) h at count least barred rest (lt_yes (length rest) (suc left * h.size) (omega (arith, short, suc-mul left h.size)))
