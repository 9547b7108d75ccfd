-- What is read of a level file: its pages rise and have the size that its head names, the first is page 0, and its head is of the form.
use Rattle.std.proofs.Common.{◌≡◌, ◌≢◌, ℕ, zero, suc, ◌+◌, ◌*◌, ◌<◌, ◌≤◌, List, [], ◌∷◌, ◌++◌, length, take, drop, refl, sym, ap, subst, ◌∙◌, arith, length-drop, Bool, true, false, ◌&&◌, ◌||◌, ◌==◌, nat_lt, nat_le, Option, Some, None, Result, Ok, Err}
use Rattle.nb_level.proofs.Common.{or_parts, length-take-le, number_in, part, is_page_size, most_pages, Numbered, Head, Contents, AreRising, AreOfSize, first_fault, head_in, end_mark, read_level, read_pages, read_end, read_singles, read_runs, pages_in, is_bad_number, is_first_page, FirstIsZero, none_clear, not_long, not_same, zero_tells, good, singles_are, runs_are, AreClear, single_tests, run_tests, end_tests, length-part, err_not_ok, ok_same, rise_lower}
use Rattle.nb_level.proofs.ToldLaws.{level_told}

-- at the end there are no more, and there were some
end_is : (at count : ℕ) (rest : List ℕ) (rs : List Numbered) → read_end at count rest ≡ Ok rs → (count ≢ 0) × (rs ≡ [])
unfolding read_end
end_is at count rest rs e = by (first_fault (end_tests at count rest)) refl e
  where
    by : (x : Option ℕ) → first_fault (end_tests at count rest) ≡ x → elim x as (λ z. Result (List Numbered) ℕ) [ Some place ↦ Err place | None ↦ Ok [] ] ≡ Ok rs → (count ≢ 0) × (rs ≡ [])
    by (Some place) is f = absurd (err_not_ok place rs (Err place) refl f)
    by None is f = (not_same count 0 (none_clear (end_tests at count rest) is).0, sym (ok_same {X = List Numbered} {E = ℕ} [] rs (Ok []) refl f))

-- the pages from here on
record AreFrom (h : Head) (count least : ℕ) (rs : List Numbered) : Type 0 where
  pub rising : AreRising least rs
  pub sizes : AreOfSize h.size rs
  pub first : count ≡ 0 → FirstIsZero h rs

module _ (h : Head) where
  -- the end
  none_from : (count least : ℕ) (rs : List Numbered) → (count ≢ 0) × (rs ≡ []) → AreFrom h count least rs
  none_from count least rs end = subst (AreFrom h count least) (sym end.1) (record { rising = tt; sizes = tt; first = λ none. end.0 none })

  -- version 101
  one_from : (count least : ℕ) (rest : List ℕ) (at : ℕ) (more : List Numbered) → AreClear (single_tests h at count least rest (number_in 0 4 rest)) → AreFrom h (count + 1) (number_in 0 4 rest + 1) more → AreFrom h count least ((number_in 0 4 rest, part 4 h.size rest) ∷ more)
  one_from count least rest at more clear next =
      let n : ℕ = number_in 0 4 rest in
      let number = good count least n clear.0 in
      record {
        rising = (number.low, number.small, next.rising);
        sizes = (length-part 4 h.size rest (not_long (length rest) (4 + h.size) clear.1.0), next.sizes);
        first = λ none. (number.begins none, zero_tells n (is_first_page h (part 4 h.size rest)) clear.1.1.0 (number.begins none));
      }

  -- version 102: so many pages, with numbers from n on
  pages_rise : (m n : ℕ) (x : List ℕ) (more : List Numbered) → n + m ≤ most_pages → AreRising (n + m) more → AreRising n (pages_in h.size m n x ++ more)
  unfolding pages_in
  pages_rise zero n x more low rise = subst (λ k. AreRising k more) (let e : n + 0 ≡ n = omega arith in e) rise
  pages_rise (suc m) n x more low rise =
      (omega arith, omega (arith, low), pages_rise m (n + 1) (drop h.size x) more (omega (arith, low)) (subst (λ k. AreRising k more) (let e : n + suc m ≡ (n + 1) + m = omega arith in e) rise))

  pages_sizes : (m n : ℕ) (x : List ℕ) (more : List Numbered) → m * h.size ≤ length x → AreOfSize h.size more → AreOfSize h.size (pages_in h.size m n x ++ more)
  unfolding pages_in
  pages_sizes zero n x more room sizes = sizes
  pages_sizes (suc m) n x more room sizes =
      let all : h.size + m * h.size ≤ length x = omega (arith, room) in
      (length-take-le h.size x (omega (arith, all)), pages_sizes m (n + 1) (drop h.size x) more (omega (arith, all, length-drop h.size x)) sizes)

  pages_first : (m n : ℕ) (x : List ℕ) (more : List Numbered) → m ≢ 0 → n ≡ 0 → is_first_page h (take h.size x) ≡ true → FirstIsZero h (pages_in h.size m n x ++ more)
  unfolding pages_in
  pages_first zero n x more some none first = absurd (some refl)
  pages_first (suc m) n x more some none first = (none, first)

  run_from : (count least barred : ℕ) (rest : List ℕ) (at : ℕ) (more : List Numbered) → AreClear (run_tests h at count least barred rest (number_in 0 4 rest) (number_in 4 4 rest)) → AreFrom h (count + number_in 4 4 rest) (number_in 0 4 rest + number_in 4 4 rest) more
      → AreFrom h count least (pages_in h.size (number_in 4 4 rest) (number_in 0 4 rest) (drop 8 rest) ++ more)
  run_from count least barred rest at more clear next =
      let n : ℕ = number_in 0 4 rest in
      let m : ℕ = number_in 4 4 rest in
      let number = good count least n (or_parts (is_bad_number count least n) (n == barred) clear.0).0 in
      let counts = or_parts (m == 0) (nat_lt 16 m || nat_lt most_pages (n + m)) clear.1.1.0 in
      let most : n + m ≤ most_pages = not_long most_pages (n + m) (or_parts (nat_lt 16 m) (nat_lt most_pages (n + m)) counts.1).1 in
      let long : 8 + m * h.size ≤ length rest = not_long (length rest) (8 + m * h.size) clear.1.1.1.1.1.0 in
      record {
        rising = rise_lower least n _ number.low (pages_rise m n (drop 8 rest) more most next.rising);
        sizes = pages_sizes m n (drop 8 rest) more (omega (arith, long, length-drop 8 rest)) next.sizes;
        first = λ none. pages_first m n (drop 8 rest) more (not_same m 0 counts.0) (number.begins none) (zero_tells n (is_first_page h (part 8 h.size rest)) clear.1.1.1.1.0 (number.begins none));
      }

-- a level file that is read
pub record HasPages (h : Head) (rs : List Numbered) : Type 0 where
  pub level : (nat_le 1 h.level && nat_le h.level 9) ≡ true
  pub guid : length h.guid ≡ 16
  pub previous : length h.previous ≡ 16
  pub size : is_page_size h.size ≡ true
  pub later : h.previous_scn < h.scn
  pub rising : AreRising 0 rs
  pub sizes : AreOfSize h.size rs
  pub first : FirstIsZero h rs

pages_are : (h : Head) (version : ℕ) (bytes : List ℕ) (all : List Numbered) → read_pages version h bytes ≡ Ok all → AreFrom h 0 0 all
unfolding read_pages
pages_are h version bytes all e = by (version == 101) e
  where
    by : (b : Bool) → elim b as (λ z. Result (List Numbered) ℕ) [ true ↦ read_singles (length bytes) h 52 0 0 (drop 52 bytes) | false ↦ read_runs (length bytes) h 52 0 0 end_mark (drop 52 bytes) ] ≡ Ok all → AreFrom h 0 0 all
    by true f = singles_are h (λ count least rest rs. AreFrom h count least rs) (λ at count least rest rs mark read. none_from h count least rs (end_is at count rest rs read)) (λ at count least rest more. one_from h count least rest at more)
        (length bytes) 52 0 0 (drop 52 bytes) all f
    by false f = runs_are h (λ count least barred rest rs. AreFrom h count least rs) (λ at count least barred rest rs mark read. none_from h count least rs (end_is at count rest rs read)) (λ at count least barred rest more. run_from h count least barred rest at more)
        (length bytes) 52 0 0 end_mark (drop 52 bytes) all f

pub level_pages : (bytes : List ℕ) (c : Contents) → read_level bytes ≡ Ok c → HasPages c.head c.pages
unfolding head_in
level_pages bytes c e =
    let told = level_told bytes c e in
    let are : AreFrom c.head 0 0 c.pages = subst (λ (h : Head). AreFrom h 0 0 c.pages) (sym told.head) (pages_are (head_in bytes) (number_in 4 2 bytes) bytes c.pages told.pages) in
    record {
      level = told.level;
      guid = ap (λ (h : Head). length h.guid) told.head ∙ length-part 8 16 bytes (omega (arith, told.long));
      previous = ap (λ (h : Head). length h.previous) told.head ∙ length-part 24 16 bytes (omega (arith, told.long));
      size = told.size;
      later = told.later;
      rising = are.rising;
      sizes = are.sizes;
      first = are.first refl;
    }
