-- Reading the pages of a level file, step by step.
use Rattle.std.proofs.Common.{◌≡◌, ◌≢◌, inl, inr, ℕ, zero, suc, ◌+◌, ◌*◌, ◌<◌, ◌≤◌, List, [], ◌∷◌, ◌++◌, length, get_or, take, drop, refl, sym, ap, ◌∙◌, arith, length-append, append_assoc, Bool, true, false, not, ◌&&◌, ◌||◌, ◌==◌, nat_lt, nat_le, None, Result, Ok}
use Rattle.nb_model.proofs.Common.{AllByRecursion, eqb_tells, leb_tells, drop_at, take_at, drop-drop, suc-mul, number_of, bytes_of, part, number_in, number_of-bytes_of, most_pages, Page, Numbered, Head, Test, first_fault, ends_before, behind, read_end, read_singles, read_runs, pages_in, barred_after, is_bad_number, is_first_page, end_mark, end_bytes, joined, numbered_from, or_from, and_right}
use Rattle.nb_model.proofs.ImageLaws.{length-joined}

-- no test fails
abbrev pub AreClear : List Test → Type 0
AreClear [] = Unit {0}
AreClear (t ∷ ts) = (t.0 ≡ false) × AreClear ts

pub clear_none : (ts : List Test) → AreClear ts → first_fault ts ≡ None
unfolding first_fault
clear_none [] h = refl
clear_none (t ∷ ts) h = rw (h.0, first_fault) (clear_none ts h.1)

-- tests from facts
pub eq_no : (a b : ℕ) → a ≢ b → (a == b) ≡ false
eq_no a b ne = elim (eqb_tells a b) [ inl w ↦ absurd (ne w.1) | inr w ↦ w.0 ]

pub eq_yes : (a b : ℕ) → a ≡ b → (a == b) ≡ true
eq_yes a b e = elim (eqb_tells a b) [ inl w ↦ w.0 | inr w ↦ absurd (w.1 e) ]

pub le_no : (a b : ℕ) → b < a → nat_le a b ≡ false
le_no a b h = elim (leb_tells a b) [ inl w ↦ absurd (omega arith) | inr w ↦ w.0 ]

pub lt_no : (a b : ℕ) → b ≤ a → nat_lt a b ≡ false
lt_no a b h = elim (leb_tells (suc a) b) [ inl w ↦ absurd (omega arith) | inr w ↦ w.0 ]

pub lt_yes : (a b : ℕ) → a < b → nat_lt a b ≡ true
lt_yes a b h = elim (leb_tells (suc a) b) [ inl w ↦ w.0 | inr w ↦ absurd (omega arith) ]

-- a test that speaks of page 0 alone
zero_test : (n : ℕ) (t : Bool) → (n ≡ 0 → t ≡ true) → (n == 0 && not t) ≡ false
zero_test n t h = elim (eqb_tells n 0) [
  | inl w ↦ and_right (n == 0) (not t) (ap not (h w.1))
  | inr w ↦ rw w.0 refl
]

good_number : (count least n : ℕ) → (count ≡ 0 → n ≡ 0) → least ≤ n → n < most_pages → is_bad_number count least n ≡ false
good_number count least n begins low small =
    or_from _ _ (elim (eqb_tells count 0) [ inl w ↦ and_right (count == 0) (not (n == 0)) (ap not (eq_yes n 0 (begins w.1))) | inr w ↦ rw w.0 refl ])
    (or_from _ _ (lt_no n least low) (le_no most_pages n small))

-- four bytes at the front, and the next four
pub number_first : (n : ℕ) (rest : List ℕ) → n < 4294967296 → number_in 0 4 (bytes_of 4 n ++ rest) ≡ n
unfolding number_in bytes_of
number_first n rest h = number_of-bytes_of 4 n h

pub number_second : (n m : ℕ) (rest : List ℕ) → m < 4294967296 → number_in 4 4 (bytes_of 4 n ++ (bytes_of 4 m ++ rest)) ≡ m
unfolding number_in bytes_of
number_second n m rest h = number_of-bytes_of 4 m h

-- the tests of a page of version 101, and of a run of version 102
abbrev pub single_tests : Head → (at count least : ℕ) (rest : List ℕ) (n : ℕ) → List Test
single_tests h at count least rest n =
    (is_bad_number count least n, at) ∷ ends_before (4 + h.size) at rest ∷ (n == 0 && not (is_first_page h (part 4 h.size rest)), at + 4) ∷ []

abbrev pub run_tests : Head → (at count least barred : ℕ) (rest : List ℕ) (n m : ℕ) → List Test
run_tests h at count least barred rest n m =
    (is_bad_number count least n || n == barred, at)
    ∷ ends_before 8 at rest
    ∷ (m == 0 || (nat_lt 16 m || nat_lt most_pages (n + m)), at + 4)
    ∷ (n == 0 && nat_lt (length rest) (8 + h.size), at + length rest)
    ∷ (n == 0 && not (is_first_page h (part 8 h.size rest)), at + 8)
    ∷ ends_before (8 + m * h.size) at rest
    ∷ []

-- what is read after a page, and after a run
abbrev pub behind_single : (left : ℕ) → Head → (at count : ℕ) (rest : List ℕ) (n : ℕ) → Result (List Numbered) ℕ
behind_single left h at count rest n = behind ((n, part 4 h.size rest) ∷ []) (read_singles left h (at + 4 + h.size) (count + 1) (n + 1) (drop (4 + h.size) rest))

abbrev pub behind_run : (left : ℕ) → Head → (at count : ℕ) (rest : List ℕ) (n m : ℕ) → Result (List Numbered) ℕ
behind_run left h at count rest n m = behind (pages_in h.size m n (drop 8 rest)) (read_runs left h (at + 8 + m * h.size) (count + m) (n + m) (barred_after n m) (drop (8 + m * h.size) rest))

pub single_there : (left : ℕ) (h : Head) (at count least : ℕ) (rest : List ℕ) → nat_lt (length rest) 4 ≡ false → (number_in 0 4 rest == end_mark) ≡ false
    → first_fault (single_tests h at count least rest (number_in 0 4 rest)) ≡ None → read_singles (suc left) h at count least rest ≡ behind_single left h at count rest (number_in 0 4 rest)
unfolding read_singles
single_there left h at count least rest long other clear = rw (long, read_singles) (rw (other, read_singles) (rw (clear, read_singles) refl))

pub run_there : (left : ℕ) (h : Head) (at count least barred : ℕ) (rest : List ℕ) → nat_lt (length rest) 4 ≡ false → (number_in 0 4 rest == end_mark) ≡ false
    → first_fault (run_tests h at count least barred rest (number_in 0 4 rest) (number_in 4 4 rest)) ≡ None
    → read_runs (suc left) h at count least barred rest ≡ behind_run left h at count rest (number_in 0 4 rest) (number_in 4 4 rest)
unfolding read_runs
run_there left h at count least barred rest long other clear = rw (long, read_runs) (rw (other, read_runs) (rw (clear, read_runs) refl))

-- the reader of version 101 takes a page
single_step : (left : ℕ) (h : Head) (at count least : ℕ) (rest : List ℕ) (n : ℕ) → number_in 0 4 rest ≡ n → nat_lt (length rest) 4 ≡ false → (n == end_mark) ≡ false
    → AreClear (single_tests h at count least rest n) → read_singles (suc left) h at count least rest ≡ behind_single left h at count rest n
single_step left h at count least rest n e long other clear =
    single_there left h at count least rest long (ap (λ x. x == end_mark) e ∙ other)
    (ap (λ x. first_fault (single_tests h at count least rest x)) e ∙ clear_none (single_tests h at count least rest n) clear)
    ∙ ap (behind_single left h at count rest) e

-- the reader of version 102 takes a run
run_step : (left : ℕ) (h : Head) (at count least barred : ℕ) (rest : List ℕ) (n m : ℕ) → number_in 0 4 rest ≡ n → number_in 4 4 rest ≡ m
    → nat_lt (length rest) 4 ≡ false → (n == end_mark) ≡ false
    → AreClear (run_tests h at count least barred rest n m) → read_runs (suc left) h at count least barred rest ≡ behind_run left h at count rest n m
run_step left h at count least barred rest n m e f long other clear =
    run_there left h at count least barred rest long (ap (λ x. x == end_mark) e ∙ other)
    (ap (λ x. first_fault (run_tests h at count least barred rest x (number_in 4 4 rest))) e ∙ ap (λ y. first_fault (run_tests h at count least barred rest n y)) f
    ∙ clear_none (run_tests h at count least barred rest n m) clear)
    ∙ ap (λ x. behind_run left h at count rest x (number_in 4 4 rest)) e ∙ ap (behind_run left h at count rest n) f

-- the end is read
abbrev pub end_tests : (at count : ℕ) (rest : List ℕ) → List Test
end_tests at count rest = (count == 0, at) ∷ ends_before 8 at rest ∷ (not (number_in 4 4 rest == count), at + 4) ∷ (nat_lt 8 (length rest), at + 8) ∷ []

read_end_there : (at count : ℕ) (rest : List ℕ) → first_fault (end_tests at count rest) ≡ None → read_end at count rest ≡ Ok []
unfolding read_end
read_end_there at count rest clear = rw (clear, read_end) refl

pub eight_bytes : (count : ℕ) → length (end_bytes count) ≡ 8
unfolding end_bytes bytes_of
eight_bytes count = refl

count_there : (count : ℕ) → count < 4294967296 → number_in 4 4 (end_bytes count) ≡ count
unfolding end_bytes number_in bytes_of
count_there count small = number_of-bytes_of 4 count small

read_end_written : (at count : ℕ) → 1 ≤ count → count < 4294967296 → read_end at count (end_bytes count) ≡ Ok []
read_end_written at count some small =
    let size = eight_bytes count in
    read_end_there at count (end_bytes count) (clear_none (end_tests at count (end_bytes count))
    (eq_no count 0 (omega arith), (lt_no (length (end_bytes count)) 8 (omega arith), (ap not (eq_yes _ _ (count_there count small)), (lt_no 8 (length (end_bytes count)) (omega arith), tt)))))

pub singles_end : (left : ℕ) (h : Head) (at count least : ℕ) → 1 ≤ count → count < 4294967296 → read_singles (suc left) h at count least (end_bytes count) ≡ Ok []
unfolding read_singles end_bytes number_in bytes_of number_of
singles_end left h at count least some small = read_end_written at count some small

pub runs_end : (left : ℕ) (h : Head) (at count least barred : ℕ) → 1 ≤ count → count < 4294967296 → read_runs (suc left) h at count least barred (end_bytes count) ≡ Ok []
unfolding read_runs end_bytes number_in bytes_of number_of
runs_end left h at count least barred some small = read_end_written at count some small

-- a page of version 101 after its number
behind_four : (a : ℕ) (x : List ℕ) → drop 4 (bytes_of 4 a ++ x) ≡ x
unfolding bytes_of
behind_four a x = refl

four_longer : (a : ℕ) (x y : List ℕ) → length (bytes_of 4 a ++ (x ++ y)) ≡ 4 + (length x + length y)
unfolding bytes_of
four_longer a x y = omega (arith, length-append x y)

pub single_read : (left : ℕ) (h : Head) (at count least n : ℕ) (page : Page) (more : List ℕ) (rs : List Numbered) → length page ≡ h.size → (count ≡ 0 → n ≡ 0) → least ≤ n → n < most_pages
    → (n ≡ 0 → is_first_page h page ≡ true) → read_singles left h (at + 4 + h.size) (count + 1) (n + 1) more ≡ Ok rs
    → read_singles (suc left) h at count least (bytes_of 4 n ++ (page ++ more)) ≡ Ok ((n, page) ∷ rs)
single_read left h at count least n page more rs size begins low small first later =
    let rest : List ℕ = bytes_of 4 n ++ (page ++ more) in
    let long : length rest ≡ 4 + (h.size + length more) = omega (arith, four_longer n page more, size) in
    let is : part 4 h.size rest ≡ page = ap (take h.size) (behind_four n (page ++ more)) ∙ take_at page more h.size size in
    let past : drop (4 + h.size) rest ≡ more = sym (drop-drop h.size 4 rest) ∙ ap (drop h.size) (behind_four n (page ++ more)) ∙ drop_at page more h.size size in
    single_step left h at count least rest n (number_first n (page ++ more) (omega arith)) (lt_no (length rest) 4 (omega arith)) (eq_no n end_mark (omega arith))
    (good_number count least n begins low small, (lt_no (length rest) (4 + h.size) (omega arith), (zero_test n (is_first_page h (part 4 h.size rest)) (λ e. ap (is_first_page h) is ∙ first e), tt)))
    ∙ ap (λ (x : Page). behind ((n, x) ∷ []) (read_singles left h (at + 4 + h.size) (count + 1) (n + 1) (drop (4 + h.size) rest))) is
    ∙ ap (λ (x : List ℕ). behind ((n, page) ∷ []) (read_singles left h (at + 4 + h.size) (count + 1) (n + 1) x)) past
    ∙ ap (behind ((n, page) ∷ [])) later

pub joined_read : (size n : ℕ) (ps : List Page) (more : List ℕ) → AllByRecursion (λ p. length p ≡ size) ps → pages_in size (length ps) n (joined ps ++ more) ≡ numbered_from n ps
unfolding pages_in numbered_from
joined_read size n [] more h = refl
joined_read size n (p ∷ ps) more h =
    let front : (p ++ joined ps) ++ more ≡ p ++ (joined ps ++ more) = append_assoc p (joined ps) more in
    let one : take size ((p ++ joined ps) ++ more) ≡ p = ap (take size) front ∙ take_at p (joined ps ++ more) size h.0 in
    let two : drop size ((p ++ joined ps) ++ more) ≡ joined ps ++ more = ap (drop size) front ∙ drop_at p (joined ps ++ more) size h.0 in
    ap (λ (x : Page). (n, x) ∷ pages_in size (length ps) (n + 1) (drop size ((p ++ joined ps) ++ more))) one
    ∙ ap (λ (y : List ℕ). (n, p) ∷ pages_in size (length ps) (n + 1) y) two
    ∙ ap (λ (r : List Numbered). (n, p) ∷ r) (joined_read size (n + 1) ps more h.1)

behind_eight : (a b : ℕ) (x : List ℕ) → drop 8 (bytes_of 4 a ++ (bytes_of 4 b ++ x)) ≡ x
unfolding bytes_of
behind_eight a b x = refl

eight_longer : (a b : ℕ) (x y : List ℕ) → length (bytes_of 4 a ++ (bytes_of 4 b ++ (x ++ y))) ≡ 8 + (length x + length y)
unfolding bytes_of
eight_longer a b x y = omega (arith, length-append x y)

pub first_joined : (size : ℕ) (ps : List Page) (more : List ℕ) → 1 ≤ length ps → AllByRecursion (λ p. length p ≡ size) ps → take size (joined ps ++ more) ≡ get_or ps 0 []
first_joined size [] more some h = absurd (omega arith)
first_joined size (p ∷ ps) more some h = ap (take size) (append_assoc p (joined ps) more) ∙ take_at p (joined ps ++ more) size h.0

size_le : (m size : ℕ) → 1 ≤ m → size ≤ m * size
size_le zero size h = absurd (omega arith)
size_le (suc k) size h = omega (arith, suc-mul k size)

-- what a run has to be behind so many pages
pub record IsRun (h : Head) (count least barred first : ℕ) (ps : List Page) : Type 0 where
  pub low : least ≤ first
  pub apart : first ≢ barred
  pub begins : count ≡ 0 → first ≡ 0
  pub some : 1 ≤ length ps
  pub few : length ps ≤ 16
  pub below : first + length ps ≤ most_pages
  pub sizes : AllByRecursion (λ p. length p ≡ h.size) ps
  pub head : first ≡ 0 → is_first_page h (get_or ps 0 []) ≡ true

-- a run of version 102
pub run_read : (left : ℕ) (h : Head) (at count least barred first : ℕ) (ps : List Page) (more : List ℕ) (rs : List Numbered) → IsRun h count least barred first ps
    → read_runs left h (at + 8 + length ps * h.size) (count + length ps) (first + length ps) (barred_after first (length ps)) more ≡ Ok rs
    → read_runs (suc left) h at count least barred (bytes_of 4 first ++ (bytes_of 4 (length ps) ++ (joined ps ++ more))) ≡ Ok (numbered_from first ps ++ rs)
run_read left h at count least barred first ps more rs run later =
    let m : ℕ = length ps in
    let rest : List ℕ = bytes_of 4 first ++ (bytes_of 4 m ++ (joined ps ++ more)) in
    let front : drop 8 rest ≡ joined ps ++ more = behind_eight first m (joined ps ++ more) in
    let size : length (joined ps) ≡ m * h.size = length-joined h.size ps run.sizes in
    let long : length rest ≡ 8 + (m * h.size + length more) = omega (arith, eight_longer first m (joined ps) more, size) in
    let past : drop (8 + m * h.size) rest ≡ more = sym (drop-drop (m * h.size) 8 rest) ∙ ap (drop (m * h.size)) front ∙ drop_at (joined ps) more (m * h.size) size in
    let page : part 8 h.size rest ≡ get_or ps 0 [] = ap (take h.size) front ∙ first_joined h.size ps more run.some run.sizes in
    let wide : h.size ≤ m * h.size = size_le m h.size run.some in
    let small : first < most_pages = omega (arith, run.below, run.some) in
    run_step left h at count least barred rest first m (number_first first (bytes_of 4 m ++ (joined ps ++ more)) (omega arith)) (number_second first m (joined ps ++ more) (omega (arith, run.few)))
    (lt_no (length rest) 4 (omega arith)) (eq_no first end_mark (omega arith)) (
      or_from _ _ (good_number count least first run.begins run.low small) (eq_no first barred run.apart),
      (
        lt_no (length rest) 8 (omega arith),
        (
          or_from _ _ (eq_no m 0 (omega (arith, run.some))) (or_from _ _ (lt_no 16 m run.few) (lt_no most_pages (first + m) run.below)),
          (
            and_right (first == 0) (nat_lt (length rest) (8 + h.size)) (lt_no (length rest) (8 + h.size) (omega arith)),
            (zero_test first (is_first_page h (part 8 h.size rest)) (λ e. ap (is_first_page h) page ∙ run.head e), (lt_no (length rest) (8 + m * h.size) (omega arith), tt)),
          ),
        ),
      ),
    )
    ∙ ap (λ (x : List ℕ). behind (pages_in h.size m first x) (read_runs left h (at + 8 + m * h.size) (count + m) (first + m) (barred_after first m) (drop (8 + m * h.size) rest))) front
    ∙ ap (λ (r : List Numbered). behind r (read_runs left h (at + 8 + m * h.size) (count + m) (first + m) (barred_after first m) (drop (8 + m * h.size) rest))) (joined_read h.size first ps more run.sizes)
    ∙ ap (λ (x : List ℕ). behind (numbered_from first ps) (read_runs left h (at + 8 + m * h.size) (count + m) (first + m) (barred_after first m) x)) past
    ∙ ap (behind (numbered_from first ps)) later
