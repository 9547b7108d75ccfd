-- What is read as a level file is spelled by the grammar.
use Rattle.std.proofs.Common.{◌≡◌, ◌≢◌, inl, inr, ℕ, zero, suc, ◌+◌, ◌*◌, ◌/◌, ◌%◌, ◌<◌, ◌≤◌, List, [], ◌∷◌, ◌++◌, length, get_or, take, drop, refl, sym, ap, subst, ◌∙◌, arith, length-append, append_assoc, Bool, true, false, ◌&&◌, ◌||◌, ◌==◌, nat_lt, nat_le, Option, Some, None, Result, Ok, Err}
use Rattle.nb_model.proofs.Common.{AllByRecursion, told_text, eqb-true, or_parts, leb_tells, append-nil, drop-drop, take-append-drop, drop_all, number_of, bytes_of, number_in, part, is_page_size, most_pages, Page, Numbered, Head, IsLevel, Contents, Stretch, AreRising, AreOfSize, first_fault, behind, head_then, head_in, begins_level, level_signature, level_bytes, body_bytes, single_bytes, run_bytes, runs_of, runs_behind, joined, numbered_from, end_bytes, end_mark, read_level, read_pages, read_end, read_singles, read_runs, pages_in, barred_after, with_head, is_bad_number, is_first_page, length-part, lt_holds, not_false, err_not_ok, err_ok, ok_same}
use Rattle.nb_model.proofs.GatherLaws.{AreRuns, joins, total, pages_of_runs, run_front, run_none}
use Rattle.nb_model.proofs.ImageLaws.{Pages, pages_of}
use Rattle.nb_model.proofs.LevelLaws.{head_tests, single_front, single_none}
use Rattle.nb_model.proofs.LevelWalk.{FirstIsZero, none_clear, not_long, not_same, zero_tells, good, singles_are, runs_are}
use Rattle.nb_model.proofs.ReadLaws.{AreClear, IsRun, single_tests, run_tests, end_tests, first_joined, joined_read}

-- each is a byte
abbrev AreBytes : List ℕ → Type 0
AreBytes bytes = AllByRecursion (λ (b : ℕ). b < 256) bytes

bytes_front : (k : ℕ) (xs : List ℕ) → AreBytes xs → AreBytes (take k xs)
bytes_front zero xs are = tt
bytes_front (suc k) [] are = tt
bytes_front (suc k) (x ∷ xs) are = (are.0, bytes_front k xs are.1)

bytes_behind : (k : ℕ) (xs : List ℕ) → AreBytes xs → AreBytes (drop k xs)
bytes_behind zero xs are = are
bytes_behind (suc k) [] are = tt
bytes_behind (suc k) (x ∷ xs) are = bytes_behind k xs are.1

-- bytes are those of the number that they spell
respelled : (w : ℕ) (xs : List ℕ) → length xs ≡ w → AreBytes xs → bytes_of w (number_of xs) ≡ xs
unfolding number_of bytes_of
respelled zero [] long are = refl
respelled zero (x ∷ xs) long are = absurd (omega arith)
respelled (suc w) [] long are = absurd (omega arith)
respelled (suc w) (x ∷ xs) long are =
    let small : x < 256 = are.0 in
    let low : (x + 256 * number_of xs) % 256 ≡ x = omega arith in
    let high : (x + 256 * number_of xs) / 256 ≡ number_of xs = omega arith in
    ap (λ n. n ∷ bytes_of w ((x + 256 * number_of xs) / 256)) low ∙ ap (λ n. x ∷ bytes_of w n) high ∙ ap (λ (l : List ℕ). x ∷ l) (respelled w xs (omega arith) are.1)

-- they spell a small one
number_low : (xs : List ℕ) → length xs ≡ 4 → AreBytes xs → number_of xs < 4294967296
unfolding number_of
number_low (a ∷ b ∷ c ∷ d ∷ []) long are =
    let first : a < 256 = are.0 in
    let second : b < 256 = are.1.0 in
    let third : c < 256 = are.1.1.0 in
    let fourth : d < 256 = are.1.1.1.0 in
    omega arith
number_low [] long are = absurd (omega arith)
number_low (a ∷ []) long are = absurd (omega arith)
number_low (a ∷ b ∷ []) long are = absurd (omega arith)
number_low (a ∷ b ∷ c ∷ []) long are = absurd (omega arith)
number_low (a ∷ b ∷ c ∷ d ∷ e ∷ xs) long are = absurd (omega arith)

-- a piece from a place on, and a number there
piece : (at w n : ℕ) (xs : List ℕ) → at + w ≡ n → drop at xs ≡ part at w xs ++ drop n xs
piece at w n xs is = sym (take-append-drop w (drop at xs)) ∙ ap (λ (l : List ℕ). part at w xs ++ l) (drop-drop w at xs ∙ ap (λ k. drop k xs) (let e : at + w ≡ n = omega (arith, is) in e))

field : (at w n : ℕ) (xs : List ℕ) → AreBytes xs → at + w ≡ n → n ≤ length xs → drop at xs ≡ bytes_of w (number_in at w xs) ++ drop n xs
unfolding number_in
field at w n xs are is low =
    piece at w n xs is ∙ ap (λ (l : List ℕ). l ++ drop n xs) (sym (respelled w (part at w xs) (length-part at w xs (omega (arith, is, low))) (bytes_front w (drop at xs) (bytes_behind at xs are))))

-- the end
record IsEnd (count : ℕ) (rest : List ℕ) (rs : List Numbered) : Type 0 where
  pub some : count ≢ 0
  pub none : rs ≡ []
  pub spelled : rest ≡ end_bytes count

end_is : (at count : ℕ) (rest : List ℕ) (rs : List Numbered) → AreBytes rest → number_in 0 4 rest ≡ end_mark → read_end at count rest ≡ Ok rs → IsEnd count rest rs
unfolding read_end end_bytes
end_is at count rest rs are mark e = by (first_fault (end_tests at count rest)) refl e
  where
    by : (x : Option ℕ) → first_fault (end_tests at count rest) ≡ x → elim x as (λ z. Result (List Numbered) ℕ) [ Some place ↦ Err place | None ↦ Ok [] ] ≡ Ok rs → IsEnd count rest rs
    by (Some place) is f = absurd (err_not_ok place rs (Err place) refl f)
    by None is f =
        let clear = none_clear (end_tests at count rest) is in
        let long : 8 ≤ length rest = not_long (length rest) 8 clear.1.0 in
        let short : length rest ≤ 8 = not_long 8 (length rest) clear.1.1.1.0 in
        let same : number_in 4 4 rest ≡ count = eqb-true (number_in 4 4 rest) count (not_false (number_in 4 4 rest == count) clear.1.1.0) in
        let nothing : drop 8 rest ≡ [] = drop_all 8 rest short in
        record {
          some = not_same count 0 clear.0;
          none = sym (ok_same {X = List Numbered} {E = ℕ} [] rs (Ok []) refl f);
          spelled = field 0 4 4 rest are refl (omega arith) ∙ ap (λ (l : List ℕ). bytes_of 4 (number_in 0 4 rest) ++ l) (field 4 4 8 rest are refl long ∙ ap (λ (l : List ℕ). bytes_of 4 (number_in 4 4 rest) ++ l) nothing ∙ append-nil (bytes_of 4 (number_in 4 4 rest)))
              ∙ ap (λ n. bytes_of 4 n ++ bytes_of 4 (number_in 4 4 rest)) mark ∙ ap (λ n. bytes_of 4 end_mark ++ bytes_of 4 n) same;
        }

-- the pages of version 101 and the end
record AreSingles (h : Head) (count least : ℕ) (rest : List ℕ) (rs : List Numbered) : Type 0 where
  pub spelled : rest ≡ single_bytes rs ++ end_bytes (count + length rs)
  pub rising : AreRising least rs
  pub sizes : AreOfSize h.size rs
  pub first : count ≡ 0 → FirstIsZero h rs

-- what is read is so
module _ (h : Head) where
  -- of bytes
  abbrev OfBytes : (count least : ℕ) (rest : List ℕ) (rs : List Numbered) → Type 0
  OfBytes count least rest rs = AreBytes rest → AreSingles h count least rest rs

  singles_end : (at count least : ℕ) (rest : List ℕ) (rs : List Numbered) → number_in 0 4 rest ≡ end_mark → read_end at count rest ≡ Ok rs → OfBytes count least rest rs
  singles_end at count least rest rs mark read are =
      let end : IsEnd count rest rs = end_is at count rest rs are mark read in
      subst (λ (l : List Numbered). AreSingles h count least rest l) (sym end.none) (record {
        spelled = end.spelled ∙ ap end_bytes (let e : count ≡ count + 0 = omega arith in e) ∙ sym (single_none (end_bytes (count + 0)));
        rising = tt;
        sizes = tt;
        first = λ none. end.some none;
      })

  singles_on : (at count least : ℕ) (rest : List ℕ) (more : List Numbered) → AreClear (single_tests h at count least rest (number_in 0 4 rest)) → OfBytes (count + 1) (number_in 0 4 rest + 1) (drop (4 + h.size) rest) more
      → OfBytes count least rest ((number_in 0 4 rest, part 4 h.size rest) ∷ more)
  singles_on at count least rest more clear behind are =
      let n : ℕ = number_in 0 4 rest in
      let page : Page = part 4 h.size rest in
      let number = good count least n clear.0 in
      let long : 4 + h.size ≤ length rest = not_long (length rest) (4 + h.size) clear.1.0 in
      let next : AreSingles h (count + 1) (n + 1) (drop (4 + h.size) rest) more = behind (bytes_behind (4 + h.size) rest are) in
      let all : List Numbered = (n, page) ∷ more in
      record {
        spelled = field 0 4 4 rest are refl (omega (arith, long)) ∙ ap (λ (l : List ℕ). bytes_of 4 n ++ l) (piece 4 h.size (4 + h.size) rest refl ∙ ap (λ (l : List ℕ). page ++ l) (next.spelled ∙ ap (λ k. single_bytes more ++ end_bytes k) (let e : (count + 1) + length more ≡ count + length all = omega arith in e)))
            ∙ sym (single_front (n, page) more (end_bytes (count + length all)));
        rising = (number.low, number.small, next.rising);
        sizes = (length-part 4 h.size rest long, next.sizes);
        first = λ none. (number.begins none, zero_tells n (is_first_page h page) clear.1.1.0 (number.begins none));
      }

-- the runs of version 102 and the end
record AreSpelled (h : Head) (count least barred : ℕ) (rest : List ℕ) (rs : List Numbered) : Type 0 where
  pub runs : List Stretch
  pub spelled : rest ≡ run_bytes runs ++ end_bytes (count + total runs)
  pub pages : rs ≡ pages_of_runs runs
  pub are : AreRuns h count least barred runs
  pub some : 1 ≤ count + total runs

module _ (h : Head) where
  -- of bytes
  abbrev OfRuns : (count least barred : ℕ) (rest : List ℕ) (rs : List Numbered) → Type 0
  OfRuns count least barred rest rs = AreBytes rest → AreSpelled h count least barred rest rs

  positive : (k : ℕ) → k ≢ 0 → 1 ≤ k
  positive zero other = absurd (other refl)
  positive (suc k) other = omega arith

  runs_end : (at count least barred : ℕ) (rest : List ℕ) (rs : List Numbered) → number_in 0 4 rest ≡ end_mark → read_end at count rest ≡ Ok rs → OfRuns count least barred rest rs
  runs_end at count least barred rest rs mark read are =
      let end : IsEnd count rest rs = end_is at count rest rs are mark read in
      record {
        runs = [];
        spelled = end.spelled ∙ ap end_bytes (let e : count ≡ count + 0 = omega arith in e) ∙ sym (run_none (end_bytes (count + 0)));
        pages = end.none;
        are = tt;
        some = omega (arith, positive count end.some);
      }

  runs_on : (at count least barred : ℕ) (rest : List ℕ) (more : List Numbered) → AreClear (run_tests h at count least barred rest (number_in 0 4 rest) (number_in 4 4 rest))
      → OfRuns (count + number_in 4 4 rest) (number_in 0 4 rest + number_in 4 4 rest) (barred_after (number_in 0 4 rest) (number_in 4 4 rest)) (drop (8 + number_in 4 4 rest * h.size) rest) more
      → OfRuns count least barred rest (pages_in h.size (number_in 4 4 rest) (number_in 0 4 rest) (drop 8 rest) ++ more)
  runs_on at count least barred rest more clear behind are =
      let n : ℕ = number_in 0 4 rest in
      let m : ℕ = number_in 4 4 rest in
      let far : ℕ = 8 + m * h.size in
      let one = or_parts (is_bad_number count least n) (n == barred) clear.0 in
      let number = good count least n one.0 in
      let counts = or_parts (m == 0) (nat_lt 16 m || nat_lt most_pages (n + m)) clear.1.1.0 in
      let most = or_parts (nat_lt 16 m) (nat_lt most_pages (n + m)) counts.1 in
      let some : m ≢ 0 = not_same m 0 counts.0 in
      let long : far ≤ length rest = not_long (length rest) far clear.1.1.1.1.1.0 in
      let body : List ℕ = part 8 (m * h.size) rest in
      let cut : Pages h.size body m = pages_of h.size m body (length-part 8 (m * h.size) rest long) in
      let split : drop 8 rest ≡ joined cut.pages ++ drop far rest = piece 8 (m * h.size) far rest refl ∙ ap (λ (l : List ℕ). l ++ drop far rest) cut.is in
      let next : AreSpelled h (count + m) (n + m) (barred_after n m) (drop far rest) more = behind (bytes_behind far rest are) in
      let s : Stretch = record { first = n; pages = cut.pages } in
      let sum : (count + m) + total next.runs ≡ count + total (s ∷ next.runs) = omega (arith, cut.count) in
      let head : n ≡ 0 → is_first_page h (get_or cut.pages 0 []) ≡ true = λ none. ap (is_first_page h) (sym (ap (take h.size) split ∙ first_joined h.size cut.pages (drop far rest) (omega (arith, cut.count, positive m some)) cut.sizes)) ∙ zero_tells n (is_first_page h (part 8 h.size rest)) clear.1.1.1.1.0 none in
      let run : IsRun h count least barred n cut.pages = record {
        low = number.low;
        apart = not_same n barred one.1;
        begins = number.begins;
        some = omega (arith, cut.count, positive m some);
        few = omega (arith, cut.count, not_long 16 m most.0);
        below = omega (arith, cut.count, not_long most_pages (n + m) most.1);
        sizes = cut.sizes;
        head = head;
      } in
      record {
        runs = s ∷ next.runs;
        spelled = field 0 4 4 rest are refl (omega (arith, long)) ∙ ap (λ (l : List ℕ). bytes_of 4 n ++ l) (field 4 4 8 rest are refl (omega (arith, long))
            ∙ ap (λ (l : List ℕ). bytes_of 4 m ++ l) (split ∙ ap (λ (l : List ℕ). joined cut.pages ++ l) (next.spelled ∙ ap (λ k. run_bytes next.runs ++ end_bytes k) sum)))
            ∙ ap (λ k. bytes_of 4 n ++ (bytes_of 4 k ++ (joined cut.pages ++ (run_bytes next.runs ++ end_bytes (count + total (s ∷ next.runs)))))) (sym cut.count)
            ∙ sym (run_front s next.runs (end_bytes (count + total (s ∷ next.runs))));
        pages = ap (λ (l : List Numbered). l ++ more) (ap (pages_in h.size m n) split ∙ ap (λ k. pages_in h.size k n (joined cut.pages ++ drop far rest)) (sym cut.count) ∙ joined_read h.size n cut.pages (drop far rest) cut.sizes)
            ∙ ap (λ (l : List Numbered). numbered_from n cut.pages ++ l) next.pages;
        are = (run, subst (λ k. AreRuns h (count + k) (n + k) (barred_after n k) next.runs) (sym cut.count) next.are);
        some = omega (arith, cut.count, positive m some);
      }

-- Pages of consecutive numbers go into the run that has begun.
filled : (first : ℕ) (ps qs : List Page) (rs : List Numbered) → length ps + length qs ≤ 16 → runs_behind first ps (numbered_from (first + length ps) qs ++ rs) ≡ runs_behind first (ps ++ qs) rs
unfolding runs_behind numbered_from
filled first ps [] rs few = ap (λ (l : List Page). runs_behind first l rs) (sym (append-nil ps))
filled first ps (q ∷ qs) rs few = elim (joins (first + length ps) first (length ps)) [
  | inl w ↦ rw (w.0, runs_behind) (
      ap (λ k. runs_behind first (ps ++ q ∷ []) (numbered_from k qs ++ rs)) (let e : (first + length ps) + 1 ≡ first + length (ps ++ q ∷ []) = omega (arith, length-append ps (q ∷ [])) in e)
      ∙ filled first (ps ++ q ∷ []) qs rs (omega (arith, few, length-append ps (q ∷ [])))
      ∙ ap (λ (l : List Page). runs_behind first l rs) (append_assoc ps (q ∷ []) qs)
      )
  | inr w ↦ absurd (w.1 (omega (arith, few)) refl)
]

barred_is : (first count : ℕ) → count < 16 → barred_after first count ≡ first + count
barred_is first count few = elim (leb_tells (suc count) 16) [ inl w ↦ rw (w.0, barred_after) refl | inr w ↦ absurd (omega arith) ]

-- A page that may not go into the run begins the next.
next_begun : (first : ℕ) (ps : List Page) (n : ℕ) (q : Page) (rs : List Numbered) → n ≢ barred_after first (length ps) → runs_behind first ps ((n, q) ∷ rs) ≡ record { first = first; pages = ps } ∷ runs_behind n (q ∷ []) rs
unfolding runs_behind
next_begun first ps n q rs apart = elim (joins n first (length ps)) [
  | inl w ↦ absurd (apart (w.1.next ∙ sym (barred_is first (length ps) w.1.room)))
  | inr w ↦ rw (w.0, runs_behind) refl
]

-- the pages of a run, one by one
one_by_one : (n : ℕ) (q : Page) (qs : List Page) (rs : List Numbered) → numbered_from n (q ∷ qs) ++ rs ≡ (n, q) ∷ (numbered_from (n + 1) qs ++ rs)
unfolding numbered_from
one_by_one n q qs rs = refl

-- So the pages of runs of the form are gathered into the same runs.
regathered : (h : Head) (count least first : ℕ) (ps : List Page) (ss : List Stretch) → AreRuns h count least (barred_after first (length ps)) ss → runs_behind first ps (pages_of_runs ss) ≡ record { first = first; pages = ps } ∷ ss
unfolding runs_behind
regathered h count least first ps [] are = refl
regathered h count least first ps (t ∷ ts) are = by (λ (l : List Page) (runs : AreRuns h (count + length t.pages) (t.first + length t.pages) (barred_after t.first (length l)) ts). regathered h (count + length t.pages) (t.first + length t.pages) t.first l ts runs) t.pages refl
  where
    by : ((l : List Page) → AreRuns h (count + length t.pages) (t.first + length t.pages) (barred_after t.first (length l)) ts → runs_behind t.first l (pages_of_runs ts) ≡ record { first = t.first; pages = l } ∷ ts)
        → (qs : List Page) → t.pages ≡ qs → runs_behind first ps (pages_of_runs (t ∷ ts)) ≡ record { first = first; pages = ps } ∷ t ∷ ts
    by later [] is = absurd (omega (arith, ap length is, are.0.some))
    by later (q ∷ qs) is =
        let whole : record { first = t.first; pages = q ∷ qs } ≡ t = λ i. record { first = t.first; pages = sym is i } in
        let more : runs_behind t.first (q ∷ []) (numbered_from (t.first + 1) qs ++ pages_of_runs ts) ≡ t ∷ ts =
        filled t.first (q ∷ []) qs (pages_of_runs ts) (omega (arith, ap length is, are.0.few))
        ∙ later (q ∷ qs) (subst (λ (l : List Page). AreRuns h (count + length t.pages) (t.first + length t.pages) (barred_after t.first (length l)) ts) is are.1)
        ∙ ap (λ (s : Stretch). s ∷ ts) whole in
        ap (λ (l : List Page). runs_behind first ps (numbered_from t.first l ++ pages_of_runs ts)) is
        ∙ ap (runs_behind first ps) (one_by_one t.first q qs (pages_of_runs ts)) ∙ next_begun first ps t.first q (numbered_from (t.first + 1) qs ++ pages_of_runs ts) are.0.apart
        ∙ ap (λ (l : List Stretch). record { first = first; pages = ps } ∷ l) more

-- pages of consecutive numbers rise
numbered_rise : (n : ℕ) (ps : List Page) (rs : List Numbered) → n + length ps ≤ most_pages → AreRising (n + length ps) rs → AreRising n (numbered_from n ps ++ rs)
unfolding numbered_from
numbered_rise n [] rs low rise = subst (λ k. AreRising k rs) (let e : n + 0 ≡ n = omega arith in e) rise
numbered_rise n (p ∷ ps) rs low rise =
    (omega arith, omega (arith, low), numbered_rise (n + 1) ps rs (omega (arith, low)) (subst (λ k. AreRising k rs) (let e : n + suc (length ps) ≡ (n + 1) + length ps = omega arith in e) rise))

pub rise_lower : (few many : ℕ) (rs : List Numbered) → few ≤ many → AreRising many rs → AreRising few rs
rise_lower few many [] low rise = tt
rise_lower few many (r ∷ rs) low rise = (omega (arith, low, rise.0), rise.1, rise.2)

runs_rise : (h : Head) (count least barred : ℕ) (ss : List Stretch) → AreRuns h count least barred ss → AreRising least (pages_of_runs ss)
runs_rise h count least barred [] are = tt
runs_rise h count least barred (s ∷ ss) are =
    rise_lower least s.first (pages_of_runs (s ∷ ss)) are.0.low
    (numbered_rise s.first s.pages (pages_of_runs ss) are.0.below (runs_rise h (count + length s.pages) (s.first + length s.pages) (barred_after s.first (length s.pages)) ss are.1))

-- and are of the page size
sizes_join : (size n : ℕ) (ps : List Page) (rs : List Numbered) → AllByRecursion (λ (p : Page). length p ≡ size) ps → AreOfSize size rs → AreOfSize size (numbered_from n ps ++ rs)
unfolding numbered_from
sizes_join size n [] rs ones more = more
sizes_join size n (p ∷ ps) rs ones more = (ones.0, sizes_join size (n + 1) ps rs ones.1 more)

runs_sizes : (h : Head) (count least barred : ℕ) (ss : List Stretch) → AreRuns h count least barred ss → AreOfSize h.size (pages_of_runs ss)
runs_sizes h count least barred [] are = tt
runs_sizes h count least barred (s ∷ ss) are =
    sizes_join h.size s.first s.pages (pages_of_runs ss) are.0.sizes (runs_sizes h (count + length s.pages) (s.first + length s.pages) (barred_after s.first (length s.pages)) ss are.1)

numbered_long : (n : ℕ) (ps : List Page) → length (numbered_from n ps) ≡ length ps
unfolding numbered_from
numbered_long n [] = refl
numbered_long n (p ∷ ps) = ap suc (numbered_long (n + 1) ps)

runs_long : (ss : List Stretch) → length (pages_of_runs ss) ≡ total ss
runs_long [] = refl
runs_long (s ∷ ss) = let rest = runs_long ss in omega (arith, rest, length-append (numbered_from s.first s.pages) (pages_of_runs ss), numbered_long s.first s.pages)

-- What the grammar says of pages after a head, of a version.
record IsBody (version : ℕ) (h : Head) (rest : List ℕ) (r : Numbered) (rs : List Numbered) : Type 0 where
  pub spelled : rest ≡ body_bytes version (r ∷ rs) ++ end_bytes (length (r ∷ rs))
  pub first : FirstIsZero h (r ∷ rs)
  pub rising : AreRising 1 rs
  pub sizes : AreOfSize h.size (r ∷ rs)

-- there are pages, and they are so
record HasBody (version : ℕ) (h : Head) (rest : List ℕ) (all : List Numbered) : Type 0 where
  pub r : Numbered
  pub rs : List Numbered
  pub is : all ≡ r ∷ rs
  pub body : IsBody version h rest r rs

behind_zero : (r : Numbered) (rs : List Numbered) → r.0 ≡ 0 → AreRising (r.0 + 1) rs → AreRising 1 rs
behind_zero r rs none rise = subst (λ k. AreRising (k + 1) rs) none rise

body_101 : (h : Head) (rest : List ℕ) (all : List Numbered) → AreSingles h 0 0 rest all → HasBody 101 h rest all
unfolding body_bytes
body_101 h rest [] are = absurd (are.first refl)
body_101 h rest (r ∷ rs) are = record {
  r = r;
  rs = rs;
  is = refl;
  body = record { spelled = are.spelled ∙ ap (λ k. single_bytes (r ∷ rs) ++ end_bytes k) (let e : 0 + length (r ∷ rs) ≡ length (r ∷ rs) = omega arith in e); first = are.first refl; rising = behind_zero r rs (are.first refl).0 are.rising.2; sizes = are.sizes };
}

body_102 : (h : Head) (rest : List ℕ) (all : List Numbered) → AreSpelled h 0 0 end_mark rest all → HasBody 102 h rest all
unfolding body_bytes runs_of numbered_from
body_102 h rest all are = by are.runs refl
  where
    by : (ss : List Stretch) → are.runs ≡ ss → HasBody 102 h rest all
    by [] is = absurd (omega (arith, ap total is, are.some))
    by (s ∷ ss) is = of s.pages refl
      where
        runs : AreRuns h 0 0 end_mark (s ∷ ss)
        runs = subst (λ (l : List Stretch). AreRuns h 0 0 end_mark l) is are.are

        pages : all ≡ pages_of_runs (s ∷ ss)
        pages = are.pages ∙ ap pages_of_runs is

        of : (ps : List Page) → s.pages ≡ ps → HasBody 102 h rest all
        of [] is = absurd (omega (arith, ap length is, runs.0.some))
        of (p ∷ ps) some =
            let r : Numbered = (s.first, p) in
            let rs : List Numbered = numbered_from (s.first + 1) ps ++ pages_of_runs ss in
            let all_is : pages_of_runs (s ∷ ss) ≡ r ∷ rs = ap (λ (l : List Page). numbered_from s.first l ++ pages_of_runs ss) some in
            let none : s.first ≡ 0 = runs.0.begins refl in
            let whole : record { first = s.first; pages = p ∷ ps } ≡ s = λ i. record { first = s.first; pages = sym some i } in
            let behind : AreRuns h (0 + length s.pages) (s.first + length s.pages) (barred_after s.first (length (p ∷ ps))) ss =
            subst (λ (l : List Page). AreRuns h (0 + length s.pages) (s.first + length s.pages) (barred_after s.first (length l)) ss) some runs.1 in
            let gathered : runs_behind s.first (p ∷ []) rs ≡ s ∷ ss =
            filled s.first (p ∷ []) ps (pages_of_runs ss) (omega (arith, ap length some, runs.0.few))
            ∙ regathered h (0 + length s.pages) (s.first + length s.pages) s.first (p ∷ ps) ss behind ∙ ap (λ (t : Stretch). t ∷ ss) whole in
            let count : 0 + total (s ∷ ss) ≡ length (r ∷ rs) = omega (arith, runs_long (s ∷ ss), ap length all_is) in
            let rise : AreRising 0 (r ∷ rs) = subst (λ (l : List Numbered). AreRising 0 l) all_is (runs_rise h 0 0 end_mark (s ∷ ss) runs) in
            record {
              r = r;
              rs = rs;
              is = pages ∙ all_is;
              body = record {
                spelled = are.spelled ∙ ap (λ (l : List Stretch). run_bytes l ++ end_bytes (0 + total l)) is ∙ ap (λ (l : List Stretch). run_bytes l ++ end_bytes (0 + total (s ∷ ss))) (sym gathered)
                    ∙ ap (λ k. run_bytes (runs_behind s.first (p ∷ []) rs) ++ end_bytes k) count;
                first = (none, ap (λ (l : List Page). is_first_page h (get_or l 0 [])) (sym some) ∙ runs.0.head none);
                rising = behind_zero r rs none rise.2;
                sizes = subst (λ (l : List Numbered). AreOfSize h.size l) all_is (runs_sizes h 0 0 end_mark (s ∷ ss) runs);
              };
            }

-- the head is spelled
head_spelled : (bytes : List ℕ) → AreBytes bytes → begins_level bytes ≡ true → 52 ≤ length bytes → bytes ≡ head_then (number_in 4 2 bytes) (head_in bytes) (drop 52 bytes)
unfolding head_then head_in begins_level
head_spelled bytes are begins long =
    let w : List ℕ = drop 52 bytes in
    let sign : take 4 bytes ≡ level_signature = told_text (take 4 bytes) level_signature true (sym begins) in
    let at_48 : drop 48 bytes ≡ bytes_of 4 (number_in 48 4 bytes) ++ w = field 48 4 52 bytes are refl long in
    let at_44 = field 44 4 48 bytes are refl (omega (arith, long)) ∙ ap (λ (l : List ℕ). bytes_of 4 (number_in 44 4 bytes) ++ l) at_48 in
    let at_40 = field 40 4 44 bytes are refl (omega (arith, long)) ∙ ap (λ (l : List ℕ). bytes_of 4 (number_in 40 4 bytes) ++ l) at_44 in
    let at_24 = piece 24 16 40 bytes refl ∙ ap (λ (l : List ℕ). part 24 16 bytes ++ l) at_40 in
    let at_8 = piece 8 16 24 bytes refl ∙ ap (λ (l : List ℕ). part 8 16 bytes ++ l) at_24 in
    let at_6 = field 6 2 8 bytes are refl (omega (arith, long)) ∙ ap (λ (l : List ℕ). bytes_of 2 (number_in 6 2 bytes) ++ l) at_8 in
    let at_4 = field 4 2 6 bytes are refl (omega (arith, long)) ∙ ap (λ (l : List ℕ). bytes_of 2 (number_in 4 2 bytes) ++ l) at_6 in
    sym (take-append-drop 4 bytes) ∙ ap (λ (l : List ℕ). l ++ drop 4 bytes) sign ∙ ap (λ (l : List ℕ). 78 ∷ 66 ∷ 65 ∷ 75 ∷ l) at_4

pages_are : (version : ℕ) (h : Head) (bytes : List ℕ) (all : List Numbered) → AreBytes bytes → (version == 101 || version == 102) ≡ true → read_pages version h bytes ≡ Ok all → HasBody version h (drop 52 bytes) all
unfolding read_pages
pages_are version h bytes all are known e = by (version == 101) refl e
  where
    by : (b : Bool) → (version == 101) ≡ b → elim b as (λ z. Result (List Numbered) ℕ) [ true ↦ read_singles (length bytes) h 52 0 0 (drop 52 bytes) | false ↦ read_runs (length bytes) h 52 0 0 end_mark (drop 52 bytes) ] ≡ Ok all
        → HasBody version h (drop 52 bytes) all
    by true is f =
        subst (λ v. HasBody v h (drop 52 bytes) all) (sym (eqb-true version 101 is)) (body_101 h (drop 52 bytes) all (singles_are h (OfBytes h) (singles_end h) (singles_on h) (length bytes) 52 0 0 (drop 52 bytes) all f (bytes_behind 52 bytes are)))
    by false is f =
        let other : (version == 102) ≡ true = sym (ap (λ (b : Bool). b || version == 102) is) ∙ known in
        subst (λ v. HasBody v h (drop 52 bytes) all) (sym (eqb-true version 102 other)) (body_102 h (drop 52 bytes) all (runs_are h (OfRuns h) (runs_end h) (runs_on h) (length bytes) 52 0 0 end_mark (drop 52 bytes) all f (bytes_behind 52 bytes are)))

scn_low : (bytes : List ℕ) → AreBytes bytes → 52 ≤ length bytes → number_in 44 4 bytes < 4294967296
unfolding number_in
scn_low bytes are long = number_low (part 44 4 bytes) (length-part 44 4 bytes (omega (arith, long))) (bytes_front 4 (drop 44 bytes) (bytes_behind 44 bytes are))

-- in the grammar the bytes are a level file of these pages, of which there is one at least
abbrev pub Spell : (bytes : List ℕ) (version : ℕ) → Head → List Numbered → Type 0
Spell bytes version h [] = ⊥
Spell bytes version h (r ∷ rs) = IsLevel bytes version h r rs

pub level_spelled : (bytes : List ℕ) (c : Contents) → AllByRecursion (λ (b : ℕ). b < 256) bytes → read_level bytes ≡ Ok c → Spell bytes c.version c.head c.pages
unfolding read_level level_bytes head_in
level_spelled bytes c are e = by (first_fault (head_tests bytes version h)) refl e
  where
    version : ℕ
    version = number_in 4 2 bytes

    h : Head
    h = head_in bytes

    of_pages : AreClear (head_tests bytes version h) → (pages : Result (List Numbered) ℕ) → read_pages version h bytes ≡ pages → with_head version h pages ≡ Ok c → Spell bytes c.version c.head c.pages
    of_pages clear (Err at) is f = absurd (err_ok at c f)
    of_pages clear (Ok all) is f =
        let same : record { version = version; head = h; pages = all } ≡ c = cc in
        let known : (version == 101 || version == 102) ≡ true = not_false (version == 101 || version == 102) clear.1.1.0 in
        let long : 52 ≤ length bytes = not_long (length bytes) 52 clear.1.0 in
        let has : HasBody version h (drop 52 bytes) all = pages_are version h bytes all are known is in
        let level : IsLevel bytes version h has.r has.rs = record {
          spelled = head_spelled bytes are (not_false (begins_level bytes) clear.0) long ∙ ap (head_then version h) has.body.spelled;
          known = known;
          head = record {
            level = not_false (nat_le 1 h.level && nat_le h.level 9) clear.1.1.1.0;
            guid = length-part 8 16 bytes (omega (arith, long));
            previous = length-part 24 16 bytes (omega (arith, long));
            size = not_false (is_page_size h.size) clear.1.1.1.1.0;
            scn = scn_low bytes are long;
            later = lt_holds h.previous_scn h.scn (not_false (nat_lt h.previous_scn h.scn) clear.1.1.1.1.1.0);
          };
          first = has.body.first.0;
          header = has.body.first.1;
          rising = has.body.rising;
          sizes = has.body.sizes;
        } in
        subst (λ (x : Contents). Spell bytes x.version x.head x.pages) same (subst (λ (l : List Numbered). Spell bytes version h l) (sym has.is) level)

    by : (x : Option ℕ) → first_fault (head_tests bytes version h) ≡ x → elim x as (λ z. Result Contents ℕ) [ Some place ↦ Err place | None ↦ with_head version h (read_pages version h bytes) ] ≡ Ok c → Spell bytes c.version c.head c.pages
    by (Some place) is f = absurd (err_ok place c f)
    by None is f = of_pages (none_clear (head_tests bytes version h) is) (read_pages version h bytes) refl f

pub pages_some : (bytes : List ℕ) (version : ℕ) (h : Head) (rs : List Numbered) → Spell bytes version h rs → 1 ≤ length rs
pages_some bytes version h [] spell = absurd spell
pages_some bytes version h (r ∷ rs) spell = omega arith
