-- A level file without its end, or with a torn one, is no level file, whatever of it was torn.
use Rattle.std.proofs.Common.{◌≡◌, ◌≢◌, ◌⊎◌, inl, inr, ⊎_elim, ℕ, zero, suc, ◌+◌, ◌*◌, ◌/◌, ◌%◌, ◌<◌, ◌≤◌, List, [], ◌∷◌, ◌++◌, length, take, drop, refl, sym, ap, subst, ◌∙◌, arith, length-append, Ok}
use Rattle.nb_gather.proofs.Common.{append-nil, drop_at, take_all, drop-drop, length-take-le, length-drop, take-append-drop, suc-mul, number_of, bytes_of, number_in, most_pages, Numbered, Head, Stretch, run_bytes, end_bytes, end_mark, joined, read_runs, barred_after, length-joined, total, run_front, eight_bytes, err_ok}
use Rattle.nb_fields.proofs.NumberLaws.{number_of-bytes_of, length-bytes_of}
use Rattle.nb_model.specs.Sound.{IsOfSize}
use Rattle.nb_gather.proofs.TornLaws.{Torn, torn_take, torn_drop, torn_short, torn_number}
use Rattle.nb_gather.proofs.ReadAgain.{run_facts, runs_are, end_facts}

-- a number of one byte is whole or zero
pub small_torn : (w b : ℕ) (ts : List ℕ) → b < 256 → Torn (bytes_of (suc w) b) ts → (number_of ts ≡ b) ⊎ (number_of ts ≡ 0)
unfolding bytes_of number_of
small_torn w b [] low is = inr refl
small_torn w b (t ∷ ts) low is =
    let none : b / 256 ≡ 0 = omega (arith, low) in
    let rest : number_of ts ≤ number_of (bytes_of w (b / 256)) = torn_number (bytes_of w (b / 256)) ts is.1 in
    let zeros : number_of (bytes_of w (b / 256)) ≡ 0 = ap (λ n. number_of (bytes_of w n)) none ∙ no_bytes w in
    let same : b % 256 ≡ b = omega (arith, low) in
    ⊎_elim (λ e. inl (omega (arith, e, rest, zeros, same))) (λ e. inr (omega (arith, e, rest, zeros))) is.0
  where
    no_bytes : (n : ℕ) → number_of (bytes_of n 0) ≡ 0
    no_bytes zero = refl
    no_bytes (suc n) = ap (λ m. 0 + 256 * m) (no_bytes n)

-- torn bytes of the same number are whole
pub torn_same : (bs ts : List ℕ) → Torn bs ts → length ts ≡ length bs → number_of ts ≡ number_of bs → ts ≡ bs
unfolding number_of
torn_same [] [] is long same = refl
torn_same [] (t ∷ ts) is long same = absurd is
torn_same (b ∷ bs) [] is long same = absurd (omega (arith, long))
torn_same (b ∷ bs) (t ∷ ts) is long same =
    let rest : number_of ts ≤ number_of bs = torn_number bs ts is.1 in
    let low : t ≤ b = ⊎_elim (λ e. omega (arith, e)) (λ e. omega (arith, e)) is.0 in
    let first : t ≡ b = omega (arith, rest, low, same) in
    let more : number_of ts ≡ number_of bs = omega (arith, rest, low, same) in
    ap (λ x. x ∷ ts) first ∙ ap (λ (x : List ℕ). b ∷ x) (torn_same bs ts is.1 (omega (arith, long)) more)

-- a run that a level file may have
pub record IsFit (size : ℕ) (s : Stretch) : Type 0 where
  pub some : 1 ≤ length s.pages
  pub few : length s.pages ≤ 16
  pub below : s.first + length s.pages ≤ most_pages
  pub sizes : IsOfSize size s.pages

abbrev pub AreFit : ℕ → List Stretch → Type 0
AreFit size [] = Unit {0}
AreFit size (s ∷ ss) = IsFit size s × AreFit size ss

run_long : (size : ℕ) (s : Stretch) (ss : List Stretch) → IsFit size s → length (run_bytes (s ∷ ss)) ≡ 8 + length s.pages * size + length (run_bytes ss)
unfolding run_bytes bytes_of
run_long size s ss fit = let all = length-joined size s.pages fit.sizes in omega (arith, all, length-append (joined s.pages) (run_bytes ss))

-- the number and the count of a run, and what stands after it
module _ (a b : ℕ) (more rest : List ℕ) (torn : Torn (bytes_of 4 a ++ (bytes_of 4 b ++ more)) rest) where
  first_torn : Torn (bytes_of 4 a) (take 4 rest)
  unfolding bytes_of
  first_torn = torn_take 4 (bytes_of 4 a ++ (bytes_of 4 b ++ more)) rest torn

  second_torn : Torn (bytes_of 4 b) (take 4 (drop 4 rest))
  unfolding bytes_of
  second_torn = torn_take 4 (bytes_of 4 b ++ more) (drop 4 rest) (torn_drop 4 (bytes_of 4 a ++ (bytes_of 4 b ++ more)) rest torn)

  first_low : a < 4294967296 → number_in 0 4 rest ≤ a
  unfolding number_in
  first_low low = let h = torn_number (bytes_of 4 a) (take 4 rest) first_torn in omega (arith, h, number_of-bytes_of 4 a low)

  second_is : b < 256 → (number_in 4 4 rest ≡ b) ⊎ (number_in 4 4 rest ≡ 0)
  unfolding number_in
  second_is low = small_torn 3 b (take 4 (drop 4 rest)) low second_torn

  all_behind : Torn more (drop 8 rest)
  unfolding bytes_of
  all_behind = torn_drop 8 (bytes_of 4 a ++ (bytes_of 4 b ++ more)) rest torn

  behind_torn : (k : ℕ) → Torn (drop k more) (drop (8 + k) rest)
  behind_torn k = subst (λ (x : List ℕ). Torn (drop k more) x) (drop-drop k 8 rest) (torn_drop k more (drop 8 rest) all_behind)

-- the end, where it reads as one
end_whole : (n : ℕ) (rest : List ℕ) → n < 4294967296 → Torn (end_bytes n) rest → length rest ≡ 8 → number_in 0 4 rest ≡ end_mark → number_in 4 4 rest ≡ n → rest ≡ end_bytes n
unfolding end_bytes number_in
end_whole n rest low torn long mark count =
    let whole : number_of (take 4 rest) ≡ number_of (bytes_of 4 end_mark) = mark ∙ sym (number_of-bytes_of 4 end_mark (omega arith)) in
    let none : Torn (bytes_of 4 end_mark ++ (bytes_of 4 n ++ [])) rest = subst (λ (x : List ℕ). Torn (bytes_of 4 end_mark ++ x) rest) (sym (append-nil (bytes_of 4 n))) torn in
    let first : take 4 rest ≡ bytes_of 4 end_mark = torn_same (bytes_of 4 end_mark) (take 4 rest) (first_torn end_mark n [] rest none) (length-take-le 4 rest (omega (arith, long)) ∙ sym (length-bytes_of 4 end_mark)) whole in
    let left : length (drop 4 rest) ≡ 4 = omega (arith, length-drop 4 rest, long) in
    let all : take 4 (drop 4 rest) ≡ drop 4 rest = take_all 4 (drop 4 rest) (omega (arith, left)) in
    let second : drop 4 rest ≡ bytes_of 4 n = torn_same (bytes_of 4 n) (drop 4 rest) (subst (λ (x : List ℕ). Torn (bytes_of 4 n) x) all (second_torn end_mark n [] rest none)) (left ∙ sym (length-bytes_of 4 n))
    (ap number_of (sym all) ∙ count ∙ sym (number_of-bytes_of 4 n low)) in
    sym (take-append-drop 4 rest) ∙ ap (λ (x : List ℕ). x ++ drop 4 rest) first ∙ ap (λ (x : List ℕ). bytes_of 4 end_mark ++ x) second

none_behind : (n : ℕ) → run_bytes [] ++ end_bytes n ≡ end_bytes n
unfolding run_bytes
none_behind n = refl

no_runs : length (run_bytes []) ≡ 0
unfolding run_bytes
no_runs = refl

-- Where torn bytes are read as runs, the end stands whole after all of them.
module _ (h : Head) (n : ℕ) (wide : 1024 ≤ h.size) (low : n < 4294967296) where
  abbrev Whole : List Stretch → List ℕ → Type 0
  Whole ss rest = drop (length (run_bytes ss)) rest ≡ end_bytes n

  -- after the last run
  last_whole : (left at count least barred : ℕ) (rest : List ℕ) (vs : List Numbered) → count ≡ n → Torn (end_bytes n) rest → read_runs (suc left) h at count least barred rest ≡ Ok vs → rest ≡ end_bytes n
  last_whole left at count least barred rest vs counted torn is = elim (runs_are left h at count least barred rest vs is) [
    | inl ends ↦ let facts = end_facts at count rest ends.1.0 ends.1.1 in end_whole n rest low torn facts.long ends.0 (facts.counted ∙ counted)
    | inr run ↦
        let facts = run_facts left h at count least barred rest run.1 in
        let short : length rest ≤ 8 = let s = torn_short (end_bytes n) rest torn in omega (arith, s, eight_bytes n) in
        absurd (too_long (number_in 4 4 rest) facts.some (omega (arith, short, facts.fits)))
  ]
    where
      too_long : (m : ℕ) → m ≢ 0 → 8 + m * h.size ≤ 8 → ⊥
      too_long zero some long = some refl
      too_long (suc m) some long = omega (arith, wide, suc-mul m h.size, long)

  pub torn_runs : (ss : List Stretch) (fuel at count least barred : ℕ) (rest : List ℕ) (vs : List Numbered) → AreFit h.size ss → count + total ss ≡ n → Torn (run_bytes ss ++ end_bytes n) rest
      → read_runs fuel h at count least barred rest ≡ Ok vs → Whole ss rest
  unfolding read_runs
  torn_runs ss zero at count least barred rest vs fit counted torn is = absurd (err_ok at vs is)
  torn_runs [] (suc left) at count least barred rest vs fit counted torn is =
      ap (λ k. drop k rest) no_runs ∙ last_whole left at count least barred rest vs (omega (arith, counted)) (subst (λ (x : List ℕ). Torn x rest) (none_behind n) torn) is
  torn_runs (s ∷ ss) (suc left) at count least barred rest vs fit counted torn is =
      let more : List ℕ = joined s.pages ++ (run_bytes ss ++ end_bytes n) in
      let here : Torn (bytes_of 4 s.first ++ (bytes_of 4 (length s.pages) ++ more)) rest = subst (λ (x : List ℕ). Torn x rest) (run_front s ss (end_bytes n)) torn in
      elim (runs_are left h at count least barred rest vs is) [
        | inl ends ↦ absurd (let f = first_low s.first (length s.pages) more rest here (omega (arith, fit.0.below, fit.0.some)) in omega (arith, f, ends.0, fit.0.below, fit.0.some))
        | inr run ↦
            let facts = run_facts left h at count least barred rest run.1 in
            let m : ℕ = number_in 4 4 rest in
            let counts : m ≡ length s.pages = ⊎_elim (λ e. e) (λ e. absurd (facts.some e)) (second_is s.first (length s.pages) more rest here (omega (arith, fit.0.few))) in
            let size : m * h.size ≡ length s.pages * h.size = ap (λ k. k * h.size) counts in
            let all : length (joined s.pages) ≡ length s.pages * h.size = length-joined h.size s.pages fit.0.sizes in
            let cut : drop (m * h.size) more ≡ run_bytes ss ++ end_bytes n = drop_at (joined s.pages) (run_bytes ss ++ end_bytes n) (m * h.size) (all ∙ sym size) in
            let next : Torn (run_bytes ss ++ end_bytes n) (drop (8 + m * h.size) rest) = subst (λ (x : List ℕ). Torn x (drop (8 + m * h.size) rest)) cut (behind_torn s.first (length s.pages) more rest here (m * h.size)) in
            let later = torn_runs ss left (at + 8 + m * h.size) (count + m) (number_in 0 4 rest + m) (barred_after (number_in 0 4 rest) m) (drop (8 + m * h.size) rest) run.2.0 fit.1 (omega (arith, counts, counted)) next run.2.1 in
            ap (λ k. drop k rest) (let e : length (run_bytes (s ∷ ss)) ≡ 8 + m * h.size + length (run_bytes ss) = omega (arith, run_long h.size s ss fit.0, size) in e)
            ∙ sym (drop-drop (length (run_bytes ss)) (8 + m * h.size) rest) ∙ later
      ]
