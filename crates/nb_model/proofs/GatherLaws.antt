-- The runs into which pages are gathered are of the form, and hold the pages.
use Rattle.std.proofs.Common.{◌≡◌, ◌≢◌, ◌⊎◌, inl, inr, ℕ, zero, suc, ◌+◌, ◌*◌, ◌<◌, ◌≤◌, List, [], ◌∷◌, ◌++◌, length, refl, sym, ap, subst, ◌∙◌, arith, length-append, append_assoc, add-zero, true, false, ◌&&◌, ◌==◌, nat_lt, Ok}
use Rattle.nb_model.proofs.Common.{AllByRecursion, eqb_tells, leb_tells, get_or_append_left, bytes_of, most_pages, Page, Numbered, Head, Stretch, AreRising, AreOfSize, runs_behind, run_bytes, end_bytes, joined, numbered_from, barred_after, is_first_page, read_runs}
use Rattle.nb_model.proofs.ReadLaws.{IsRun, run_read, runs_end}

-- runs of the form
abbrev pub AreRuns : Head → (count least barred : ℕ) → List Stretch → Type 0
AreRuns h count least barred [] = Unit {0}
AreRuns h count least barred (s ∷ ss) = IsRun h count least barred s.first s.pages × AreRuns h (count + length s.pages) (s.first + length s.pages) (barred_after s.first (length s.pages)) ss

abbrev pub total : List Stretch → ℕ
total [] = 0
total (s ∷ ss) = length s.pages + total ss

abbrev pub pages_of_runs : List Stretch → List Numbered
pages_of_runs [] = []
pages_of_runs (s ∷ ss) = numbered_from s.first s.pages ++ pages_of_runs ss

-- what the test of a next page tells
pub record Joins (first count number : ℕ) : Type 0 where
  pub next : number ≡ first + count
  pub room : count < 16

pub joins : (number first count : ℕ) → (((number == first + count && nat_lt count 16) ≡ true) × Joins first count number)
    ⊎ (((number == first + count && nat_lt count 16) ≡ false) × ((count < 16) → number ≢ first + count))
joins number first count = elim (eqb_tells number (first + count)) [
  | inl w ↦ elim (leb_tells (suc count) 16) [
    | inl v ↦ inl (rw (w.0, v.0) refl, record { next = w.1; room = v.1 })
    | inr v ↦ inr (rw (w.0, v.0) refl, (λ h. absurd (omega arith)))
  ]
  | inr w ↦ inr (rw w.0 refl, (λ h. w.1))
]

abbrev then_page : ℕ → Page → List Numbered → List Numbered
then_page n p rs = (n, p) ∷ rs

numbered_more : (n : ℕ) (ps : List Page) (p : Page) → numbered_from n (ps ++ p ∷ []) ≡ numbered_from n ps ++ (n + length ps, p) ∷ []
unfolding numbered_from
numbered_more n [] p = ap (λ (k : ℕ). then_page k p []) (sym (add-zero n))
numbered_more n (q ∷ qs) p =
    ap (λ (r : List Numbered). (n, q) ∷ r) (numbered_more (n + 1) qs p ∙ ap (λ (k : ℕ). numbered_from (n + 1) qs ++ then_page k p []) (omega arith))

pub one_numbered : (n : ℕ) (p : Page) (more : List Numbered) → numbered_from n (p ∷ []) ++ more ≡ (n, p) ∷ more
unfolding numbered_from
one_numbered n p more = refl

not_barred : (first count number : ℕ) → ((count < 16) → number ≢ first + count) → number < most_pages → number ≢ barred_after first count
not_barred first count number ne small = elim (leb_tells (suc count) 16) [
  | inl w ↦ rw (w.0, barred_after) (ne w.1)
  | inr w ↦ rw (w.0, barred_after) (λ e. absurd (omega arith))
]

-- the runs hold the pages
pub gathered_pages : (first : ℕ) (ps : List Page) (rs : List Numbered) → pages_of_runs (runs_behind first ps rs) ≡ numbered_from first ps ++ rs
unfolding runs_behind
gathered_pages first ps [] = refl
gathered_pages first ps (r ∷ rs) = elim (joins r.0 first (length ps)) [
  | inl w ↦
      let number = w.1.next in
      rw (w.0, runs_behind) (gathered_pages first (ps ++ r.1 ∷ []) rs ∙ ap (λ (x : List Numbered). x ++ rs) (numbered_more first ps r.1)
      ∙ append_assoc (numbered_from first ps) ((first + length ps, r.1) ∷ []) rs
      ∙ ap (λ (k : ℕ). numbered_from first ps ++ then_page k r.1 rs) (sym number))
  | inr w ↦ rw (w.0, runs_behind) (ap (λ (x : List Numbered). numbered_from first ps ++ x) (gathered_pages r.0 (r.1 ∷ []) rs ∙ one_numbered r.0 r.1 rs))
]

sizes_more : (size : ℕ) (ps : List Page) (p : Page) → AllByRecursion (λ q. length q ≡ size) ps → length p ≡ size → AllByRecursion (λ q. length q ≡ size) (ps ++ p ∷ [])
sizes_more size [] p h e = (e, tt)
sizes_more size (q ∷ qs) p h e = (h.0, sizes_more size qs p h.1 e)

-- the runs are of the form
pub gathered_runs : (h : Head) (count least barred first : ℕ) (ps : List Page) (rs : List Numbered) → IsRun h count least barred first ps
    → AreRising (first + length ps) rs → AreOfSize h.size rs → AreRuns h count least barred (runs_behind first ps rs)
unfolding runs_behind
gathered_runs h count least barred first ps [] run rising sizes = (run, tt)
gathered_runs h count least barred first ps (r ∷ rs) run rising sizes = elim (joins r.0 first (length ps)) [
  | inl w ↦
      let joined : Joins first (length ps) r.0 = w.1 in
      let longer : length (ps ++ r.1 ∷ []) ≡ length ps + 1 = length-append ps (r.1 ∷ []) in
      let more : IsRun h count least barred first (ps ++ r.1 ∷ []) = record {
        low = run.low;
        apart = run.apart;
        begins = run.begins;
        some = omega arith;
        few = omega (arith, joined.room);
        below = omega (arith, joined.next, rising.1);
        sizes = sizes_more h.size ps r.1 run.sizes sizes.0;
        head = λ e. ap (is_first_page h) (get_or_append_left ps (r.1 ∷ []) [] 0 run.some) ∙ run.head e;
      } in
      rw (w.0, runs_behind) (gathered_runs h count least barred first (ps ++ r.1 ∷ []) rs more (subst (λ (k : ℕ). AreRising k rs) (omega (arith, joined.next)) rising.2) sizes.1)
  | inr w ↦
      let next : IsRun h (count + length ps) (first + length ps) (barred_after first (length ps)) r.0 (r.1 ∷ []) = record {
        low = rising.0;
        apart = not_barred first (length ps) r.0 w.1 rising.1;
        begins = λ e. absurd (omega (arith, run.some));
        some = omega arith;
        few = omega arith;
        below = omega (arith, rising.1);
        sizes = (sizes.0, tt);
        head = λ e. absurd (omega (arith, run.some, rising.0));
      } in
      rw (w.0, runs_behind) (run, gathered_runs h (count + length ps) (first + length ps) (barred_after first (length ps)) r.0 (r.1 ∷ []) rs next rising.2 sizes.1)
]

pub gathered_total : (first : ℕ) (ps : List Page) (rs : List Numbered) → total (runs_behind first ps rs) ≡ length ps + length rs
unfolding runs_behind
gathered_total first ps [] = refl
gathered_total first ps (r ∷ rs) = elim (joins r.0 first (length ps)) [
  | inl w ↦ rw (w.0, runs_behind) (let t = gathered_total first (ps ++ r.1 ∷ []) rs in omega (arith, t, length-append ps (r.1 ∷ [])))
  | inr w ↦ rw (w.0, runs_behind) (let t = gathered_total r.0 (r.1 ∷ []) rs in omega (arith, t))
]

-- one run after its number and its count
pub run_front : (s : Stretch) (ss : List Stretch) (e : List ℕ) → run_bytes (s ∷ ss) ++ e ≡ bytes_of 4 s.first ++ (bytes_of 4 (length s.pages) ++ (joined s.pages ++ (run_bytes ss ++ e)))
unfolding run_bytes bytes_of
run_front s ss e = ap (λ (x : List ℕ). bytes_of 4 s.first ++ (bytes_of 4 (length s.pages) ++ x)) (append_assoc (joined s.pages) (run_bytes ss) e)

pub run_none : (e : List ℕ) → run_bytes [] ++ e ≡ e
unfolding run_bytes
run_none e = refl

-- runs of the form are read back
pub runs_read : (h : Head) (ss : List Stretch) (left at count least barred : ℕ) → length ss < left → AreRuns h count least barred ss
    → 1 ≤ count + total ss → count + total ss < 4294967296 → read_runs left h at count least barred (run_bytes ss ++ end_bytes (count + total ss)) ≡ Ok (pages_of_runs ss)
runs_read h ss zero at count least barred few runs some small = absurd (omega arith)
runs_read h [] (suc left) at count least barred few runs some small =
    ap (read_runs (suc left) h at count least barred) (run_none (end_bytes (count + 0)) ∙ ap end_bytes (add-zero count)) ∙ runs_end left h at count least barred (omega arith) (omega arith)
runs_read h (s ∷ ss) (suc left) at count least barred few runs some small =
    let m : ℕ = length s.pages in
    let n : ℕ = count + (m + total ss) in
    let same : (count + m) + total ss ≡ n = omega arith in
    let next = runs_read h ss left (at + 8 + m * h.size) (count + m) (s.first + m) (barred_after s.first m) (omega arith) runs.1 (omega (arith, runs.0.some)) (omega arith) in
    ap (read_runs (suc left) h at count least barred) (run_front s ss (end_bytes n))
    ∙ run_read left h at count least barred s.first s.pages (run_bytes ss ++ end_bytes n) (pages_of_runs ss) runs.0
    (ap (λ (k : ℕ). read_runs left h (at + 8 + m * h.size) (count + m) (s.first + m) (barred_after s.first m) (run_bytes ss ++ end_bytes k)) (sym same) ∙ next)
