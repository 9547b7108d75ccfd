-- The runs of pages that a level file may have are such as a level file may have.
use Rattle.std.proofs.Common.{◌≡◌, ◌⊎◌, inl, inr, ℕ, ◌+◌, ◌<◌, ◌≤◌, List, [], ◌∷◌, ◌++◌, length, refl, sym, ap, subst, arith, length-append, true, ◌&&◌, ◌==◌, nat_lt}
use Rattle.nb_gather.proofs.Common.{and_parts, eqb-true, most_pages, LevelHead, Page, Numbered, AreRising, AreOfSize, Stretch, runs_behind, runs_of, total, gathered_total, all-append, MayHave, complete, incomplete, lt_holds, true_or_false}
use Rattle.nb_gather.proofs.RunLaws.{joins, parts}
use Rattle.nb_gather.proofs.UnfinishedLaws.{IsFit, AreFit}
use Rattle.nb_model.proofs.LevelLaws.{rising_few}

fit_longer : (size first : ℕ) (ps : List Page) (p : Page) → IsFit size (record { first = first; pages = ps }) → length ps < 16 → first + length ps < most_pages → length p ≡ size → IsFit size (record { first = first; pages = ps ++ p ∷ [] })
fit_longer size first ps p fit few low long = record {
  some = omega (arith, length-append ps (p ∷ []));
  few = omega (arith, length-append ps (p ∷ []), few);
  below = omega (arith, length-append ps (p ∷ []), low);
  sizes = all-append (λ x. length x ≡ size) ps (p ∷ []) fit.sizes (long, tt);
}

fit_one : (size : ℕ) (r : Numbered) → r.0 < most_pages → length r.1 ≡ size → IsFit size (record { first = r.0; pages = r.1 ∷ [] })
fit_one size r low long = record { some = omega arith; few = omega arith; below = omega (arith, low); sizes = (long, tt) }

fit_behind : (size first : ℕ) (ps : List Page) (rs : List Numbered) → IsFit size (record { first = first; pages = ps }) → AreRising (first + length ps) rs → AreOfSize size rs → AreFit size (runs_behind first ps rs)
unfolding runs_behind
fit_behind size first ps [] fit rising sizes = (fit, tt)
fit_behind size first ps (r ∷ rs) fit rising sizes = elim (true_or_false (r.0 == first + length ps && nat_lt (length ps) 16)) [
  | inl is ↦
      let both = and_parts (r.0 == first + length ps) (nat_lt (length ps) 16) is in
      let next : r.0 ≡ first + length ps = eqb-true r.0 (first + length ps) both.0 in
      let more : r.0 + 1 ≡ first + length (ps ++ r.1 ∷ []) = omega (arith, next, length-append ps (r.1 ∷ [])) in
      subst (AreFit size) (sym (joins first ps r rs is))
      (fit_behind size first (ps ++ r.1 ∷ []) rs (fit_longer size first ps r.1 fit (lt_holds (length ps) 16 both.1) (omega (arith, next, rising.1)) sizes.0) (subst (λ n. AreRising n rs) more rising.2) sizes.1)
  | inr is ↦ subst (AreFit size) (sym (parts first ps r rs is)) (fit, fit_behind size r.0 (r.1 ∷ []) rs (fit_one size r rising.1 sizes.0) rising.2 sizes.1)
]

fit_runs : (size : ℕ) (rs : List Numbered) → AreRising 0 rs → AreOfSize size rs → AreFit size (runs_of rs)
unfolding runs_of
fit_runs size [] rising sizes = tt
fit_runs size (r ∷ rs) rising sizes = fit_behind size r.0 (r.1 ∷ []) rs (fit_one size r rising.1 sizes.0) rising.2 sizes.1

pub total_runs : (rs : List Numbered) → total (runs_of rs) ≡ length rs
unfolding runs_of
total_runs [] = refl
total_runs (r ∷ rs) = let all = gathered_total r.0 (r.1 ∷ []) rs in omega (arith, all)

rising_front : (least : ℕ) (xs ys : List Numbered) → AreRising least (xs ++ ys) → AreRising least xs
rising_front least [] ys is = tt
rising_front least (x ∷ xs) ys is = (is.0, is.1, rising_front (x.0 + 1) xs ys is.2)

sizes_front : (size : ℕ) (xs ys : List Numbered) → AreOfSize size (xs ++ ys) → AreOfSize size xs
sizes_front size [] ys is = tt
sizes_front size (x ∷ xs) ys is = (is.0, sizes_front size xs ys is.1)

-- with fewer pages too
pub may_front : (head : LevelHead) (xs ys : List Numbered) → MayHave head (xs ++ ys) → MayHave head xs
may_front head xs ys may = record { formed = may.formed; rising = rising_front 0 xs ys may.rising; sizes = sizes_front head.page_size xs ys may.sizes }

complete_fit : (size : ℕ) (ss : List Stretch) → AreFit size ss → AreFit size (complete ss)
unfolding complete
complete_fit size [] fit = tt
complete_fit size (s ∷ []) fit = elim (true_or_false (nat_lt (length s.pages) 16)) [ inl is ↦ rw (is, complete) tt | inr is ↦ rw (is, complete) fit ]
complete_fit size (s ∷ t ∷ ss) fit = (fit.0, complete_fit size (t ∷ ss) fit.1)

complete_fewer : (ss : List Stretch) → total (complete ss) ≤ total ss
unfolding complete
complete_fewer [] = omega arith
complete_fewer (s ∷ []) = elim (true_or_false (nat_lt (length s.pages) 16)) [ inl is ↦ rw (is, complete) (omega arith) | inr is ↦ rw (is, complete) (omega arith) ]
complete_fewer (s ∷ t ∷ ss) = let rest = complete_fewer (t ∷ ss) in omega (arith, rest)

-- all that is known of the runs
pub record RunsFit (head : LevelHead) (rs : List Numbered) : Type 0 where
  pub all : AreFit head.page_size (runs_of rs)
  pub few : total (runs_of rs) < 4294967296
  pub done : AreFit head.page_size (complete (runs_of rs))
  pub few_done : total (complete (runs_of rs)) < 4294967296

pub runs_fit : (head : LevelHead) (rs : List Numbered) → MayHave head rs → RunsFit head rs
runs_fit head rs may =
    let all = fit_runs head.page_size rs may.rising may.sizes in
    let most = rising_few 0 rs (omega arith) may.rising in
    record {
      all = all;
      few = omega (arith, total_runs rs, most);
      done = complete_fit head.page_size (runs_of rs) all;
      few_done = let c = complete_fewer (runs_of rs) in omega (arith, c, total_runs rs, most);
    }

-- a run that waits has a page
pub shape : (size : ℕ) (ss : List Stretch) → AreFit size ss → (incomplete ss ≡ []) ⊎ ((w : Stretch) × (incomplete ss ≡ w ∷ []) × IsFit size w)
unfolding incomplete
shape size [] fit = inl refl
shape size (s ∷ []) fit = elim (true_or_false (nat_lt (length s.pages) 16)) [ inl is ↦ inr (s, rw (is, incomplete) refl, fit.0) | inr is ↦ inl (rw (is, incomplete) refl) ]
shape size (s ∷ t ∷ ss) fit = shape size (t ∷ ss) fit.1

-- complete runs and the one that waits are all
pub complete_all : (ss : List Stretch) → complete ss ++ incomplete ss ≡ ss
unfolding complete incomplete
complete_all [] = refl
complete_all (s ∷ []) = elim (true_or_false (nat_lt (length s.pages) 16)) [ inl is ↦ rw (is, complete, incomplete) refl | inr is ↦ rw (is, complete, incomplete) refl ]
complete_all (s ∷ t ∷ ss) = ap (λ (x : List Stretch). s ∷ x) (complete_all (t ∷ ss))
