-- A chain gets one page more, to which its last page leads.
use Rattle.std.proofs.Common.{◌≡◌, ◌≢◌, ◌⊎◌, inl, inr, ℕ, zero, suc, ◌+◌, ◌<◌, ◌≤◌, List, [], ◌∷◌, ◌++◌, length, refl, sym, ap, subst, ◌∙◌, arith, Bool, true, false, ◌==◌, Ok}
use Rattle.nb_model.proofs.Common.{AllByRecursion, eq-eqb, ne_eqb, eqb_tells, Chain, last_of, next_in, is_in_chain, linked, walk, Image, page_at, AreDistinct, err_ok}
use Rattle.nb_model.proofs.ChainWalks.{StaysLinked, IsWalk, ends, leads, walk_cases, walk_on_is, walk_zero, onward}

-- Numbers below n with none twice are n at most.
without : ℕ → List ℕ → List ℕ
without n [] = []
without n (p ∷ ps) = elim (p == n) as (λ z. List ℕ) [ true ↦ ps | false ↦ p ∷ without n ps ]

without_long : (n : ℕ) (ps : List ℕ) → length ps ≤ length (without n ps) + 1
unfolding without
without_long n [] = omega arith
without_long n (p ∷ ps) = by (p == n) (without_long n ps)
  where
    by : (t : Bool) → length ps ≤ length (without n ps) + 1 → suc (length ps) ≤ length (elim t as (λ z. List ℕ) [ true ↦ ps | false ↦ p ∷ without n ps ]) + 1
    by true rest = omega arith
    by false rest = omega (arith, rest)

absent_less : (n : ℕ) (ps : List ℕ) → AllByRecursion (λ (q : ℕ). n ≢ q) ps → AllByRecursion (λ (q : ℕ). q < suc n) ps → AllByRecursion (λ (q : ℕ). q < n) ps
absent_less n [] absent low = tt
absent_less n (p ∷ ps) absent low = (omega (arith, low.0, absent.0), absent_less n ps absent.1 low.1)

without_less : (n : ℕ) (ps : List ℕ) → AreDistinct ps → AllByRecursion (λ (q : ℕ). q < suc n) ps → AllByRecursion (λ (q : ℕ). q < n) (without n ps)
unfolding without
without_less n [] distinct low = tt
without_less n (p ∷ ps) distinct low = by (eqb_tells p n) (without_less n ps distinct.1 low.1)
  where
    by : ((p == n) ≡ true) × (p ≡ n) ⊎ ((p == n) ≡ false) × (p ≢ n) → AllByRecursion (λ (q : ℕ). q < n) (without n ps) → AllByRecursion (λ (q : ℕ). q < n) (elim (p == n) as (λ z. List ℕ) [ true ↦ ps | false ↦ p ∷ without n ps ])
    by (inl w) rest = rw w.0 (absent_less n ps (subst (λ (k : ℕ). AllByRecursion (λ (q : ℕ). k ≢ q) ps) w.1 distinct.0) low.1)
    by (inr w) rest = rw w.0 (omega (arith, low.0, w.1), rest)

without_distinct : (n : ℕ) (ps : List ℕ) → AreDistinct ps → AreDistinct (without n ps)
unfolding without
without_distinct n [] distinct = tt
without_distinct n (p ∷ ps) distinct = by (p == n) (without_distinct n ps distinct.1)
  where
    fewer : (qs : List ℕ) → AllByRecursion (λ (q : ℕ). p ≢ q) qs → AllByRecursion (λ (q : ℕ). p ≢ q) (without n qs)
    fewer [] all = tt
    fewer (q ∷ qs) all = one (q == n) (fewer qs all.1)
      where
        one : (t : Bool) → AllByRecursion (λ (r : ℕ). p ≢ r) (without n qs) → AllByRecursion (λ (r : ℕ). p ≢ r) (elim t as (λ z. List ℕ) [ true ↦ qs | false ↦ q ∷ without n qs ])
        one true rest = all.1
        one false rest = (all.0, rest)

    by : (t : Bool) → AreDistinct (without n ps) → AreDistinct (elim t as (λ z. List ℕ) [ true ↦ ps | false ↦ p ∷ without n ps ])
    by true rest = distinct.1
    by false rest = (fewer ps distinct.0, rest)

pub few_below : (n : ℕ) (ps : List ℕ) → AreDistinct ps → AllByRecursion (λ (q : ℕ). q < n) ps → length ps ≤ n
few_below zero [] distinct low = omega arith
few_below zero (p ∷ ps) distinct low = absurd (omega (arith, low.0))
few_below (suc n) ps distinct low = omega (arith, without_long n ps, few_below n (without n ps) (without_distinct n ps distinct) (without_less n ps distinct low))

-- so pages after the first are fewer than the pages up to there
pub fewer_below : (n : ℕ) (ps : List ℕ) → 1 ≤ n → AreDistinct ps → AllByRecursion (λ (q : ℕ). (1 ≤ q) × (q < n)) ps → length ps + 1 ≤ n
fewer_below n ps some distinct low = omega (arith, few_below n (0 ∷ ps) (behind ps low, distinct) (some, below ps low))
  where
    behind : (qs : List ℕ) → AllByRecursion (λ (q : ℕ). (1 ≤ q) × (q < n)) qs → AllByRecursion (λ (q : ℕ). 0 ≢ q) qs
    behind [] all = tt
    behind (q ∷ qs) all = ((λ e. absurd (omega (arith, e, all.0.0))), behind qs all.1)

    below : (qs : List ℕ) → AllByRecursion (λ (q : ℕ). (1 ≤ q) × (q < n)) qs → AllByRecursion (λ (q : ℕ). q < n) qs
    below [] all = tt
    below (q ∷ qs) all = (all.0.1, below qs all.1)

-- The last page leads to a new one, which leads to none; the others lead on as they did.
module _ (chain : Chain) (x y : Image) (last new : ℕ) (last_there : is_in_chain chain y last ≡ true) (leads_there : next_in (page_at y last) ≡ new) (some : 1 ≤ new) (new_there : is_in_chain chain y new ≡ true) (none : next_in (page_at y new) ≡ 0) where
  new_walk : (m : ℕ) → walk (suc m) chain y new ≡ Ok (new ∷ [])
  new_walk m = walk_on_is m chain y new new_there ∙ ap (onward chain y m new) (eq-eqb (next_in (page_at y new)) 0 none)

  abbrev LeadsOn : ℕ → Type 0
  LeadsOn q = q ≢ last → StaysLinked chain x y q

  last_walk : (m : ℕ) → walk (suc (suc m)) chain y last ≡ Ok (last ∷ new ∷ [])
  last_walk m =
      walk_on_is (suc m) chain y last last_there ∙ ap (onward chain y (suc m) last) (ne_eqb (next_in (page_at y last)) 0 (λ e. absurd (omega (arith, e, leads_there, some))))
      ∙ ap (linked last) (ap (walk (suc m) chain y) leads_there ∙ new_walk m)

  other_last : (p q : ℕ) (qs : List ℕ) → AllByRecursion (λ (r : ℕ). p ≢ r) (q ∷ qs) → last_of (q ∷ qs) ≡ last → p ≢ last
  other_last p q [] all is e = all.0 (e ∙ sym is)
  other_last p q (r ∷ qs) all is e = other_last p r qs all.1 is e

  no_pages : (n p : ℕ) → walk n chain x p ≡ Ok [] → ⊥
  no_pages zero p e = err_ok p [] (sym (walk_zero chain x p) ∙ e)
  no_pages (suc n) p e = none_walked (walk_cases n chain x p [] e).goes
    where
      none_walked : IsWalk chain x n p [] → ⊥
      none_walked w = some_pages [] w refl
        where
          some_pages : (qs : List ℕ) → IsWalk chain x n p qs → qs ≡ [] → ⊥
          some_pages qs (ends none) is = absurd (omega (arith, ap length is))
          some_pages qs (leads rs more walks) is = absurd (omega (arith, ap length is))

  pub walk_grows : (ps : List ℕ) (p n m : ℕ) → walk n chain x p ≡ Ok ps → AreDistinct ps → last_of ps ≡ last → AllByRecursion LeadsOn ps → length ps + 1 ≤ m → walk m chain y p ≡ Ok (ps ++ new ∷ [])
  walk_grows ps p zero m e distinct is all long = absurd (err_ok p ps (sym (walk_zero chain x p) ∙ e))
  walk_grows ps p (suc n) m e distinct is all long = by ps (walk_cases n chain x p ps e).goes distinct is all long (λ qs h. walk_grows qs (next_in (page_at x p)) n)
    where
      by : (qs : List ℕ) → IsWalk chain x n p qs → AreDistinct qs → last_of qs ≡ last → AllByRecursion LeadsOn qs → length qs + 1 ≤ m
          → ((rs : List ℕ) → walk n chain x (next_in (page_at x p)) ≡ Ok rs → (k : ℕ) → walk n chain x (next_in (page_at x p)) ≡ Ok rs → AreDistinct rs → last_of rs ≡ last → AllByRecursion LeadsOn rs → length rs + 1 ≤ k → walk k chain y (next_in (page_at x p)) ≡ Ok (rs ++ new ∷ []))
          → walk m chain y p ≡ Ok (qs ++ new ∷ [])
      by qs (ends none) distinct is all long rest = ends_here m long is
        where
          ends_here : (k : ℕ) → 1 + 1 ≤ k → p ≡ last → walk k chain y p ≡ Ok (p ∷ new ∷ [])
          ends_here zero less same = absurd (omega (arith, less))
          ends_here (suc zero) less same = absurd (omega (arith, less))
          ends_here (suc (suc k)) less same = subst (λ (r : ℕ). walk (suc (suc k)) chain y r ≡ Ok (r ∷ new ∷ [])) (sym same) (last_walk k)
      by qs (leads rs more walks) distinct is all long rest = goes_on rs m walks distinct is all long
        where
          goes_on : (rs : List ℕ) (k : ℕ) → walk n chain x (next_in (page_at x p)) ≡ Ok rs → AreDistinct (p ∷ rs) → last_of (p ∷ rs) ≡ last → AllByRecursion LeadsOn (p ∷ rs) → length (p ∷ rs) + 1 ≤ k → walk k chain y p ≡ Ok (p ∷ (rs ++ new ∷ []))
          goes_on rs zero walks distinct is all long = absurd (omega (arith, long))
          goes_on [] (suc k) walks distinct is all long = absurd (no_pages n (next_in (page_at x p)) walks)
          goes_on (r ∷ rs) (suc k) walks distinct is all long =
              let here : StaysLinked chain x y p = all.0 (other_last p r rs distinct.0 is) in
              walk_on_is k chain y p here.in_it ∙ ap (onward chain y k p) (ap (λ (i : ℕ). i == 0) here.next ∙ more)
              ∙ ap (linked p) (ap (walk k chain y) here.next ∙ rest (r ∷ rs) walks k walks distinct.1 is all.1 (omega (arith, long)))
