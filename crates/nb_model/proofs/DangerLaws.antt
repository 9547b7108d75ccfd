-- Pages in danger: the list has just those, and there is none exactly where chains share no page and all their pages are taken.
use Rattle.std.proofs.Common.{◌≡◌, ◌≢◌, inl, inr, ℕ, zero, suc, ◌+◌, ◌<◌, ◌≤◌, List, [], ◌∷◌, length, refl, sym, ap, subst, ◌∙◌, arith, Bool, true, false, cond, ◌&&◌, ◌||◌, nat_eq, Result, Ok, Err}
use Rattle.nb_model.proofs.Common.{AllByRecursion, filter, range_with_len, true≢false, cases_lt, eqb_tells, or_parts, Chain, is_in_chain, pages_of, found_pages, broken_at, is_free_page, Image, is_among, reached, chains, pages_of_all, AreDistinct, IsNeat, all_go, all_append}
use Rattle.nb_model.specs.Danger.{is_in_danger}
unfoldable use Rattle.nb_model.specs.Danger.{is_twice, in_danger}
use Rattle.nb_model.proofs.ReadLaws.{eq_yes}
use Rattle.nb_model.proofs.RoomLaws.{in_chain, pages_found}

-- Which numbers of a range that pass a test are among those.
module _ (test : ℕ → Bool) (p : ℕ) where
  abbrev by_test : (a n : ℕ) → Bool → List ℕ
  by_test a n t = cond t (a ∷ filter test (range_with_len (a + 1) n)) (filter test (range_with_len (a + 1) n))

  among_other : (a n : ℕ) (t : Bool) → nat_eq p a ≡ false → is_among p (by_test a n t) ≡ is_among p (filter test (range_with_len (a + 1) n))
  among_other a n true other = ap (λ (u : Bool). u || is_among p (filter test (range_with_len (a + 1) n))) other
  among_other a n false other = refl

  not_same : (a : ℕ) → p ≢ a → nat_eq p a ≡ false
  not_same a other = elim (eqb_tells p a) [ inl w ↦ absurd (other w.1) | inr w ↦ w.0 ]

  among_before : (n a : ℕ) → p < a → is_among p (filter test (range_with_len a n)) ≡ false
  among_before zero a low = refl
  among_before (suc n) a low = among_other a n (test a) (not_same a (λ e. omega (arith, e, low))) ∙ among_before n (a + 1) (omega (arith, low))

  among_here : (n : ℕ) (t : Bool) → nat_eq p p ≡ true → is_among p (by_test p n t) ≡ t
  among_here n true same = ap (λ (u : Bool). u || is_among p (filter test (range_with_len (p + 1) n))) same
  among_here n false same = among_before n (p + 1) (omega arith)

  among_range : (n a : ℕ) → a ≤ p → p < a + n → is_among p (filter test (range_with_len a n)) ≡ test p
  among_range zero a low high = absurd (omega (arith, low, high))
  among_range (suc n) a low high = elim (cases_lt a p) [
    | inl less ↦ among_other a n (test a) (not_same a (λ e. omega (arith, e, less))) ∙ among_range n (a + 1) (omega (arith, less)) (omega (arith, high))
    | inr other ↦
        (let same : p ≡ a = omega (arith, low, other) in
        ap (λ (m : ℕ). is_among p (by_test m n (test m))) (sym same) ∙ among_here n (test p) (eq_yes p p refl))
  ]

-- A page below the length is among those in danger where it is in danger.
pub danger_each : (image : Image) (p : ℕ) → p < length image → is_among p (in_danger image) ≡ is_in_danger image p
unfolding in_danger
danger_each image p low = among_range (is_in_danger image) p (length image) 0 (omega arith) (omega (arith, low))

none_pass : (test : ℕ → Bool) (n a : ℕ) → ((p : ℕ) → test p ≡ false) → filter test (range_with_len a n) ≡ []
none_pass test zero a fails = refl
none_pass test (suc n) a fails = by (test a) (fails a) (none_pass test n (a + 1) fails)
  where
    by : (t : Bool) → t ≡ false → filter test (range_with_len (a + 1) n) ≡ [] → cond t (a ∷ filter test (range_with_len (a + 1) n)) (filter test (range_with_len (a + 1) n)) ≡ []
    by true e rest = absurd (true≢false e)
    by false e rest = rest

-- a number that is none of a list
absent : (p : ℕ) (qs : List ℕ) → AllByRecursion (λ (q : ℕ). p ≢ q) qs → is_among p qs ≡ false
absent p [] off = refl
absent p (q ∷ qs) off = elim (eqb_tells p q) [ inl w ↦ absurd (off.0 w.1) | inr w ↦ ap (λ (u : Bool). u || is_among p qs) w.0 ∙ absent p qs off.1 ]

once : (p : ℕ) (qs : List ℕ) → AreDistinct qs → is_twice p qs ≡ false
unfolding is_twice
once p [] distinct = refl
once p (q ∷ qs) distinct = elim (eqb_tells p q) [
  | inl w ↦ ap (λ (m : ℕ). (nat_eq p q && is_among m qs) || is_twice p qs) w.1 ∙ ap (λ (u : Bool). (nat_eq p q && u) || is_twice p qs) (absent q qs distinct.0) ∙ both (nat_eq p q) (is_twice p qs) (once p qs distinct.1)
  | inr w ↦ ap (λ (u : Bool). (u && is_among p qs) || is_twice p qs) w.0 ∙ once p qs distinct.1
]
  where
    both : (t u : Bool) → u ≡ false → ((t && false) || u) ≡ false
    both true u e = e
    both false u e = e

-- what holds of each holds of those that are among them
of_among : (P : ℕ → Type 0) (p : ℕ) (qs : List ℕ) → AllByRecursion P qs → is_among p qs ≡ true → P p
of_among P p [] all at = absurd (true≢false (sym at))
of_among P p (q ∷ qs) all at = elim (eqb_tells p q) [
  | inl w ↦ subst P (sym w.1) all.0
  | inr w ↦ of_among P p qs all.1 (ap (λ (u : Bool). u || is_among p qs) (sym w.0) ∙ at)
]

-- A neat image has no page in danger.
pub neat_none : (image : Image) → IsNeat image → in_danger image ≡ []
unfolding in_danger
neat_none image neat = none_pass (is_in_danger image) (length image) 0 (λ p. fails p (is_among p (reached image)) refl)
  where
    fails : (p : ℕ) (t : Bool) → is_among p (reached image) ≡ t → (t && (is_free_page image p || is_twice p (reached image))) ≡ false
    fails p false e = refl
    fails p true e =
        ap (λ (u : Bool). u || is_twice p (reached image)) (of_among (λ q. is_free_page image q ≡ false) p (reached image) neat.taken e) ∙ once p (reached image) neat.apart

-- And where there is none, chains share no page, and all their pages are taken.
all_below : (image : Image) (cs : List Chain) → AllByRecursion (λ (p : ℕ). p < length image) (pages_of_all image cs)
unfolding pages_of_all found_pages
all_below image [] = tt
all_below image (c ∷ cs) = all_append (λ p. p < length image) (found_pages c image) (pages_of_all image cs) (by (pages_of c image) refl) (all_below image cs)
  where
    by : (r : Result (List ℕ) ℕ) → pages_of c image ≡ r → AllByRecursion (λ (p : ℕ). p < length image) (elim r as (λ z. List ℕ) [ Ok ps ↦ ps | Err p ↦ [] ])
    by (Err q) is = tt
    by (Ok ps) is = all_go (λ q. is_in_chain c image q ≡ true) (λ q. q < length image) ps (λ q in_it. (in_chain c image q in_it).0) (found is)
      where
        found : pages_of c image ≡ Ok ps → AllByRecursion (λ (q : ℕ). is_in_chain c image q ≡ true) ps
        found is = subst (λ (r : Result (List ℕ) ℕ). AllByRecursion (λ (q : ℕ). is_in_chain c image q ≡ true) (elim r as (λ z. List ℕ) [ Ok qs ↦ qs | Err p ↦ [] ])) is
            (pages_found c image (ap broken_at is)).each

-- each of a list is among it
all_among : (qs : List ℕ) (P : ℕ → Type 0) → ((p : ℕ) → is_among p qs ≡ true → P p) → AllByRecursion P qs
all_among [] P each = tt
all_among (q ∷ qs) P each = (each q (ap (λ (u : Bool). u || is_among q qs) (eq_yes q q refl)), all_among qs P (λ p at. each p (later (nat_eq p q) (is_among p qs) at)))
  where
    later : (t u : Bool) → u ≡ true → (t || u) ≡ true
    later true u e = refl
    later false u e = e

apart_all : (qs : List ℕ) → AllByRecursion (λ (p : ℕ). is_twice p qs ≡ false) qs → AreDistinct qs
unfolding is_twice
apart_all [] all = tt
apart_all (q ∷ qs) all = (none q qs (first (nat_eq q q) (eq_yes q q refl) all.0), apart_all qs (all_go (λ p. is_twice p (q ∷ qs) ≡ false) (λ p. is_twice p qs ≡ false) qs (λ p e. (or_parts (nat_eq p q && is_among p qs) (is_twice p qs) e).1) all.1))
  where
    first : (t : Bool) → t ≡ true → ((t && is_among q qs) || is_twice q qs) ≡ false → is_among q qs ≡ false
    first true is e = (or_parts (is_among q qs) (is_twice q qs) e).0
    first false is e = absurd (true≢false (sym is))

    none : (p : ℕ) (rs : List ℕ) → is_among p rs ≡ false → AllByRecursion (λ (r : ℕ). p ≢ r) rs
    none p [] e = tt
    none p (r ∷ rs) e = (
      (λ same. true≢false (sym (eq_yes p r same) ∙ (or_parts (nat_eq p r) (is_among p rs) e).0)),
      none p rs (or_parts (nat_eq p r) (is_among p rs) e).1,
    )

module _ (image : Image) (none : in_danger image ≡ []) where
  safe : (p : ℕ) → is_among p (reached image) ≡ true → (is_free_page image p ≡ false) × (is_twice p (reached image) ≡ false)
  unfolding in_danger
  safe p at =
      let low : p < length image = of_among (λ q. q < length image) p (reached image) (all_below image (chains image)) at in
      let fails : is_in_danger image p ≡ false = sym (danger_each image p low) ∙ ap (is_among p) none in
      or_parts (is_free_page image p) (is_twice p (reached image)) (ap (λ (u : Bool). u && (is_free_page image p || is_twice p (reached image))) (sym at) ∙ fails)

  pub none_apart : AreDistinct (pages_of_all image (chains image))
  none_apart = apart_all (reached image) (all_among (reached image) (λ p. is_twice p (reached image) ≡ false) (λ p at. (safe p at).1))

  pub none_free : AllByRecursion (λ p. is_free_page image p ≡ false) (pages_of_all image (chains image))
  none_free = all_among (reached image) (λ p. is_free_page image p ≡ false) (λ p at. (safe p at).0)
