-- How the runs of the pages that were taken go on by one page more.
use Rattle.std.proofs.Common.{◌≡◌, ◌⊎◌, inl, inr, ℕ, suc, ◌+◌, ◌<◌, ◌≤◌, List, [], ◌∷◌, ◌++◌, length, refl, sym, ap, subst, ◌∙◌, arith, length-append, Bool, true, false, ◌&&◌, ◌==◌, nat_lt}
use Rattle.nb_gather.proofs.Common.{leb_tells, append-nil, Page, Numbered, Stretch, runs_behind, runs_of, complete, incomplete, not_both, true_or_false, and_right}

-- a run of one page
abbrev pub one_run : Numbered → Stretch
one_run r = record { first = r.0; pages = r.1 ∷ [] }

-- a run with a page more
abbrev pub longer_run : Stretch → Numbered → Stretch
longer_run s r = record { first = s.first; pages = s.pages ++ r.1 ∷ [] }

-- the page goes on with the run
abbrev pub goes_on : Stretch → Numbered → Bool
goes_on s r = r.0 == s.first + length s.pages && nat_lt (length s.pages) 16

-- the runs with a page more
abbrev pub added : Numbered → List Stretch → List Stretch
added r [] = one_run r ∷ []
added r (s ∷ []) = elim (goes_on s r) [ true ↦ longer_run s r ∷ [] | false ↦ s ∷ one_run r ∷ [] ]
added r (s ∷ t ∷ ss) = s ∷ added r (t ∷ ss)

-- a run that has begun takes the next page, or doesn't
module _ (first : ℕ) (ps : List Page) (x : Numbered) (xs : List Numbered) where
  pub joins : (x.0 == first + length ps && nat_lt (length ps) 16) ≡ true → runs_behind first ps (x ∷ xs) ≡ runs_behind first (ps ++ x.1 ∷ []) xs
  unfolding runs_behind
  joins is = rw (is, runs_behind) refl

  pub parts : (x.0 == first + length ps && nat_lt (length ps) 16) ≡ false → runs_behind first ps (x ∷ xs) ≡ record { first = first; pages = ps } ∷ runs_behind x.0 (x.1 ∷ []) xs
  unfolding runs_behind
  parts is = rw (is, runs_behind) refl

-- there is a run
behind_some : (first : ℕ) (ps : List Page) (xs : List Numbered) → 1 ≤ length (runs_behind first ps xs)
unfolding runs_behind
behind_some first ps [] = omega arith
behind_some first ps (x ∷ xs) = elim (true_or_false (x.0 == first + length ps && nat_lt (length ps) 16)) [
  | inl is ↦ subst (λ (r : List Stretch). 1 ≤ length r) (sym (joins first ps x xs is)) (behind_some first (ps ++ x.1 ∷ []) xs)
  | inr is ↦ subst (λ (r : List Stretch). 1 ≤ length r) (sym (parts first ps x xs is)) (omega arith)
]

module _ (r : Numbered) where
  added_cons : (s : Stretch) (ss : List Stretch) → 1 ≤ length ss → added r (s ∷ ss) ≡ s ∷ added r ss
  added_cons s [] some = absurd (omega (arith, some))
  added_cons s (t ∷ ss) some = refl

  added_some : (ss : List Stretch) → 1 ≤ length (added r ss)
  added_some [] = omega arith
  added_some (s ∷ []) = elim (true_or_false (goes_on s r)) [ inl is ↦ rw (is, added, length) (omega arith) | inr is ↦ rw (is, added, length) (omega arith) ]
  added_some (s ∷ t ∷ ss) = omega arith

  behind_added : (first : ℕ) (ps : List Page) (xs : List Numbered) → runs_behind first ps (xs ++ r ∷ []) ≡ added r (runs_behind first ps xs)
  unfolding runs_behind
  behind_added first ps [] = elim (true_or_false (r.0 == first + length ps && nat_lt (length ps) 16)) [
    | inl is ↦ joins first ps r [] is ∙ rw (is, added) refl
    | inr is ↦ parts first ps r [] is ∙ rw (is, added) refl
  ]
  behind_added first ps (x ∷ xs) = elim (true_or_false (x.0 == first + length ps && nat_lt (length ps) 16)) [
    | inl is ↦ joins first ps x (xs ++ r ∷ []) is ∙ behind_added first (ps ++ x.1 ∷ []) xs ∙ ap (added r) (sym (joins first ps x xs is))
    | inr is ↦
        let run : Stretch = record { first = first; pages = ps } in
        parts first ps x (xs ++ r ∷ []) is ∙ ap (λ (l : List Stretch). run ∷ l) (behind_added x.0 (x.1 ∷ []) xs)
        ∙ sym (added_cons run (runs_behind x.0 (x.1 ∷ []) xs) (behind_some x.0 (x.1 ∷ []) xs)) ∙ ap (added r) (sym (parts first ps x xs is))
  ]

  -- a page taken more
  pub runs_added : (xs : List Numbered) → runs_of (xs ++ r ∷ []) ≡ added r (runs_of xs)
  unfolding runs_of runs_behind
  runs_added [] = refl
  runs_added (x ∷ xs) = behind_added x.0 (x.1 ∷ []) xs

  -- with it these runs more are complete, and this one waits
  abbrev pub Grows : (runs more waits : List Stretch) → Type 0
  Grows runs more waits = (complete (added r runs) ≡ complete runs ++ more) × (incomplete (added r runs) ≡ waits)

  complete_cons : (s : Stretch) (ss : List Stretch) → 1 ≤ length ss → complete (s ∷ ss) ≡ s ∷ complete ss
  unfolding complete
  complete_cons s [] some = absurd (omega (arith, some))
  complete_cons s (t ∷ ss) some = refl

  incomplete_cons : (s : Stretch) (ss : List Stretch) → 1 ≤ length ss → incomplete (s ∷ ss) ≡ incomplete ss
  unfolding incomplete
  incomplete_cons s [] some = absurd (omega (arith, some))
  incomplete_cons s (t ∷ ss) some = refl

  grows_cons : (s t : Stretch) (ss more waits : List Stretch) → Grows (t ∷ ss) more waits → Grows (s ∷ t ∷ ss) more waits
  grows_cons s t ss more waits is =
      let some : 1 ≤ length (added r (t ∷ ss)) = added_some (t ∷ ss) in (
        complete_cons s (added r (t ∷ ss)) some ∙ ap (λ (l : List Stretch). s ∷ l) is.0 ∙ sym (ap (λ (l : List Stretch). l ++ more) (complete_cons s (t ∷ ss) (omega arith))),
        incomplete_cons s (added r (t ∷ ss)) some ∙ is.1,
      )

  -- a run waits exactly where it has fewer than 16 pages
  full_or_not : (s : Stretch) → ((nat_lt (length s.pages) 16 ≡ true) × (complete (s ∷ []) ≡ []) × (incomplete (s ∷ []) ≡ s ∷ [])) ⊎ ((nat_lt (length s.pages) 16 ≡ false) × (complete (s ∷ []) ≡ s ∷ []) × (incomplete (s ∷ []) ≡ []))
  unfolding complete incomplete
  full_or_not s = elim (true_or_false (nat_lt (length s.pages) 16)) [ inl is ↦ inl (is, rw (is, complete) refl, rw (is, incomplete) refl) | inr is ↦ inr (is, rw (is, complete) refl, rw (is, incomplete) refl) ]

  two_runs : (s t : Stretch) → nat_lt (length t.pages) 16 ≡ true → (complete (s ∷ t ∷ []) ≡ s ∷ []) × (incomplete (s ∷ t ∷ []) ≡ t ∷ [])
  unfolding complete incomplete
  two_runs s t is = (rw (is, complete) refl, rw (is, incomplete) refl)

  head_is : (s t : Stretch) → s ∷ [] ≡ t ∷ [] → s ≡ t
  head_is s t is = ap (λ (x : List Stretch). elim x [ [] ↦ s | u ∷ us ↦ u ]) is

  no_run : (s : Stretch) → [] ≡ s ∷ [] → ⊥
  no_run s is = absurd (omega (arith, ap length is))

  -- where none waits, the page begins a run
  pub grown_none : (runs : List Stretch) → incomplete runs ≡ [] → Grows runs [] (one_run r ∷ [])
  unfolding complete incomplete
  grown_none [] none = (refl, refl)
  grown_none (s ∷ []) none = elim (full_or_not s) [
    | inl is ↦ absurd (no_run s (sym none ∙ is.2))
    | inr is ↦
        let other : goes_on s r ≡ false = and_right (r.0 == s.first + length s.pages) (nat_lt (length s.pages) 16) is.0 in
        let more : added r (s ∷ []) ≡ s ∷ one_run r ∷ [] = rw (other, added) refl in
        let two = two_runs s (one_run r) refl in
        (ap complete more ∙ two.0 ∙ sym (append-nil (complete (s ∷ [])) ∙ is.1), ap incomplete more ∙ two.1)
  ]
  grown_none (s ∷ t ∷ ss) none = grows_cons s t ss [] (one_run r ∷ []) (grown_none (t ∷ ss) none)

  -- where it doesn't go on with the one that waits, that one is complete
  pub grown_other : (runs : List Stretch) (w : Stretch) → incomplete runs ≡ w ∷ [] → goes_on w r ≡ false → Grows runs (w ∷ []) (one_run r ∷ [])
  unfolding complete incomplete
  grown_other [] w waits other = absurd (no_run w waits)
  grown_other (s ∷ []) w waits other = elim (full_or_not s) [
    | inl is ↦
        let same : s ≡ w = head_is s w (sym is.2 ∙ waits) in
        let more : added r (s ∷ []) ≡ s ∷ one_run r ∷ [] = rw (subst (λ (x : Stretch). goes_on x r ≡ false) (sym same) other, added) refl in
        let two = two_runs s (one_run r) refl in
        (ap complete more ∙ two.0 ∙ ap (λ (x : Stretch). x ∷ []) same ∙ sym (ap (λ (l : List Stretch). l ++ w ∷ []) is.1), ap incomplete more ∙ two.1)
    | inr is ↦ absurd (no_run w (sym is.2 ∙ waits))
  ]
  grown_other (s ∷ t ∷ ss) w waits other = grows_cons s t ss (w ∷ []) (one_run r ∷ []) (grown_other (t ∷ ss) w waits other)

  -- it goes on with it
  longer_added : (s w : Stretch) → s ≡ w → goes_on w r ≡ true → added r (s ∷ []) ≡ longer_run w r ∷ []
  longer_added s w same goes = rw (subst (λ (x : Stretch). goes_on x r ≡ true) (sym same) goes, added) (ap (λ (x : Stretch). longer_run x r ∷ []) same)

  longer_long : (w : Stretch) → length (longer_run w r).pages ≡ length w.pages + 1
  longer_long w = length-append w.pages (r.1 ∷ [])

  pub grown_more : (runs : List Stretch) (w : Stretch) → incomplete runs ≡ w ∷ [] → goes_on w r ≡ true → length w.pages + 1 < 16 → Grows runs [] (longer_run w r ∷ [])
  unfolding complete incomplete
  grown_more [] w waits goes few = absurd (no_run w waits)
  grown_more (s ∷ []) w waits goes few = elim (full_or_not s) [
    | inl is ↦
        let more = longer_added s w (head_is s w (sym is.2 ∙ waits)) goes in
        elim (full_or_not (longer_run w r)) [
          | inl short ↦ (ap complete more ∙ short.1 ∙ sym (append-nil (complete (s ∷ [])) ∙ is.1), ap incomplete more ∙ short.2)
          | inr full ↦ elim (leb_tells (suc (length (longer_run w r).pages)) 16) [
            | inl v ↦ absurd (not_both (nat_lt (length (longer_run w r).pages) 16) v.0 full.0)
            | inr v ↦ absurd (omega (arith, v.1, longer_long w, few))
          ]
        ]
    | inr is ↦ absurd (no_run w (sym is.2 ∙ waits))
  ]
  grown_more (s ∷ t ∷ ss) w waits goes few = grows_cons s t ss [] (longer_run w r ∷ []) (grown_more (t ∷ ss) w waits goes few)

  -- and with it, it is complete
  pub grown_full : (runs : List Stretch) (w : Stretch) → incomplete runs ≡ w ∷ [] → goes_on w r ≡ true → length w.pages + 1 ≡ 16 → Grows runs (longer_run w r ∷ []) []
  unfolding complete incomplete
  grown_full [] w waits goes full = absurd (no_run w waits)
  grown_full (s ∷ []) w waits goes full = elim (full_or_not s) [
    | inl is ↦
        let more = longer_added s w (head_is s w (sym is.2 ∙ waits)) goes in
        elim (full_or_not (longer_run w r)) [
          | inl short ↦ elim (leb_tells (suc (length (longer_run w r).pages)) 16) [
            | inl v ↦ absurd (omega (arith, v.1, longer_long w, full))
            | inr v ↦ absurd (not_both (nat_lt (length (longer_run w r).pages) 16) short.0 v.0)
          ]
          | inr all ↦ (ap complete more ∙ all.1 ∙ sym (ap (λ (l : List Stretch). l ++ longer_run w r ∷ []) is.1), ap incomplete more ∙ all.2)
        ]
    | inr is ↦ absurd (no_run w (sym is.2 ∙ waits))
  ]
  grown_full (s ∷ t ∷ ss) w waits goes full = grows_cons s t ss (longer_run w r ∷ []) [] (grown_full (t ∷ ss) w waits goes full)
