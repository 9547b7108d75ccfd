-- Which of the waiting pages goes out first, as one page more is seen.
use Rattle.std.proofs.Common.{◌≡◌, ℕ, ◌<◌, ◌≤◌, ◌⊎◌, inl, inr, List, [], ◌∷◌, ◌++◌, Option, Some, arith, ⊎_elim, Contains}
use Rattle.nb_cache.proofs.Common.{AllByRecursion, Contains-append_right, Contains-head, Slot, NoneWaits, IsNoLater, GoesFirst, some_same}
use Rattle.nb_cache.proofs.KeyedLaws.{All-snoc}

module _ (pages : List (ℕ × Slot)) (page : ℕ) (bytes : List ℕ) where
  abbrev slot : Option ℕ → ℕ × Slot
  slot rank = (page, record { bytes = bytes; rank = rank })

  module _ (rank : ℕ) where
    here : Contains (pages ++ slot (Some rank) ∷ []) (slot (Some rank))
    here = Contains-append_right pages (slot (Some rank) ∷ []) (slot (Some rank)) (Contains-head (slot (Some rank)) [])

    itself : IsNoLater page rank (slot (Some rank))
    itself r e = inr (some_same rank r e, omega arith)

    none_waits : (ps : List (ℕ × Slot)) → NoneWaits ps → AllByRecursion (IsNoLater page rank) ps
    none_waits [] none = tt
    none_waits (e ∷ es) none = (λ r is. absurd (cc (none.0, is)), none_waits es none.1)

    -- the first page that waits
    pub next-first : NoneWaits pages → GoesFirst (pages ++ slot (Some rank) ∷ []) page rank
    next-first none = record {
      waits = (bytes, here);
      first = All-snoc (IsNoLater page rank) pages (slot (Some rank)) (none_waits pages none) itself;
    }

    module _ (first lowest : ℕ) (goes : GoesFirst pages first lowest) where
      before : (rank < lowest) ⊎ ((rank ≡ lowest) × (page ≤ first)) → (ps : List (ℕ × Slot)) → AllByRecursion (IsNoLater first lowest) ps → AllByRecursion (IsNoLater page rank) ps
      before sooner [] all = tt
      before sooner (e ∷ es) all = (
        λ r is. ⊎_elim
            (λ lower. inl (⊎_elim (λ s. omega (arith, s, lower)) (λ s. omega (arith, s.0, lower)) sooner))
            (λ same. ⊎_elim (λ s. inl (omega (arith, s, same.0))) (λ s. inr (omega (arith, s.0, same.0), omega (arith, s.1, same.1))) sooner)
            (all.0 r is),
        before sooner es all.1,
      )

      -- the page goes out before the others
      pub next-sooner : (rank < lowest) ⊎ ((rank ≡ lowest) × (page ≤ first)) → GoesFirst (pages ++ slot (Some rank) ∷ []) page rank
      next-sooner sooner = record {
        waits = (bytes, here);
        first = All-snoc (IsNoLater page rank) pages (slot (Some rank)) (before sooner pages goes.first) itself;
      }
