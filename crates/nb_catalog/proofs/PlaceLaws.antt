-- The places of a plan are those of files of the list.
use Rattle.std.proofs.Common.{◌≡◌, ℕ, zero, suc, ◌+◌, ◌<◌, ◌≤◌, List, [], ◌∷◌, length, get_or, sym, subst, arith, Bool, true, false, cond, filter, not}
use Rattle.nb_catalog.proofs.Common.{AllByRecursion, LevelHead, Entry, ArePlaces, IsWithin, Retention, entries_from, entries_of, is_needed, is_point, places, plan_of, points}

-- what holds of all holds of some of them
some_of : {X : Type 0} (P : X → Type 0) (test : X → Bool) (xs : List X) → AllByRecursion P xs → AllByRecursion P (filter test xs)
some_of P test [] all = tt
some_of {X} P test (x ∷ xs) all = by (test x) (some_of P test xs all.1)
  where
    by : (b : Bool) → AllByRecursion P (filter test xs) → AllByRecursion P (cond b (x ∷ filter test xs) (filter test xs))
    by true rest = (all.0, rest)
    by false rest = rest

entries_within : (n : ℕ) (heads : List LevelHead) (count : ℕ) → n + length heads ≤ count → AllByRecursion (λ (e : Entry). e.place < count) (entries_from n heads)
unfolding entries_from
entries_within n [] count few = tt
entries_within n (h ∷ hs) count few = (omega (arith, few), entries_within (n + 1) hs count (omega (arith, few)))

places_within : (count : ℕ) (es : List Entry) → AllByRecursion (λ (e : Entry). e.place < count) es → ArePlaces count (places es)
places_within count [] all = tt
places_within count (e ∷ es) all = (all.0, places_within count es all.1)

pub plan_within : (heads : List LevelHead) (keep : ℕ) (plan : Retention) → plan ≡ plan_of heads keep → IsWithin (length heads) plan
plan_within heads keep plan is =
    let within = entries_within 0 heads (length heads) (omega arith) in
    let low : Entry → Type 0 = λ e. e.place < length heads in
    subst (IsWithin (length heads)) (sym is) (record {
      dropped = places_within (length heads) _ (some_of low (λ e. not (is_needed heads keep e)) (points heads) (some_of low (is_point heads) (entries_of heads) within));
      orphans = places_within (length heads) _ (some_of low (λ e. not (is_point heads e)) (entries_of heads) within);
    })

-- each of some places is one
pub place_at : (count : ℕ) (places : List ℕ) (i d : ℕ) → ArePlaces count places → i < length places → get_or places i d < count
place_at count [] i d all low = absurd (omega (arith, low))
place_at count (p ∷ ps) zero d all low = all.0
place_at count (p ∷ ps) (suc i) d all low = place_at count ps i d all.1 (omega (arith, low))
