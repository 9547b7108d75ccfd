-- The run that waits, as a page goes into it and as it is appended.
use Rattle.std.proofs.Common.{◌≡◌, ◌≢◌, inl, inr, ℕ, ◌+◌, ◌*◌, ◌/◌, ◌<◌, ◌≤◌, List, [], ◌∷◌, ◌++◌, length, take, sym, ap, subst, ◌∙◌, arith, length-append, ◌&&◌, ◌==◌, nat_lt, Result}
use Rattle.nb_gather.proofs.Common.{mul-div_cancel, append-nil, length-take-le, bytes_of, World, LevelHead, AddsTwo, Numbered, Stretch, joined, runs_of, joined-append, Waiting, Holds, HoldsAll, Reads, HasTaken, complete, incomplete, level_front}
use Rattle.nb_gather.proofs.RunLaws.{one_run, longer_run, goes_on, Grows, runs_added}
use Rattle.nb_gather.proofs.FitLaws.{RunsFit, shape}

-- a run is appended by its number, its count and its bytes
pub run_adds : {T E : Type 0} (result : Result T E) (old new : World) (name : List ℕ) (first count size : ℕ) (items pages : List ℕ) → 0 < size → count * size ≤ length items → pages ≡ take (count * size) items
    → AddsTwo result old new name (bytes_of 4 first ++ bytes_of 4 (length pages / size)) pages → AddsTwo result old new name (bytes_of 4 first ++ bytes_of 4 count) (take (count * size) items)
run_adds result old new name first count size items pages wide room is adds =
    let long : length pages ≡ count * size = ap length is ∙ length-take-le (count * size) items room in
    let counted : length pages / size ≡ count = ap (λ n. n / size) long ∙ mul-div_cancel count wide in
    subst (λ (x : List ℕ). AddsTwo result old new name (bytes_of 4 first ++ bytes_of 4 count) x) is (subst (λ n. AddsTwo result old new name (bytes_of 4 first ++ bytes_of 4 n) pages) counted adds)

module _ (run : Waiting) (head : LevelHead) (rs : List Numbered) (fit : RunsFit head rs) (waits : HoldsAll run (incomplete (runs_of rs))) where
  abbrev runs : List Stretch
  runs = runs_of rs

  -- no run waits where it has no page
  pub none_waits : run.count ≡ 0 → incomplete runs ≡ []
  none_waits none = elim (shape head.page_size runs fit.all) [
    | inl is ↦ is
    | inr is ↦
        let holds : Holds run is.0 = subst (HoldsAll run) is.1 waits in
        absurd (omega (arith, none, holds.count, is.2.some))
  ]

  -- and one does where it has
  pub one_waits : run.count ≢ 0 → (w : Stretch) × (incomplete runs ≡ w ∷ []) × Holds run w
  one_waits some = elim (shape head.page_size runs fit.all) [
    | inl is ↦ absurd (some (subst (HoldsAll run) is waits))
    | inr is ↦ (is.0, is.1, subst (HoldsAll run) is.1 waits)
  ]

-- a page goes into it
module _ (old new : Waiting) (r : Numbered) (first : old.count ≡ 0 → new.first ≡ r.0) (more : 0 < old.count → new.first ≡ old.first) (alone : old.count ≡ 0 → new.bytes ≡ r.1) (bytes : new.bytes ≡ old.bytes ++ r.1) (count : new.count ≡ old.count + 1) where
  pub holds_one : old.count ≡ 0 → Holds new (one_run r)
  holds_one none = record { first = first none; count = omega (arith, count, none); bytes = alone none ∙ sym (append-nil r.1) }

  pub holds_longer : (w : Stretch) → 0 < old.count → Holds old w → Holds new (longer_run w r)
  holds_longer w some holds = record {
    first = more some ∙ holds.first;
    count = omega (arith, count, holds.count, length-append w.pages (r.1 ∷ []));
    bytes = bytes ∙ ap (λ (x : List ℕ). x ++ r.1) holds.bytes ∙ ap (λ (x : List ℕ). joined w.pages ++ x) (sym (append-nil r.1)) ∙ sym (joined-append w.pages (r.1 ∷ []));
  }

-- the page goes on with the run that waits
pub goes_as : (run : Waiting) (w : Stretch) (r : Numbered) → Holds run w → (r.0 == run.first + run.count && nat_lt run.count 16) ≡ goes_on w r
goes_as run w r holds = ap (λ n. r.0 == n + run.count && nat_lt run.count 16) holds.first ∙ ap (λ n. r.0 == w.first + n && nat_lt n 16) holds.count

-- With a page more
module _ (head : LevelHead) (rs : List Numbered) (r : Numbered) where
  abbrev pub front_of : List Numbered → List ℕ
  front_of xs = level_front head (complete (runs_of xs))

  -- nothing was appended
  same_front : (waits : List Stretch) → Grows r (runs_of rs) [] waits → front_of rs ≡ front_of (rs ++ r ∷ [])
  same_front waits grows = ap (level_front head) (sym (append-nil (complete (runs_of rs))) ∙ sym grows.0 ∙ ap complete (sym (runs_added r rs)))

  -- a run was
  pub longer_front : (s : Stretch) (waits : List Stretch) → Grows r (runs_of rs) (s ∷ []) waits → level_front head (complete (runs_of rs) ++ s ∷ []) ≡ front_of (rs ++ r ∷ [])
  longer_front s waits grows = ap (level_front head) (sym grows.0 ∙ ap complete (sym (runs_added r rs)))

  waiting : (run : Waiting) (more waits : List Stretch) → Grows r (runs_of rs) more waits → HoldsAll run waits → HoldsAll run (incomplete (runs_of (rs ++ r ∷ [])))
  waiting run more waits grows holds = subst (HoldsAll run) (sym (ap incomplete (runs_added r rs) ∙ grows.1)) holds

  counts : (written : ℕ) → written ≡ length rs → written + 1 ≡ length (rs ++ r ∷ [])
  counts written is = omega (arith, is, length-append rs (r ∷ []))

  module _ (w : World) (name : List ℕ) (written : ℕ) (run : Waiting) (counted : written ≡ length rs) where
    -- no run was appended
    pub taken_still : (waits : List Stretch) → Grows r (runs_of rs) [] waits → HoldsAll run waits → Reads w name (front_of rs) → HasTaken w (record { name = name; head = head; written = written + 1; run = run }) (rs ++ r ∷ [])
    taken_still waits grows holds stands = record { stands = subst (Reads w name) (same_front waits grows) stands; waits = waiting run [] waits grows holds; counted = counts written counted }

    -- one was
    pub taken_with : (s : Stretch) (waits : List Stretch) → Grows r (runs_of rs) (s ∷ []) waits → HoldsAll run waits → Reads w name (level_front head (complete (runs_of rs) ++ s ∷ []))
        → HasTaken w (record { name = name; head = head; written = written + 1; run = run }) (rs ++ r ∷ [])
    taken_with s waits grows holds stands = record { stands = subst (Reads w name) (longer_front s waits grows) stands; waits = waiting run (s ∷ []) waits grows holds; counted = counts written counted }
