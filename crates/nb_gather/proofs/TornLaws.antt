-- Bytes that were torn: each is as it was written or zero, and there may be fewer.
use Rattle.std.proofs.Common.{◌≡◌, ◌⊎◌, inl, ⊎_elim, ℕ, zero, suc, ◌<◌, ◌≤◌, List, [], ◌∷◌, ◌++◌, length, take, drop, refl, arith, slice_index}
use Rattle.nb_gather.proofs.Common.{number_of, IsTornFrom}

-- byte by byte
abbrev pub Torn : (bytes torn : List ℕ) → Type 0
Torn bs [] = Unit {0}
Torn [] (t ∷ ts) = ⊥
Torn (b ∷ bs) (t ∷ ts) = ((t ≡ b) ⊎ (t ≡ 0)) × Torn bs ts

pub torn_of : (bs ts : List ℕ) → IsTornFrom bs ts → Torn bs ts
torn_of bs [] is = tt
torn_of [] (t ∷ ts) is = absurd (none is.no_longer)
  where
    none : suc (length ts) ≤ 0 → ⊥
    none h = omega arith
torn_of (b ∷ bs) (t ∷ ts) is = (is.each 0 (omega arith), torn_of bs ts (record { no_longer = omega (arith, is.no_longer); each = λ i low. is.each (suc i) (omega (arith, low)) }))

pub torn_is : (bs ts : List ℕ) → Torn bs ts → IsTornFrom bs ts
torn_is bs [] is = record { no_longer = omega arith; each = λ i low. absurd (omega (arith, low)) }
torn_is [] (t ∷ ts) is = absurd is
torn_is (b ∷ bs) (t ∷ ts) is =
    let rest = torn_is bs ts is.1 in
    record { no_longer = omega (arith, rest.no_longer); each = at rest }
  where
    at : IsTornFrom bs ts → (i : ℕ) → i < suc (length ts) → (slice_index (t ∷ ts) i ≡ slice_index (b ∷ bs) i) ⊎ (slice_index (t ∷ ts) i ≡ 0)
    at rest zero low = is.0
    at rest (suc i) low = rest.each i (omega (arith, low))

-- nothing was torn
pub torn_self : (bs : List ℕ) → Torn bs bs
torn_self [] = tt
torn_self (b ∷ bs) = (inl refl, torn_self bs)

pub torn_short : (bs ts : List ℕ) → Torn bs ts → length ts ≤ length bs
torn_short bs [] is = omega arith
torn_short [] (t ∷ ts) is = absurd is
torn_short (b ∷ bs) (t ∷ ts) is = let rest = torn_short bs ts is.1 in omega (arith, rest)

-- the rest was lost
pub torn_front : (k : ℕ) (bs : List ℕ) → Torn bs (take k bs)
torn_front zero bs = tt
torn_front (suc k) [] = tt
torn_front (suc k) (b ∷ bs) = (inl refl, torn_front k bs)

-- bytes after that were lost
pub torn_longer : (bs cs ts : List ℕ) → Torn bs ts → Torn (bs ++ cs) ts
torn_longer bs cs [] is = tt
torn_longer [] cs (t ∷ ts) is = absurd is
torn_longer (b ∷ bs) cs (t ∷ ts) is = (is.0, torn_longer bs cs ts is.1)

-- bytes after that were torn
pub torn_more : (bs cs ts us : List ℕ) → length ts ≡ length bs → Torn bs ts → Torn cs us → Torn (bs ++ cs) (ts ++ us)
torn_more [] cs [] us long is more = more
torn_more [] cs (t ∷ ts) us long is more = absurd is
torn_more (b ∷ bs) cs [] us long is more = absurd (none long)
  where
    none : 0 ≡ suc (length bs) → ⊥
    none h = omega arith
torn_more (b ∷ bs) cs (t ∷ ts) us long is more = (is.0, torn_more bs cs ts us (omega (arith, long)) is.1 more)

-- the front
pub torn_take : (k : ℕ) (bs ts : List ℕ) → Torn bs ts → Torn (take k bs) (take k ts)
torn_take zero bs ts is = tt
torn_take (suc k) bs [] is = tt
torn_take (suc k) [] (t ∷ ts) is = absurd is
torn_take (suc k) (b ∷ bs) (t ∷ ts) is = (is.0, torn_take k bs ts is.1)

-- and what stands after it
pub torn_drop : (k : ℕ) (bs ts : List ℕ) → Torn bs ts → Torn (drop k bs) (drop k ts)
torn_drop zero bs ts is = is
torn_drop (suc k) bs [] is = tt
torn_drop (suc k) [] (t ∷ ts) is = absurd is
torn_drop (suc k) (b ∷ bs) (t ∷ ts) is = torn_drop k bs ts is.1

-- a number is at most what it was
pub torn_number : (bs ts : List ℕ) → Torn bs ts → number_of ts ≤ number_of bs
unfolding number_of
torn_number bs [] is = omega arith
torn_number [] (t ∷ ts) is = absurd is
torn_number (b ∷ bs) (t ∷ ts) is =
    let rest = torn_number bs ts is.1 in
    let low : t ≤ b = ⊎_elim (λ e. omega (arith, e)) (λ e. omega (arith, e)) is.0 in omega (arith, rest, low)
