-- Bytes with others put at a place.
use Rattle.std.proofs.Common.{◌≡◌, ◌⊎◌, inl, inr, ℕ, ◌+◌, ◌-◌, ◌<◌, ◌≤◌, List, ◌++◌, length, take, drop, sym, ◌∙◌, ap, arith, length-append, append_assoc, replicate}
use Rattle.nb_mem.proofs.Common.{cases_lt, take_all, drop_all, take-append-le, length-replicate, replicate-append-replicate, append-nil, padded, put_at, padded-short}

-- as `resize` pads
pub padded-long : (bytes : List ℕ) (len n : ℕ) → length bytes ≡ n → n ≤ len → take len bytes ++ replicate (len - n) 0 ≡ padded bytes len
unfolding padded
padded-long bytes len n is fits = ap (λ (l : List ℕ). l ++ replicate (len - n) 0) (take_all len bytes (omega arith)) ∙ ap (λ (k : ℕ). bytes ++ replicate (len - k) 0) (sym is)

-- with that many zeros
pub padded-more : (bytes : List ℕ) (count len : ℕ) → len ≡ length bytes + count → padded bytes len ≡ bytes ++ replicate count 0
unfolding padded
padded-more bytes count len is = ap (λ (n : ℕ). bytes ++ replicate n 0) (let e : len - length bytes ≡ count = omega arith in e)

pub length-padded : (bytes : List ℕ) (len : ℕ) → len ≤ length (padded bytes len)
unfolding padded
length-padded bytes len = omega (arith, length-append bytes (replicate (len - length bytes) 0), length-replicate {A = ℕ} (len - length bytes) 0)

module _ (bytes page : List ℕ) (at : ℕ) where
  front : (at < length bytes) ⊎ (length bytes ≤ at) → take at (padded bytes (at + length page)) ≡ take at (padded bytes at)
  unfolding padded
  front (inl within) = take-append-le at bytes _ (omega arith) ∙ sym (take-append-le at bytes _ (omega arith))
  front (inr past) =
      let more : at + length page - length bytes ≡ (at - length bytes) + length page = omega arith in
      let len : length (bytes ++ replicate {A = ℕ} (at - length bytes) 0) ≡ at = omega (arith, length-append bytes (replicate (at - length bytes) 0), length-replicate {A = ℕ} (at - length bytes) 0) in
      ap (λ (l : List ℕ). take at (bytes ++ l)) (ap (λ (n : ℕ). replicate n 0) more ∙ sym (replicate-append-replicate (at - length bytes) (length page) 0))
      ∙ ap (take at) (sym (append_assoc bytes (replicate (at - length bytes) 0) (replicate (length page) 0)))
      ∙ take-append-le at (bytes ++ replicate (at - length bytes) 0) (replicate (length page) 0) (omega arith)

  back : (at + length page < length bytes) ⊎ (length bytes ≤ at + length page) → drop (at + length page) (padded bytes (at + length page)) ≡ drop (at + length page) bytes
  unfolding padded
  back (inl within) = ap (drop (at + length page)) (padded-short bytes (at + length page) (omega arith))
  back (inr past) =
      let exact : length (padded bytes (at + length page)) ≤ at + length page = omega (arith, length-append bytes (replicate (at + length page - length bytes) 0), length-replicate {A = ℕ} (at + length page - length bytes) 0) in
      drop_all (at + length page) (padded bytes (at + length page)) exact ∙ sym (drop_all (at + length page) bytes past)

  -- a page over padded bytes
  pub put_at-padded : take at (padded bytes (at + length page)) ++ (page ++ drop (at + length page) (padded bytes (at + length page))) ≡ put_at bytes at page
  unfolding put_at
  put_at-padded =
      ap (λ (l : List ℕ). l ++ (page ++ drop (at + length page) (padded bytes (at + length page)))) (front (cases_lt at (length bytes)))
      ∙ ap (λ (l : List ℕ). take at (padded bytes at) ++ (page ++ l)) (back (cases_lt (at + length page) (length bytes)))

-- a Vec whose whole slice was written
pub written : (len : ℕ) (new old : List ℕ) → length new ≡ len → length old ≡ len → take len (new ++ drop (length new) old) ≡ new
written len new old all same = ap (take len) (ap (λ (l : List ℕ). new ++ l) (drop_all (length new) old (omega arith)) ∙ append-nil new) ∙ take_all len new (omega arith)
