-- The pages of a file after a page was put into it, and after it grew by zeros.
use Rattle.std.proofs.Common.{◌≡◌, ◌≢◌, ◌⊎◌, inl, inr, ⊎_elim, ℕ, ◌+◌, ◌-◌, ◌*◌, ◌<◌, ◌≤◌, List, ◌++◌, length, get_or, take, drop, replicate, refl, sym, ◌∙◌, ap, arith, length-append, length-take, length-drop}
use Rattle.nb_delta.proofs.Common.{get_or-drop, get_or_append_left, get_or-append-add, get_or-append_right, get_or-replicate, ext_get_or, length-replicate, places, cases_lt, mul-le-mul_right, padded, put_at, page_in, length-front}

-- zeros after are read as what stands after the end
pub zeros_behind : (bytes : List ℕ) (n i : ℕ) → get_or (bytes ++ replicate n 0) i 0 ≡ get_or bytes i 0
zeros_behind bytes n i = elim (cases_lt i (length bytes)) [
  | inl l ↦ get_or_append_left bytes (replicate n 0) 0 i l
  | inr l ↦ get_or-append_right bytes (replicate n 0) (length bytes) i 0 refl l ∙ zero_at n (i - length bytes) ∙ sym (past bytes i l)
]
  where
    past : (xs : List ℕ) (i : ℕ) → length xs ≤ i → get_or xs i 0 ≡ 0
    past xs i h = grind (arith, places)

    zero_at : (n k : ℕ) → get_or (replicate {A = ℕ} n 0) k 0 ≡ 0
    zero_at n k = elim (cases_lt k n) [ inl l ↦ get_or-replicate n k 0 0 l | inr l ↦ past (replicate n 0) k (omega (arith, l, length-replicate {A = ℕ} n 0)) ]

pub put_at-below : (bytes : List ℕ) (at : ℕ) (new : List ℕ) (i : ℕ) → i < at → get_or (put_at bytes at new) i 0 ≡ get_or bytes i 0
unfolding put_at padded
put_at-below bytes at new i low =
    get_or_append_left (take at (padded bytes at)) (new ++ drop (at + length new) bytes) 0 i (omega (arith, low, length-front bytes at))
    ∙ taken (padded bytes at) at i low ∙ zeros_behind bytes (at - length bytes) i
  where
    taken : (xs : List ℕ) (n i : ℕ) → i < n → get_or (take n xs) i 0 ≡ get_or xs i 0
    taken xs n i low = grind (arith, places)

pub put_at-inside : (bytes : List ℕ) (at : ℕ) (new : List ℕ) (j : ℕ) → j < length new → get_or (put_at bytes at new) (at + j) 0 ≡ get_or new j 0
unfolding put_at
put_at-inside bytes at new j low =
    ap (λ (n : ℕ). get_or (take at (padded bytes at) ++ (new ++ drop (at + length new) bytes)) (n + j) 0) (sym (length-front bytes at))
    ∙ get_or-append-add (take at (padded bytes at)) (new ++ drop (at + length new) bytes) j 0
    ∙ get_or_append_left new (drop (at + length new) bytes) 0 j low

pub put_at-above : (bytes : List ℕ) (at : ℕ) (new : List ℕ) (i : ℕ) → at + length new ≤ i → get_or (put_at bytes at new) i 0 ≡ get_or bytes i 0
unfolding put_at
put_at-above bytes at new i above =
    get_or-append_right (take at (padded bytes at)) (new ++ drop (at + length new) bytes) at i 0 (length-front bytes at) (omega arith)
    ∙ get_or-append_right new (drop (at + length new) bytes) (length new) (i - at) 0 refl (omega arith)
    ∙ get_or-drop (at + length new) bytes (i - at - length new) 0
    ∙ ap (λ (n : ℕ). get_or bytes n 0) (let e : at + length new + (i - at - length new) ≡ i = omega arith in e)

pub length-put_at : (bytes : List ℕ) (at : ℕ) (new : List ℕ) → length (put_at bytes at new) ≡ at + length new + (length bytes - (at + length new))
unfolding put_at
length-put_at bytes at new =
    omega (arith, length-front bytes at, length-append (take at (padded bytes at)) (new ++ drop (at + length new) bytes), length-append new (drop (at + length new) bytes), length-drop (at + length new) bytes)

module _ (size : ℕ) where
  pub length-page_in : (bytes : List ℕ) (i : ℕ) → length (page_in size bytes i) ≡ size
  unfolding page_in
  length-page_in bytes i = omega (arith, length-take size (drop (i * size) bytes ++ replicate size 0), length-append (drop (i * size) bytes) (replicate size 0), length-replicate {A = ℕ} size 0)

  pub byte-page_in : (bytes : List ℕ) (i j : ℕ) → j < size → get_or (page_in size bytes i) j 0 ≡ get_or bytes (i * size + j) 0
  unfolding page_in
  byte-page_in bytes i j low =
      taken (drop (i * size) bytes ++ replicate size 0) size j low ∙ zeros_behind (drop (i * size) bytes) size j ∙ get_or-drop (i * size) bytes j 0
    where
      taken : (xs : List ℕ) (n i : ℕ) → i < n → get_or (take n xs) i 0 ≡ get_or xs i 0
      taken xs n i low = grind (arith, places)

  -- the same bytes there are the same page
  pub same_page : (xs ys : List ℕ) (i : ℕ) → ((j : ℕ) → j < size → get_or xs (i * size + j) 0 ≡ get_or ys (i * size + j) 0) → page_in size xs i ≡ page_in size ys i
  same_page xs ys i same = ext_get_or 0 (page_in size xs i) (page_in size ys i) (length-page_in xs i ∙ sym (length-page_in ys i))
      (λ j inside. let low : j < size = omega (arith, inside, length-page_in xs i) in byte-page_in xs i j low ∙ same j low ∙ sym (byte-page_in ys i j low))

  pub grown_page : (bytes : List ℕ) (n i : ℕ) → page_in size (bytes ++ replicate n 0) i ≡ page_in size bytes i
  grown_page bytes n i = same_page (bytes ++ replicate n 0) bytes i (λ j low. zeros_behind bytes n (i * size + j))

  pub put_here : (bytes : List ℕ) (i : ℕ) (new : List ℕ) → length new ≡ size → page_in size (put_at bytes (i * size) new) i ≡ new
  put_here bytes i new long = ext_get_or 0 (page_in size (put_at bytes (i * size) new) i) new (length-page_in (put_at bytes (i * size) new) i ∙ sym long)
      (λ j inside. let low : j < size = omega (arith, inside, length-page_in (put_at bytes (i * size) new) i) in byte-page_in (put_at bytes (i * size) new) i j low ∙ put_at-inside bytes (i * size) new j (omega arith))

  apart : (i j x : ℕ) → j ≢ i → x < size → (j * size + x < i * size) ⊎ (i * size + size ≤ j * size + x)
  apart i j x other low = elim (cases_lt j i) [
    | inl l ↦ let more : (j + 1) * size ≤ i * size = mul-le-mul_right size (omega arith) in inl (omega (arith, more))
    | inr l ↦ let above : i + 1 ≤ j = omega arith in let more : (i + 1) * size ≤ j * size = mul-le-mul_right size above in inr (omega (arith, more))
  ]

  pub put_other : (bytes : List ℕ) (i : ℕ) (new : List ℕ) (j : ℕ) → length new ≡ size → j ≢ i → page_in size (put_at bytes (i * size) new) j ≡ page_in size bytes j
  put_other bytes i new j long other = same_page (put_at bytes (i * size) new) bytes j
      (λ x low. ⊎_elim (λ l. put_at-below bytes (i * size) new (j * size + x) l) (λ l. put_at-above bytes (i * size) new (j * size + x) (omega (arith, l, long))) (apart i j x other low))
