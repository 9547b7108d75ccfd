-- What the form of a header says of the bytes, and that the first 64 bytes decide it.
use Rattle.std.proofs.Common.{◌≡◌, inl, inr, ℕ, suc, ◌+◌, ◌<◌, ◌≤◌, List, [], ◌∷◌, length, take, refl, sym, ap, ◌∙◌, arith, Bool, true, false, IsTrue, not, ◌&&◌, ◌||◌, ◌==◌, nat_le, nat_lt}
use Rattle.nb_model.proofs.Common.{true≢false, and_parts, leb-true, ltb-true, leb_tells, eqb_tells, number_of, number_in, is_zeros, is_header, is_marked, is_sound, state_of, size_of, scn_of, is_page_size, is_header-short, is_header-long, is_header-take, number_in-take, stalled_state, Page}

not_marked : (p : Page) → (number_in 0 1 p == 1) ≡ false → is_marked p ≡ false
unfolding is_marked
not_marked p e = rw e refl

-- the first byte of a page
pub first_byte : (b : ℕ) (bs : List ℕ) → number_in 0 1 (b ∷ bs) ≡ b
unfolding number_in number_of
first_byte b bs = omega arith

-- the bytes of a header
module _ (p : Page) (h : is_header p ≡ true) where
  pub header-long : 64 ≤ length p
  header-long = elim (leb_tells (suc (length p)) 64) [ inl w ↦ absurd (true≢false (sym h ∙ is_header-short p w.1)) | inr w ↦ omega (arith, w.1) ]

  pub form : (is_marked p && is_sound (state_of p) (size_of p) (scn_of p)) ≡ true
  form = sym (is_header-long p header-long) ∙ h

  -- the page size is one of the six
  pub header-size : IsTrue (is_page_size (size_of p))
  header-size = second _ _ _ _ (and_parts (is_marked p) _ form).1
    where
      second : (a b c d : Bool) → (a && b && c && d) ≡ true → b ≡ true
      second true true c d k = refl
      second true false c d k = absurd (true≢false (sym k))
      second false b c d k = absurd (true≢false (sym k))

  -- the state is one of the four
  pub header-state : state_of p ≤ 3
  header-state = leb-true (state_of p) 3 (first _ _ _ _ (and_parts (is_marked p) _ form).1)
    where
      first : (a b c d : Bool) → (a && b && c && d) ≡ true → a ≡ true
      first true b c d k = refl
      first false b c d k = absurd (true≢false (sym k))

  -- the SCN is 1 or more
  pub header-scn : 1 ≤ scn_of p
  header-scn = leb-true 1 (scn_of p) (third (nat_le (state_of p) 3) (is_page_size (size_of p)) (nat_le 1 (scn_of p)) (not (state_of p == stalled_state) || nat_lt (scn_of p) 4294967295) (and_parts (is_marked p) _ form).1)
    where
      third : (a b c d : Bool) → (a && b && c && d) ≡ true → c ≡ true
      third true true true d k = refl
      third true true false d k = absurd (true≢false (sym k))
      third true false c d k = absurd (true≢false (sym k))
      third false b c d k = absurd (true≢false (sym k))

  -- in the stalled state it isn't the last one
  pub header-room : state_of p ≡ stalled_state → scn_of p < 4294967295
  header-room stalled =
      ltb-true (scn_of p) 4294967295 (ap (λ (n : ℕ). not (n == 1) || nat_lt (scn_of p) 4294967295) (sym stalled)
      ∙ fourth (nat_le (state_of p) 3) (is_page_size (size_of p)) (nat_le 1 (scn_of p)) (not (state_of p == stalled_state) || nat_lt (scn_of p) 4294967295) (and_parts (is_marked p) _ form).1)
    where
      fourth : (a b c d : Bool) → (a && b && c && d) ≡ true → d ≡ true
      fourth true true true d k = k
      fourth true true false d k = absurd (true≢false (sym k))
      fourth true false c d k = absurd (true≢false (sym k))
      fourth false b c d k = absurd (true≢false (sym k))

  -- the first byte is the kind
  pub header-kind : number_in 0 1 p ≡ 1
  header-kind = elim (eqb_tells (number_in 0 1 p) 1) [
    | inl w ↦ w.1
    | inr w ↦ absurd (true≢false (sym (and_parts (is_marked p) _ form).0 ∙ not_marked p w.0))
  ]

-- a page whose first byte isn't 0 isn't all zeros
pub first-other : (b : ℕ) (bs : List ℕ) → (b == 0) ≡ false → is_zeros (b ∷ bs) ≡ false
first-other b bs e = rw e refl

pub header-other : (p : Page) → is_header p ≡ true → is_zeros p ≡ false
header-other [] h = absurd (let few : 64 ≤ 0 = header-long [] h in omega (arith, few))
header-other (b ∷ bs) h = first-other b bs (not_zero b (sym (first_byte b bs) ∙ header-kind (b ∷ bs) h))
  where
    not_zero : (b : ℕ) → b ≡ 1 → (b == 0) ≡ false
    not_zero b e = ap (λ (x : ℕ). x == 0) e

-- with the same first 64 bytes the header and its fields are the same
module _ (a b : List ℕ) (same : take 64 a ≡ take 64 b) where
  pub same-header : is_header a ≡ is_header b
  same-header = sym (is_header-take a) ∙ ap is_header same ∙ is_header-take b

  pub same-number : (at w : ℕ) → at + w ≤ 64 → number_in at w a ≡ number_in at w b
  same-number at w h = sym (number_in-take 64 at w a h) ∙ ap (λ (x : List ℕ). number_in at w x) same ∙ number_in-take 64 at w b h
