-- The first line of some bytes, and the lines after it.
use Rattle.std.proofs.Common.{◌≡◌, ℕ, suc, ◌+◌, ◌<◌, ◌==◌, not, true, false, List, [], ◌∷◌, length, take, drop, refl, ap, sym, ◌∙◌, inl, inr, arith}
use Rattle.nb_script.proofs.Common.{cases_Bool, cond-true, cond-false, not_from_true, not_from_false, drop-drop, Bytes, lines_of, onto_first, first_len, numbered, is_skipped}

-- the lines of some bytes are what stands before a line feed, and the lines after it
abbrev Splits : Bytes → Type 0
Splits bytes = lines_of bytes ≡ take (first_len bytes) bytes ∷ lines_of (drop (suc (first_len bytes)) bytes)

at_feed : (b : ℕ) (bytes : Bytes) → (b == 10) ≡ true → Splits (b ∷ bytes)
unfolding lines_of
at_feed b bytes feed =
    let none : first_len (b ∷ bytes) ≡ 0 = cond-false (not (b == 10)) _ _ (not_from_true (b == 10) feed) in
    cond-true (b == 10) _ _ feed ∙ sym (ap (λ n. take n (b ∷ bytes) ∷ lines_of (drop (suc n) (b ∷ bytes))) none)

at_other : (b : ℕ) (bytes : Bytes) → (b == 10) ≡ false → onto_first b (lines_of bytes) ≡ (b ∷ take (first_len bytes) bytes) ∷ lines_of (drop (suc (first_len bytes)) bytes) → Splits (b ∷ bytes)
unfolding lines_of
at_other b bytes other behind =
    let more : first_len (b ∷ bytes) ≡ suc (first_len bytes) = cond-true (not (b == 10)) _ _ (not_from_false (b == 10) other) ∙ omega arith in
    cond-false (b == 10) _ _ other ∙ behind ∙ sym (ap (λ n. take n (b ∷ bytes) ∷ lines_of (drop (suc n) (b ∷ bytes))) more)

splits : (b : ℕ) (bytes : Bytes) → Splits (b ∷ bytes)
unfolding lines_of
splits b [] = elim (cases_Bool (b == 10)) [ inl feed ↦ at_feed b [] feed | inr other ↦ at_other b [] other refl ]
splits b (c ∷ bytes) = elim (cases_Bool (b == 10)) [
  | inl feed ↦ at_feed b (c ∷ bytes) feed
  | inr other ↦ at_other b (c ∷ bytes) other (ap (onto_first b) (splits c bytes))
]

pub first_of : (bytes : Bytes) → 0 < length bytes → lines_of bytes ≡ take (first_len bytes) bytes ∷ lines_of (drop 1 (drop (first_len bytes) bytes))
first_of [] h = absurd (omega arith)
first_of (b ∷ bytes) h =
    let n : ℕ = first_len (b ∷ bytes) in
    let next : n + 1 ≡ suc n = omega arith in
    let same : drop 1 (drop n (b ∷ bytes)) ≡ drop (suc n) (b ∷ bytes) = drop-drop 1 n (b ∷ bytes) ∙ ap (λ k. drop k (b ∷ bytes)) next in
    splits b bytes ∙ ap (λ (rest : Bytes). take n (b ∷ bytes) ∷ lines_of rest) (sym same)

-- no bytes, no lines
pub no_lines : (bytes : Bytes) → length bytes ≡ 0 → lines_of bytes ≡ []
unfolding lines_of
no_lines [] h = refl
no_lines (b ∷ bytes) h = absurd (omega arith)

pub none_numbered : (before : ℕ) → numbered before [] ≡ []
unfolding numbered
none_numbered before = refl

-- a skipped line leaves the others, and another one comes first
pub skipped : (before : ℕ) (line : Bytes) (lines : List Bytes) → is_skipped line ≡ true → numbered before (line ∷ lines) ≡ numbered (before + 1) lines
unfolding numbered
skipped before line lines h = cond-true (is_skipped line) _ _ h

pub kept : (before : ℕ) (line : Bytes) (lines : List Bytes) → is_skipped line ≡ false → numbered before (line ∷ lines) ≡ (before + 1, line) ∷ numbered (before + 1) lines
unfolding numbered
kept before line lines h = cond-false (is_skipped line) _ _ h
