-- The definition, word by word.
use Rattle.std.proofs.Common.{ℕ, suc, ◌≤◌, ◌++◌, length, Option, None, IfSome, inl, inr, subst, sym, arith, ◌≡◌, true, false, List, [], ◌∷◌, drop, Some, refl, codes}
use Rattle.nb_words.proofs.Common.{cases_Bool, and_parts, and_from, list_all, same_name, Read, Word, read_words, with_word, with_flags, is_flags, is_flag}

pub read_dashes : (w : Word) (ws : List Word) → same_name w (codes "--") ≡ true → read_words (w ∷ ws) ≡ Some (record { flags = []; plain = ws })
unfolding read_words
read_dashes w ws e = rw (e, read_words) refl

pub read_plain : (w : Word) (ws : List Word) → same_name w (codes "--") ≡ false → is_flags w ≡ false → read_words (w ∷ ws) ≡ with_word w (read_words ws)
unfolding read_words
read_plain w ws e f = rw (e, f, read_words) refl

pub read_flags : (w : Word) (ws : List Word) → same_name w (codes "--") ≡ false → is_flags w ≡ true → list_all is_flag (drop 1 w) ≡ true → read_words (w ∷ ws) ≡ with_flags (drop 1 w) (read_words ws)
unfolding read_words
read_flags w ws e f g = rw (e, f, g, read_words) refl

pub read_other : (w : Word) (ws : List Word) → same_name w (codes "--") ≡ false → is_flags w ≡ true → list_all is_flag (drop 1 w) ≡ false → read_words (w ∷ ws) ≡ None
unfolding read_words
read_other w ws e f g = rw (e, f, g, read_words) refl

-- ---- the plain words are no more than all words

abbrev pub AtMost : ℕ → Option Read → Type 0
AtMost n o = IfSome o (λ r. length r.plain ≤ n)

one_more : (o : Option Read) (w : Word) (n : ℕ) → AtMost n o → AtMost (suc n) (with_word w o)
one_more None w n le = tt
one_more (Some r) w n le = omega (arith, le)

flags_more : (o : Option Read) (letters : List ℕ) (n : ℕ) → AtMost n o → AtMost (suc n) (with_flags letters o)
flags_more None letters n le = tt
flags_more (Some r) letters n le = omega (arith, le)

pub no_more : (words : List Word) → AtMost (length words) (read_words words)
unfolding read_words
no_more [] = omega arith
no_more (w ∷ ws) = elim (cases_Bool (same_name w (codes "--"))) [
  | inl e ↦ subst (AtMost (length (w ∷ ws))) (sym (read_dashes w ws e)) (omega arith)
  | inr e ↦ elim (cases_Bool (is_flags w)) [
    | inr f ↦ subst (AtMost (length (w ∷ ws))) (sym (read_plain w ws e f)) (one_more (read_words ws) w (length ws) (no_more ws))
    | inl f ↦ elim (cases_Bool (list_all is_flag (drop 1 w))) [
      | inl g ↦ subst (AtMost (length (w ∷ ws))) (sym (read_flags w ws e f g)) (flags_more (read_words ws) (drop 1 w) (length ws) (no_more ws))
      | inr g ↦ subst (AtMost (length (w ∷ ws))) (sym (read_other w ws e f g)) tt
    ]
  ]
]

-- ---- each flag that is read is one

abbrev pub AreFlags : Option Read → Type 0
AreFlags o = IfSome o (λ r. list_all is_flag r.flags ≡ true)

all_from : (o : Option Read) (letters : List ℕ) → list_all is_flag letters ≡ true → IfSome o (λ r. list_all is_flag r.flags ≡ true) → IfSome (with_flags letters o) (λ r. list_all is_flag r.flags ≡ true)
all_from None letters all rest = tt
all_from (Some r) [] all rest = rest
all_from (Some r) (x ∷ xs) all rest =
    let parts = and_parts (is_flag x) (list_all is_flag xs) all in
    and_from (is_flag x) (list_all is_flag (xs ++ r.flags)) parts.0 (all_from (Some r) xs parts.1 rest)

same_flags : (o : Option Read) (w : Word) → IfSome o (λ r. list_all is_flag r.flags ≡ true) → IfSome (with_word w o) (λ r. list_all is_flag r.flags ≡ true)
same_flags None w rest = tt
same_flags (Some r) w rest = rest

pub all_flags : (words : List Word) → IfSome (read_words words) (λ r. list_all is_flag r.flags ≡ true)
unfolding read_words
all_flags [] = refl
all_flags (w ∷ ws) = elim (cases_Bool (same_name w (codes "--"))) [
  | inl e ↦ subst AreFlags (sym (read_dashes w ws e)) refl
  | inr e ↦ elim (cases_Bool (is_flags w)) [
    | inr f ↦ subst AreFlags (sym (read_plain w ws e f)) (same_flags (read_words ws) w (all_flags ws))
    | inl f ↦ elim (cases_Bool (list_all is_flag (drop 1 w))) [
      | inl g ↦ subst AreFlags (sym (read_flags w ws e f g)) (all_from (read_words ws) (drop 1 w) g (all_flags ws))
      | inr g ↦ subst AreFlags (sym (read_other w ws e f g)) tt
    ]
  ]
]
