-- A list that is read has each name once.
use Rattle.std.proofs.Common.{◌≡◌, inl, inr, ℕ, zero, suc, ◌+◌, ◌<◌, ◌≤◌, List, [], ◌∷◌, ◌++◌, length, refl, sym, ap, subst, ◌∙◌, arith, append_assoc, length-append, ◌⊎◌, Bool, true, false, not, nat_lt, Some, None, Result, Ok, Err, if◌then◌else◌}
use Rattle.nb_catalog.proofs.Common.{slice_index_or, and_parts, cases_Bool, cases_lt, true≢false, append-nil, get_or_append_left, File, same_name, Refusal, BadScript, NoFile, ScriptLong, Bytes, lines_of, left, Numbered, with_first, AreDistinct, is_listed, is_next, list_of, names_on, some_names_on, names_in, not_true, err_not_ok, ok_equal}
use Rattle.nb_model.specs.Words.{is_file}
use Rattle.nb_catalog.proofs.InLaws.{In, any_of}
use Rattle.nb_catalog.proofs.ListLaws.{no_name, one_name}
use Rattle.nb_host.proofs.NameLaws.{same_self}

pub none_twice : AreDistinct []
none_twice i j low high same = absurd (omega (arith, low))

in_place : (names : List Bytes) (k : ℕ) → k < length names → In names (slice_index_or names k [])
in_place [] k low = absurd (omega (arith, low))
in_place (n ∷ ns) zero low = inl refl
in_place (n ∷ ns) (suc k) low = inr (in_place ns k (omega (arith, low)))

-- a name that isn't listed stands in no place
no_place : (names : List Bytes) (name : Bytes) (k : ℕ) → is_listed names name ≡ false → k < length names → slice_index_or names k [] ≡ name → ⊥
no_place names name k none low is =
    let listed : is_listed names name ≡ true = any_of (λ (m : Bytes). same_name m name) names (slice_index_or names k []) (in_place names k low) (ap (λ (m : Bytes). same_name m name) is ∙ same_self name) in
    true≢false (sym listed ∙ none)

front : (names : List Bytes) (name : Bytes) (k : ℕ) → k < length names → slice_index_or (names ++ name ∷ []) k [] ≡ slice_index_or names k []
front names name k low = get_or_append_left names (name ∷ []) [] k low

last : (names : List Bytes) (name : Bytes) (k : ℕ) → k ≡ length names → slice_index_or (names ++ name ∷ []) k [] ≡ name
last [] name k is = ap (λ (n : ℕ). slice_index_or (name ∷ []) n []) is
last (n ∷ ns) name zero is = absurd (omega (arith, is))
last (n ∷ ns) name (suc k) is = last ns name k (omega (arith, is))

distinct_more : (names : List Bytes) (name : Bytes) → AreDistinct names → is_listed names name ≡ false → AreDistinct (names ++ name ∷ [])
distinct_more names name distinct none i j low high same = by (cases_lt i (length names)) (cases_lt j (length names))
  where
    long : length (names ++ name ∷ []) ≡ length names + 1
    long = length-append names (name ∷ [])

    at_end : (k : ℕ) → length names ≤ k → k < length (names ++ name ∷ []) → k ≡ length names
    at_end k above below = omega (arith, above, below, long)

    by : (i < length names) ⊎ (length names ≤ i) → (j < length names) ⊎ (length names ≤ j) → i ≡ j
    by (inl a) (inl b) = distinct i j a b (sym (front names name i a) ∙ same ∙ front names name j b)
    by (inl a) (inr b) = absurd (no_place names name i none a (sym (front names name i a) ∙ same ∙ last names name j (at_end j b high)))
    by (inr a) (inl b) = absurd (no_place names name j none b (sym (front names name j b) ∙ sym same ∙ last names name i (at_end i a low)))
    by (inr a) (inr b) = at_end i a low ∙ sym (at_end j b high)

pub names_distinct : (most : ℕ) (before : List Bytes) (lines : List Numbered) (names : List Bytes) → AreDistinct before → names_on most before lines ≡ Ok names → AreDistinct (before ++ names)
unfolding names_on
names_distinct zero before [] names distinct is = subst (λ (ns : List Bytes). AreDistinct (before ++ ns)) (ok_equal {T = List Bytes} {E = Refusal} [] names is) (subst AreDistinct (sym (append-nil before)) distinct)
names_distinct (suc most) before [] names distinct is = subst (λ (ns : List Bytes). AreDistinct (before ++ ns)) (ok_equal {T = List Bytes} {E = Refusal} [] names is) (subst AreDistinct (sym (append-nil before)) distinct)
names_distinct zero before (line ∷ lines) names distinct is = absurd (err_not_ok (BadScript line.0) names (Err (BadScript line.0)) refl is)
names_distinct (suc most) before (line ∷ lines) names distinct is = elim (cases_Bool (is_next before line.1)) [
  | inl good ↦ by (names_on most (before ++ line.1 ∷ []) lines) (names_distinct most (before ++ line.1 ∷ []) lines) (new good) (sym (one_name most before line lines good) ∙ is)
  | inr bad ↦ absurd (err_not_ok (BadScript line.0) names (names_on (suc most) before (line ∷ lines)) (no_name most before line lines bad) is)
]
  where
    new : is_next before line.1 ≡ true → AreDistinct (before ++ line.1 ∷ [])
    new good = distinct_more before line.1 distinct (not_true (is_listed before line.1) (and_parts (is_file line.1) (not (is_listed before line.1)) good).1)

    by : (rest : Result (List Bytes) Refusal) → ((ns : List Bytes) → AreDistinct (before ++ line.1 ∷ []) → rest ≡ Ok ns → AreDistinct ((before ++ line.1 ∷ []) ++ ns)) → AreDistinct (before ++ line.1 ∷ []) → with_first line.1 rest ≡ Ok names → AreDistinct (before ++ names)
    by (Ok ns) further first e = subst (λ (x : List Bytes). AreDistinct (before ++ x)) (ok_equal {T = List Bytes} {E = Refusal} (line.1 ∷ ns) names e) (subst AreDistinct (append_assoc before (line.1 ∷ []) ns) (further ns first refl))
    by (Err r) further first e = absurd (err_not_ok r names (Err r) refl e)

pub list_distinct : (bytes : Bytes) (names : List Bytes) → list_of bytes ≡ Ok names → AreDistinct names
unfolding list_of some_names_on
list_distinct bytes names is = elim (cases_Bool (nat_lt 1048576 (length bytes))) [
  | inl long ↦ absurd (err_not_ok (ScriptLong (length bytes)) names (list_of bytes) (ap (λ (b : Bool). if b then Err (ScriptLong (length bytes)) else some_names_on (length (lines_of bytes)) (left 0 bytes)) long) is)
  | inr short ↦ by (left 0 bytes) (sym (ap (λ (b : Bool). if b then Err (ScriptLong (length bytes)) else some_names_on (length (lines_of bytes)) (left 0 bytes)) short) ∙ is)
]
  where
    by : (lines : List Numbered) → some_names_on (length (lines_of bytes)) lines ≡ Ok names → AreDistinct names
    by [] e = absurd (err_not_ok (BadScript (length (lines_of bytes) + 1)) names (Err (BadScript (length (lines_of bytes) + 1))) refl e)
    by (line ∷ lines) e = names_distinct 1000 [] (line ∷ lines) names none_twice e

pub listed_distinct : (list : List ℕ) (file : File) (names : List Bytes) → names_in list file ≡ Ok names → AreDistinct names
listed_distinct list None names is = absurd (err_not_ok (NoFile list) names (Err (NoFile list)) refl is)
listed_distinct list (Some bytes) names is = list_distinct bytes names is
