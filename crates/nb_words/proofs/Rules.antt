-- The rules of a command line of these flags: which one a letter, a long name, a place or an id finds.
use Rattle.std.proofs.Common.{◌≡◌, ◌∙◌, ℕ, ◌==◌, ◌||◌, Bool, true, false, List, [], ◌∷◌, Option, Some, None, refl, ap, inl, inr, cond}
use Rattle.nb_words.proofs.Common.{bytes_eq, cases_Bool, cond-true, cond-false, or_parts, or_cases, or_from, or_left, eqb-true, and_right, filled, with_index, Rule, Text, arg_by_short, arg_by_long, arg_by_index, arg_by_id, flag, plain, words_id}

-- the rule of a flag, and that of the plain words, once the command is built
abbrev pub letter_rule : ℕ → Rule
letter_rule x = filled (flag x)

abbrev pub plain_rule : Rule
plain_rule = with_index 1 (filled plain)

-- the rules of these flags
abbrev pub rules_for : List ℕ → List Rule
rules_for [] = plain_rule ∷ []
rules_for (x ∷ xs) = letter_rule x ∷ rules_for xs

-- one of these letters
abbrev pub is_in : ℕ → List ℕ → Bool
is_in x [] = false
is_in x (y ∷ ys) = (y == x) || is_in x ys

here : (y x : ℕ) (rest : Option Rule) → (y == x) ≡ true → cond ((y == x) || false) (Some (letter_rule y)) rest ≡ Some (letter_rule x)
here y x rest e = cond-true ((y == x) || false) _ _ (or_left (y == x) false e) ∙ ap (λ n. Some (letter_rule n)) (eqb-true y x e)

later : (y x : ℕ) (rest : Option Rule) → (y == x) ≡ false → cond ((y == x) || false) (Some (letter_rule y)) rest ≡ rest
later y x rest e = cond-false ((y == x) || false) _ _ (or_from (y == x) false e refl)

-- a letter that is a flag finds its rule
pub short_found : (ls : List ℕ) (x : ℕ) → is_in x ls ≡ true → arg_by_short (rules_for ls) x ≡ Some (letter_rule x)
short_found [] x h = absurd (cc)
short_found (y ∷ ys) x h = elim (cases_Bool (y == x)) [
  | inl e ↦ here y x (arg_by_short (rules_for ys) x) e
  | inr e ↦ elim (or_cases (y == x) (is_in x ys) h) [
    | inl f ↦ here y x (arg_by_short (rules_for ys) x) f
    | inr f ↦ later y x (arg_by_short (rules_for ys) x) e ∙ short_found ys x f
  ]
]

-- no other finds any
pub short_missing : (ls : List ℕ) (x : ℕ) → is_in x ls ≡ false → arg_by_short (rules_for ls) x ≡ None
short_missing [] x h = refl
short_missing (y ∷ ys) x h =
    let parts = or_parts (y == x) (is_in x ys) h in
    later y x (arg_by_short (rules_for ys) x) parts.0 ∙ short_missing ys x parts.1

-- there are no long names
pub long_missing : (ls : List ℕ) (name : Text) → arg_by_long (rules_for ls) name ≡ None
long_missing [] name = refl
long_missing (y ∷ ys) name = long_missing ys name

-- the plain words have the first place
pub plain_by_index : (ls : List ℕ) → arg_by_index (rules_for ls) 1 ≡ Some plain_rule
plain_by_index [] = refl
plain_by_index (y ∷ ys) = plain_by_index ys

-- a flag isn't called as the plain words are
pub letter_is_not_words : (x : ℕ) → bytes_eq (x ∷ []) words_id ≡ false
letter_is_not_words x = and_right (x == 119) false refl

pub plain_by_id : (ls : List ℕ) → arg_by_id (rules_for ls) words_id ≡ Some plain_rule
plain_by_id [] = refl
plain_by_id (y ∷ ys) = cond-false (bytes_eq (y ∷ []) words_id) _ _ (letter_is_not_words y) ∙ plain_by_id ys
