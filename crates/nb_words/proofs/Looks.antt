-- What a word looks like, to `clap` and to the definition.
use Rattle.std.proofs.Common.{◌≡◌, ◌∙◌, ◌⊎◌, ℕ, ◌==◌, ◌&&◌, ◌||◌, true, false, List, [], ◌∷◌, length, drop, Option, Some, None, option_and_then, refl, ap, ap₂, sym, inl, inr, IsUtf8, nat_eq, codes, arith}
use Rattle.nb_words.proofs.Common.{bytes_eq, list_all, list_any, cases_Bool, cond-true, cond-false, and_left, and_from, both_ways, eqb-true, eqb-false, eq-eqb, ne_eqb, le-leb, long_of, long_of_rest, short_of, short_of_rest, strip_byte, name_and_value, Text, is_flag, is_flags}
use Rattle.nb_words.proofs.Rules.{is_in}
use Rattle.nb_words.proofs.Bundles.{rest_is_text}
use Rattle.nb_words.proofs.Steps.{IsPlain, IsBundle, IsLong, dashes}

strip_other : (x : ℕ) (xs : Text) → (x == 45) ≡ false → strip_byte 45 (x ∷ xs) ≡ None
strip_other x xs e = cond-false (x == 45) _ _ e

strip_dash : (x : ℕ) (xs : Text) → (x == 45) ≡ true → strip_byte 45 (x ∷ xs) ≡ Some xs
strip_dash x xs e = cond-true (x == 45) _ _ e

long_by : (word : Text) (o : Option Text) → strip_byte 45 word ≡ o → long_of word ≡ option_and_then long_of_rest (option_and_then (strip_byte 45) o)
long_by word o e = ap (λ (p : Option Text). option_and_then long_of_rest (option_and_then (strip_byte 45) p)) e

short_by : (word : Text) (o : Option Text) → strip_byte 45 word ≡ o → short_of word ≡ option_and_then short_of_rest o
short_by word o e = ap (λ (p : Option Text). option_and_then short_of_rest p) e

two : (x y : ℕ) (ys : Text) → is_flags (x ∷ y ∷ ys) ≡ (x == 45)
two x y ys = ap (λ b. b && (x == 45)) (le-leb 2 (length (x ∷ y ∷ ys)) (omega arith))

-- what the definition takes for a plain word
pub looks_plain : (word : Text) → bytes_eq word dashes ≡ false → is_flags word ≡ false → IsPlain word
looks_plain [] other no_flags = record { other = other; long = refl; short = refl }
looks_plain (x ∷ []) other no_flags = elim (cases_Bool (x == 45)) [
  | inl e ↦ record { other = other; long = long_by (x ∷ []) (Some []) (strip_dash x [] e); short = short_by (x ∷ []) (Some []) (strip_dash x [] e) }
  | inr e ↦ record { other = other; long = long_by (x ∷ []) None (strip_other x [] e); short = short_by (x ∷ []) None (strip_other x [] e) }
]
looks_plain (x ∷ y ∷ ys) other no_flags =
    let e : (x == 45) ≡ false = sym (two x y ys) ∙ no_flags in
    record { other = other; long = long_by (x ∷ y ∷ ys) None (strip_other x (y ∷ ys) e); short = short_by (x ∷ y ∷ ys) None (strip_other x (y ∷ ys) e) }

-- what it takes for flags: a long name, which is none of these flags, or a bundle
pub record Bundled (word : Text) : Type 0 where
  pub first : ℕ
  pub others : Text
  pub bundle : IsBundle word (first ∷ others)
  pub is : drop 1 word ≡ first ∷ others
  pub text : IsUtf8 (first ∷ others)

long_letters : (ls : List ℕ) (y : ℕ) (ys : Text) → is_in 45 ls ≡ false → (y == 45) ≡ true → list_all (λ z. is_in z ls) (y ∷ ys) ≡ false
long_letters ls y ys apart e = and_left (is_in y ls) (list_all (λ z. is_in z ls) ys) (ap (λ n. is_in n ls) (eqb-true y 45 e) ∙ apart)

looks_long : (ls : List ℕ) (x y : ℕ) (ys : Text) → is_in 45 ls ≡ false → (x == 45) ≡ true → (y == 45) ≡ true → bytes_eq (x ∷ y ∷ ys) dashes ≡ false → IsLong (x ∷ y ∷ ys)
looks_long ls x y [] apart e f other = absurd (both_ways (bytes_eq (x ∷ y ∷ []) dashes) other (and_from (x == 45) ((y == 45) && true) e (and_from (y == 45) true f refl)))
looks_long ls x y (z ∷ zs) apart e f other = record {
  name = (name_and_value (z ∷ zs)).0;
  value = (name_and_value (z ∷ zs)).1;
  other = other;
  long = long_by (x ∷ y ∷ z ∷ zs) (Some (y ∷ z ∷ zs)) (strip_dash x (y ∷ z ∷ zs) e) ∙ ap (λ (p : Option Text). option_and_then long_of_rest p) (strip_dash y (z ∷ zs) f);
}

pub looks_flags : (ls : List ℕ) (word : Text) → is_in 45 ls ≡ false → bytes_eq word dashes ≡ false → is_flags word ≡ true → IsUtf8 word
    → (IsLong word × (list_all (λ y. is_in y ls) (drop 1 word) ≡ false)) ⊎ Bundled word
looks_flags ls [] apart other flags u = absurd (cc)
looks_flags ls (x ∷ []) apart other flags u = absurd (cc)
looks_flags ls (x ∷ y ∷ ys) apart other flags u =
    let e : (x == 45) ≡ true = sym (two x y ys) ∙ flags in
    let is : x ≡ 45 = eqb-true x 45 e in
    elim (cases_Bool (y == 45)) [
      | inl f ↦ inl (looks_long ls x y ys apart e f other, long_letters ls y ys apart f)
      | inr f ↦ inr (record {
        first = y;
        others = ys;
        bundle = record {
          other = other;
          long = long_by (x ∷ y ∷ ys) (Some (y ∷ ys)) (strip_dash x (y ∷ ys) e) ∙ ap (λ (p : Option Text). option_and_then long_of_rest p) (strip_other y ys f);
          short = short_by (x ∷ y ∷ ys) (Some (y ∷ ys)) (strip_dash x (y ∷ ys) e) ∙ cond-false (y == 45) _ _ f;
        };
        is = refl;
        text = rest_is_text x (y ∷ ys) (omega (arith, is)) u;
      })
    ]

-- ---- the letters of the definition

pub turned : (x y : ℕ) → (x == y) ≡ (y == x)
turned x y = elim (cases_Bool (x == y)) [
  | inl e ↦ e ∙ sym (eq-eqb y x (sym (eqb-true x y e)))
  | inr e ↦ e ∙ sym (ne_eqb y x (λ d. eqb-false x y e (sym d)))
]

pub any_is_in : (ls : List ℕ) (x : ℕ) → list_any (nat_eq x) ls ≡ is_in x ls
any_is_in [] x = refl
any_is_in (y ∷ ys) x = ap₂ (λ a b. a || b) (turned x y) (any_is_in ys x)

pub all_in : (xs : List ℕ) → list_all is_flag xs ≡ list_all (λ y. is_in y (codes "BRLSNFI")) xs
all_in [] = refl
all_in (x ∷ xs) = ap₂ (λ a b. a && b) (any_is_in (codes "BRLSNFI") x) (all_in xs)
