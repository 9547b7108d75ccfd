-- What one word reads as.
use Rattle.std.proofs.Common.{◌≡◌, ◌∙◌, ◌<◌, ◌^◌, ℕ, ◌==◌, ◌&&◌, ◌||◌, not, Bool, true, false, List, [], ◌∷◌, length, drop, slice_index, Option, Some, None, Result, Ok, Err, refl, ap, sym, subst, inl, inr, cond, nat_le, nat_lt, arith}
use Rattle.nb_words.proofs.Common.{list_all, cases_Bool, and_parts, leb-true, lt-ltb, ltb-true, ne_eqb, digit_value_digit, parsed, parsed_hyphenated, Word, number_in_word, is_plain_number}
use Rattle.std.specs.Result.{result_ok, OkIff}
use Rattle.std.specs.Str.Parse.{digits_value, without_leading_plus, IsNumeral, AllDigits, ParsesUnsigned}

-- ---- GUIDs

parsed_by_length : (s : Word) → length s ≡ 36 → parsed s ≡ parsed_hyphenated s
parsed_by_length s e = rw (e, parsed, parsed_hyphenated) refl

pub guid_none : (s : Word) → length s ≡ 36 → ((u : _) → parsed s ≡ Some u → ⊥) → None ≡ parsed_hyphenated s
guid_none s e none = go (parsed_hyphenated s) refl where
  go : (o : Option (List ℕ)) → parsed_hyphenated s ≡ o → None ≡ o
  go None f = refl
  go (Some u) f = absurd (none u (parsed_by_length s e ∙ f))

-- ---- numbers

all_digits : (bs : Word) → list_all (λ b. nat_le 48 b && nat_le b 57) bs ≡ true → AllDigits 10 bs
all_digits [] all = tt
all_digits (b ∷ bs) all =
    let parts = and_parts (nat_le 48 b && nat_le b 57) (list_all (λ b. nat_le 48 b && nat_le b 57) bs) all in
    let range = and_parts (nat_le 48 b) (nat_le b 57) parts.0 in
    let value = digit_value_digit b (leb-true 48 b range.0, leb-true b 57 range.1) in
    let most = leb-true b 57 range.1 in
    (omega (arith, value, most), all_digits bs parts.1)

no_plus : (bs : Word) → 0 < length bs → list_all (λ b. nat_le 48 b && nat_le b 57) bs ≡ true → without_leading_plus bs ≡ bs
no_plus [] some all = absurd (omega (arith, some))
no_plus (b ∷ bs) some all =
    let parts = and_parts (nat_le 48 b && nat_le b 57) (list_all (λ b. nat_le 48 b && nat_le b 57) bs) all in
    let range = and_parts (nat_le 48 b) (nat_le b 57) parts.0 in
    let least = leb-true 48 b range.0 in
    ap (λ (plus : Bool). drop (cond plus 1 0) (b ∷ bs)) (ne_eqb b 43 (λ e. omega (arith, e, least)))

-- a number where a test holds
abbrev number_if : Bool → ℕ → Option ℕ
number_if b n = elim b [ true ↦ Some n | false ↦ None ]

parses : {E : Type 0} (bs : Word) (r : Result ℕ E) → OkIff r (IsNumeral 10 bs × (digits_value 10 bs < 2 ^ 64)) (digits_value 10 bs) → IsNumeral 10 bs → result_ok r ≡ number_if (nat_lt (digits_value 10 bs) (2 ^ 64)) (digits_value 10 bs)
parses bs (Ok x) h numeral = ap (λ n. Some n) h.1 ∙ sym (ap (λ b. number_if b (digits_value 10 bs)) (lt-ltb (digits_value 10 bs) (2 ^ 64) h.0.1))
parses bs (Err e) h numeral = elim (cases_Bool (nat_lt (digits_value 10 bs) (2 ^ 64))) [
  | inl fits ↦ absurd (h (numeral, ltb-true (digits_value 10 bs) (2 ^ 64) fits))
  | inr over ↦ sym (ap (λ b. number_if b (digits_value 10 bs)) over)
]

part_false : (a b c d : Bool) → (a && (b && c)) ≡ false → (a && (b && (c && d))) ≡ false
part_false false b c d e = refl
part_false true false c d e = refl
part_false true true false d e = refl
part_false true true true d e = absurd (cc)

last_part : (a b c d : Bool) → (a && (b && c)) ≡ true → (a && (b && (c && d))) ≡ d
last_part false b c d e = absurd (cc)
last_part true false c d e = absurd (cc)
last_part true true false d e = absurd (cc)
last_part true true true d e = refl

abbrev fits : Word → Bool
fits w = nat_lt (digits_value 10 w) (2 ^ 64)

pub number_none : (w : Word) → is_plain_number w ≡ false → None ≡ number_in_word w
unfolding number_in_word
number_none w e = sym (ap (λ b. number_if b (digits_value 10 w)) (part_false (nat_lt 0 (length w)) (list_all (λ b. nat_le 48 b && nat_le b 57) w) (length w == 1 || not (slice_index w 0 == 48)) (fits w) e))

pub number_some : {E : Type 0} (w : Word) (r : Result ℕ E) → is_plain_number w ≡ true → ParsesUnsigned 64 10 w r → result_ok r ≡ number_in_word w
unfolding number_in_word
number_some w r e h =
    let c = length w == 1 || not (slice_index w 0 == 48) in
    let parts = and_parts (nat_lt 0 (length w)) (list_all (λ b. nat_le 48 b && nat_le b 57) w && c) e in
    let digits = (and_parts (list_all (λ b. nat_le 48 b && nat_le b 57) w) c parts.1).0 in
    let some = ltb-true 0 (length w) parts.0 in
    let plain : OkIff r (IsNumeral 10 w × (digits_value 10 w < 2 ^ 64)) (digits_value 10 w) =
    subst (λ (t : Word). OkIff r (IsNumeral 10 t × (digits_value 10 t < 2 ^ 64)) (digits_value 10 t)) (no_plus w some digits) h in
    parses w r plain (some, all_digits w digits)
    ∙ sym (ap (λ b. number_if b (digits_value 10 w)) (last_part (nat_lt 0 (length w)) (list_all (λ b. nat_le 48 b && nat_le b 57) w) c (fits w) e))
