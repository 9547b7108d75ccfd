-- What was written of a word is read again.
use Rattle.std.proofs.Common.{◌≡◌, ℕ, ◌+◌, ◌^◌, ◌<◌, ◌≤◌, ◌==◌, ◌&&◌, ◌||◌, not, Bool, true, [], ◌∷◌, ◌++◌, length, take, drop, slice_index, Option, Some, None, option_map, if◌then◌else◌, codes, refl, ap, ap₂, ◌∙◌, inl, inr, arith, nat_lt, nat_le, length-append}
use Rattle.nb_script.proofs.Common.{prefix_len, list_all, decimal, digit_value, AllDigits, and_from, and_parts, or_left, or_right, le-leb, lt-ltb, cond-true, cases_lt, ne_eqb, eq-eqb, not_from_false, take_at, drop_at, get_or_at, is_name, is_name_byte, is_table_name, is_table_byte, Bytes, ◌>>=◌, after, is_digit, digit_count, is_plain, value_of, number_at, within, is_text_byte, closed, text_at, is_given, name_len, named, name_at, table_at, quoted}
use Rattle.std.proofs.lemmas.Fmt.{decimal_is_IsNumeral, decimal_digit, first_decimal}
use Rattle.std.proofs.lemmas.Str.Parse.{digit_from_value}
use Rattle.nb_script.proofs.Numbers.{fitting}

-- bytes that all pass a test, before bytes that begin with none
pub prefix_all : (p : ℕ → Bool) (xs rest : Bytes) → list_all p xs ≡ true → prefix_len p rest ≡ 0 → prefix_len p (xs ++ rest) ≡ length xs
prefix_all p [] rest all none = none
prefix_all p (x ∷ xs) rest all none =
    let parts = and_parts (p x) (list_all p xs) all in
    cond-true (p x) _ _ parts.0 ∙ ap (λ n. 1 + n) (prefix_all p xs rest parts.1 none) ∙ omega arith

digit_is : (b : ℕ) → digit_value b < 10 → is_digit b ≡ true
digit_is b h = let r = digit_from_value b h in and_from (nat_le 48 b) (nat_le b 57) (le-leb 48 b r.0) (le-leb b 57 r.1)

all_digits : (ds : Bytes) → AllDigits 10 ds → list_all is_digit ds ≡ true
all_digits [] h = refl
all_digits (d ∷ ds) h = and_from (is_digit d) (list_all is_digit ds) (digit_is d h.0) (all_digits ds h.1)

pub digits_of : (n : ℕ) → n < 2 ^ 64 → list_all is_digit (decimal n) ≡ true
digits_of n h = all_digits (decimal n) (decimal_is_IsNumeral n h).0.1

plain_decimal : (n : ℕ) → n < 2 ^ 64 → is_plain (decimal n) ≡ true
plain_decimal n h =
    let numeral = decimal_is_IsNumeral n h in
    let ds : Bytes = decimal n in
    and_from (nat_lt 0 (length ds)) (not (slice_index ds 0 == 48) || length ds == 1) (lt-ltb 0 (length ds) numeral.0.0)
    (elim (cases_lt n 1) [
      | inl least ↦
          let digit : ds ≡ (48 + n) ∷ [] = decimal_digit n (omega arith) in
          or_right (not (slice_index ds 0 == 48)) (length ds == 1) (eq-eqb (length ds) 1 (ap length digit))
      | inr positive ↦
          let first = first_decimal n positive h in
          or_left (not (slice_index ds 0 == 48)) (length ds == 1) (not_from_false (slice_index ds 0 == 48) (ne_eqb (slice_index ds 0) 48 (λ e. absurd (omega arith))))
    ])

-- what is read of some digits and the rest
abbrev number_of : Bytes → Bytes → Option (ℕ × Bytes)
number_of front back = if is_plain front then option_map (λ v. (v, back)) (value_of front) else None

pub number_again : (n : ℕ) (rest : Bytes) → n < 2 ^ 64 → digit_count rest ≡ 0 → number_at (decimal n ++ rest) ≡ Some (n, rest)
unfolding number_at
number_again n rest h none =
    let ds : Bytes = decimal n in
    let numeral = decimal_is_IsNumeral n h in
    let count : digit_count (ds ++ rest) ≡ length ds = prefix_all is_digit ds rest (all_digits ds numeral.0.1) none in
    let front : take (digit_count (ds ++ rest)) (ds ++ rest) ≡ ds = ap (λ k. take k (ds ++ rest)) count ∙ take_at ds rest (length ds) refl in
    let back : drop (digit_count (ds ++ rest)) (ds ++ rest) ≡ rest = ap (λ k. drop k (ds ++ rest)) count ∙ drop_at ds rest (length ds) refl in
    let value : value_of ds ≡ Some n = fitting ds (omega (arith, numeral.1)) ∙ ap (λ v. Some v) numeral.1 in
    ap₂ number_of front back ∙ cond-true (is_plain ds) _ _ (plain_decimal n h) ∙ ap (option_map (λ v. (v, rest))) value

pub within_again : (least most n : ℕ) (rest : Bytes) → most < 2 ^ 64 → least ≤ n → n ≤ most → digit_count rest ≡ 0 → within least most (decimal n ++ rest) ≡ Some (n, rest)
unfolding within
within_again least most n rest small low high none =
    ap (λ o. o >>= (λ (x : ℕ × Bytes). if nat_le least x.0 && nat_le x.0 most then Some x else None)) (number_again n rest (omega arith) none)
    ∙ cond-true (nat_le least n && nat_le n most) _ _ (and_from _ _ (le-leb least n low) (le-leb n most high))

pub closed_again : (text : Bytes) → list_all is_text_byte text ≡ true → closed (text ++ codes "'") ≡ Some text
unfolding closed
closed_again text all =
    let bytes : Bytes = text ++ 39 ∷ [] in
    let len : length bytes ≡ length text + 1 = length-append text (39 ∷ []) in
    let mark : slice_index bytes (length text) ≡ 39 = get_or_at text 39 [] 0 (length text) refl in
    ap (λ n. if length bytes == n + 1 && slice_index bytes n == 39 then Some (take n bytes) else None) (prefix_all is_text_byte text (39 ∷ []) all refl)
    ∙ cond-true (length bytes == length text + 1 && slice_index bytes (length text) == 39) _ _ (and_from _ _ (eq-eqb _ _ len) (eq-eqb _ _ mark))
    ∙ ap (λ t. Some t) (take_at text (39 ∷ []) (length text) refl)

pub text_again : (text : Bytes) → list_all is_text_byte text ≡ true → text_at (quoted text) ≡ Some text
unfolding after
text_again text all = closed_again text all

after_quote : (rest : Bytes) → after (codes "'") (codes "'" ++ rest) ≡ Some rest
unfolding after
after_quote rest = refl

-- what is read of a name and the rest
abbrev named_of : ℕ → Bytes → Bytes → Option (Bytes × Bytes)
named_of most front back = if is_given most front then option_map (λ rest. (front, rest)) (after (codes "'") back) else None

named_again : (most : ℕ) (name rest : Bytes) → is_given most name ≡ true → named most (name ++ (codes "'" ++ rest)) ≡ Some (name, rest)
unfolding named
named_again most name rest given =
    let bytes : Bytes = name ++ (39 ∷ rest) in
    let whole = and_parts (nat_lt 0 (length name) && nat_le (length name) 100) (list_all is_name_byte name) (and_parts (is_name name) _ (and_parts (is_name name && nat_le (length name) most) _ given).0).0 in
    let count : name_len bytes ≡ length name = prefix_all is_name_byte name (39 ∷ rest) whole.1 refl in
    let front : take (name_len bytes) bytes ≡ name = ap (λ k. take k bytes) count ∙ take_at name (39 ∷ rest) (length name) refl in
    let back : drop (name_len bytes) bytes ≡ 39 ∷ rest = ap (λ k. drop k bytes) count ∙ drop_at name (39 ∷ rest) (length name) refl in
    ap₂ (named_of most) front back ∙ cond-true (is_given most name) _ _ given ∙ ap (option_map (λ (r : Bytes). (name, r))) (after_quote rest)

pub name_again : (most : ℕ) (name rest : Bytes) → is_given most name ≡ true → name_at most (codes "'" ++ (name ++ (codes "'" ++ rest))) ≡ Some (name, rest)
unfolding name_at
name_again most name rest given = ap (λ o. o >>= named most) (after_quote (name ++ (codes "'" ++ rest))) ∙ named_again most name rest given

-- what is read of a table's name and the rest
abbrev table_of : Bytes → Bytes → Option (Bytes × Bytes)
table_of front back = if is_table_name front then Some (front, back) else None

pub table_again : (table rest : Bytes) → is_table_name table ≡ true → prefix_len is_table_byte rest ≡ 0 → table_at (table ++ rest) ≡ Some (table, rest)
unfolding table_at
table_again table rest given none =
    let bytes : Bytes = table ++ rest in
    let all = (and_parts _ (list_all is_table_byte table) given).1 in
    let count : prefix_len is_table_byte bytes ≡ length table = prefix_all is_table_byte table rest all none in
    let front : take (prefix_len is_table_byte bytes) bytes ≡ table = ap (λ k. take k bytes) count ∙ take_at table rest (length table) refl in
    let back : drop (prefix_len is_table_byte bytes) bytes ≡ rest = ap (λ k. drop k bytes) count ∙ drop_at table rest (length table) refl in
    ap₂ table_of front back ∙ cond-true (is_table_name table) _ _ given
