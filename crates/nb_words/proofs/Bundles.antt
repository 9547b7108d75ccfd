-- A word of flags: each letter is counted, and the first that is no flag is refused.
use Rattle.std.proofs.Common.{◌++◌, arith, ◌≡◌, ◌∙◌, ℕ, suc, ◌<◌, ◌≤◌, Bool, true, false, List, [], ◌∷◌, length, drop, Option, Some, None, unwrap_or, refl, ap, ap₂, sym, inl, inr, encode_utf8, slice_get, IsUtf8, nat_lt}
use Rattle.nb_words.proofs.Common.{chars, chars_after, continuation_len, lead_bits, list_all, cases_Bool, cond-true, lt-ltb, and_parts, and_cases, both_ways, encode_ascii, chars-encodes, byte_from_char, IsUtf8-past_char, usize_max, Rule, Text, Kinds, or_else, bundle_met, bundle_step, short_met, Held, Outcome, done, flags_fault, bundle_step_fault, short_fault}
use Rattle.clap.specs.Walk.{plain}
use Rattle.clap.specs.declared.error.kind.ErrorKind.TheVariants as kind
use Rattle.nb_words.proofs.Rules.{rules_for, is_in, short_found, short_missing}
use Rattle.nb_words.proofs.UseLaws.{held, after_waiting, after_bundle, reacted_is, react_passes}

-- ---- the first character

one_byte : (x : ℕ) → x < 128 → continuation_len x ≡ 0
one_byte x h = cond-true (nat_lt x 128) _ _ (lt-ltb x 128 h)

whole_byte : (x : ℕ) → x < 128 → lead_bits x ≡ x
whole_byte x h = cond-true (nat_lt x 128) _ _ (lt-ltb x 128 h)

starts : (x c : ℕ) (rest : Text) → c ≡ x → slice_get (chars_after 0 c rest) 0 ≡ Some x
starts x c [] f = ap (λ n. Some n) f
starts x c (y ∷ ys) f = ap (λ n. Some n) f

one_char : (x n c : ℕ) (rest : Text) → n ≡ 0 → c ≡ x → slice_get (chars_after n c rest) 0 ≡ Some x
one_char x n c rest e f = ap (λ m. slice_get (chars_after m c rest) 0) e ∙ starts x c rest f

-- a character below 128 is its byte
pub first_char : (x : ℕ) (xs : Text) → x < 128 → slice_get (chars (x ∷ xs)) 0 ≡ Some x
unfolding chars
first_char x [] h = one_char x (continuation_len x) (lead_bits x) [] (one_byte x h) (whole_byte x h)
first_char x (y ∷ ys) h = one_char x (continuation_len x) (lead_bits x) (y ∷ ys) (one_byte x h) (whole_byte x h)

rest_is : (x : ℕ) (xs : Text) → x < 128 → drop (length (encode_utf8 x)) (x ∷ xs) ≡ xs
rest_is x xs h = ap (λ (c : Text). drop (length c) (x ∷ xs)) (encode_ascii x h)

-- what follows a character below 128 is a text
pub rest_is_text : (x : ℕ) (xs : Text) → x < 128 → IsUtf8 (x ∷ xs) → IsUtf8 xs
rest_is_text x xs h u = IsUtf8-past_char (x ∷ xs) xs x u (sym (ap (λ (c : Text). c ++ xs) (encode_ascii x h)))

-- a text whose first byte is no flag begins with a character that is none
pub record Begins (ls : List ℕ) (t : Text) : Type 0 where
  pub char : ℕ
  pub is : slice_get (chars t) 0 ≡ Some char
  pub other : is_in char ls ≡ false

pub begins : (ls : List ℕ) (x : ℕ) (xs : Text) → ((y : ℕ) → is_in y ls ≡ true → y < 128) → IsUtf8 (x ∷ xs) → is_in x ls ≡ false → Begins ls (x ∷ xs)
begins ls x xs small ([], (ok, e)) other = absurd (cc)
begins ls x xs small (y ∷ ys, (ok, e)) other = record {
  char = y;
  is = ap (λ (t : Text). slice_get t 0) (sym (ap chars e) ∙ chars-encodes (y ∷ ys) ok);
  other = elim (cases_Bool (is_in y ls)) [
    | inl h ↦ absurd (both_ways (is_in x ls) other (ap (λ n. is_in n ls) (byte_from_char (x ∷ xs) _ y (sym e) (small y h)) ∙ h))
    | inr h ↦ h
  ];
}

-- ---- what a bundle does

module _ (ls : List ℕ) (small : (y : ℕ) → is_in y ls ≡ true → y < 128) where
  bundle_letter : (k x : ℕ) (xs : Text) (so_far : Outcome) (waiting : Option (List Text)) (rows : _) → is_in x ls ≡ true
      → bundle_met (rules_for ls) (suc k) (x ∷ xs) 0 so_far (held rows waiting) ≡ bundle_met (rules_for ls) k xs 0 done (held (after_bundle (x ∷ []) (after_waiting waiting rows)) None)
  unfolding bundle_met
  bundle_letter k x xs so_far waiting rows letter =
      let c = rules_for ls in
      ap (λ o. bundle_step c o (x ∷ xs) 0 so_far (held rows waiting) (bundle_met c k)) (first_char x xs (small x letter))
      ∙ ap₂ (λ (rest : Text) (a : Option Rule). short_met c a rest (held rows waiting) (bundle_met c k rest 0 done)) (rest_is x xs (small x letter)) (short_found ls x letter)
      ∙ ap (bundle_met c k xs 0 done) (reacted_is ls x waiting rows)

  bundle_end : (so_far : Outcome) (h : Held) → bundle_met (rules_for ls) 0 [] 0 so_far h ≡ (h, so_far)
  unfolding bundle_met
  bundle_end so_far h = refl

  bundle_letters : (xs : Text) (rows : _) → list_all (λ x. is_in x ls) xs ≡ true → bundle_met (rules_for ls) (length xs) xs 0 done (held rows None) ≡ (held (after_bundle xs rows) None, done)
  bundle_letters [] rows all = bundle_end done (held rows None)
  bundle_letters (x ∷ xs) rows all =
      let parts = and_parts (is_in x ls) (list_all (λ y. is_in y ls) xs) all in
      bundle_letter (length xs) x xs done None rows parts.0 ∙ bundle_letters xs (after_bundle (x ∷ []) rows) parts.1

  -- a word of flags is read whole
  pub bundle_read : (x : ℕ) (xs : Text) (waiting : Option (List Text)) (rows : _) → list_all (λ y. is_in y ls) (x ∷ xs) ≡ true
      → bundle_met (rules_for ls) (length (x ∷ xs)) (x ∷ xs) 0 plain (held rows waiting) ≡ (held (after_bundle (x ∷ xs) (after_waiting waiting rows)) None, done)
  bundle_read x xs waiting rows all =
      let parts = and_parts (is_in x ls) (list_all (λ y. is_in y ls) xs) all in
      bundle_letter (length xs) x xs plain waiting rows parts.0 ∙ bundle_letters xs (after_bundle (x ∷ []) (after_waiting waiting rows)) parts.1

  -- ---- what it refuses

  module _ (again : Bool) where
    fault_letter : (k x : ℕ) (xs : Text) (waiting : Option (List Text)) (rows : _) → is_in x ls ≡ true → length (unwrap_or waiting []) ≤ usize_max
        → flags_fault (rules_for ls) again (suc k) (x ∷ xs) 0 (held rows waiting) ≡ flags_fault (rules_for ls) again k xs 0 (held (after_bundle (x ∷ []) (after_waiting waiting rows)) None)
    unfolding flags_fault
    fault_letter k x xs waiting rows letter le =
        let c = rules_for ls in
        ap (λ o. bundle_step_fault c again o (x ∷ xs) 0 (held rows waiting) (flags_fault c again k)) (first_char x xs (small x letter))
        ∙ ap₂ (λ (rest : Text) (a : Option Rule). short_fault c again a rest (held rows waiting) (flags_fault c again k rest 0)) (rest_is x xs (small x letter)) (short_found ls x letter)
        ∙ ap₂ (λ (f : Kinds) (h : Held). or_else f (flags_fault c again k xs 0 h)) (react_passes ls again x waiting rows le) (reacted_is ls x waiting rows)

    fault_end : (h : Held) → flags_fault (rules_for ls) again 0 [] 0 h ≡ []
    unfolding flags_fault
    fault_end h = refl

    pub bundle_passes : (xs : Text) (waiting : Option (List Text)) (rows : _) → list_all (λ x. is_in x ls) xs ≡ true → length (unwrap_or waiting []) ≤ usize_max
        → flags_fault (rules_for ls) again (length xs) xs 0 (held rows waiting) ≡ []
    bundle_passes [] waiting rows all le = fault_end (held rows waiting)
    bundle_passes (x ∷ xs) waiting rows all le =
        let parts = and_parts (is_in x ls) (list_all (λ y. is_in y ls) xs) all in
        fault_letter (length xs) x xs waiting rows parts.0 le ∙ bundle_passes xs None (after_bundle (x ∷ []) (after_waiting waiting rows)) parts.1 (omega arith)

    fault_other : (k x : ℕ) (xs : Text) (h : Held) → Begins ls (x ∷ xs) → flags_fault (rules_for ls) again (suc k) (x ∷ xs) 0 h ≡ kind.UnknownArgument ∷ []
    unfolding flags_fault
    fault_other k x xs h b =
        let c = rules_for ls in
        ap (λ o. bundle_step_fault c again o (x ∷ xs) 0 h (flags_fault c again k)) b.is
        ∙ ap (λ (a : Option Rule). short_fault c again a (drop (length (encode_utf8 b.char)) (x ∷ xs)) h (flags_fault c again k (drop (length (encode_utf8 b.char)) (x ∷ xs)) 0)) (short_missing ls b.char b.other)

    -- a word with a letter that is no flag is refused
    pub bundle_refused : (xs : Text) (waiting : Option (List Text)) (rows : _) → list_all (λ x. is_in x ls) xs ≡ false → IsUtf8 xs → length (unwrap_or waiting []) ≤ usize_max
        → flags_fault (rules_for ls) again (length xs) xs 0 (held rows waiting) ≡ kind.UnknownArgument ∷ []
    bundle_refused [] waiting rows some u le = absurd (cc)
    bundle_refused (x ∷ xs) waiting rows some u le = elim (cases_Bool (is_in x ls)) [
      | inl letter ↦
          let rest : list_all (λ y. is_in y ls) xs ≡ false = elim (and_cases (is_in x ls) (list_all (λ y. is_in y ls) xs) some) [
            | inl missed ↦ absurd (both_ways (is_in x ls) missed letter)
            | inr missed ↦ missed
          ] in
          fault_letter (length xs) x xs waiting rows letter le
          ∙ bundle_refused xs None (after_bundle (x ∷ []) (after_waiting waiting rows)) rest (rest_is_text x xs (small x letter) u) (omega arith)
      | inr other ↦ fault_other (length xs) x xs (held rows waiting) (begins ls x xs small u other)
    ]
