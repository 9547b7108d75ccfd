-- One more flag, one more plain word, and the plain words that wait: what was seen so far, and that none of it is refused.
use Rattle.std.proofs.Common.{◌≡◌, ◌∙◌, ℕ, ◌+◌, ◌<◌, ◌≤◌, ◌==◌, min, Bool, true, false, List, [], ◌∷◌, ◌++◌, length, Option, Some, None, unwrap_or, option_map, refl, ap, sym, subst, inl, inr, pos, arith, nat_lt, append-nil, append_assoc}
use Rattle.nb_words.proofs.Common.{option_map_or, bytes_eq, cases_Bool, cond-true, cond-false, and_left, and_right, eqb-true, agree_below_at, le-ltb, count_text, usize_max, Row, Text, Kinds, or_else, values_kinds, range_kinds, use_fault, settle_fault, react_fault, Held, used, used_by_id, settled, settled_rows, reacted, with_values, without, reading_by, count_of, values_or_missing, CommandLine, words_id, words_in, times}
use Rattle.clap.specs.ValueTests.{accepts}
use Rattle.clap.specs.declared.builder.value_parser.ValueParser.TheVariants as vp
use Rattle.nb_words.proofs.Rules.{rules_for, letter_rule, plain_rule, plain_by_id, letter_is_not_words}
use Rattle.nb_words.proofs.RowLaws.{count_at, count_written, other_count, other_values, other_without, values_written}

-- what is held: the rows, and the plain words that wait
abbrev pub held : List Row → Option (List Text) → Held
held rows waiting = record { rows = rows; pending = option_map (λ vs. (words_id, vs)) waiting; skip = 0 }

-- the rows and the waiting words hold these flags and plain words
pub record Seen (rows : List Row) (waiting : Option (List Text)) (flags : List ℕ) (plain : List Text) : Type 0 where
  pub counts : (x : ℕ) → count_of (x ∷ []) rows ≡ min (times x flags) 255
  pub words : words_in rows ++ unwrap_or waiting [] ≡ plain

-- the rows once the waiting words are used
abbrev pub after_waiting : Option (List Text) → List Row → List Row
after_waiting None rows = rows
after_waiting (Some vs) rows = with_values words_id (reading_by plain_rule) CommandLine vs rows

words_kept : (vs : List Text) → values_or_missing plain_rule vs ≡ vs
words_kept [] = refl
words_kept (v ∷ vs) = refl

pub settled_is : (ls : List ℕ) (waiting : Option (List Text)) (rows : List Row) → settled_rows (rules_for ls) (option_map (λ vs. (words_id, vs)) waiting) rows ≡ after_waiting waiting rows
settled_is ls None rows = refl
settled_is ls (Some vs) rows =
    ap (λ o. used_by_id o vs rows) (plain_by_id ls) ∙ ap (λ (t : List Text). with_values words_id (reading_by plain_rule) CommandLine t rows) (words_kept vs)

pub reacted_is : (ls : List ℕ) (x : ℕ) (waiting : Option (List Text)) (rows : List Row) → reacted (rules_for ls) (letter_rule x) [] (held rows waiting) ≡ held (used (letter_rule x) [] (after_waiting waiting rows)) None
reacted_is ls x waiting rows = ap (λ (r : List Row). held (used (letter_rule x) [] r) None) (settled_is ls waiting rows)

-- ---- nothing is refused

pub no_else : (a b : Kinds) → a ≡ [] → b ≡ [] → or_else a b ≡ []
no_else [] b e f = f
no_else (k ∷ ks) b e f = absurd (cc)

texts_pass : (vs : List Text) → values_kinds false vp.String vs ≡ []
texts_pass [] = refl
texts_pass (v ∷ vs) = texts_pass vs

in_range : (n : ℕ) → n ≤ usize_max → range_kinds 0 usize_max n ≡ []
in_range n le = cond-false (nat_lt n 0) _ _ (le-ltb n 0 (omega arith)) ∙ cond-false (nat_lt usize_max n) _ _ (le-ltb usize_max n le)

pub words_pass : (again : Bool) (vs : List Text) (rows : List Row) → length vs ≤ usize_max → use_fault again plain_rule vs rows ≡ []
words_pass again vs rows le =
    no_else (range_kinds 0 usize_max (length vs)) _ (in_range (length vs) le) (ap (λ (t : List Text). values_kinds false vp.String t) (words_kept vs) ∙ texts_pass vs)

pub waiting_pass : (ls : List ℕ) (again : Bool) (waiting : Option (List Text)) (rows : List Row) → length (unwrap_or waiting []) ≤ usize_max → settle_fault (rules_for ls) again (held rows waiting) ≡ []
waiting_pass ls again None rows le = refl
waiting_pass ls again (Some vs) rows le =
    ap (λ o. option_map_or (λ a. use_fault again a vs rows) o []) (plain_by_id ls) ∙ words_pass again vs rows le

-- a count of at most 255 is one that is taken
count_passes : (n : ℕ) → n < 256 → accepts false (vp.Signed (pos 0) (pos 255)) (count_text n) ≡ true
count_passes n lt = agree_below_at (λ k. accepts false (vp.Signed (pos 0) (pos 255)) (count_text k)) (λ _. true) 256 n refl lt

pub letter_passes : (again : Bool) (x : ℕ) (rows : List Row) → use_fault again (letter_rule x) [] rows ≡ []
letter_passes again x rows =
    let n = min (count_of (x ∷ []) rows + 1) 255 in
    cond-true (accepts false (vp.Signed (pos 0) (pos 255)) (count_text n)) _ _ (count_passes n (omega arith))

pub react_passes : (ls : List ℕ) (again : Bool) (x : ℕ) (waiting : Option (List Text)) (rows : List Row) → length (unwrap_or waiting []) ≤ usize_max → react_fault (rules_for ls) again (letter_rule x) [] (held rows waiting) ≡ []
react_passes ls again x waiting rows le =
    no_else (settle_fault (rules_for ls) again (held rows waiting)) _ (waiting_pass ls again waiting rows le) (letter_passes again x (settled (rules_for ls) (held rows waiting)).rows)

-- ---- what was seen

pub times_hit : (y x : ℕ) (xs : List ℕ) → (x == y) ≡ true → times y (x ∷ xs) ≡ times y xs + 1
times_hit y x xs e = rw (e, times) refl

pub times_miss : (y x : ℕ) (xs : List ℕ) → (x == y) ≡ false → times y (x ∷ xs) ≡ times y xs
times_miss y x xs e = rw (e, times) refl

-- one letter more at the end
more_hit : (y x : ℕ) (f : List ℕ) → (x == y) ≡ true → times y (f ++ x ∷ []) ≡ times y f + 1
more_hit y x [] d = times_hit y x [] d
more_hit y x (z ∷ zs) d = elim (cases_Bool (z == y)) [
  | inl e ↦ times_hit y z (zs ++ x ∷ []) e ∙ ap (λ n. n + 1) (more_hit y x zs d) ∙ sym (ap (λ n. n + 1) (times_hit y z zs e))
  | inr e ↦ times_miss y z (zs ++ x ∷ []) e ∙ more_hit y x zs d ∙ sym (ap (λ n. n + 1) (times_miss y z zs e))
]

more_miss : (y x : ℕ) (f : List ℕ) → (x == y) ≡ false → times y (f ++ x ∷ []) ≡ times y f
more_miss y x [] d = times_miss y x [] d
more_miss y x (z ∷ zs) d = elim (cases_Bool (z == y)) [
  | inl e ↦ times_hit y z (zs ++ x ∷ []) e ∙ ap (λ n. n + 1) (more_miss y x zs d) ∙ sym (times_hit y z zs e)
  | inr e ↦ times_miss y z (zs ++ x ∷ []) e ∙ more_miss y x zs d ∙ sym (times_miss y z zs e)
]

pub seen_settled : (waiting : Option (List Text)) (rows : List Row) (flags : List ℕ) (plain : List Text) → Seen rows waiting flags plain → Seen (after_waiting waiting rows) None flags plain
seen_settled None rows flags plain s = s
seen_settled (Some vs) rows flags plain s = record {
  counts = λ x. ap count_at (other_values (x ∷ []) words_id (reading_by plain_rule) CommandLine vs rows (and_right (119 == x) false refl)) ∙ s.counts x;
  words = append-nil (words_in (after_waiting (Some vs) rows)) ∙ values_written words_id (reading_by plain_rule) CommandLine vs rows ∙ s.words;
}

capped : (n : ℕ) → min (min n 255 + 1) 255 ≡ min (n + 1) 255
capped n = omega arith

pub seen_letter : (x : ℕ) (rows : List Row) (flags : List ℕ) (plain : List Text) → Seen rows None flags plain → Seen (used (letter_rule x) [] rows) None (flags ++ x ∷ []) plain
seen_letter x rows flags plain s =
    let n = min (count_of (x ∷ []) rows + 1) 255 in
    let how = reading_by (letter_rule x) in
    record {
      counts = λ y. elim (cases_Bool (x == y)) [
        | inl e ↦
            let same : x ≡ y = eqb-true x y e in
            let one : count_of (x ∷ []) (used (letter_rule x) [] rows) ≡ min (times x flags + 1) 255 =
            count_written (x ∷ []) how CommandLine n (without (x ∷ []) rows) ∙ ap (λ k. min (k + 1) 255) (s.counts x) ∙ capped (times x flags) in
            let more : times y (flags ++ x ∷ []) ≡ times y flags + 1 = more_hit y x flags e in
            subst (λ (k : ℕ). count_of (k ∷ []) (used (letter_rule x) [] rows) ≡ min (times k flags + 1) 255) same one ∙ sym (ap (λ k. min k 255) more)
        | inr e ↦
            let more : times y (flags ++ x ∷ []) ≡ times y flags = more_miss y x flags e in
            let other : bytes_eq (x ∷ []) (y ∷ []) ≡ false = and_left (x == y) true e in
            ap count_at (other_count (y ∷ []) (x ∷ []) how CommandLine n (without (x ∷ []) rows) other ∙ other_without (y ∷ []) (x ∷ []) rows other) ∙ s.counts y ∙ sym (ap (λ k. min k 255) more)
      ];
      words =
          ap (λ o. unwrap_or (option_map (λ (r : Row). r.values) o) [] ++ []) (other_count words_id (x ∷ []) how CommandLine n (without (x ∷ []) rows) (letter_is_not_words x) ∙ other_without words_id (x ∷ []) rows (letter_is_not_words x))
          ∙ s.words;
    }

pub seen_word : (word : Text) (waiting : Option (List Text)) (rows : List Row) (flags : List ℕ) (plain : List Text) → Seen rows waiting flags plain → Seen rows (Some (unwrap_or waiting [] ++ word ∷ [])) flags (plain ++ word ∷ [])
seen_word word waiting rows flags plain s = record {
  counts = s.counts;
  words = sym (append_assoc (words_in rows) (unwrap_or waiting []) (word ∷ [])) ∙ ap (λ (t : List Text). t ++ word ∷ []) s.words;
}

-- the rows after a bundle of flags
abbrev pub after_bundle : List ℕ → List Row → List Row
after_bundle [] rows = rows
after_bundle (x ∷ xs) rows = after_bundle xs (used (letter_rule x) [] rows)

pub seen_bundle : (xs : List ℕ) (rows : List Row) (flags : List ℕ) (plain : List Text) → Seen rows None flags plain → Seen (after_bundle xs rows) None (flags ++ xs) plain
seen_bundle [] rows flags plain s = subst (λ (f : List ℕ). Seen rows None f plain) (sym (append-nil flags)) s
seen_bundle (x ∷ xs) rows flags plain s =
    subst (λ (f : List ℕ). Seen (after_bundle (x ∷ xs) rows) None f plain) (append_assoc flags (x ∷ []) xs)
    (seen_bundle xs (used (letter_rule x) [] rows) (flags ++ x ∷ []) plain (seen_letter x rows flags plain s))
