-- One word of the line: where the walk of `clap` stands after it, and what it refuses.
use Rattle.std.proofs.Common.{◌≡◌, ◌∙◌, ◌++◌, ℕ, ◌≤◌, ◌<◌, Bool, true, false, List, [], ◌∷◌, length, Option, Some, None, unwrap_or, refl, ap, cond, IsUtf8}
use Rattle.nb_words.proofs.Common.{bytes_eq, list_all, option_map_or, cond-true, cond-false, usize_max, long_of, short_of, Text, Row, Kinds, or_else, Shape, Held, Outcome, Step, Waiting, Walk, plain_word, walked, word_met, after_step, to_positional, long_or_other, short_or_plain, after_flag, idle, positional, value, next, trailing, turn_fault, word_fault, step_fault, positional_fault, stray_fault, flag_word_fault, bundle_fault, long_fault}
use Rattle.clap.specs.declared.error.kind.ErrorKind.TheVariants as kind
use Rattle.nb_words.proofs.Rules.{rules_for, plain_rule, is_in, plain_by_index, long_missing}
use Rattle.nb_words.proofs.UseLaws.{held, after_waiting, after_bundle}
use Rattle.nb_words.proofs.Bundles.{bundle_read, bundle_passes, bundle_refused}

-- a plain word was the last, or a flag
abbrev pub waiting_at : Bool → Waiting
waiting_at true = positional
waiting_at false = idle

-- where the walk stands: whether `--` came, whether a plain word was the last, and what is held
abbrev pub stand : Bool → Bool → List Row → Option (List Text) → Walk
stand is_trailing late rows waiting = record { held = held rows waiting; waiting = waiting_at late; position = 1; is_trailing = is_trailing; stopped = None }

-- a command of these flags
abbrev pub shape : List ℕ → Shape → Shape
shape ls s = record s { rules = rules_for ls }

abbrev pub dashes : Text
dashes = 45 ∷ 45 ∷ []

-- ---- what a word looks like

pub record IsPlain (word : Text) : Type 0 where
  pub other : bytes_eq word dashes ≡ false
  pub long : long_of word ≡ None
  pub short : short_of word ≡ None

pub record IsBundle (word : Text) (flags : Text) : Type 0 where
  pub other : bytes_eq word dashes ≡ false
  pub long : long_of word ≡ None
  pub short : short_of word ≡ Some flags

pub record IsLong (word : Text) : Type 0 where
  pub name : Text
  pub value : Option Text
  pub other : bytes_eq word dashes ≡ false
  pub long : long_of word ≡ Some (name, value)

module _ (ls : List ℕ) (s : Shape) (late : Bool) (rows : List Row) (waiting : Option (List Text)) where
  -- ---- plain words

  taken : (t late : Bool) (waiting : Option (List Text)) (word : Text)
      → to_positional (rules_for ls) (Some plain_rule) word (stand t late rows waiting) (held rows waiting) ≡ stand t true rows (Some (unwrap_or waiting [] ++ word ∷ []))
  taken true late None word = refl
  taken true late (Some vs) word = refl
  taken false late None word = refl
  taken false late (Some vs) word = refl

  value_step : (t : Bool) (word : Text) → word_met (rules_for ls) [] t (waiting_at late) 1 word (held rows waiting) ≡ (held rows waiting, value)
      → walked (rules_for ls) [] (stand t late rows waiting) word ≡ stand t true rows (Some (unwrap_or waiting [] ++ word ∷ []))
  unfolding walked
  value_step t word met =
      ap (λ (m : Held × Step). after_step (rules_for ls) word (stand t late rows waiting) m.0 m.1) met
      ∙ ap (λ o. to_positional (rules_for ls) o word (stand t late rows waiting) (held rows waiting)) (plain_by_index ls)
      ∙ taken t late waiting word

  free : (again : Bool) (waiting : Option (List Text)) → positional_fault (rules_for ls) again plain_rule (held rows waiting) ≡ []
  free again None = refl
  free again (Some vs) = refl

  value_passes : (t : Bool) (word : Text) → word_met (rules_for ls) [] t (waiting_at late) 1 word (held rows waiting) ≡ (held rows waiting, value)
      → word_fault (shape ls s) [] t (waiting_at late) word (held rows waiting) ≡ []
      → turn_fault (shape ls s) [] (stand t late rows waiting) word ≡ []
  value_passes t word met none =
      ap (λ (m : Held × Step). or_else (word_fault (shape ls s) [] t (waiting_at late) word (held rows waiting)) (step_fault (shape ls s) 1 m.0 m.1)) met
      ∙ ap (λ (k : Kinds). or_else k (step_fault (shape ls s) 1 (held rows waiting) value)) none
      ∙ ap (λ o. option_map_or (λ a. positional_fault (rules_for ls) s.args_override_self a (held rows waiting)) o (stray_fault (shape ls s))) (plain_by_index ls)
      ∙ free s.args_override_self waiting

  -- after `--` every word is plain
  pub trailing_step : (word : Text) → walked (rules_for ls) [] (stand true late rows waiting) word ≡ stand true true rows (Some (unwrap_or waiting [] ++ word ∷ []))
  trailing_step word = value_step true word refl

  pub trailing_passes : (word : Text) → turn_fault (shape ls s) [] (stand true late rows waiting) word ≡ []
  trailing_passes word = value_passes true word refl refl

  -- which word was the last counts for nothing
  met_is : (late : Bool) (word : Text) → word_met (rules_for ls) [] false (waiting_at late) 1 word (held rows waiting) ≡ cond (bytes_eq word dashes) (held rows waiting, trailing 1) (long_or_other (rules_for ls) (waiting_at late) word (long_of word) (held rows waiting))
  met_is true word = refl
  met_is false word = refl

  fault_is : (late : Bool) (word : Text) → word_fault (shape ls s) [] false (waiting_at late) word (held rows waiting) ≡ cond (bytes_eq word dashes) [] (flag_word_fault (rules_for ls) s.args_override_self (long_of word) word (held rows waiting))
  fault_is true word = refl
  fault_is false word = refl

  no_option : (late : Bool) (word : Text) → plain_word (rules_for ls) (waiting_at late) word (held rows waiting) ≡ (held rows waiting, value)
  no_option true word = refl
  no_option false word = refl

  plain_met : (word : Text) → IsPlain word → word_met (rules_for ls) [] false (waiting_at late) 1 word (held rows waiting) ≡ (held rows waiting, value)
  plain_met word p =
      met_is late word
      ∙ cond-false (bytes_eq word dashes) _ _ p.other
      ∙ ap (λ o. long_or_other (rules_for ls) (waiting_at late) word o (held rows waiting)) p.long
      ∙ ap (λ o. short_or_plain (rules_for ls) (waiting_at late) word o (held rows waiting)) p.short
      ∙ no_option late word

  plain_fault : (word : Text) → IsPlain word → word_fault (shape ls s) [] false (waiting_at late) word (held rows waiting) ≡ []
  plain_fault word p =
      fault_is late word
      ∙ cond-false (bytes_eq word dashes) _ _ p.other
      ∙ ap (λ o. flag_word_fault (rules_for ls) s.args_override_self o word (held rows waiting)) p.long
      ∙ ap (λ o. option_map_or (λ flags. bundle_fault (rules_for ls) s.args_override_self flags (held rows waiting)) o []) p.short

  pub plain_step : (word : Text) → IsPlain word → walked (rules_for ls) [] (stand false late rows waiting) word ≡ stand false true rows (Some (unwrap_or waiting [] ++ word ∷ []))
  plain_step word p = value_step false word (plain_met word p)

  pub plain_passes : (word : Text) → IsPlain word → turn_fault (shape ls s) [] (stand false late rows waiting) word ≡ []
  plain_passes word p = value_passes false word (plain_met word p) (plain_fault word p)

  -- ---- the first `--`

  dashes_met : (word : Text) → bytes_eq word dashes ≡ true → word_met (rules_for ls) [] false (waiting_at late) 1 word (held rows waiting) ≡ (held rows waiting, trailing 1)
  dashes_met word e = met_is late word ∙ cond-true (bytes_eq word dashes) _ _ e

  pub dashes_step : (word : Text) → bytes_eq word dashes ≡ true → walked (rules_for ls) [] (stand false late rows waiting) word ≡ stand true late rows waiting
  unfolding walked
  dashes_step word e = ap (λ (m : Held × Step). after_step (rules_for ls) word (stand false late rows waiting) m.0 m.1) (dashes_met word e)

  pub dashes_pass : (word : Text) → bytes_eq word dashes ≡ true → turn_fault (shape ls s) [] (stand false late rows waiting) word ≡ []
  dashes_pass word e =
      ap (λ (m : Held × Step). or_else (word_fault (shape ls s) [] false (waiting_at late) word (held rows waiting)) (step_fault (shape ls s) 1 m.0 m.1)) (dashes_met word e)
      ∙ ap (λ (k : Kinds). or_else k []) (fault_is late word ∙ cond-true (bytes_eq word dashes) _ _ e)

  -- ---- flags

  module _ (small : (y : ℕ) → is_in y ls ≡ true → y < 128) where
    bundle_met_is : (word : Text) (x : ℕ) (xs : Text) → IsBundle word (x ∷ xs) → list_all (λ y. is_in y ls) (x ∷ xs) ≡ true
        → word_met (rules_for ls) [] false (waiting_at late) 1 word (held rows waiting) ≡ (held (after_bundle (x ∷ xs) (after_waiting waiting rows)) None, next idle)
    bundle_met_is word x xs b all =
        met_is late word
        ∙ cond-false (bytes_eq word dashes) _ _ b.other
        ∙ ap (λ o. long_or_other (rules_for ls) (waiting_at late) word o (held rows waiting)) b.long
        ∙ ap (λ o. short_or_plain (rules_for ls) (waiting_at late) word o (held rows waiting)) b.short
        ∙ ap (λ (r : Held × Outcome). after_flag (rules_for ls) (waiting_at late) word r.0 r.1) (bundle_read ls small x xs waiting rows all)

    bundle_fault_is : (word flags : Text) → IsBundle word flags → word_fault (shape ls s) [] false (waiting_at late) word (held rows waiting) ≡ bundle_fault (rules_for ls) s.args_override_self flags (held rows waiting)
    bundle_fault_is word flags b =
        fault_is late word
        ∙ cond-false (bytes_eq word dashes) _ _ b.other
        ∙ ap (λ o. flag_word_fault (rules_for ls) s.args_override_self o word (held rows waiting)) b.long
        ∙ ap (λ o. option_map_or (λ flags. bundle_fault (rules_for ls) s.args_override_self flags (held rows waiting)) o []) b.short

    pub bundle_step : (word : Text) (x : ℕ) (xs : Text) → IsBundle word (x ∷ xs) → list_all (λ y. is_in y ls) (x ∷ xs) ≡ true
        → walked (rules_for ls) [] (stand false late rows waiting) word ≡ stand false false (after_bundle (x ∷ xs) (after_waiting waiting rows)) None
    unfolding walked
    bundle_step word x xs b all = ap (λ (m : Held × Step). after_step (rules_for ls) word (stand false late rows waiting) m.0 m.1) (bundle_met_is word x xs b all)

    pub bundle_turn : (word : Text) (x : ℕ) (xs : Text) → IsBundle word (x ∷ xs) → list_all (λ y. is_in y ls) (x ∷ xs) ≡ true → length (unwrap_or waiting []) ≤ usize_max
        → turn_fault (shape ls s) [] (stand false late rows waiting) word ≡ []
    bundle_turn word x xs b all le =
        ap (λ (m : Held × Step). or_else (word_fault (shape ls s) [] false (waiting_at late) word (held rows waiting)) (step_fault (shape ls s) 1 m.0 m.1)) (bundle_met_is word x xs b all)
        ∙ ap (λ (k : Kinds). or_else k []) (bundle_fault_is word (x ∷ xs) b ∙ bundle_passes ls small s.args_override_self (x ∷ xs) waiting rows all le)

    -- ---- what is refused

    refuses : (word : Text) → word_fault (shape ls s) [] false (waiting_at late) word (held rows waiting) ≡ kind.UnknownArgument ∷ []
        → turn_fault (shape ls s) [] (stand false late rows waiting) word ≡ kind.UnknownArgument ∷ []
    refuses word e =
        let m = word_met (rules_for ls) [] false (waiting_at late) 1 word (held rows waiting) in
        ap (λ (k : Kinds). or_else k (step_fault (shape ls s) 1 m.0 m.1)) e

    pub bundle_refuses : (word flags : Text) → IsBundle word flags → list_all (λ y. is_in y ls) flags ≡ false → IsUtf8 flags → length (unwrap_or waiting []) ≤ usize_max
        → turn_fault (shape ls s) [] (stand false late rows waiting) word ≡ kind.UnknownArgument ∷ []
    bundle_refuses word flags b some u le = refuses word (bundle_fault_is word flags b ∙ bundle_refused ls small s.args_override_self flags waiting rows some u le)

    long_fault_is : (word : Text) → IsLong word → word_fault (shape ls s) [] false (waiting_at late) word (held rows waiting) ≡ kind.UnknownArgument ∷ []
    long_fault_is word l =
        fault_is late word
        ∙ cond-false (bytes_eq word dashes) _ _ l.other
        ∙ ap (λ o. flag_word_fault (rules_for ls) s.args_override_self o word (held rows waiting)) l.long
        ∙ ap (λ o. long_fault (rules_for ls) s.args_override_self o l.value (held rows waiting)) (long_missing ls l.name)

    pub long_refuses : (word : Text) → IsLong word → turn_fault (shape ls s) [] (stand false late rows waiting) word ≡ kind.UnknownArgument ∷ []
    long_refuses word l = refuses word (long_fault_is word l)
