-- What comes after the walk: the waiting words are used, flags that weren't given count 0, and nothing more is refused.
use Rattle.std.proofs.Common.{◌≡◌, ◌∙◌, ℕ, ◌==◌, ◌&&◌, ◌||◌, Bool, true, false, not, List, [], ◌∷◌, fold, None, unwrap_or, option_map, refl, ap, sym, subst, inl, inr, cond, codes}
use Rattle.nb_words.proofs.Common.{list_any, bytes_eq, cases_Bool, cond-true, cond-false, and_left, and_right, or_parts, eqb-true, or_right, Row, Rule, Text, Kinds, check_kinds, Shape, has_row, with_default, with_values, reading_by, count_of, default_fault, given_default_fault, defaults_fault, check_fault, DefaultValue, words_id, words_in}
use Rattle.clap.specs.Takes.{is_given}
use Rattle.clap.specs.Facts.{explicit_source}
use Rattle.nb_words.proofs.Rules.{rules_for, letter_rule, plain_rule, letter_is_not_words}
use Rattle.nb_words.proofs.RowLaws.{first_row, count_at, first_later, other_values, values_alone}
use Rattle.nb_words.proofs.UseLaws.{no_else}
use Rattle.nb_words.proofs.Steps.{shape}

no_row : (id : Text) (rows : List Row) → has_row id rows ≡ false → first_row id rows ≡ None
no_row id [] none = refl
no_row id (r ∷ rs) none =
    let parts = or_parts (bytes_eq r.id id) (has_row id rs) none in
    first_later id r rs parts.0 ∙ no_row id rs parts.1

-- the rows with that of a flag that wasn't given
abbrev with_zero : ℕ → List Row → List Row
with_zero x rows = with_values (x ∷ []) (reading_by (letter_rule x)) DefaultValue (codes "0" ∷ []) rows

-- a flag that wasn't given gets a row that counts 0
count_kept : (x y : ℕ) (rows : List Row) → count_of (y ∷ []) (with_default rows (letter_rule x)) ≡ count_of (y ∷ []) rows
count_kept x y rows = elim (cases_Bool (has_row (x ∷ []) rows)) [
  | inl there ↦ ap (λ (r : List Row). count_of (y ∷ []) r) (cond-true (has_row (x ∷ []) rows) _ _ there)
  | inr missing ↦
      ap (λ (r : List Row). count_of (y ∷ []) r) (cond-false (has_row (x ∷ []) rows) _ _ missing)
      ∙ elim (cases_Bool (x == y)) [
        | inl e ↦
            let none = no_row (x ∷ []) rows missing in
            subst (λ (k : ℕ). count_of (k ∷ []) (with_zero x rows) ≡ count_of (k ∷ []) rows) (eqb-true x y e)
            (ap count_at (values_alone (x ∷ []) (reading_by (letter_rule x)) DefaultValue (codes "0" ∷ []) rows none) ∙ sym (ap count_at none))
        | inr e ↦ ap count_at (other_values (y ∷ []) (x ∷ []) (reading_by (letter_rule x)) DefaultValue (codes "0" ∷ []) rows (and_left (x == y) true e))
      ]
]

words_kept : (x : ℕ) (rows : List Row) → words_in (with_default rows (letter_rule x)) ≡ words_in rows
words_kept x rows = elim (cases_Bool (has_row (x ∷ []) rows)) [
  | inl there ↦ ap words_in (cond-true (has_row (x ∷ []) rows) _ _ there)
  | inr missing ↦
      ap words_in (cond-false (has_row (x ∷ []) rows) _ _ missing)
      ∙ ap (λ o. unwrap_or (option_map (λ (r : Row). r.values) o) []) (other_values words_id (x ∷ []) (reading_by (letter_rule x)) DefaultValue (codes "0" ∷ []) rows (letter_is_not_words x))
]

either_way : {A : Type 0} (b : Bool) (x : A) → cond b x x ≡ x
either_way true x = refl
either_way false x = refl

plain_kept : (rows : List Row) → with_default rows plain_rule ≡ rows
plain_kept rows = either_way (has_row words_id rows) rows

pub counts_kept : (ls : List ℕ) (y : ℕ) (rows : List Row) → count_of (y ∷ []) (fold with_default rows (rules_for ls)) ≡ count_of (y ∷ []) rows
counts_kept [] y rows = ap (λ (r : List Row). count_of (y ∷ []) r) (plain_kept rows)
counts_kept (x ∷ xs) y rows = counts_kept xs y (with_default rows (letter_rule x)) ∙ count_kept x y rows

pub all_words_kept : (ls : List ℕ) (rows : List Row) → words_in (fold with_default rows (rules_for ls)) ≡ words_in rows
all_words_kept [] rows = ap words_in (plain_kept rows)
all_words_kept (x ∷ xs) rows = all_words_kept xs (with_default rows (letter_rule x)) ∙ words_kept x rows

-- ---- nothing more is refused

zero_passes : (x : ℕ) → given_default_fault (letter_rule x) (codes "0" ∷ []) ≡ []
zero_passes x = refl

default_passes : (x : ℕ) (rows : List Row) → default_fault rows (letter_rule x) ≡ []
default_passes x rows = ap (λ (k : Kinds). cond (has_row (x ∷ []) rows || false) [] k) (zero_passes x) ∙ either_way (has_row (x ∷ []) rows || false) []

plain_default_passes : (rows : List Row) → default_fault rows plain_rule ≡ []
plain_default_passes rows = cond-true (has_row words_id rows || true) _ _ (or_right (has_row words_id rows) true refl)

pub defaults_pass : (ls : List ℕ) (rows : List Row) → defaults_fault rows (rules_for ls) ≡ []
unfolding defaults_fault
defaults_pass [] rows = no_else (default_fault rows plain_rule) [] (plain_default_passes rows) refl
defaults_pass (x ∷ xs) rows = no_else (default_fault rows (letter_rule x)) _ (default_passes x rows) (defaults_pass xs (with_default rows (letter_rule x)))

none_required : (ls : List ℕ) (rows : List Row) → list_any (λ (a : Rule). a.required && not (is_given a.id rows)) (rules_for ls) ≡ false
none_required [] rows = refl
none_required (x ∷ xs) rows = none_required xs rows

pub check_passes : (ls : List ℕ) (s : Shape) (rows : List Row) → s.arg_required_else_help ≡ false → s.subcommand_required ≡ false → check_fault (shape ls s) rows false ≡ []
check_passes ls s rows help sub =
    ap (λ b. check_kinds (b && not (list_any (λ (r : Row). explicit_source r.source) rows)) s.subcommand_required (not (s.subcommand_negates_reqs && false) && list_any (λ (a : Rule). a.required && not (is_given a.id rows)) (rules_for ls))) help
    ∙ ap (λ b. check_kinds false b (not (s.subcommand_negates_reqs && false) && list_any (λ (a : Rule). a.required && not (is_given a.id rows)) (rules_for ls))) sub
    ∙ ap (λ b. check_kinds false false b) (and_right (not (s.subcommand_negates_reqs && false)) _ (none_required ls rows))
