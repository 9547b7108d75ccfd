-- The rows of what was found: what a change of one id's row leaves, and what a count, a value or a default does.
use Rattle.std.proofs.Common.{◌≡◌, ◌∙◌, ℕ, true, false, List, [], ◌∷◌, ◌++◌, Option, Some, None, unwrap_or, option_map, refl, ap, sym, inl, inr, cond, find}
use Rattle.nb_words.proofs.Common.{option_map_or, bytes_eq, cases_Bool, cond-true, cond-false, bytes_eq-Decides, count_text, with_count, with_values, without, stronger, at_row, count_of, all_of, first_as_count, new_count, more_values}
use Rattle.clap.specs.Walk.{Row, Text}
use Rattle.clap.specs.declared.builder.value_parser.Reading.{Reading}
use Rattle.clap.specs.declared.parser.matches.ValueSource.{ValueSource}

-- the first row of an id
abbrev pub first_row : Text → List Row → Option Row
first_row id rows = find (λ r. bytes_eq r.id id) rows

-- what a count reads of it
abbrev pub count_at : Option Row → ℕ
count_at o = option_map_or (λ (r : Row). unwrap_or r.count (first_as_count r.values)) o 0

pub first_here : (id : Text) (r : Row) (rs : List Row) → bytes_eq r.id id ≡ true → first_row id (r ∷ rs) ≡ Some r
first_here id r rs h = cond-true (bytes_eq r.id id) _ _ h

pub first_later : (id : Text) (r : Row) (rs : List Row) → bytes_eq r.id id ≡ false → first_row id (r ∷ rs) ≡ first_row id rs
first_later id r rs h = cond-false (bytes_eq r.id id) _ _ h

-- a change of another id's row leaves the first row of an id
other_row : (id other : Text) (change : Row → List Row) (missing rows : List Row)
    → ((r : Row) → bytes_eq r.id other ≡ true → bytes_eq r.id id ≡ false)
    → ((r : Row) (rest : List Row) → bytes_eq r.id other ≡ true → first_row id (change r ++ rest) ≡ first_row id rest)
    → first_row id missing ≡ None
    → first_row id (at_row other change missing rows) ≡ first_row id rows
other_row id other change missing [] apart same none = none
other_row id other change missing (r ∷ rs) apart same none = elim (cases_Bool (bytes_eq r.id other)) [
  | inl hit ↦
      ap (first_row id) (cond-true (bytes_eq r.id other) _ _ hit) ∙ same r rs hit ∙ sym (first_later id r rs (apart r hit))
  | inr miss ↦
      ap (first_row id) (cond-false (bytes_eq r.id other) _ _ miss)
      ∙ ap (λ o. cond (bytes_eq r.id id) (Some r) o) (other_row id other change missing rs apart same none)
]

-- the row of an id after a change of it
own_row : (id : Text) (change : Row → Row) (new : Row) (rows : List Row)
    → ((r : Row) → bytes_eq (change r).id id ≡ bytes_eq r.id id)
    → bytes_eq new.id id ≡ true
    → first_row id (at_row id (λ r. change r ∷ []) (new ∷ []) rows) ≡ Some (option_map_or change (first_row id rows) new)
own_row id change new [] keeps is = first_here id new [] is
own_row id change new (r ∷ rs) keeps is = elim (cases_Bool (bytes_eq r.id id)) [
  | inl hit ↦
      ap (first_row id) (cond-true (bytes_eq r.id id) _ _ hit)
      ∙ first_here id (change r) rs (keeps r ∙ hit)
      ∙ sym (ap (λ o. Some (option_map_or change o new)) (first_here id r rs hit))
  | inr miss ↦
      ap (first_row id) (cond-false (bytes_eq r.id id) _ _ miss)
      ∙ first_later id r _ miss
      ∙ own_row id change new rs keeps is
      ∙ sym (ap (λ o. Some (option_map_or change o new)) (first_later id r rs miss))
]

pub same_id : (a b : Text) → bytes_eq a b ≡ true → a ≡ b
same_id a b h = (bytes_eq-Decides a b).0 h

pub id_is_itself : (a : Text) → bytes_eq a a ≡ true
id_is_itself a = (bytes_eq-Decides a a).1 refl

apart_rows : (id other : Text) → bytes_eq other id ≡ false → (r : Row) → bytes_eq r.id other ≡ true → bytes_eq r.id id ≡ false
apart_rows id other ne r h = ap (λ (t : Text). bytes_eq t id) (same_id r.id other h) ∙ ne

-- a row with a count, and one with values
abbrev counted_row : Text → ValueSource → Reading → ℕ → Row
counted_row id s how n = record { id = id; values = count_text n ∷ []; count = Some n; source = Some s; reading = how }

abbrev count_more : ValueSource → ℕ → Row → Row
count_more s n r = record r { values = r.values ++ count_text n ∷ []; count = Some n; source = Some (stronger r.source s) }

abbrev valued_row : Text → ValueSource → Reading → List Text → Row
valued_row id s how vs = record { id = id; values = vs; count = None; source = Some s; reading = how }

abbrev values_more : ValueSource → List Text → Row → Row
values_more s vs r = record r { values = r.values ++ vs; source = Some (stronger r.source s) }

count_read : (id : Text) (s : ValueSource) (how : Reading) (n : ℕ) (o : Option Row) → count_at (Some (option_map_or (count_more s n) o (counted_row id s how n))) ≡ n
count_read id s how n None = refl
count_read id s how n (Some r) = refl

-- a count is read again
pub count_written : (id : Text) (how : Reading) (s : ValueSource) (n : ℕ) (rows : List Row) → count_of id (with_count id how s n rows) ≡ n
count_written id how s n rows =
    ap count_at (own_row id (count_more s n) (counted_row id s how n) rows (λ r. refl) (id_is_itself id))
    ∙ count_read id s how n (first_row id rows)

-- a count leaves the rows of other ids
pub other_count : (id other : Text) (how : Reading) (s : ValueSource) (n : ℕ) (rows : List Row) → bytes_eq other id ≡ false → first_row id (with_count other how s n rows) ≡ first_row id rows
other_count id other how s n rows ne =
    other_row id other (new_count s n) (counted_row other s how n ∷ []) rows (apart_rows id other ne)
    (λ r rest h. first_later id (count_more s n r) rest (apart_rows id other ne r h))
    (first_later id (counted_row other s how n) [] ne)

-- so do values
pub other_values : (id other : Text) (how : Reading) (s : ValueSource) (vs : List Text) (rows : List Row) → bytes_eq other id ≡ false → first_row id (with_values other how s vs rows) ≡ first_row id rows
other_values id other how s vs rows ne =
    other_row id other (more_values s vs) (valued_row other s how vs ∷ []) rows (apart_rows id other ne)
    (λ r rest h. first_later id (values_more s vs r) rest (apart_rows id other ne r h))
    (first_later id (valued_row other s how vs) [] ne)

-- so does taking a row out
pub other_without : (id other : Text) (rows : List Row) → bytes_eq other id ≡ false → first_row id (without other rows) ≡ first_row id rows
other_without id other rows ne = other_row id other (λ _. []) [] rows (apart_rows id other ne) (λ r rest h. refl) refl

values_read : (id : Text) (s : ValueSource) (how : Reading) (vs : List Text) (o : Option Row) → (option_map_or (values_more s vs) o (valued_row id s how vs)).values ≡ unwrap_or (option_map (λ (r : Row). r.values) o) [] ++ vs
values_read id s how vs None = refl
values_read id s how vs (Some r) = refl

-- values go after those that an id has
pub values_written : (id : Text) (how : Reading) (s : ValueSource) (vs : List Text) (rows : List Row) → unwrap_or (all_of id (with_values id how s vs rows)) [] ≡ unwrap_or (all_of id rows) [] ++ vs
values_written id how s vs rows =
    ap (λ o. unwrap_or (option_map (λ (r : Row). r.values) o) []) (own_row id (values_more s vs) (valued_row id s how vs) rows (λ r. refl) (id_is_itself id))
    ∙ values_read id s how vs (first_row id rows)

-- the row that values make where there was none
pub values_alone : (id : Text) (how : Reading) (s : ValueSource) (vs : List Text) (rows : List Row) → first_row id rows ≡ None → first_row id (with_values id how s vs rows) ≡ Some (valued_row id s how vs)
values_alone id how s vs rows none =
    own_row id (values_more s vs) (valued_row id s how vs) rows (λ r. refl) (id_is_itself id)
    ∙ ap (λ o. Some (option_map_or (values_more s vs) o (valued_row id s how vs))) none
