-- Slots are added after those of a chain, the first with a row of a new key and the others without.
use Rattle.std.proofs.Common.{◌≡◌, ◌≢◌, inl, inr, ℕ, List, [], ◌∷◌, ◌++◌, refl, sym, ap, subst, ◌∙◌, Bool, true, false, Option, Some, None, option_map}
use Rattle.nb_model.proofs.Common.{AllByRecursion, true≢false, and_parts, and_from, eq-eqb, eqb-true, eqb_tells, Spot, is_used, key_of, text_in, first_such, row_spot, with_row, row_at, rows_in, AreDistinct}
use Rattle.nb_model.proofs.RowMaps.{with_rising, rows_rise, with_here, with_there, same_maps, rows_at}
use Rattle.nb_model.proofs.SpotKeys.{keys_in, absent_rows, rows_absent, keys_used, keys_unused, keys_none}
use Rattle.nb_model.proofs.SpotMaps.{has_key, first_true, first_false, none_such, no_such, other_key, unused_key}

pub first_in_front : (test : Spot → Bool) (xs ys : List Spot) → first_such test ys ≡ None → first_such test (xs ++ ys) ≡ first_such test xs
unfolding first_such
first_in_front test [] ys none = none
first_in_front test (x ∷ xs) ys none = ap (λ (o : Option Spot). elim (test x) as (λ z. Option Spot) [ true ↦ Some x | false ↦ o ]) (first_in_front test xs ys none)

pub first_behind : (test : Spot → Bool) (xs ys : List Spot) → AllByRecursion (λ u. test u ≡ false) xs → first_such test (xs ++ ys) ≡ first_such test ys
first_behind test [] ys none = refl
first_behind test (x ∷ xs) ys none = first_false test x (xs ++ ys) none.0 ∙ first_behind test xs ys none.1

-- no row among unused slots
unused_rows : (key : ℕ) (ys : List Spot) → AllByRecursion (λ (u : Spot). is_used u.bytes ≡ false) ys → AllByRecursion (λ u. has_key key u ≡ false) ys
unused_rows key [] all = tt
unused_rows key (y ∷ ys) all = (unused_key key y all.0, unused_rows key ys all.1)

module _ (xs ys : List Spot) (r : Spot) (key : ℕ) (is_row : has_key key r ≡ true) (unused : AllByRecursion (λ (u : Spot). is_used u.bytes ≡ false) ys) (new : row_spot key xs ≡ None) where
  its_key : key_of r.bytes ≡ key
  its_key = eqb-true (key_of r.bytes) key (and_parts (is_used r.bytes) _ is_row).1

  new_rows : AllByRecursion (λ u. has_key key u ≡ false) xs
  unfolding row_spot
  new_rows = none_such (has_key key) xs new

  at_each : (k : ℕ) → row_at k (rows_in (xs ++ r ∷ ys)) ≡ row_at k (with_row key (text_in r.bytes) (rows_in xs))
  unfolding row_spot
  at_each k = elim (eqb_tells k key) [
    | inl w ↦
        ap (λ (n : ℕ). row_at n (rows_in (xs ++ r ∷ ys))) w.1 ∙ rows_at key (xs ++ r ∷ ys)
        ∙ ap (option_map (λ (u : Spot). text_in u.bytes)) (first_behind (has_key key) xs (r ∷ ys) new_rows ∙ first_true (has_key key) r ys is_row)
        ∙ sym (with_here key (text_in r.bytes) (rows_in xs)) ∙ ap (λ (n : ℕ). row_at n (with_row key (text_in r.bytes) (rows_in xs))) (sym w.1)
    | inr w ↦
        rows_at k (xs ++ r ∷ ys)
        ∙ ap (option_map (λ (u : Spot). text_in u.bytes)) (first_in_front (has_key k) xs (r ∷ ys) (first_false (has_key k) r ys (other_key key k r its_key w.1) ∙ no_such (has_key k) ys (unused_rows k ys unused)))
        ∙ sym (rows_at k xs) ∙ sym (with_there key k (text_in r.bytes) (rows_in xs) w.1)
  ]

  pub more_rows : rows_in (xs ++ r ∷ ys) ≡ with_row key (text_in r.bytes) (rows_in xs)
  more_rows = same_maps (rows_in (xs ++ r ∷ ys)) (with_row key (text_in r.bytes) (rows_in xs)) (rows_rise (xs ++ r ∷ ys)) (with_rising key (text_in r.bytes) (rows_in xs) (rows_rise xs)) at_each

  none_keys : (zs : List Spot) → AllByRecursion (λ (u : Spot). is_used u.bytes ≡ false) zs → AreDistinct (keys_in zs)
  none_keys [] all = subst AreDistinct (sym keys_none) tt
  none_keys (z ∷ zs) all = subst AreDistinct (sym (keys_unused z zs all.0)) (none_keys zs all.1)

  joined_rows : (k : ℕ) (zs : List Spot) → AllByRecursion (λ u. has_key k u ≡ false) zs → k ≢ key → AllByRecursion (λ u. has_key k u ≡ false) (zs ++ r ∷ ys)
  joined_rows k [] all ne = (other_key key k r its_key ne, unused_rows k ys unused)
  joined_rows k (z ∷ zs) all ne = (all.0, joined_rows k zs all.1 ne)

  more_distinct : (zs : List Spot) → AllByRecursion (λ u. has_key key u ≡ false) zs → AreDistinct (keys_in zs) → AreDistinct (keys_in (zs ++ r ∷ ys))
  more_distinct [] none distinct = subst AreDistinct (sym (keys_used r ys (and_parts (is_used r.bytes) _ is_row).0)) (rows_absent (key_of r.bytes) ys (unused_rows (key_of r.bytes) ys unused), none_keys ys unused)
  more_distinct (z ∷ zs) none distinct = by (λ d. more_distinct zs none.1 d) (is_used z.bytes) refl
    where
      by : (AreDistinct (keys_in zs) → AreDistinct (keys_in (zs ++ r ∷ ys))) → (t : Bool) → is_used z.bytes ≡ t → AreDistinct (keys_in (z ∷ (zs ++ r ∷ ys)))
      by rest false is = subst AreDistinct (sym (keys_unused z (zs ++ r ∷ ys) is)) (rest (subst AreDistinct (keys_unused z zs is) distinct))
      by rest true is =
          let before : AreDistinct (key_of z.bytes ∷ keys_in zs) = subst AreDistinct (keys_used z zs is) distinct in
          let ne : key_of z.bytes ≢ key = λ e. true≢false (sym (and_from (is_used z.bytes) _ is (eq-eqb (key_of z.bytes) key e)) ∙ none.0) in
          subst AreDistinct (sym (keys_used z (zs ++ r ∷ ys) is)) (rows_absent (key_of z.bytes) (zs ++ r ∷ ys) (joined_rows (key_of z.bytes) zs (absent_rows (key_of z.bytes) zs before.0) ne), rest before.1)

  pub more_apart : AreDistinct (keys_in xs) → AreDistinct (keys_in (xs ++ r ∷ ys))
  more_apart distinct = more_distinct xs new_rows distinct
