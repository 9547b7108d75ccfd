-- One slot among the slots of a chain is written: which rows there are then, and that no key stands twice.
use Rattle.std.proofs.Common.{◌≡◌, ◌≢◌, ◌⊎◌, inl, inr, ℕ, List, [], ◌∷◌, map, refl, sym, ap, subst, ◌∙◌, arith, Bool, true, false, ◌&&◌, ◌==◌, nat_eq, slice_index, Option, Some, None, option_map}
use Rattle.nb_model.proofs.Common.{AllByRecursion, true≢false, and_parts, and_left, and_right, eqb-true, ne_eqb, eqb_tells, Spot, is_used, key_of, text_in, first_such, free_spot, row_spot, with_row, without_row, row_at, rows_in, some_same, some_none, all_go, all_both}
use Rattle.nb_model.proofs.RowMaps.{with_rising, without_rising, rows_rise, with_here, with_there, without_here, without_there, same_maps, rows_at}

-- The first that passes a test.
abbrev picked : Bool → Spot → Option Spot → Option Spot
picked t x rest = elim t as (λ z. Option Spot) [ true ↦ Some x | false ↦ rest ]

first_is : (test : Spot → Bool) (x : Spot) (xs : List Spot) → first_such test (x ∷ xs) ≡ picked (test x) x (first_such test xs)
unfolding first_such
first_is test x xs = refl

pub first_true : (test : Spot → Bool) (x : Spot) (xs : List Spot) → test x ≡ true → first_such test (x ∷ xs) ≡ Some x
first_true test x xs e = first_is test x xs ∙ ap (λ (t : Bool). picked t x (first_such test xs)) e

pub first_false : (test : Spot → Bool) (x : Spot) (xs : List Spot) → test x ≡ false → first_such test (x ∷ xs) ≡ first_such test xs
first_false test x xs e = first_is test x xs ∙ ap (λ (t : Bool). picked t x (first_such test xs)) e

-- none passes
pub none_such : (test : Spot → Bool) (xs : List Spot) → first_such test xs ≡ None → AllByRecursion (λ u. test u ≡ false) xs
none_such test [] e = tt
none_such test (x ∷ xs) e = by (λ h. none_such test xs h) (test x) refl
  where
    by : (first_such test xs ≡ None → AllByRecursion (λ u. test u ≡ false) xs) → (t : Bool) → test x ≡ t → (test x ≡ false) × AllByRecursion (λ u. test u ≡ false) xs
    by rest true is = absurd (some_none x (sym (first_true test x xs is) ∙ e))
    by rest false is = (is, rest (sym (first_false test x xs is) ∙ e))

pub no_such : (test : Spot → Bool) (xs : List Spot) → AllByRecursion (λ u. test u ≡ false) xs → first_such test xs ≡ None
unfolding first_such
no_such test [] all = refl
no_such test (x ∷ xs) all = first_false test x xs all.0 ∙ no_such test xs all.1

-- the one that is found passes, and what holds of each holds of it
pub such_passes : (test : Spot → Bool) (xs : List Spot) (s : Spot) → first_such test xs ≡ Some s → test s ≡ true
unfolding first_such
such_passes test [] s e = cc
such_passes test (x ∷ xs) s e = by (λ h. such_passes test xs s h) (test x) refl
  where
    by : (first_such test xs ≡ Some s → test s ≡ true) → (t : Bool) → test x ≡ t → test s ≡ true
    by rest true is = subst (λ (z : Spot). test z ≡ true) (some_same x s (sym (first_true test x xs is) ∙ e)) is
    by rest false is = rest (sym (first_false test x xs is) ∙ e)

-- A slot s is changed by f, and the others stay.
module _ (f : Spot → Spot) (s : Spot) where
  abbrev pub ChangesOne : Spot → Type 0
  ChangesOne u = (f u ≡ u) ⊎ (u ≡ s)

  -- a test that s fails before and after finds what it found
  pub others_found : (test : Spot → Bool) (xs : List Spot) → AllByRecursion ChangesOne xs → test s ≡ false → test (f s) ≡ false → first_such test (map f xs) ≡ first_such test xs
  others_found test [] all old new = refl
  others_found test (x ∷ xs) all old new = by (others_found test xs all.1 old new) all.0
    where
      by : first_such test (map f xs) ≡ first_such test xs → ChangesOne x → first_such test (f x ∷ map f xs) ≡ first_such test (x ∷ xs)
      by rest (inl same) = ap (λ (u : Spot). first_such test (u ∷ map f xs)) same ∙ first_is test x (map f xs) ∙ ap (picked (test x) x) rest ∙ sym (first_is test x xs)
      by rest (inr is) = first_false test (f x) (map f xs) (ap (λ (u : Spot). test (f u)) is ∙ new) ∙ rest ∙ sym (first_false test x xs (ap test is ∙ old))

  -- where s was the first to pass one test, and none before it passes the other then, s is the first that passes that
  pub now_found : (test other : Spot → Bool) (xs : List Spot) → first_such other xs ≡ Some s → AllByRecursion (λ u. other u ≡ false → test (f u) ≡ false) xs → test (f s) ≡ true → first_such test (map f xs) ≡ Some (f s)
  unfolding first_such
  now_found test other [] e all new = cc
  now_found test other (x ∷ xs) e all new = by (λ h. now_found test other xs h all.1 new) (other x) refl
    where
      by : (first_such other xs ≡ Some s → first_such test (map f xs) ≡ Some (f s)) → (t : Bool) → other x ≡ t → first_such test (f x ∷ map f xs) ≡ Some (f s)
      by rest true is = let same : x ≡ s = some_same x s (sym (first_true other x xs is) ∙ e) in first_true test (f x) (map f xs) (ap (λ (u : Spot). test (f u)) same ∙ new) ∙ ap (λ (u : Spot). Some (f u)) same
      by rest false is = first_false test (f x) (map f xs) (all.0 is) ∙ rest (sym (first_false other x xs is) ∙ e)

  pub none_found : (test : Spot → Bool) (xs : List Spot) → AllByRecursion (λ u. test (f u) ≡ false) xs → first_such test (map f xs) ≡ None
  none_found test [] all = no_such test [] tt
  none_found test (x ∷ xs) all = first_false test (f x) (map f xs) all.0 ∙ none_found test xs all.1

-- a row of that key
abbrev pub has_key : ℕ → Spot → Bool
has_key key u = is_used u.bytes && key_of u.bytes == key

abbrev pub is_free_slot : Spot → Bool
is_free_slot u = nat_eq (slice_index u.bytes 0) 0

-- a slot that holds a row fails for another key
pub other_key : (key other : ℕ) (u : Spot) → key_of u.bytes ≡ key → other ≢ key → has_key other u ≡ false
other_key key other u is ne = and_right (is_used u.bytes) _ (ne_eqb (key_of u.bytes) other (λ e. ne (sym e ∙ is)))

pub unused_key : (key : ℕ) (u : Spot) → is_used u.bytes ≡ false → has_key key u ≡ false
unused_key key u none = and_left (is_used u.bytes) _ none

pub free_unused : (u : Spot) → is_free_slot u ≡ true → is_used u.bytes ≡ false
free_unused u free = ne_eqb (slice_index u.bytes 0) 1 (λ one. absurd (omega (arith, eqb-true (slice_index u.bytes 0) 0 free, one)))

module _ (f : Spot → Spot) (s : Spot) (key : ℕ) (xs : List Spot) (all : AllByRecursion (ChangesOne f s) xs) where
  -- A row is written into the slot: another of that key, or a free one where no row has the key.
  module _ (is_row : has_key key (f s) ≡ true) where
    row_key : key_of (f s).bytes ≡ key
    row_key = eqb-true (key_of (f s).bytes) key (and_parts (is_used (f s).bytes) _ is_row).1

    written_at : (other : Spot → Bool) → first_such other xs ≡ Some s → AllByRecursion (λ u. other u ≡ false → has_key key u ≡ false) xs → ((k : ℕ) → k ≢ key → has_key k s ≡ false)
        → (k : ℕ) → row_at k (rows_in (map f xs)) ≡ row_at k (with_row key (text_in (f s).bytes) (rows_in xs))
    unfolding row_spot
    written_at other found before old k = elim (eqb_tells k key) [
      | inl w ↦
          ap (λ (n : ℕ). row_at n (rows_in (map f xs))) w.1 ∙ rows_at key (map f xs)
          ∙ ap (option_map (λ (u : Spot). text_in u.bytes)) (now_found f s (has_key key) other xs found passes is_row)
          ∙ sym (with_here key (text_in (f s).bytes) (rows_in xs)) ∙ ap (λ (n : ℕ). row_at n (with_row key (text_in (f s).bytes) (rows_in xs))) (sym w.1)
      | inr w ↦
          rows_at k (map f xs) ∙ ap (option_map (λ (u : Spot). text_in u.bytes)) (others_found f s (has_key k) xs all (old k w.1) (other_key key k (f s) row_key w.1))
          ∙ sym (rows_at k xs) ∙ sym (with_there key k (text_in (f s).bytes) (rows_in xs) w.1)
    ]
      where
        passes : AllByRecursion (λ u. other u ≡ false → has_key key (f u) ≡ false) xs
        passes = all_go {X = Spot} (λ u. ChangesOne f s u × (other u ≡ false → has_key key u ≡ false)) (λ u. other u ≡ false → has_key key (f u) ≡ false) xs
            (λ u facts fails. by_change u facts.0 fails (facts.1 fails)) (all_both {X = Spot} (ChangesOne f s) (λ u. other u ≡ false → has_key key u ≡ false) xs all before)
          where
            by_change : (u : Spot) → ChangesOne f s u → other u ≡ false → has_key key u ≡ false → has_key key (f u) ≡ false
            by_change u (inl same) fails none = ap (has_key key) same ∙ none
            by_change u (inr is) fails none = absurd (true≢false (sym (such_passes other xs s found) ∙ ap other (sym is) ∙ fails))

    written_rows : (other : Spot → Bool) → first_such other xs ≡ Some s → AllByRecursion (λ u. other u ≡ false → has_key key u ≡ false) xs → ((k : ℕ) → k ≢ key → has_key k s ≡ false)
        → rows_in (map f xs) ≡ with_row key (text_in (f s).bytes) (rows_in xs)
    written_rows other found before old = same_maps (rows_in (map f xs)) (with_row key (text_in (f s).bytes) (rows_in xs)) (rows_rise (map f xs)) (with_rising key (text_in (f s).bytes) (rows_in xs) (rows_rise xs)) (written_at other found before old)

    pub updated_rows : row_spot key xs ≡ Some s → rows_in (map f xs) ≡ with_row key (text_in (f s).bytes) (rows_in xs)
    unfolding row_spot
    updated_rows found = written_rows (has_key key) found (every xs) (λ k ne. other_key key k s (eqb-true (key_of s.bytes) key (and_parts (is_used s.bytes) _ (such_passes (has_key key) xs s found)).1) ne)
      where
        every : (ys : List Spot) → AllByRecursion (λ u. has_key key u ≡ false → has_key key u ≡ false) ys
        every [] = tt
        every (y ∷ ys) = (λ e. e, every ys)

    pub inserted_rows : free_spot xs ≡ Some s → row_spot key xs ≡ None → rows_in (map f xs) ≡ with_row key (text_in (f s).bytes) (rows_in xs)
    unfolding free_spot row_spot
    inserted_rows found none = written_rows is_free_slot found (all_go {X = Spot} (λ u. has_key key u ≡ false) (λ u. is_free_slot u ≡ false → has_key key u ≡ false) xs (λ u e used. e) (none_such (has_key key) xs none))
        (λ k ne. unused_key k s (free_unused s (such_passes is_free_slot xs s found)))

  -- A row is taken out of the slot, where no other has its key.
  pub deleted_rows : is_used (f s).bytes ≡ false → has_key key s ≡ true → AllByRecursion (λ u. has_key key u ≡ true → u ≡ s) xs → rows_in (map f xs) ≡ without_row key (rows_in xs)
  unfolding row_spot
  deleted_rows empty is_row once = same_maps (rows_in (map f xs)) (without_row key (rows_in xs)) (rows_rise (map f xs)) (without_rising key (rows_in xs) (rows_rise xs)) each
    where
      gone : (u : Spot) → ChangesOne f s u → (has_key key u ≡ true → u ≡ s) → has_key key (f u) ≡ false
      gone u (inr is) one = ap (λ (x : Spot). has_key key (f x)) is ∙ unused_key key (f s) empty
      gone u (inl same) one = by (has_key key u) refl
        where
          by : (t : Bool) → has_key key u ≡ t → has_key key (f u) ≡ false
          by false is = ap (has_key key) same ∙ is
          by true is = ap (λ (x : Spot). has_key key (f x)) (one is) ∙ unused_key key (f s) empty

      each : (k : ℕ) → row_at k (rows_in (map f xs)) ≡ row_at k (without_row key (rows_in xs))
      each k = elim (eqb_tells k key) [
        | inl w ↦
            ap (λ (n : ℕ). row_at n (rows_in (map f xs))) w.1 ∙ rows_at key (map f xs)
            ∙ ap (option_map (λ (u : Spot). text_in u.bytes)) (none_found f s (has_key key) xs (all_go {X = Spot} (λ u. ChangesOne f s u × (has_key key u ≡ true → u ≡ s)) (λ u. has_key key (f u) ≡ false) xs (λ u facts. gone u facts.0 facts.1) (all_both {X = Spot} (ChangesOne f s) (λ u. has_key key u ≡ true → u ≡ s) xs all once)))
            ∙ sym (without_here key (rows_in xs)) ∙ ap (λ (n : ℕ). row_at n (without_row key (rows_in xs))) (sym w.1)
        | inr w ↦
            rows_at k (map f xs)
            ∙ ap (option_map (λ (u : Spot). text_in u.bytes)) (others_found f s (has_key k) xs all (other_key key k s (eqb-true (key_of s.bytes) key (and_parts (is_used s.bytes) _ is_row).1) w.1) (unused_key k (f s) empty))
            ∙ sym (rows_at k xs) ∙ sym (without_there key k (rows_in xs) w.1)
      ]
