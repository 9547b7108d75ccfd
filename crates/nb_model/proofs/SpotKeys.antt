-- No key stands twice in the used slots where one slot is written.
use Rattle.std.proofs.Common.{◌≡◌, ◌≢◌, ◌⊎◌, inl, inr, ℕ, List, [], ◌∷◌, map, refl, sym, ap, subst, ◌∙◌, Bool, true, false, ◌==◌, Some}
use Rattle.nb_model.proofs.Common.{AllByRecursion, true≢false, and_parts, and_from, eq-eqb, eqb-true, Spot, is_used, key_of, first_such, row_spot, used, keys_of, AreDistinct, some_same}
use Rattle.nb_model.proofs.SpotMaps.{ChangesOne, has_key, first_true, first_false}

-- the keys of the rows
abbrev pub keys_in : List Spot → List ℕ
keys_in xs = keys_of (used xs)

pub keys_used : (x : Spot) (xs : List Spot) → is_used x.bytes ≡ true → keys_in (x ∷ xs) ≡ key_of x.bytes ∷ keys_in xs
unfolding used keys_of
keys_used x xs e = ap (λ (t : Bool). keys_of (elim t as (λ z. List Spot) [ true ↦ x ∷ used xs | false ↦ used xs ])) e

pub keys_unused : (x : Spot) (xs : List Spot) → is_used x.bytes ≡ false → keys_in (x ∷ xs) ≡ keys_in xs
unfolding used keys_of
keys_unused x xs e = ap (λ (t : Bool). keys_of (elim t as (λ z. List Spot) [ true ↦ x ∷ used xs | false ↦ used xs ])) e

pub keys_none : keys_in [] ≡ []
unfolding used keys_of
keys_none = refl

-- a key that isn't among them
abbrev pub Absent : ℕ → List ℕ → Type 0
Absent key ys = AllByRecursion (λ (y : ℕ). key ≢ y) ys

pub absent_row : (key : ℕ) (u : Spot) → (is_used u.bytes ≡ true → key ≢ key_of u.bytes) → has_key key u ≡ false
absent_row key u other = by (has_key key u) refl
  where
    by : (t : Bool) → has_key key u ≡ t → has_key key u ≡ false
    by false is = is
    by true is = let parts = and_parts (is_used u.bytes) (key_of u.bytes == key) is in absurd (other parts.0 (sym (eqb-true (key_of u.bytes) key parts.1)))

pub absent_rows : (key : ℕ) (xs : List Spot) → Absent key (keys_in xs) → AllByRecursion (λ u. has_key key u ≡ false) xs
absent_rows key [] absent = tt
absent_rows key (x ∷ xs) absent = by (λ h. absent_rows key xs h) (is_used x.bytes) refl
  where
    by : (Absent key (keys_in xs) → AllByRecursion (λ u. has_key key u ≡ false) xs) → (t : Bool) → is_used x.bytes ≡ t → (has_key key x ≡ false) × AllByRecursion (λ u. has_key key u ≡ false) xs
    by rest true is = let all : Absent key (key_of x.bytes ∷ keys_in xs) = subst (Absent key) (keys_used x xs is) absent in (absent_row key x (λ used. all.0), rest all.1)
    by rest false is = (absent_row key x (λ used. absurd (true≢false (sym used ∙ is))), rest (subst (Absent key) (keys_unused x xs is) absent))

pub rows_absent : (key : ℕ) (xs : List Spot) → AllByRecursion (λ u. has_key key u ≡ false) xs → Absent key (keys_in xs)
rows_absent key [] all = subst (Absent key) (sym keys_none) tt
rows_absent key (x ∷ xs) all = by (rows_absent key xs all.1) (is_used x.bytes) refl
  where
    by : Absent key (keys_in xs) → (t : Bool) → is_used x.bytes ≡ t → Absent key (keys_in (x ∷ xs))
    by rest true is = subst (Absent key) (sym (keys_used x xs is)) ((λ e. true≢false (sym (and_from (is_used x.bytes) _ is (eq-eqb (key_of x.bytes) key (sym e))) ∙ all.0)), rest)
    by rest false is = subst (Absent key) (sym (keys_unused x xs is)) rest

-- Where no key stands twice one slot alone has the key of a row.
pub once_key : (key : ℕ) (xs : List Spot) (s : Spot) → AreDistinct (keys_in xs) → row_spot key xs ≡ Some s → AllByRecursion (λ u. has_key key u ≡ true → u ≡ s) xs
unfolding row_spot
once_key key [] s distinct found = tt
once_key key (x ∷ xs) s distinct found = by (λ d h. once_key key xs s d h) (has_key key x) refl
  where
    behind : AreDistinct (keys_in xs)
    behind = by_use (is_used x.bytes) refl
      where
        by_use : (t : Bool) → is_used x.bytes ≡ t → AreDistinct (keys_in xs)
        by_use true is = (subst AreDistinct (keys_used x xs is) distinct).1
        by_use false is = subst AreDistinct (keys_unused x xs is) distinct

    never : (ys : List Spot) → AllByRecursion (λ u. has_key key u ≡ false) ys → AllByRecursion (λ u. has_key key u ≡ true → u ≡ s) ys
    never [] all = tt
    never (y ∷ ys) all = ((λ is. absurd (true≢false (sym is ∙ all.0))), never ys all.1)

    by : (AreDistinct (keys_in xs) → first_such (has_key key) xs ≡ Some s → AllByRecursion (λ u. has_key key u ≡ true → u ≡ s) xs) → (t : Bool) → has_key key x ≡ t
        → (has_key key x ≡ true → x ≡ s) × AllByRecursion (λ u. has_key key u ≡ true → u ≡ s) xs
    by rest false is = ((λ e. absurd (true≢false (sym e ∙ is))), rest behind (sym (first_false (has_key key) x xs is) ∙ found))
    by rest true is =
        let parts = and_parts (is_used x.bytes) (key_of x.bytes == key) is in
        let same : key_of x.bytes ≡ key = eqb-true (key_of x.bytes) key parts.1 in
        let all : Absent (key_of x.bytes) (keys_in xs) = (subst AreDistinct (keys_used x xs parts.0) distinct).0 in
        ((λ e. some_same x s (sym (first_true (has_key key) x xs is) ∙ found)), never xs (absent_rows key xs (subst (λ (k : ℕ). Absent k (keys_in xs)) same all)))

module _ (f : Spot → Spot) (s : Spot) where
  -- A slot keeps its key.
  pub same_keys : (xs : List Spot) → AllByRecursion (ChangesOne f s) xs → is_used s.bytes ≡ true → is_used (f s).bytes ≡ true → key_of (f s).bytes ≡ key_of s.bytes → keys_in (map f xs) ≡ keys_in xs
  same_keys [] all old new key = refl
  same_keys (x ∷ xs) all old new key = by (same_keys xs all.1 old new key) all.0
    where
      by : keys_in (map f xs) ≡ keys_in xs → ChangesOne f s x → keys_in (f x ∷ map f xs) ≡ keys_in (x ∷ xs)
      by rest (inr is) =
          keys_used (f x) (map f xs) (ap (λ (u : Spot). is_used (f u).bytes) is ∙ new) ∙ ap (λ (k : ℕ). k ∷ keys_in (map f xs)) (ap (λ (u : Spot). key_of (f u).bytes) is ∙ key ∙ ap (λ (u : Spot). key_of u.bytes) (sym is))
          ∙ ap (λ (ks : List ℕ). key_of x.bytes ∷ ks) rest ∙ sym (keys_used x xs (ap (λ (u : Spot). is_used u.bytes) is ∙ old))
      by rest (inl same) = ap (λ (u : Spot). keys_in (u ∷ map f xs)) same ∙ by_use (is_used x.bytes) refl
        where
          by_use : (t : Bool) → is_used x.bytes ≡ t → keys_in (x ∷ map f xs) ≡ keys_in (x ∷ xs)
          by_use true is = keys_used x (map f xs) is ∙ ap (λ (ks : List ℕ). key_of x.bytes ∷ ks) rest ∙ sym (keys_used x xs is)
          by_use false is = keys_unused x (map f xs) is ∙ rest ∙ sym (keys_unused x xs is)

  -- A slot is emptied.
  absent_fewer : (key : ℕ) (xs : List Spot) → AllByRecursion (ChangesOne f s) xs → is_used (f s).bytes ≡ false → Absent key (keys_in xs) → Absent key (keys_in (map f xs))
  absent_fewer key xs all empty absent = rows_absent key (map f xs) (each xs all (absent_rows key xs absent))
    where
      one : (u : Spot) → ChangesOne f s u → has_key key u ≡ false → has_key key (f u) ≡ false
      one u (inl same) none = ap (has_key key) same ∙ none
      one u (inr is) none = absent_row key (f u) (λ used. absurd (true≢false (sym used ∙ ap (λ (x : Spot). is_used (f x).bytes) is ∙ empty)))

      each : (ys : List Spot) → AllByRecursion (ChangesOne f s) ys → AllByRecursion (λ u. has_key key u ≡ false) ys → AllByRecursion (λ u. has_key key u ≡ false) (map f ys)
      each [] changes none = tt
      each (y ∷ ys) changes none = (one y changes.0 none.0, each ys changes.1 none.1)

  pub fewer_keys : (xs : List Spot) → AllByRecursion (ChangesOne f s) xs → is_used (f s).bytes ≡ false → AreDistinct (keys_in xs) → AreDistinct (keys_in (map f xs))
  fewer_keys [] all empty distinct = distinct
  fewer_keys (x ∷ xs) all empty distinct = by (λ d. fewer_keys xs all.1 empty d) all.0 (is_used x.bytes) refl
    where
      by : (AreDistinct (keys_in xs) → AreDistinct (keys_in (map f xs))) → ChangesOne f s x → (t : Bool) → is_used x.bytes ≡ t → AreDistinct (keys_in (f x ∷ map f xs))
      by rest change true is = by_change change
        where
          before : AreDistinct (key_of x.bytes ∷ keys_in xs)
          before = subst AreDistinct (keys_used x xs is) distinct

          by_change : ChangesOne f s x → AreDistinct (keys_in (f x ∷ map f xs))
          by_change (inl same) = subst (λ (u : Spot). AreDistinct (keys_in (u ∷ map f xs))) (sym same) (subst AreDistinct (sym (keys_used x (map f xs) is)) (absent_fewer (key_of x.bytes) xs all.1 empty before.0, rest before.1))
          by_change (inr one) = subst AreDistinct (sym (keys_unused (f x) (map f xs) (ap (λ (u : Spot). is_used (f u).bytes) one ∙ empty))) (rest before.1)
      by rest change false is = by_change change
        where
          behind : AreDistinct (keys_in (map f xs))
          behind = rest (subst AreDistinct (keys_unused x xs is) distinct)

          by_change : ChangesOne f s x → AreDistinct (keys_in (f x ∷ map f xs))
          by_change (inl same) = subst (λ (u : Spot). AreDistinct (keys_in (u ∷ map f xs))) (sym same) (subst AreDistinct (sym (keys_unused x (map f xs) is)) behind)
          by_change (inr one) = subst AreDistinct (sym (keys_unused (f x) (map f xs) (ap (λ (u : Spot). is_used (f u).bytes) one ∙ empty))) behind

  -- One of the slots changes at most.
  abbrev pub ChangesOnce : List Spot → Type 0
  ChangesOnce [] = Unit {0}
  ChangesOnce (x ∷ xs) = ((f x ≡ x) × ChangesOnce xs) ⊎ ((x ≡ s) × AllByRecursion (λ u. f u ≡ u) xs)

  -- A slot gets a row with a new key.
  module _ (key : ℕ) (is_row : has_key key (f s) ≡ true) where
    its_key : key_of (f s).bytes ≡ key
    its_key = eqb-true (key_of (f s).bytes) key (and_parts (is_used (f s).bytes) _ is_row).1

    its_use : is_used (f s).bytes ≡ true
    its_use = (and_parts (is_used (f s).bytes) _ is_row).0

    all_still : (xs : List Spot) → AllByRecursion (λ u. f u ≡ u) xs → map f xs ≡ xs
    all_still [] all = refl
    all_still (x ∷ xs) all = ap (λ (u : Spot). u ∷ map f xs) all.0 ∙ ap (λ (us : List Spot). x ∷ us) (all_still xs all.1)

    absent_more : (other : ℕ) (xs : List Spot) → ChangesOnce xs → other ≢ key → AllByRecursion (λ u. has_key other u ≡ false) xs → AllByRecursion (λ u. has_key other u ≡ false) (map f xs)
    absent_more other [] once ne all = tt
    absent_more other (x ∷ xs) once ne all = by (λ o. absent_more other xs o ne all.1) once
      where
        by : (ChangesOnce xs → AllByRecursion (λ u. has_key other u ≡ false) (map f xs)) → ChangesOnce (x ∷ xs) → (has_key other (f x) ≡ false) × AllByRecursion (λ u. has_key other u ≡ false) (map f xs)
        by rest (inl still) = (ap (has_key other) still.0 ∙ all.0, rest still.1)
        by rest (inr changes) = (
          absent_row other (f x) (λ used e. ne (e ∙ ap (λ (u : Spot). key_of (f u).bytes) changes.0 ∙ its_key)),
          subst (λ (us : List Spot). AllByRecursion (λ u. has_key other u ≡ false) us) (sym (all_still xs changes.1)) all.1,
        )

    pub more_keys : (xs : List Spot) → ChangesOnce xs → is_used s.bytes ≡ false → AllByRecursion (λ u. has_key key u ≡ false) xs → AreDistinct (keys_in xs) → AreDistinct (keys_in (map f xs))
    more_keys [] once free none distinct = distinct
    more_keys (x ∷ xs) once free none distinct = by (λ o d. more_keys xs o free none.1 d) once
      where
        by : (ChangesOnce xs → AreDistinct (keys_in xs) → AreDistinct (keys_in (map f xs))) → ChangesOnce (x ∷ xs) → AreDistinct (keys_in (f x ∷ map f xs))
        by rest (inl still) = subst (λ (u : Spot). AreDistinct (keys_in (u ∷ map f xs))) (sym still.0) (by_use (is_used x.bytes) refl)
          where
            by_use : (t : Bool) → is_used x.bytes ≡ t → AreDistinct (keys_in (x ∷ map f xs))
            by_use false is = subst AreDistinct (sym (keys_unused x (map f xs) is)) (rest still.1 (subst AreDistinct (keys_unused x xs is) distinct))
            by_use true is =
                let before : AreDistinct (key_of x.bytes ∷ keys_in xs) = subst AreDistinct (keys_used x xs is) distinct in
                let ne : key_of x.bytes ≢ key = λ e. true≢false (sym (and_from (is_used x.bytes) _ is (eq-eqb (key_of x.bytes) key e)) ∙ none.0) in
                subst AreDistinct (sym (keys_used x (map f xs) is)) (rows_absent (key_of x.bytes) (map f xs) (absent_more (key_of x.bytes) xs still.1 ne (absent_rows (key_of x.bytes) xs before.0)), rest still.1 before.1)
        by rest (inr changes) =
            subst AreDistinct
            (sym (keys_used (f x) (map f xs) (ap (λ (u : Spot). is_used (f u).bytes) changes.0 ∙ its_use) ∙ ap (λ (k : ℕ). k ∷ keys_in (map f xs)) (ap (λ (u : Spot). key_of (f u).bytes) changes.0 ∙ its_key)
            ∙ ap (λ (us : List Spot). key ∷ keys_in us) (all_still xs changes.1)))
            (rows_absent key xs none.1, subst AreDistinct (keys_unused x xs (ap (λ (u : Spot). is_used u.bytes) changes.0 ∙ free)) distinct)
