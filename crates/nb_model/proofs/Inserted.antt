-- A list with one element more, somewhere.
use Rattle.std.proofs.Common.{◌≡◌, ◌≢◌, ◌⊎◌, inl, inr, ℕ, List, [], ◌∷◌, ◌++◌, map, refl, sym, ap, subst, ◌∙◌, Bool, true, false}
use Rattle.nb_model.proofs.Common.{AllByRecursion, true≢false, Spot, is_used, table_of, found_pages, Image, used, table_chains, pages_of_all, names_of, AreDistinct}
use Rattle.nb_model.proofs.NeatLaws.{pages_first, tables_first, used_yes, used_not}
use Rattle.nb_model.proofs.SpotKeys.{ChangesOnce}
use Rattle.nb_model.proofs.TableCases.{chain_at}

pub data Inserted {X : Type 0} (v : X) : List X → List X → Type 0 where
  here : (xs : List X) → Inserted v xs (v ∷ xs)
  behind : (x : X) (xs ys : List X) → Inserted v xs ys → Inserted v (x ∷ xs) (x ∷ ys)

module _ {X : Type 0} (v : X) where
  -- what holds of it and of the others holds of all
  pub inserted_each : (P : X → Type 0) (xs ys : List X) → Inserted v xs ys → P v → AllByRecursion P xs → AllByRecursion P ys
  inserted_each P xs ys (here _) one all = (one, all)
  inserted_each P xs ys (behind x zs ws more) one all = (all.0, inserted_each P zs ws more one all.1)

  -- where none of the others is it, nothing stands twice
  pub inserted_apart : (xs ys : List X) → Inserted v xs ys → AllByRecursion (λ (x : X). v ≢ x) xs → AreDistinct xs → AreDistinct ys
  inserted_apart xs ys (here _) none distinct = (none, distinct)
  inserted_apart xs ys (behind x zs ws more) none distinct = (inserted_each (λ (y : X). x ≢ y) zs ws more (λ e. none.0 (sym e)) distinct.0, inserted_apart zs ws more none.1 distinct.1)

  -- at the end
  pub inserted_last : (xs : List X) → Inserted v xs (xs ++ v ∷ [])
  inserted_last [] = here []
  inserted_last (x ∷ xs) = behind x xs (xs ++ v ∷ []) (inserted_last xs)

  -- before and after other lists
  pub inserted_behind : (zs xs ys : List X) → Inserted v xs ys → Inserted v (zs ++ xs) (zs ++ ys)
  inserted_behind [] xs ys more = more
  inserted_behind (z ∷ zs) xs ys more = behind z (zs ++ xs) (zs ++ ys) (inserted_behind zs xs ys more)

  pub inserted_before : (zs xs ys : List X) → Inserted v xs ys → Inserted v (xs ++ zs) (ys ++ zs)
  inserted_before zs xs ys (here _) = here (xs ++ zs)
  inserted_before zs xs ys (behind x ks ls more) = behind x (ks ++ zs) (ls ++ zs) (inserted_before zs ks ls more)

-- The names of slots, and the pages of tables.
pub names_first : (u : Spot) (us : List Spot) → names_of (u ∷ us) ≡ table_of u.bytes ∷ names_of us
unfolding names_of
names_first u us = refl

pub inserted_names : (v : Spot) (us ws : List Spot) → Inserted v us ws → Inserted (table_of v.bytes) (names_of us) (names_of ws)
inserted_names v us ws (here _) = subst (Inserted (table_of v.bytes) (names_of us)) (sym (names_first v us)) (here (names_of us))
inserted_names v us ws (behind x zs xs more) =
    subst (λ (ns : List (List ℕ)). Inserted (table_of v.bytes) ns (names_of ws)) (sym (names_first x zs)) (subst (Inserted (table_of v.bytes) (table_of x.bytes ∷ names_of zs)) (sym (names_first x xs)) (behind (table_of x.bytes) (names_of zs) (names_of xs) (inserted_names v zs xs more)))

pub tables_pages : (y : Image) (u : Spot) (us : List Spot) → pages_of_all y (table_chains (u ∷ us)) ≡ found_pages (chain_at u) y ++ pages_of_all y (table_chains us)
tables_pages y u us = ap (pages_of_all y) (tables_first y u us) ∙ pages_first y (chain_at u) (table_chains us)

pub inserted_pages : (y : Image) (v : Spot) (n : ℕ) (us ws : List Spot) → found_pages (chain_at v) y ≡ n ∷ [] → Inserted v us ws → Inserted n (pages_of_all y (table_chains us)) (pages_of_all y (table_chains ws))
inserted_pages y v n us ws one (here _) =
    subst (Inserted n (pages_of_all y (table_chains us))) (sym (tables_pages y v us ∙ ap (λ (ps : List ℕ). ps ++ pages_of_all y (table_chains us)) one)) (here (pages_of_all y (table_chains us)))
inserted_pages y v n us ws one (behind x zs xs more) =
    subst (λ (ps : List ℕ). Inserted n ps (pages_of_all y (table_chains ws))) (sym (tables_pages y x zs))
    (subst (Inserted n (found_pages (chain_at x) y ++ pages_of_all y (table_chains zs))) (sym (tables_pages y x xs)) (inserted_behind n (found_pages (chain_at x) y) (pages_of_all y (table_chains zs)) (pages_of_all y (table_chains xs)) (inserted_pages y v n zs xs one more)))

-- A free slot that is filled: among the used ones there is one more.
module _ (f : Spot → Spot) (s : Spot) (free : is_used s.bytes ≡ false) (filled : is_used (f s).bytes ≡ true) where
  -- that it is one of them
  abbrev pub Among : List Spot → Type 0
  Among [] = ⊥
  Among (x ∷ xs) = (x ≡ s) ⊎ Among xs

  still : (xs : List Spot) → AllByRecursion (λ u. f u ≡ u) xs → map f xs ≡ xs
  still [] all = refl
  still (x ∷ xs) all = ap (λ (u : Spot). u ∷ map f xs) all.0 ∙ ap (λ (us : List Spot). x ∷ us) (still xs all.1)

  moves : f s ≡ s → ⊥
  moves e = absurd (true≢false (sym filled ∙ ap (λ (u : Spot). is_used u.bytes) e ∙ free))

  pub inserted_used : (xs : List Spot) → ChangesOnce f s xs → Among xs → Inserted (f s) (used xs) (used (map f xs))
  inserted_used [] once among = absurd among
  inserted_used (x ∷ xs) once among = by once among (λ o a. inserted_used xs o a)
    where
      by : ChangesOnce f s (x ∷ xs) → Among (x ∷ xs) → (ChangesOnce f s xs → Among xs → Inserted (f s) (used xs) (used (map f xs))) → Inserted (f s) (used (x ∷ xs)) (used (f x ∷ map f xs))
      by (inl facts) (inl is) rest = absurd (moves (ap f (sym is) ∙ facts.0 ∙ is))
      by (inl facts) (inr later) rest = subst (λ (u : Spot). Inserted (f s) (used (x ∷ xs)) (used (u ∷ map f xs))) (sym facts.0) (by_use (is_used x.bytes) refl)
        where
          by_use : (t : Bool) → is_used x.bytes ≡ t → Inserted (f s) (used (x ∷ xs)) (used (x ∷ map f xs))
          by_use true is =
              subst (λ (us : List Spot). Inserted (f s) us (used (x ∷ map f xs))) (sym (used_yes x xs is)) (subst (Inserted (f s) (x ∷ used xs)) (sym (used_yes x (map f xs) is)) (behind x (used xs) (used (map f xs)) (rest facts.1 later)))
          by_use false is = subst (λ (us : List Spot). Inserted (f s) us (used (x ∷ map f xs))) (sym (used_not x xs is)) (subst (Inserted (f s) (used xs)) (sym (used_not x (map f xs) is)) (rest facts.1 later))
      by (inr facts) among rest =
          subst (λ (us : List Spot). Inserted (f s) us (used (f x ∷ map f xs))) (sym (used_not x xs (ap (λ (u : Spot). is_used u.bytes) facts.0 ∙ free)))
          (subst (Inserted (f s) (used xs)) (sym (used_yes (f x) (map f xs) (ap (λ (u : Spot). is_used (f u).bytes) facts.0 ∙ filled) ∙ ap (λ (us : List Spot). f x ∷ used us) (still xs facts.1) ∙ ap (λ (u : Spot). f u ∷ used xs) facts.0)) (here (used xs)))

pub used_nothing : used [] ≡ []
unfolding used
used_nothing = refl

pub none_used : (ys : List Spot) → AllByRecursion (λ (u : Spot). is_used u.bytes ≡ false) ys → used ys ≡ []
none_used [] all = used_nothing
none_used (y ∷ ys) all = used_not y ys all.0 ∙ none_used ys all.1

-- slots after the others, of which the first is used
pub used_more : (xs ys : List Spot) (v : Spot) → is_used v.bytes ≡ true → AllByRecursion (λ (u : Spot). is_used u.bytes ≡ false) ys → used (xs ++ v ∷ ys) ≡ used xs ++ v ∷ []
used_more [] ys v is none = used_yes v ys is ∙ ap (λ (us : List Spot). v ∷ us) (none_used ys none) ∙ ap (λ (us : List Spot). us ++ v ∷ []) (sym used_nothing)
used_more (x ∷ xs) ys v is none = by (is_used x.bytes) refl (used_more xs ys v is none)
  where
    by : (t : Bool) → is_used x.bytes ≡ t → used (xs ++ v ∷ ys) ≡ used xs ++ v ∷ [] → used (x ∷ (xs ++ v ∷ ys)) ≡ used (x ∷ xs) ++ v ∷ []
    by true e rest = used_yes x (xs ++ v ∷ ys) e ∙ ap (λ (us : List Spot). x ∷ us) rest ∙ ap (λ (us : List Spot). us ++ v ∷ []) (sym (used_yes x xs e))
    by false e rest = used_not x (xs ++ v ∷ ys) e ∙ rest ∙ ap (λ (us : List Spot). us ++ v ∷ []) (sym (used_not x xs e))
