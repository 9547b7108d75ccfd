-- An image stays neat where the slot of a table in the catalogue is emptied: the table is gone then, and the others stay.
use Rattle.std.proofs.Common.{◌≡◌, ◌≢◌, ◌⊎◌, inl, inr, ⊎_elim, ℕ, List, [], ◌∷◌, ◌++◌, map, refl, sym, ap, subst, ◌∙◌, append_assoc, Bool, true, false, ◌&&◌, Option, Some, None, Ok}
use Rattle.nb_model.proofs.Common.{AllByRecursion, told_text, true≢false, and_parts, and_left, same_name, Chain, Catalogue, History, Spot, is_used, table_of, first_such, pages_of, found_pages, spots, table_spot, is_free_page, Image, GivesRows, rows_in, rows, used, table_chains, chains, pages_of_all, AreDistinct, names_of, IsNeat, some_same, all_parts, all_append, all_go, all_both}
use Rattle.nb_model.proofs.NeatGrows.{apart_front, distinct_both}
use Rattle.nb_model.proofs.NeatLaws.{pages_first, distinct_left, distinct_right, chains_are, each_table, tables_each, table_found, IsFoundTable, used_each, used_yes, used_not, rows_of_none, rows_of_some, ChangesChain, same_pages, same_all}
use Rattle.nb_model.proofs.RoomLaws.{first_passes}
use Rattle.nb_model.proofs.SpotKeys.{keys_in, Absent}
use Rattle.nb_model.proofs.SpotMaps.{ChangesOne, none_found, others_found, first_true, first_false}
use Rattle.nb_model.proofs.TableCases.{chain_at}
use Rattle.nb_model.proofs.Inserted.{names_first, tables_pages, used_nothing}

-- the test of a name
abbrev pub has_name : List ℕ → Spot → Bool
has_name table s = is_used s.bytes && same_name (table_of s.bytes) table

pub name_of : (table : List ℕ) (s : Spot) → has_name table s ≡ true → (is_used s.bytes ≡ true) × (table_of s.bytes ≡ table)
name_of table s is = let parts = and_parts (is_used s.bytes) (same_name (table_of s.bytes) table) is in (parts.0, told_text (table_of s.bytes) table true (sym parts.1))

-- names that aren't there
abbrev NoName : List ℕ → List (List ℕ) → Type 0
NoName name ns = AllByRecursion (λ (m : List ℕ). name ≢ m) ns

names_used : (u : Spot) (us : List Spot) → is_used u.bytes ≡ true → names_of (used (u ∷ us)) ≡ table_of u.bytes ∷ names_of (used us)
names_used u us is = ap names_of (used_yes u us is) ∙ names_first u (used us)

-- No name stands twice: so one slot alone has it.
pub once_name : (table : List ℕ) (xs : List Spot) (s : Spot) → AreDistinct (names_of (used xs)) → first_such (has_name table) xs ≡ Some s → AllByRecursion (λ u. has_name table u ≡ true → u ≡ s) xs
once_name table [] s distinct found = tt
once_name table (x ∷ xs) s distinct found = by (λ d h. once_name table xs s d h) (has_name table x) refl
  where
    behind : AreDistinct (names_of (used xs))
    behind = by_use (is_used x.bytes) refl
      where
        by_use : (t : Bool) → is_used x.bytes ≡ t → AreDistinct (names_of (used xs))
        by_use true is = (subst AreDistinct (names_used x xs is) distinct).1
        by_use false is = subst (λ (us : List Spot). AreDistinct (names_of us)) (used_not x xs is) distinct

    never : (name : List ℕ) → name ≡ table → (ys : List Spot) → NoName name (names_of (used ys)) → AllByRecursion (λ u. has_name table u ≡ true → u ≡ s) ys
    never name is [] all = tt
    never name is (y ∷ ys) all = by_use (is_used y.bytes) refl (λ h. never name is ys h)
      where
        by_use : (t : Bool) → is_used y.bytes ≡ t → (NoName name (names_of (used ys)) → AllByRecursion (λ u. has_name table u ≡ true → u ≡ s) ys) → (has_name table y ≡ true → y ≡ s) × AllByRecursion (λ u. has_name table u ≡ true → u ≡ s) ys
        by_use true u rest = let both : NoName name (table_of y.bytes ∷ names_of (used ys)) = subst (NoName name) (names_used y ys u) all in ((λ e. absurd (both.0 (is ∙ sym (name_of table y e).1))), rest both.1)
        by_use false u rest = ((λ e. absurd (true≢false (sym (name_of table y e).0 ∙ u))), rest (subst (λ (us : List Spot). NoName name (names_of us)) (used_not y ys u) all))

    by : (AreDistinct (names_of (used xs)) → first_such (has_name table) xs ≡ Some s → AllByRecursion (λ u. has_name table u ≡ true → u ≡ s) xs) → (t : Bool) → has_name table x ≡ t
        → (has_name table x ≡ true → x ≡ s) × AllByRecursion (λ u. has_name table u ≡ true → u ≡ s) xs
    by rest false is = ((λ e. absurd (true≢false (sym e ∙ is))), rest behind (sym (first_false (has_name table) x xs is) ∙ found))
    by rest true is =
        let its = name_of table x is in
        ((λ e. some_same x s (sym (first_true (has_name table) x xs is) ∙ found)), never (table_of x.bytes) its.1 xs (subst AreDistinct (names_used x xs its.0) distinct).0)

module _ (f : Spot → Spot) (s : Spot) (empty : is_used (f s).bytes ≡ false) where
  -- What holds of the used slots holds of those that are left, and none of them is the one that was emptied.
  pub left_each : (P : Spot → Type 0) (xs : List Spot) → AllByRecursion (ChangesOne f s) xs → AllByRecursion P (used xs) → AllByRecursion P (used (map f xs))
  left_each P [] all holds = holds
  left_each P (x ∷ xs) all holds = by all.0 (is_used x.bytes) refl (λ h. left_each P xs all.1 h)
    where
      by : ChangesOne f s x → (t : Bool) → is_used x.bytes ≡ t → (AllByRecursion P (used xs) → AllByRecursion P (used (map f xs))) → AllByRecursion P (used (f x ∷ map f xs))
      by (inl same) true is rest =
          let both : P x × AllByRecursion P (used xs) = subst (AllByRecursion P) (used_yes x xs is) holds in
          subst (λ (u : Spot). AllByRecursion P (used (u ∷ map f xs))) (sym same) (subst (AllByRecursion P) (sym (used_yes x (map f xs) is)) (both.0, rest both.1))
      by (inl same) false is rest =
          subst (λ (u : Spot). AllByRecursion P (used (u ∷ map f xs))) (sym same) (subst (AllByRecursion P) (sym (used_not x (map f xs) is)) (rest (subst (AllByRecursion P) (used_not x xs is) holds)))
      by (inr one) true is rest =
          let both : P x × AllByRecursion P (used xs) = subst (AllByRecursion P) (used_yes x xs is) holds in
          subst (AllByRecursion P) (sym (used_not (f x) (map f xs) (ap (λ (u : Spot). is_used (f u).bytes) one ∙ empty))) (rest both.1)
      by (inr one) false is rest =
          subst (AllByRecursion P) (sym (used_not (f x) (map f xs) (ap (λ (u : Spot). is_used (f u).bytes) one ∙ empty))) (rest (subst (AllByRecursion P) (used_not x xs is) holds))

  pub left_other : (xs : List Spot) → AllByRecursion (ChangesOne f s) xs → is_used s.bytes ≡ true → AllByRecursion (λ u. u ≢ s) (used (map f xs))
  left_other [] all old = subst (AllByRecursion (λ u. u ≢ s)) (sym used_nothing) tt
  left_other (x ∷ xs) all old = by all.0 (is_used x.bytes) refl (left_other xs all.1 old)
    where
      by : ChangesOne f s x → (t : Bool) → is_used x.bytes ≡ t → AllByRecursion (λ u. u ≢ s) (used (map f xs)) → AllByRecursion (λ u. u ≢ s) (used (f x ∷ map f xs))
      by (inl same) true is rest =
          subst (λ (u : Spot). AllByRecursion (λ v. v ≢ s) (used (u ∷ map f xs))) (sym same) (subst (AllByRecursion (λ v. v ≢ s)) (sym (used_yes x (map f xs) is))
          ((λ e. true≢false (sym old ∙ ap (λ (u : Spot). is_used u.bytes) (sym e ∙ sym same ∙ ap f e) ∙ empty)), rest))
      by (inl same) false is rest = subst (λ (u : Spot). AllByRecursion (λ v. v ≢ s) (used (u ∷ map f xs))) (sym same) (subst (AllByRecursion (λ v. v ≢ s)) (sym (used_not x (map f xs) is)) rest)
      by (inr one) t is rest = subst (AllByRecursion (λ v. v ≢ s)) (sym (used_not (f x) (map f xs) (ap (λ (u : Spot). is_used (f u).bytes) one ∙ empty))) rest

  -- no name stands twice
  no_name : (name : List ℕ) (xs : List Spot) → AllByRecursion (λ u. table_of u.bytes ≢ name) xs → NoName name (names_of xs)
  unfolding names_of
  no_name name [] all = tt
  no_name name (x ∷ xs) all = ((λ e. all.0 (sym e)), no_name name xs all.1)

  name_no : (name : List ℕ) (xs : List Spot) → NoName name (names_of xs) → AllByRecursion (λ u. table_of u.bytes ≢ name) xs
  unfolding names_of
  name_no name [] all = tt
  name_no name (x ∷ xs) all = ((λ e. all.0 (sym e)), name_no name xs all.1)

  pub left_names : (xs : List Spot) → AllByRecursion (ChangesOne f s) xs → AreDistinct (names_of (used xs)) → AreDistinct (names_of (used (map f xs)))
  left_names [] all distinct = distinct
  left_names (x ∷ xs) all distinct = by all.0 (is_used x.bytes) refl (λ d. left_names xs all.1 d)
    where
      fewer : NoName (table_of x.bytes) (names_of (used xs)) → NoName (table_of x.bytes) (names_of (used (map f xs)))
      fewer none = no_name (table_of x.bytes) (used (map f xs)) (left_each (λ u. table_of u.bytes ≢ table_of x.bytes) xs all.1 (name_no (table_of x.bytes) (used xs) none))

      by : ChangesOne f s x → (t : Bool) → is_used x.bytes ≡ t → (AreDistinct (names_of (used xs)) → AreDistinct (names_of (used (map f xs)))) → AreDistinct (names_of (used (f x ∷ map f xs)))
      by (inl same) true is rest =
          let before : AreDistinct (table_of x.bytes ∷ names_of (used xs)) = subst AreDistinct (names_used x xs is) distinct in
          subst (λ (u : Spot). AreDistinct (names_of (used (u ∷ map f xs)))) (sym same) (subst AreDistinct (sym (names_used x (map f xs) is)) (fewer before.0, rest before.1))
      by (inl same) false is rest =
          subst (λ (u : Spot). AreDistinct (names_of (used (u ∷ map f xs)))) (sym same) (subst (λ (us : List Spot). AreDistinct (names_of us)) (sym (used_not x (map f xs) is)) (rest (subst (λ (us : List Spot). AreDistinct (names_of us)) (used_not x xs is) distinct)))
      by (inr one) true is rest = subst (λ (us : List Spot). AreDistinct (names_of us)) (sym (used_not (f x) (map f xs) (ap (λ (u : Spot). is_used (f u).bytes) one ∙ empty))) (rest (subst AreDistinct (names_used x xs is) distinct).1)
      by (inr one) false is rest = subst (λ (us : List Spot). AreDistinct (names_of us)) (sym (used_not (f x) (map f xs) (ap (λ (u : Spot). is_used (f u).bytes) one ∙ empty))) (rest (subst (λ (us : List Spot). AreDistinct (names_of us)) (used_not x xs is) distinct))

-- what holds of all pages holds of those of each table, and the other way round
pages_each : (x : Image) (P : ℕ → Type 0) (us : List Spot) → AllByRecursion P (pages_of_all x (table_chains us)) → AllByRecursion (λ u. AllByRecursion P (found_pages (chain_at u) x)) us
pages_each x P [] all = tt
pages_each x P (u ∷ us) all = let both = all_parts P (found_pages (chain_at u) x) (pages_of_all x (table_chains us)) (subst (AllByRecursion P) (tables_pages x u us) all) in (both.0, pages_each x P us both.1)

pub each_pages : (x : Image) (P : ℕ → Type 0) (us : List Spot) → AllByRecursion (λ u. AllByRecursion P (found_pages (chain_at u) x)) us → AllByRecursion P (pages_of_all x (table_chains us))
unfolding table_chains pages_of_all
each_pages x P [] all = tt
each_pages x P (u ∷ us) all = all_append P (found_pages (chain_at u) x) (pages_of_all x (table_chains us)) all.0 (each_pages x P us all.1)

module _ (x : Image) (f : Spot → Spot) (s : Spot) (empty : is_used (f s).bytes ≡ false) where
  pub left_pages : (P : ℕ → Type 0) (xs : List Spot) → AllByRecursion (ChangesOne f s) xs → AllByRecursion P (pages_of_all x (table_chains (used xs))) → AllByRecursion P (pages_of_all x (table_chains (used (map f xs))))
  left_pages P xs all holds = each_pages x P (used (map f xs)) (left_each f s empty (λ u. AllByRecursion P (found_pages (chain_at u) x)) xs all (pages_each x P (used xs) holds))

  pub left_apart : (xs : List Spot) → AllByRecursion (ChangesOne f s) xs → AreDistinct (pages_of_all x (table_chains (used xs))) → AreDistinct (pages_of_all x (table_chains (used (map f xs))))
  left_apart [] all distinct = distinct
  left_apart (u ∷ xs) all distinct = by all.0 (is_used u.bytes) refl (λ d. left_apart xs all.1 d)
    where
      fewer : (zs : List ℕ) → AllByRecursion (λ q. Absent q (pages_of_all x (table_chains (used xs)))) zs → AllByRecursion (λ q. Absent q (pages_of_all x (table_chains (used (map f xs))))) zs
      fewer zs none = all_go (λ q. Absent q (pages_of_all x (table_chains (used xs)))) (λ q. Absent q (pages_of_all x (table_chains (used (map f xs))))) zs (λ q absent. left_pages (λ r. q ≢ r) xs all.1 absent) none

      before : is_used u.bytes ≡ true → AreDistinct (found_pages (chain_at u) x ++ pages_of_all x (table_chains (used xs)))
      before is = subst AreDistinct (tables_pages x u (used xs)) (subst (λ (us : List Spot). AreDistinct (pages_of_all x (table_chains us))) (used_yes u xs is) distinct)

      by : ChangesOne f s u → (t : Bool) → is_used u.bytes ≡ t → (AreDistinct (pages_of_all x (table_chains (used xs))) → AreDistinct (pages_of_all x (table_chains (used (map f xs))))) → AreDistinct (pages_of_all x (table_chains (used (f u ∷ map f xs))))
      by (inl same) true is rest =
          subst (λ (w : Spot). AreDistinct (pages_of_all x (table_chains (used (w ∷ map f xs))))) (sym same)
          (subst (λ (us : List Spot). AreDistinct (pages_of_all x (table_chains us))) (sym (used_yes u (map f xs) is))
          (subst AreDistinct (sym (tables_pages x u (used (map f xs))))
          (distinct_both (found_pages (chain_at u) x) (pages_of_all x (table_chains (used (map f xs)))) (distinct_left (found_pages (chain_at u) x) (pages_of_all x (table_chains (used xs))) (before is))
          (rest (distinct_right (found_pages (chain_at u) x) (pages_of_all x (table_chains (used xs))) (before is))) (fewer (found_pages (chain_at u) x) (apart_front (found_pages (chain_at u) x) (pages_of_all x (table_chains (used xs))) (before is))))))
      by (inl same) false is rest =
          subst (λ (w : Spot). AreDistinct (pages_of_all x (table_chains (used (w ∷ map f xs))))) (sym same)
          (subst (λ (us : List Spot). AreDistinct (pages_of_all x (table_chains us))) (sym (used_not u (map f xs) is)) (rest (subst (λ (us : List Spot). AreDistinct (pages_of_all x (table_chains us))) (used_not u xs is) distinct)))
      by (inr one) true is rest =
          subst (λ (us : List Spot). AreDistinct (pages_of_all x (table_chains us))) (sym (used_not (f u) (map f xs) (ap (λ (w : Spot). is_used (f w).bytes) one ∙ empty)))
          (rest (distinct_right (found_pages (chain_at u) x) (pages_of_all x (table_chains (used xs))) (before is)))
      by (inr one) false is rest =
          subst (λ (us : List Spot). AreDistinct (pages_of_all x (table_chains us))) (sym (used_not (f u) (map f xs) (ap (λ (w : Spot). is_used (f w).bytes) one ∙ empty)))
          (rest (subst (λ (us : List Spot). AreDistinct (pages_of_all x (table_chains us))) (used_not u xs is) distinct))

-- The slot of a table is emptied.
module _ (x y : Image) (neat : IsNeat x) (changes : ChangesChain Catalogue x y) (f : Spot → Spot) (table : List ℕ) (s : Spot) (found : table_spot table x ≡ Some s) (empty : is_used (f s).bytes ≡ false)
    (all : AllByRecursion (ChangesOne f s) (spots Catalogue x)) (slots : spots Catalogue y ≡ map f (spots Catalogue x)) where
  abbrev xs : List Spot
  xs = spots Catalogue x

  abbrev left : List Spot
  left = used (map f xs)

  its : IsFoundTable x table s
  its = table_found x table s found

  chains_then : chains y ≡ Catalogue ∷ History ∷ table_chains left
  chains_then = chains_are y ∙ ap (λ (us : List Spot). Catalogue ∷ History ∷ table_chains (used us)) slots

  -- what holds of all chains holds of those that are left
  of_left : (P : Chain → Type 0) → AllByRecursion P (chains x) → AllByRecursion P (Catalogue ∷ History ∷ table_chains left)
  of_left P holds =
      let parts : AllByRecursion P (Catalogue ∷ History ∷ table_chains (used xs)) = subst (AllByRecursion P) (chains_are x) holds in
      (parts.0, (parts.1.0, each_table P left (left_each f s empty (λ u. P (chain_at u)) xs all (tables_each P (used xs) parts.1.1))))

  formed_then : AllByRecursion (λ c. (ps : List ℕ) × (pages_of c y ≡ Ok ps)) (Catalogue ∷ History ∷ table_chains left)
  formed_then = of_left (λ c. (ps : List ℕ) × (pages_of c y ≡ Ok ps))
      (all_go (λ c. ((ps : List ℕ) × (pages_of c x ≡ Ok ps)) × (pages_of c y ≡ pages_of c x)) (λ c. (ps : List ℕ) × (pages_of c y ≡ Ok ps)) (chains x) (λ c facts. (facts.0.0, facts.1 ∙ facts.0.1))
      (all_both (λ c. (ps : List ℕ) × (pages_of c x ≡ Ok ps)) (λ c. pages_of c y ≡ pages_of c x) (chains x) neat.formed (same_pages x y neat Catalogue changes)))

  abbrev before : List ℕ
  before = pages_of_all x (Catalogue ∷ History ∷ table_chains left)

  pages_then : pages_of_all y (chains y) ≡ before
  pages_then = ap (pages_of_all y) chains_then ∙ same_all x y (Catalogue ∷ History ∷ table_chains left) (of_left (λ c. pages_of c y ≡ pages_of c x) (same_pages x y neat Catalogue changes))

  -- the pages that are left are among those from before
  abbrev front : List ℕ
  front = found_pages Catalogue x ++ found_pages History x

  pub fronted : (us : List Spot) → pages_of_all x (Catalogue ∷ History ∷ table_chains us) ≡ front ++ pages_of_all x (table_chains us)
  fronted us =
      pages_first x Catalogue (History ∷ table_chains us) ∙ ap (λ (ps : List ℕ). found_pages Catalogue x ++ ps) (pages_first x History (table_chains us)) ∙ sym (append_assoc (found_pages Catalogue x) (found_pages History x) (pages_of_all x (table_chains us)))

  pub left_hold : (P : ℕ → Type 0) → AllByRecursion P (pages_of_all x (chains x)) → AllByRecursion P before
  left_hold P holds =
      let parts = all_parts P front (pages_of_all x (table_chains (used xs))) (subst (AllByRecursion P) (ap (pages_of_all x) (chains_are x) ∙ fronted (used xs)) holds) in
      subst (AllByRecursion P) (sym (fronted left)) (all_append P front (pages_of_all x (table_chains left)) parts.0 (left_pages x f s empty P xs all parts.1))

  apart_then : AreDistinct before
  apart_then =
      let whole : AreDistinct (front ++ pages_of_all x (table_chains (used xs))) = subst AreDistinct (ap (pages_of_all x) (chains_are x) ∙ fronted (used xs)) neat.apart in
      subst AreDistinct (sym (fronted left)) (distinct_both front (pages_of_all x (table_chains left)) (distinct_left front (pages_of_all x (table_chains (used xs))) whole)
      (left_apart x f s empty xs all (distinct_right front (pages_of_all x (table_chains (used xs))) whole))
      (all_go (λ q. Absent q (pages_of_all x (table_chains (used xs)))) (λ q. Absent q (pages_of_all x (table_chains left))) front (λ q absent. left_pages x f s empty (λ r. q ≢ r) xs all absent)
      (apart_front front (pages_of_all x (table_chains (used xs))) whole)))

  same_spots : AllByRecursion (λ u. spots (chain_at u) y ≡ spots (chain_at u) x) (used xs)
  same_spots =
      all_go (λ u. (chain_at u ≡ Catalogue) ⊎ (spots (chain_at u) y ≡ spots (chain_at u) x)) (λ u. spots (chain_at u) y ≡ spots (chain_at u) x) (used xs)
      (λ u either. ⊎_elim (λ e. absurd (other_chain u e)) (λ same. same) either)
      (tables_each (λ c. (c ≡ Catalogue) ⊎ (spots c y ≡ spots c x)) (used xs) (subst (AllByRecursion (λ c. (c ≡ Catalogue) ⊎ (spots c y ≡ spots c x))) (chains_are x) changes.others).1.1)
    where
      other_chain : (u : Spot) → chain_at u ≡ Catalogue → ⊥
      other_chain u e = cc

  pub neat_then : IsNeat y
  neat_then = record {
    formed = subst (AllByRecursion (λ c. (ps : List ℕ) × (pages_of c y ≡ Ok ps))) (sym chains_then) formed_then;
    apart = subst AreDistinct (sym pages_then) apart_then;
    taken = subst (AllByRecursion (λ p. is_free_page y p ≡ false)) (sym pages_then) (left_hold (λ p. is_free_page y p ≡ false) changes.taken);
    names = subst (λ (us : List Spot). AreDistinct (names_of (used us))) (sym slots) (left_names f s empty xs all neat.names);
    keys = subst (λ (us : List Spot). AllByRecursion (λ c. AreDistinct (keys_in (spots c y))) (table_chains (used us))) (sym slots)
        (each_table (λ c. AreDistinct (keys_in (spots c y))) left (left_each f s empty (λ u. AreDistinct (keys_in (spots (chain_at u) y))) xs all
        (all_go (λ u. AreDistinct (keys_in (spots (chain_at u) x)) × (spots (chain_at u) y ≡ spots (chain_at u) x)) (λ u. AreDistinct (keys_in (spots (chain_at u) y))) (used xs)
        (λ u facts. subst (λ (us : List Spot). AreDistinct (keys_in us)) (sym facts.1) facts.0)
        (all_both (λ u. AreDistinct (keys_in (spots (chain_at u) x))) (λ u. spots (chain_at u) y ≡ spots (chain_at u) x) (used xs) (tables_each (λ c. AreDistinct (keys_in (spots c x))) (used xs) neat.keys) same_spots))));
  }

  -- The table is gone, and the others are there as before.
  gone_name : (name : List ℕ) → has_name name (f s) ≡ false
  gone_name name = and_left (is_used (f s).bytes) _ empty

  pub gone : table_spot table y ≡ None
  unfolding table_spot
  gone = ap (first_such (has_name table)) slots ∙ none_found f s (has_name table) xs
      (all_go {X = Spot} (λ u. ChangesOne f s u × (has_name table u ≡ true → u ≡ s)) (λ u. has_name table (f u) ≡ false) xs (λ u facts. one u facts.0 facts.1)
      (all_both {X = Spot} (ChangesOne f s) (λ u. has_name table u ≡ true → u ≡ s) xs all (once_name table xs s neat.names found)))
    where
      one : (u : Spot) → ChangesOne f s u → (has_name table u ≡ true → u ≡ s) → has_name table (f u) ≡ false
      one u (inr is) once = ap (λ (v : Spot). has_name table (f v)) is ∙ gone_name table
      one u (inl same) once = by (has_name table u) refl
        where
          by : (t : Bool) → has_name table u ≡ t → has_name table (f u) ≡ false
          by false is = ap (has_name table) same ∙ is
          by true is = ap (λ (v : Spot). has_name table (f v)) (once is) ∙ gone_name table

  other_found : (other : List ℕ) → other ≢ table → table_spot other y ≡ table_spot other x
  unfolding table_spot
  other_found other ne = ap (first_such (has_name other)) slots ∙ others_found f s (has_name other) xs all not_it (gone_name other)
    where
      not_it : has_name other s ≡ false
      not_it = by (has_name other s) refl
        where
          by : (t : Bool) → has_name other s ≡ t → has_name other s ≡ false
          by false is = is
          by true is = absurd (ne (sym (name_of other s is).1 ∙ its.named))

  row_spots : (other : List ℕ) (u : Spot) → table_spot other x ≡ Some u → spots (chain_at u) y ≡ spots (chain_at u) x
  unfolding table_spot
  row_spots other u there = first_passes (has_name other) (λ w. is_used w.bytes ≡ true → spots (chain_at w) y ≡ spots (chain_at w) x) xs u there (used_each (λ w. spots (chain_at w) y ≡ spots (chain_at w) x) xs same_spots) (table_found x other u there).its_use

  pub table_gone : GivesRows x y table []
  table_gone = record {
    neat = neat_then;
    its = rows_of_none y table gone;
    others = λ other ne. by other ne (table_spot other x) refl;
  }
    where
      by : (other : List ℕ) → other ≢ table → (o : Option Spot) → table_spot other x ≡ o → rows y other ≡ rows x other
      by other ne None is = rows_of_none y other (other_found other ne ∙ is) ∙ sym (rows_of_none x other is)
      by other ne (Some u) is = rows_of_some y other u (other_found other ne ∙ is) ∙ ap rows_in (row_spots other u is) ∙ sym (rows_of_some x other u is)

  -- No page of the table is one of a chain that is left.
  pub pages_left : (P : ℕ → Type 0) → AllByRecursion P (pages_of_all x (Catalogue ∷ History ∷ table_chains left)) → AllByRecursion P (pages_of_all y (chains y))
  pages_left P holds = subst (AllByRecursion P) (sym pages_then) holds
