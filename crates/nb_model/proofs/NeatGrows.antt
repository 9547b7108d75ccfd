-- An image stays neat where a chain of rows gets one page more.
use Rattle.std.proofs.Common.{◌≡◌, ◌≢◌, ◌⊎◌, inl, inr, ⊎_elim, ℕ, zero, suc, List, [], ◌∷◌, ◌++◌, refl, sym, ap, subst, ◌∙◌, arith, true, false, ◌&&◌, Option, Some, None, Result, Ok, Err, Contains}
use Rattle.nb_model.proofs.Common.{AllByRecursion, same_name, Chain, Catalogue, History, RowsFrom, Spot, is_used, table_of, first_in, first_such, pages_of, found_pages, spots, table_spot, is_free_page, Image, rows_in, rows, used, table_chains, chains, pages_of_all, AreDistinct, names_of, IsNeat, all_go, all_both}
use Rattle.nb_model.proofs.ChainWalks.{found_is}
use Rattle.nb_model.proofs.NeatLaws.{apart_lists, pages_first, pages_among, distinct_left, distinct_right, chains_are, tables_each, each_table, table_found, used_each, rows_of_none, rows_of_some}
use Rattle.nb_model.proofs.RoomLaws.{first_passes}
use Rattle.nb_model.proofs.SpotKeys.{keys_in, Absent}
use Rattle.nb_model.proofs.TableCases.{chain_at}

-- lists with nothing twice
pub apart_front : (xs ys : List ℕ) → AreDistinct (xs ++ ys) → AllByRecursion (λ q. Absent q ys) xs
apart_front [] ys distinct = tt
apart_front (x ∷ xs) ys distinct = (behind xs distinct.0, apart_front xs ys distinct.1)
  where
    behind : (zs : List ℕ) → Absent x (zs ++ ys) → Absent x ys
    behind [] all = all
    behind (z ∷ zs) all = behind zs all.1

pub absent_both : (q : ℕ) (xs ys : List ℕ) → Absent q xs → Absent q ys → Absent q (xs ++ ys)
absent_both q [] ys a b = b
absent_both q (x ∷ xs) ys a b = (a.0, absent_both q xs ys a.1 b)

pub absent_parts : (q : ℕ) (xs ys : List ℕ) → Absent q (xs ++ ys) → Absent q xs × Absent q ys
absent_parts q [] ys all = (tt, all)
absent_parts q (x ∷ xs) ys all = let rest = absent_parts q xs ys all.1 in ((all.0, rest.0), rest.1)

pub distinct_both : (xs ys : List ℕ) → AreDistinct xs → AreDistinct ys → AllByRecursion (λ q. Absent q ys) xs → AreDistinct (xs ++ ys)
distinct_both [] ys a b apart = b
distinct_both (x ∷ xs) ys a b apart = (absent_both x xs ys a.0 apart.0, distinct_both xs ys a.1 b apart.1)

-- with a number more at the end
absent_all : (n : ℕ) (xs : List ℕ) → Absent n xs → AllByRecursion (λ q. Absent q (n ∷ [])) xs
absent_all n [] all = tt
absent_all n (x ∷ xs) all = (((λ e. all.0 (sym e)), tt), absent_all n xs all.1)

distinct_more : (n : ℕ) (xs : List ℕ) → AreDistinct xs → Absent n xs → AreDistinct (xs ++ n ∷ [])
distinct_more n xs distinct absent = distinct_both xs (n ∷ []) distinct (tt, tt) (absent_all n xs absent)

-- From one image to the other one chain gets a page more, and the others stay.
pub record GrowsChain (grown : Chain) (new : ℕ) (x y : Image) : Type 0 where
  pub pages : pages_of grown y ≡ Ok (found_pages grown x ++ new ∷ [])
  pub same : AllByRecursion (λ c. (c ≡ grown) ⊎ ((pages_of c y ≡ pages_of c x) × (spots c y ≡ spots c x))) (chains x)
  pub taken : AllByRecursion (λ p. is_free_page y p ≡ false) (pages_of_all x (chains x))
  pub new_taken : is_free_page y new ≡ false
  pub apart : Absent new (pages_of_all x (chains x))

module _ (x y : Image) (new : ℕ) where
  -- one chain alone has the new page
  abbrev GrowsOnce : List Chain → Type 0
  GrowsOnce [] = Unit {0}
  GrowsOnce (c ∷ cs) = ((found_pages c y ≡ found_pages c x) × GrowsOnce cs) ⊎ ((found_pages c y ≡ found_pages c x ++ new ∷ []) × AllByRecursion (λ d. found_pages d y ≡ found_pages d x) cs)

  once_grown : (grown : Chain) (q : ℕ) → Contains (found_pages grown x) q → found_pages grown y ≡ found_pages grown x ++ new ∷ [] → (cs : List Chain) → Contains cs grown → AreDistinct (pages_of_all x cs)
      → AllByRecursion (λ c. (c ≡ grown) ⊎ (found_pages c y ≡ found_pages c x)) cs → GrowsOnce cs
  once_grown grown q its grows [] here distinct all = tt
  once_grown grown q its grows (d ∷ cs) here distinct all = by (λ h a. once_grown grown q its grows cs h (distinct_right (found_pages d x) (pages_of_all x cs) apart) a) here all.0
    where
      apart : AreDistinct (found_pages d x ++ pages_of_all x cs)
      apart = subst AreDistinct (pages_first x d cs) distinct

      others : Contains (found_pages d x) q → (es : List Chain) → ((e : Chain) → Contains es e → Contains cs e) → AllByRecursion (λ c. (c ≡ grown) ⊎ (found_pages c y ≡ found_pages c x)) es → AllByRecursion (λ e. found_pages e y ≡ found_pages e x) es
      others first [] among all = tt
      others first (e ∷ es) among all = (one all.0, others first es (λ g at. among g (later g at)) all.1)
        where
          later : (g : Chain) → Contains es g → Contains (e ∷ es) g
          later g (k, low, is) = (suc k, omega (arith, low), is)

          one : (e ≡ grown) ⊎ (found_pages e y ≡ found_pages e x) → found_pages e y ≡ found_pages e x
          one (inr same) = same
          one (inl is) = absurd (apart_lists (found_pages d x) (pages_of_all x cs) q apart first (pages_among x cs e q (among e (0, omega arith, refl)) (subst (λ (c : Chain). Contains (found_pages c x) q) (sym is) its)))

      by : (Contains cs grown → AllByRecursion (λ c. (c ≡ grown) ⊎ (found_pages c y ≡ found_pages c x)) cs → GrowsOnce cs) → Contains (d ∷ cs) grown → (d ≡ grown) ⊎ (found_pages d y ≡ found_pages d x) → GrowsOnce (d ∷ cs)
      by rest (zero, low, is) head = inr (
        subst (λ (c : Chain). found_pages c y ≡ found_pages c x ++ new ∷ []) (sym is) grows,
        others (subst (λ (c : Chain). Contains (found_pages c x) q) (sym is) its) cs (λ e at. at) all.1,
      )
      by rest (suc k, low, is) (inr same) = inl (same, rest (k, omega (arith, low), is) all.1)
      by rest (suc k, low, is) (inl e) =
          absurd (apart_lists (found_pages d x) (pages_of_all x cs) q apart (subst (λ (c : Chain). Contains (found_pages c x) q) (sym e) its) (pages_among x cs grown q (k, omega (arith, low), is) its))

  same_all : (cs : List Chain) → AllByRecursion (λ d. found_pages d y ≡ found_pages d x) cs → pages_of_all y cs ≡ pages_of_all x cs
  unfolding pages_of_all
  same_all [] all = refl
  same_all (c ∷ cs) all = ap (λ (ps : List ℕ). ps ++ pages_of_all y cs) all.0 ∙ ap (λ (ps : List ℕ). found_pages c x ++ ps) (same_all cs all.1)

  absent_grown : (z : ℕ) (cs : List Chain) → z ≢ new → GrowsOnce cs → Absent z (pages_of_all x cs) → Absent z (pages_of_all y cs)
  unfolding pages_of_all
  absent_grown z [] ne once absent = tt
  absent_grown z (c ∷ cs) ne once absent = by (λ o. absent_grown z cs ne o parts.1) once
    where
      parts : Absent z (found_pages c x) × Absent z (pages_of_all x cs)
      parts = absent_parts z (found_pages c x) (pages_of_all x cs) absent

      by : (GrowsOnce cs → Absent z (pages_of_all y cs)) → GrowsOnce (c ∷ cs) → Absent z (found_pages c y ++ pages_of_all y cs)
      by rest (inl (same, once)) = absent_both z (found_pages c y) (pages_of_all y cs) (subst (Absent z) (sym same) parts.0) (rest once)
      by rest (inr (grows, others)) =
          absent_both z (found_pages c y) (pages_of_all y cs) (subst (Absent z) (sym grows) (absent_both z (found_pages c x) (new ∷ []) parts.0 (ne, tt))) (subst (Absent z) (sym (same_all cs others)) parts.1)

  absent_each : (zs : List ℕ) (cs : List Chain) → Absent new zs → GrowsOnce cs → AllByRecursion (λ q. Absent q (pages_of_all x cs)) zs → AllByRecursion (λ q. Absent q (pages_of_all y cs)) zs
  absent_each [] cs absent once all = tt
  absent_each (z ∷ zs) cs absent once all = (absent_grown z cs (λ e. absent.0 (sym e)) once all.0, absent_each zs cs absent.1 once all.1)

  pub grown_apart : (cs : List Chain) → GrowsOnce cs → AreDistinct (pages_of_all x cs) → Absent new (pages_of_all x cs) → AreDistinct (pages_of_all y cs)
  unfolding pages_of_all
  grown_apart [] once distinct absent = tt
  grown_apart (c ∷ cs) once distinct absent = by (λ o. grown_apart cs o (distinct_right (found_pages c x) (pages_of_all x cs) distinct) parts.1) once
    where
      parts : Absent new (found_pages c x) × Absent new (pages_of_all x cs)
      parts = absent_parts new (found_pages c x) (pages_of_all x cs) absent

      front : AreDistinct (found_pages c x)
      front = distinct_left (found_pages c x) (pages_of_all x cs) distinct

      between : AllByRecursion (λ q. Absent q (pages_of_all x cs)) (found_pages c x)
      between = apart_front (found_pages c x) (pages_of_all x cs) distinct

      by : (GrowsOnce cs → AreDistinct (pages_of_all y cs)) → GrowsOnce (c ∷ cs) → AreDistinct (found_pages c y ++ pages_of_all y cs)
      by rest (inl (same, once)) =
          subst (λ (ps : List ℕ). AreDistinct (ps ++ pages_of_all y cs)) (sym same) (distinct_both (found_pages c x) (pages_of_all y cs) front (rest once) (absent_each (found_pages c x) cs parts.0 once between))
      by rest (inr (grows, others)) =
          subst (λ (ps : List ℕ). AreDistinct (ps ++ pages_of_all y cs)) (sym grows) (subst (λ (ps : List ℕ). AreDistinct ((found_pages c x ++ new ∷ []) ++ ps)) (sym (same_all cs others))
          (distinct_both (found_pages c x ++ new ∷ []) (pages_of_all x cs) (distinct_more new (found_pages c x) front parts.0) (distinct_right (found_pages c x) (pages_of_all x cs) distinct)
          (more (found_pages c x) between)))
        where
          more : (zs : List ℕ) → AllByRecursion (λ q. Absent q (pages_of_all x cs)) zs → AllByRecursion (λ q. Absent q (pages_of_all x cs)) (zs ++ new ∷ [])
          more [] all = (parts.1, tt)
          more (z ∷ zs) all = (all.0, more zs all.1)

module _ (x y : Image) (neat : IsNeat x) (grown : Chain) (new : ℕ) (rows_chain : Catalogue ≢ grown) (of_all : Contains (chains x) grown) (q : ℕ) (its : Contains (found_pages grown x) q) (g : GrowsChain grown new x y) where
  abbrev Same : Chain → Type 0
  Same c = (c ≡ grown) ⊎ ((pages_of c y ≡ pages_of c x) × (spots c y ≡ spots c x))

  catalogue_same : spots Catalogue y ≡ spots Catalogue x
  catalogue_same = first (subst (AllByRecursion Same) (chains_are x) g.same).0
    where
      first : Same Catalogue → spots Catalogue y ≡ spots Catalogue x
      first (inl e) = absurd (rows_chain e)
      first (inr same) = same.1

  same_chains : chains y ≡ chains x
  unfolding chains
  same_chains = ap (λ (us : List Spot). Catalogue ∷ History ∷ table_chains (used us)) catalogue_same

  pub grown_table : (table : List ℕ) → table_spot table y ≡ table_spot table x
  unfolding table_spot
  grown_table table = ap (first_such (λ s. is_used s.bytes && same_name (table_of s.bytes) table)) catalogue_same

  same_found : AllByRecursion (λ c. (c ≡ grown) ⊎ (found_pages c y ≡ found_pages c x)) (chains x)
  unfolding found_pages
  same_found = all_go Same (λ c. (c ≡ grown) ⊎ (found_pages c y ≡ found_pages c x)) (chains x)
      (λ c same. ⊎_elim (λ e. inl e) (λ both. inr (ap (λ (r : Result (List ℕ) ℕ). elim r as (λ z. List ℕ) [ Ok ps ↦ ps | Err p ↦ [] ]) both.0)) same) g.same

  grown_found : found_pages grown y ≡ found_pages grown x ++ new ∷ []
  grown_found = found_is grown y (found_pages grown x ++ new ∷ []) g.pages

  once : GrowsOnce x y new (chains x)
  once = once_grown x y new grown q its grown_found (chains x) of_all neat.apart same_found

  all_taken : (cs : List Chain) → GrowsOnce x y new cs → AllByRecursion (λ p. is_free_page y p ≡ false) (pages_of_all x cs) → AllByRecursion (λ p. is_free_page y p ≡ false) (pages_of_all y cs)
  unfolding pages_of_all
  all_taken [] shape all = tt
  all_taken (c ∷ cs) shape all = by (λ o. all_taken cs o parts.1) shape
    where
      split : (xs ys : List ℕ) → AllByRecursion (λ p. is_free_page y p ≡ false) (xs ++ ys) → AllByRecursion (λ p. is_free_page y p ≡ false) xs × AllByRecursion (λ p. is_free_page y p ≡ false) ys
      split [] ys h = (tt, h)
      split (z ∷ xs) ys h = let rest = split xs ys h.1 in ((h.0, rest.0), rest.1)

      join : (xs ys : List ℕ) → AllByRecursion (λ p. is_free_page y p ≡ false) xs → AllByRecursion (λ p. is_free_page y p ≡ false) ys → AllByRecursion (λ p. is_free_page y p ≡ false) (xs ++ ys)
      join [] ys a b = b
      join (z ∷ xs) ys a b = (a.0, join xs ys a.1 b)

      parts : AllByRecursion (λ p. is_free_page y p ≡ false) (found_pages c x) × AllByRecursion (λ p. is_free_page y p ≡ false) (pages_of_all x cs)
      parts = split (found_pages c x) (pages_of_all x cs) all

      by : (GrowsOnce x y new cs → AllByRecursion (λ p. is_free_page y p ≡ false) (pages_of_all y cs)) → GrowsOnce x y new (c ∷ cs) → AllByRecursion (λ p. is_free_page y p ≡ false) (found_pages c y ++ pages_of_all y cs)
      by rest (inl (same, o)) = join (found_pages c y) (pages_of_all y cs) (subst (AllByRecursion (λ p. is_free_page y p ≡ false)) (sym same) parts.0) (rest o)
      by rest (inr (grows, others)) =
          join (found_pages c y) (pages_of_all y cs) (subst (AllByRecursion (λ p. is_free_page y p ≡ false)) (sym grows) (join (found_pages c x) (new ∷ []) parts.0 (g.new_taken, tt)))
          (subst (AllByRecursion (λ p. is_free_page y p ≡ false)) (sym (same_all x y new cs others)) parts.1)

  of_tables : (P : Chain → Type 0) → AllByRecursion P (chains x) → AllByRecursion P (table_chains (used (spots Catalogue x)))
  of_tables P all = (subst (AllByRecursion P) (chains_are x) all).1.1

  -- The image stays neat, where no key stands twice in the chain that grows, if it is one of rows.
  pub grown_stays_neat : ((first : ℕ) → RowsFrom first ≡ grown → AreDistinct (keys_in (spots grown y))) → IsNeat y
  grown_stays_neat keys = record {
    formed = subst (AllByRecursion (λ c. (ps : List ℕ) × (pages_of c y ≡ Ok ps))) (sym same_chains)
        (all_go (λ c. ((ps : List ℕ) × (pages_of c x ≡ Ok ps)) × Same c) (λ c. (ps : List ℕ) × (pages_of c y ≡ Ok ps)) (chains x) (λ c facts. one_formed c facts.0 facts.1)
        (all_both (λ c. (ps : List ℕ) × (pages_of c x ≡ Ok ps)) Same (chains x) neat.formed g.same));
    apart = subst (λ (cs : List Chain). AreDistinct (pages_of_all y cs)) (sym same_chains) (grown_apart x y new (chains x) once neat.apart g.apart);
    taken = subst (λ (cs : List Chain). AllByRecursion (λ p. is_free_page y p ≡ false) (pages_of_all y cs)) (sym same_chains) (all_taken (chains x) once g.taken);
    names = subst (λ (us : List Spot). AreDistinct (names_of (used us))) (sym catalogue_same) neat.names;
    keys = subst (λ (us : List Spot). AllByRecursion (λ c. AreDistinct (keys_in (spots c y))) (table_chains (used us))) (sym catalogue_same)
        (each_table (λ c. AreDistinct (keys_in (spots c y))) tables
        (all_go (λ u. AreDistinct (keys_in (spots (chain_at u) x)) × Same (chain_at u)) (λ u. AreDistinct (keys_in (spots (chain_at u) y))) tables (λ u facts. one_keys u facts.0 facts.1)
        (all_both (λ u. AreDistinct (keys_in (spots (chain_at u) x))) (λ u. Same (chain_at u)) tables (tables_each (λ c. AreDistinct (keys_in (spots c x))) tables neat.keys) (tables_each Same tables (of_tables Same g.same)))));
  }
    where
      tables : List Spot
      tables = used (spots Catalogue x)

      one_formed : (c : Chain) → (ps : List ℕ) × (pages_of c x ≡ Ok ps) → Same c → (ps : List ℕ) × (pages_of c y ≡ Ok ps)
      one_formed c (ps, is) (inr same) = (ps, same.0 ∙ is)
      one_formed c (ps, is) (inl e) = (found_pages grown x ++ new ∷ [], ap (λ (d : Chain). pages_of d y) e ∙ g.pages)

      one_keys : (u : Spot) → AreDistinct (keys_in (spots (chain_at u) x)) → Same (chain_at u) → AreDistinct (keys_in (spots (chain_at u) y))
      one_keys u before (inr same) = subst (λ (us : List Spot). AreDistinct (keys_in us)) (sym same.1) before
      one_keys u before (inl e) = subst (λ (d : Chain). AreDistinct (keys_in (spots d y))) (sym e) (keys (first_in u.bytes) e)

  pub grown_neat : AreDistinct (keys_in (spots grown y)) → IsNeat y
  grown_neat keys = grown_stays_neat (λ first e. keys)

  -- The rows of a table with another chain stay.
  same_rows : (table : List ℕ) (u : Spot) → table_spot table x ≡ Some u → chain_at u ≢ grown → spots (chain_at u) y ≡ spots (chain_at u) x
  unfolding table_spot
  same_rows table u found other =
      let all = used_each (λ w. Same (chain_at w)) (spots Catalogue x) (tables_each Same (used (spots Catalogue x)) (of_tables Same g.same)) in
      let one = first_passes _ (λ w. is_used w.bytes ≡ true → Same (chain_at w)) (spots Catalogue x) u found all in
      ⊎_elim (λ e. absurd (other e)) (λ both. both.1) (one (table_found x table u found).its_use)

  pub grown_others : (table : List ℕ) → ((u : Spot) → table_spot table x ≡ Some u → chain_at u ≢ grown) → rows y table ≡ rows x table
  grown_others table other = by (table_spot table x) refl
    where
      by : (o : Option Spot) → table_spot table x ≡ o → rows y table ≡ rows x table
      by None is = rows_of_none y table (grown_table table ∙ is) ∙ sym (rows_of_none x table is)
      by (Some u) is = rows_of_some y table u (grown_table table ∙ is) ∙ ap rows_in (same_rows table u is (other u is)) ∙ sym (rows_of_some x table u is)
