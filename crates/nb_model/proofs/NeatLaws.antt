-- An image stays neat, and the rows of its tables stay, where the pages of its chains stay, or where one chain of rows changes.
use Rattle.std.proofs.Common.{◌≡◌, ◌≢◌, ◌⊎◌, inl, inr, ⊎_elim, ℕ, zero, suc, ◌≤◌, List, [], ◌∷◌, ◌++◌, length, refl, sym, ap, subst, ◌∙◌, arith, Bool, true, false, ◌&&◌, Option, Some, None, Result, Ok, Err, Contains}
use Rattle.nb_model.proofs.Common.{AllByRecursion, told_text, true≢false, and_parts, Contains-append_left, Contains-append_right, same_name, Chain, Catalogue, History, RowsFrom, Spot, is_used, table_of, first_in, first_such, pages_of, found_pages, spots, table_spot, is_free_page, Image, RowMap, rows_in, rows, used, table_chains, chains, pages_of_all, AreDistinct, names_of, IsNeat, decide, none_in, all_go, all_both}
use Rattle.nb_model.proofs.ChainWalks.{StaysLinked, pages_stay, found_is}
use Rattle.nb_model.proofs.RoomLaws.{first_passes}
use Rattle.nb_model.proofs.SpotKeys.{keys_in}
use Rattle.nb_model.proofs.SpotMaps.{such_passes}
use Rattle.nb_model.proofs.TableCases.{chain_at}

-- the catalogue is no history
pub no_catalogue_history : Catalogue ≢ History
no_catalogue_history e = cc

-- no two lists with nothing twice share an element
pub apart_lists : (xs ys : List ℕ) (q : ℕ) → AreDistinct (xs ++ ys) → Contains xs q → Contains ys q → ⊥
apart_lists [] ys q distinct a b = none_in q a
apart_lists (x ∷ xs) ys q distinct (zero, low, is) b = never (xs ++ ys) distinct.0 (Contains-append_right xs ys q b)
  where
    never : (zs : List ℕ) → AllByRecursion (λ (z : ℕ). x ≢ z) zs → Contains zs q → ⊥
    never [] all c = none_in q c
    never (z ∷ zs) all (zero, less, same) = all.0 (is ∙ sym same)
    never (z ∷ zs) all (suc k, less, same) = never zs all.1 (k, omega (arith, less), same)
apart_lists (x ∷ xs) ys q distinct (suc k, low, is) b = apart_lists xs ys q distinct.1 (k, omega (arith, low), is) b

pub distinct_right : (xs ys : List ℕ) → AreDistinct (xs ++ ys) → AreDistinct ys
distinct_right [] ys distinct = distinct
distinct_right (x ∷ xs) ys distinct = distinct_right xs ys distinct.1

pub distinct_left : (xs ys : List ℕ) → AreDistinct (xs ++ ys) → AreDistinct xs
distinct_left [] ys distinct = tt
distinct_left (x ∷ xs) ys distinct = (front xs ys distinct.0, distinct_left xs ys distinct.1)
  where
    front : (zs ws : List ℕ) → AllByRecursion (λ (z : ℕ). x ≢ z) (zs ++ ws) → AllByRecursion (λ (z : ℕ). x ≢ z) zs
    front [] ws all = tt
    front (z ∷ zs) ws all = (all.0, front zs ws all.1)

module _ (x : Image) where
  pub pages_first : (c : Chain) (cs : List Chain) → pages_of_all x (c ∷ cs) ≡ found_pages c x ++ pages_of_all x cs
  unfolding pages_of_all
  pages_first c cs = refl

  -- the pages of a chain are among those of all
  pub pages_among : (cs : List Chain) (c : Chain) (q : ℕ) → Contains cs c → Contains (found_pages c x) q → Contains (pages_of_all x cs) q
  pages_among [] c q here there = absurd (none_in c here)
  pages_among (d ∷ cs) c q (zero, low, is) there =
      subst (λ (ps : List ℕ). Contains ps q) (sym (pages_first d cs)) (Contains-append_left (found_pages d x) (pages_of_all x cs) q (subst (λ (e : Chain). Contains (found_pages e x) q) (sym is) there))
  pages_among (d ∷ cs) c q (suc k, low, is) there =
      subst (λ (ps : List ℕ). Contains ps q) (sym (pages_first d cs)) (Contains-append_right (found_pages d x) (pages_of_all x cs) q (pages_among cs c q (k, omega (arith, low), is) there))

  -- A page of a chain is one of no other.
  pub once_chain : (cs : List Chain) (c : Chain) (q : ℕ) → AreDistinct (pages_of_all x cs) → Contains cs c → Contains (found_pages c x) q → AllByRecursion (λ e. Contains (found_pages e x) q → e ≡ c) cs
  once_chain [] c q distinct here there = tt
  once_chain (d ∷ cs) c q distinct here there = by (λ h. once_chain cs c q (distinct_right (found_pages d x) (pages_of_all x cs) apart) h there) here
    where
      apart : AreDistinct (found_pages d x ++ pages_of_all x cs)
      apart = subst AreDistinct (pages_first d cs) distinct

      none : Contains (found_pages d x) q → (es : List Chain) → ((e : Chain) → Contains es e → Contains cs e) → AllByRecursion (λ e. Contains (found_pages e x) q → e ≡ c) es
      none first [] among = tt
      none first (e ∷ es) among = (
        (λ held. absurd (apart_lists (found_pages d x) (pages_of_all x cs) q apart first (pages_among cs e q (among e (0, omega arith, refl)) held))),
        none first es (λ g at. among g (later e es g at)),
      )
        where
          later : (e : Chain) (es : List Chain) (g : Chain) → Contains es g → Contains (e ∷ es) g
          later e es g (k, low, is) = (suc k, omega (arith, low), is)

      by : (Contains cs c → AllByRecursion (λ e. Contains (found_pages e x) q → e ≡ c) cs) → Contains (d ∷ cs) c → AllByRecursion (λ e. Contains (found_pages e x) q → e ≡ c) (d ∷ cs)
      by rest (zero, low, is) = ((λ held. is), none (subst (λ (e : Chain). Contains (found_pages e x) q) (sym is) there) cs (λ e at. at))
      by rest (suc k, low, is) =
          let at : Contains cs c = (k, omega (arith, low), is) in
          ((λ held. absurd (apart_lists (found_pages d x) (pages_of_all x cs) q apart held (pages_among cs c q at there))), rest at)

  -- nor does one stand twice in its chain
  pub chain_apart : (cs : List Chain) (c : Chain) → Contains cs c → AreDistinct (pages_of_all x cs) → AreDistinct (found_pages c x)
  chain_apart [] c here distinct = absurd (none_in c here)
  chain_apart (d ∷ cs) c (zero, low, is) distinct = subst (λ (e : Chain). AreDistinct (found_pages e x)) is (distinct_left (found_pages d x) (pages_of_all x cs) (subst AreDistinct (pages_first d cs) distinct))
  chain_apart (d ∷ cs) c (suc k, low, is) distinct = chain_apart cs c (k, omega (arith, low), is) (distinct_right (found_pages d x) (pages_of_all x cs) (subst AreDistinct (pages_first d cs) distinct))

  pub tables_first : (u : Spot) (us : List Spot) → table_chains (u ∷ us) ≡ chain_at u ∷ table_chains us
  unfolding table_chains
  tables_first u us = refl

  pub chain_held : (us : List Spot) (u : Spot) → Contains us u → Contains (table_chains us) (chain_at u)
  chain_held [] u here = absurd (none_in u here)
  chain_held (w ∷ us) u (zero, low, is) = subst (λ (cs : List Chain). Contains cs (chain_at u)) (sym (tables_first w us)) (0, omega arith, ap chain_at is)
  chain_held (w ∷ us) u (suc k, low, is) =
      let rest = chain_held us u (k, omega (arith, low), is) in subst (λ (cs : List Chain). Contains cs (chain_at u)) (sym (tables_first w us)) (suc rest.0, omega (arith, rest.1), rest.2)

  -- A page of a table is one of no other.
  pub once_table : (us : List Spot) (u : Spot) (q : ℕ) → AreDistinct (pages_of_all x (table_chains us)) → Contains us u → Contains (found_pages (chain_at u) x) q → AllByRecursion (λ w. Contains (found_pages (chain_at w) x) q → w ≡ u) us
  once_table [] u q distinct here there = tt
  once_table (w ∷ us) u q distinct here there = by (λ h. once_table us u q (distinct_right (found_pages (chain_at w) x) (pages_of_all x (table_chains us)) apart) h there) here
    where
      apart : AreDistinct (found_pages (chain_at w) x ++ pages_of_all x (table_chains us))
      apart = subst AreDistinct (ap (pages_of_all x) (tables_first w us) ∙ pages_first (chain_at w) (table_chains us)) distinct

      later : (v : Spot) (vs : List Spot) (g : Spot) → Contains vs g → Contains (v ∷ vs) g
      later v vs g (k, low, is) = (suc k, omega (arith, low), is)

      none : Contains (found_pages (chain_at w) x) q → (vs : List Spot) → ((v : Spot) → Contains vs v → Contains us v) → AllByRecursion (λ v. Contains (found_pages (chain_at v) x) q → v ≡ u) vs
      none first [] among = tt
      none first (v ∷ vs) among = (
        (λ held. absurd (apart_lists (found_pages (chain_at w) x) (pages_of_all x (table_chains us)) q apart first (pages_among (table_chains us) (chain_at v) q (chain_held us v (among v (0, omega arith, refl))) held))),
        none first vs (λ g at. among g (later v vs g at)),
      )

      by : (Contains us u → AllByRecursion (λ v. Contains (found_pages (chain_at v) x) q → v ≡ u) us) → Contains (w ∷ us) u → AllByRecursion (λ v. Contains (found_pages (chain_at v) x) q → v ≡ u) (w ∷ us)
      by rest (zero, low, is) = ((λ held. is), none (subst (λ (v : Spot). Contains (found_pages (chain_at v) x) q) (sym is) there) us (λ v at. at))
      by rest (suc k, low, is) =
          let at : Contains us u = (k, omega (arith, low), is) in
          ((λ held. absurd (apart_lists (found_pages (chain_at w) x) (pages_of_all x (table_chains us)) q apart held (pages_among (table_chains us) (chain_at u) q (chain_held us u at) there))), rest at)

-- The used slots.
pub used_yes : (u : Spot) (us : List Spot) → is_used u.bytes ≡ true → used (u ∷ us) ≡ u ∷ used us
unfolding used
used_yes u us e = ap (λ (t : Bool). elim t as (λ z. List Spot) [ true ↦ u ∷ used us | false ↦ used us ]) e

pub used_not : (u : Spot) (us : List Spot) → is_used u.bytes ≡ false → used (u ∷ us) ≡ used us
unfolding used
used_not u us e = ap (λ (t : Bool). elim t as (λ z. List Spot) [ true ↦ u ∷ used us | false ↦ used us ]) e

-- what holds of the used ones holds of each that is used
pub used_each : (P : Spot → Type 0) (us : List Spot) → AllByRecursion P (used us) → AllByRecursion (λ u. is_used u.bytes ≡ true → P u) us
used_each P [] all = tt
used_each P (u ∷ us) all = by (λ h. used_each P us h) (is_used u.bytes) refl
  where
    by : (AllByRecursion P (used us) → AllByRecursion (λ v. is_used v.bytes ≡ true → P v) us) → (t : Bool) → is_used u.bytes ≡ t → (is_used u.bytes ≡ true → P u) × AllByRecursion (λ v. is_used v.bytes ≡ true → P v) us
    by rest true is = let both : P u × AllByRecursion P (used us) = subst (AllByRecursion P) (used_yes u us is) all in ((λ e. both.0), rest both.1)
    by rest false is = ((λ e. absurd (true≢false (sym e ∙ is))), rest (subst (AllByRecursion P) (used_not u us is) all))

-- one that is found is among them
pub found_used : (test : Spot → Bool) (us : List Spot) (u : Spot) → first_such test us ≡ Some u → is_used u.bytes ≡ true → Contains (used us) u
unfolding first_such
found_used test [] u found is = cc
found_used test (w ∷ us) u found is = by (λ h. found_used test us u h is) (test w) found
  where
    behind : Contains (used us) u → Contains (used (w ∷ us)) u
    behind (k, low, same) = by_use (is_used w.bytes) refl
      where
        by_use : (t : Bool) → is_used w.bytes ≡ t → Contains (used (w ∷ us)) u
        by_use true e = subst (λ (vs : List Spot). Contains vs u) (sym (used_yes w us e)) (suc k, omega (arith, low), same)
        by_use false e = subst (λ (vs : List Spot). Contains vs u) (sym (used_not w us e)) (k, low, same)

    by : (first_such test us ≡ Some u → Contains (used us) u) → (t : Bool) → elim t as (λ z. Option Spot) [ true ↦ Some w | false ↦ first_such test us ] ≡ Some u → Contains (used (w ∷ us)) u
    by rest true e = let same : w ≡ u = cc in subst (λ (vs : List Spot). Contains vs u) (sym (used_yes w us (ap (λ (v : Spot). is_used v.bytes) same ∙ is))) (0, omega arith, same)
    by rest false e = behind (rest e)

-- What holds of each chain of a table holds of each table.
pub tables_each : (P : Chain → Type 0) (us : List Spot) → AllByRecursion P (table_chains us) → AllByRecursion (λ u. P (chain_at u)) us
unfolding table_chains
tables_each P [] all = tt
tables_each P (u ∷ us) all = (all.0, tables_each P us all.1)

pub each_table : (P : Chain → Type 0) (us : List Spot) → AllByRecursion (λ u. P (chain_at u)) us → AllByRecursion P (table_chains us)
unfolding table_chains
each_table P [] all = tt
each_table P (u ∷ us) all = (all.0, each_table P us all.1)

-- A table that is found.
pub record IsFoundTable (image : Image) (table : List ℕ) (u : Spot) : Type 0 where
  pub held : Contains (used (spots Catalogue image)) u
  pub its_use : is_used u.bytes ≡ true
  pub named : table_of u.bytes ≡ table

pub table_found : (image : Image) (table : List ℕ) (u : Spot) → table_spot table image ≡ Some u → IsFoundTable image table u
unfolding table_spot
table_found image table u found =
    let parts = and_parts (is_used u.bytes) (same_name (table_of u.bytes) table) (such_passes _ (spots Catalogue image) u found) in
    record { held = found_used _ (spots Catalogue image) u found parts.0; its_use = parts.0; named = elim (decide (table_of u.bytes) table) [ inl w ↦ w | inr w ↦ absurd (not_same (table_of u.bytes) table w parts.1) ] }
  where
    not_same : (m n : List ℕ) → m ≢ n → same_name m n ≡ true → ⊥
    not_same m n other is = other (told_text m n true (sym is))

-- the rows of a table by its slot in the catalogue
pub rows_of_none : (image : Image) (table : List ℕ) → table_spot table image ≡ None → rows image table ≡ []
unfolding rows
rows_of_none image table e = ap (λ (o : Option Spot). elim o as (λ z. RowMap) [ None ↦ [] | Some spot ↦ rows_in (spots (RowsFrom (first_in spot.bytes)) image) ]) e

pub rows_of_some : (image : Image) (table : List ℕ) (u : Spot) → table_spot table image ≡ Some u → rows image table ≡ rows_in (spots (chain_at u) image)
unfolding rows
rows_of_some image table u e = ap (λ (o : Option Spot). elim o as (λ z. RowMap) [ None ↦ [] | Some spot ↦ rows_in (spots (RowsFrom (first_in spot.bytes)) image) ]) e

-- From one image to the other each page of a chain leads on as it did and is taken, and but for one chain the slots are the same.
pub record ChangesChain (changed : Chain) (x y : Image) : Type 0 where
  pub longer : length x ≤ length y
  pub linked : AllByRecursion (λ c. AllByRecursion (StaysLinked c x y) (found_pages c x)) (chains x)
  pub others : AllByRecursion (λ c. (c ≡ changed) ⊎ (spots c y ≡ spots c x)) (chains x)
  pub taken : AllByRecursion (λ p. is_free_page y p ≡ false) (pages_of_all x (chains x))

pub chains_are : (x : Image) → chains x ≡ Catalogue ∷ History ∷ table_chains (used (spots Catalogue x))
unfolding chains
chains_are x = refl

-- The chains have the same pages.
pub same_pages : (x y : Image) (neat : IsNeat x) (changed : Chain) → ChangesChain changed x y → AllByRecursion (λ c. pages_of c y ≡ pages_of c x) (chains x)
same_pages x y neat changed changes = all_go (λ c. ((ps : List ℕ) × (pages_of c x ≡ Ok ps)) × AllByRecursion (StaysLinked c x y) (found_pages c x)) (λ c. pages_of c y ≡ pages_of c x) (chains x)
    (λ c facts.
    let ps : List ℕ = facts.0.0 in
    let is : pages_of c x ≡ Ok ps = facts.0.1 in
    pages_stay c x y ps is changes.longer (subst (AllByRecursion (StaysLinked c x y)) (found_is c x ps is) facts.1) ∙ sym is)
    (all_both (λ c. (ps : List ℕ) × (pages_of c x ≡ Ok ps)) (λ c. AllByRecursion (StaysLinked c x y) (found_pages c x)) (chains x) neat.formed changes.linked)

pub same_all : (x y : Image) (cs : List Chain) → AllByRecursion (λ c. pages_of c y ≡ pages_of c x) cs → pages_of_all y cs ≡ pages_of_all x cs
unfolding pages_of_all found_pages
same_all x y [] all = refl
same_all x y (c ∷ cs) all = ap (λ (ps : List ℕ). found_pages c y ++ ps) (same_all x y cs all.1) ∙ ap (λ (r : Result (List ℕ) ℕ). elim r as (λ z. List ℕ) [ Ok ps ↦ ps | Err p ↦ [] ] ++ pages_of_all x cs) all.0

module _ (x y : Image) (neat : IsNeat x) (changed : Chain) (rows_chain : Catalogue ≢ changed) (changes : ChangesChain changed x y) where
  pub catalogue_same : spots Catalogue y ≡ spots Catalogue x
  catalogue_same = first (subst (AllByRecursion (λ c. (c ≡ changed) ⊎ (spots c y ≡ spots c x))) (chains_are x) changes.others).0
    where
      first : (Catalogue ≡ changed) ⊎ (spots Catalogue y ≡ spots Catalogue x) → spots Catalogue y ≡ spots Catalogue x
      first (inl e) = absurd (rows_chain e)
      first (inr same) = same

  pub same_chains : chains y ≡ chains x
  unfolding chains
  same_chains = ap (λ (us : List Spot). Catalogue ∷ History ∷ table_chains (used us)) catalogue_same

  pub same_table : (table : List ℕ) → table_spot table y ≡ table_spot table x
  unfolding table_spot
  same_table table = ap (first_such (λ s. is_used s.bytes && same_name (table_of s.bytes) table)) catalogue_same

  -- what is said of the chains of tables
  of_tables : (P : Chain → Type 0) → AllByRecursion P (chains x) → AllByRecursion P (table_chains (used (spots Catalogue x)))
  of_tables P all = (subst (AllByRecursion P) (chains_are x) all).1.1

  -- The image stays neat, where no key stands twice in the chain that changes.
  pub stays_neat : ((first : ℕ) → RowsFrom first ≡ changed → AreDistinct (keys_in (spots changed y))) → IsNeat y
  stays_neat keys = record {
    formed = subst (AllByRecursion (λ c. (ps : List ℕ) × (pages_of c y ≡ Ok ps))) (sym same_chains)
        (all_go (λ c. ((ps : List ℕ) × (pages_of c x ≡ Ok ps)) × (pages_of c y ≡ pages_of c x)) (λ c. (ps : List ℕ) × (pages_of c y ≡ Ok ps)) (chains x) (λ c facts. (facts.0.0, facts.1 ∙ facts.0.1))
        (all_both (λ c. (ps : List ℕ) × (pages_of c x ≡ Ok ps)) (λ c. pages_of c y ≡ pages_of c x) (chains x) neat.formed (same_pages x y neat changed changes)));
    apart = subst AreDistinct (sym all_pages) neat.apart;
    taken = subst (AllByRecursion (λ p. is_free_page y p ≡ false)) (sym all_pages) changes.taken;
    names = subst (λ (us : List Spot). AreDistinct (names_of (used us))) (sym catalogue_same) neat.names;
    keys = subst (λ (us : List Spot). AllByRecursion (λ c. AreDistinct (keys_in (spots c y))) (table_chains (used us))) (sym catalogue_same)
        (each_table (λ c. AreDistinct (keys_in (spots c y))) tables
        (all_go (λ u. AreDistinct (keys_in (spots (chain_at u) x)) × ((chain_at u ≡ changed) ⊎ (spots (chain_at u) y ≡ spots (chain_at u) x))) (λ u. AreDistinct (keys_in (spots (chain_at u) y))) tables
        (λ u facts. one u facts.0 facts.1)
        (all_both (λ u. AreDistinct (keys_in (spots (chain_at u) x))) (λ u. (chain_at u ≡ changed) ⊎ (spots (chain_at u) y ≡ spots (chain_at u) x)) tables
        (tables_each (λ c. AreDistinct (keys_in (spots c x))) tables neat.keys) (tables_each (λ c. (c ≡ changed) ⊎ (spots c y ≡ spots c x)) tables (of_tables (λ c. (c ≡ changed) ⊎ (spots c y ≡ spots c x)) changes.others)))));
  }
    where
      tables : List Spot
      tables = used (spots Catalogue x)

      all_pages : pages_of_all y (chains y) ≡ pages_of_all x (chains x)
      all_pages = ap (pages_of_all y) same_chains ∙ same_all x y (chains x) (same_pages x y neat changed changes)

      one : (u : Spot) → AreDistinct (keys_in (spots (chain_at u) x)) → (chain_at u ≡ changed) ⊎ (spots (chain_at u) y ≡ spots (chain_at u) x) → AreDistinct (keys_in (spots (chain_at u) y))
      one u before (inl e) = subst (λ (c : Chain). AreDistinct (keys_in (spots c y))) (sym e) (keys (first_in u.bytes) e)
      one u before (inr same) = subst (λ (us : List Spot). AreDistinct (keys_in us)) (sym same) before

  -- The rows of a table with another chain stay.
  same_spots : (table : List ℕ) (u : Spot) → table_spot table x ≡ Some u → chain_at u ≢ changed → spots (chain_at u) y ≡ spots (chain_at u) x
  unfolding table_spot
  same_spots table u found other =
      let all = used_each (λ w. (chain_at w ≡ changed) ⊎ (spots (chain_at w) y ≡ spots (chain_at w) x)) (spots Catalogue x)
      (tables_each (λ c. (c ≡ changed) ⊎ (spots c y ≡ spots c x)) (used (spots Catalogue x)) (of_tables (λ c. (c ≡ changed) ⊎ (spots c y ≡ spots c x)) changes.others)) in
      let one = first_passes _ (λ w. is_used w.bytes ≡ true → (chain_at w ≡ changed) ⊎ (spots (chain_at w) y ≡ spots (chain_at w) x)) (spots Catalogue x) u found all in
      ⊎_elim (λ e. absurd (other e)) (λ same. same) (one (table_found x table u found).its_use)

  pub other_rows : (table : List ℕ) → ((u : Spot) → table_spot table x ≡ Some u → chain_at u ≢ changed) → rows y table ≡ rows x table
  other_rows table other = by (table_spot table x) refl
    where
      by : (o : Option Spot) → table_spot table x ≡ o → rows y table ≡ rows x table
      by None is = rows_of_none y table (same_table table ∙ is) ∙ sym (rows_of_none x table is)
      by (Some u) is = rows_of_some y table u (same_table table ∙ is) ∙ ap rows_in (same_spots table u is (other u is)) ∙ sym (rows_of_some x table u is)
