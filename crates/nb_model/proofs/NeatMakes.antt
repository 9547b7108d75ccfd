-- An image stays neat where the catalogue names one table more, which has a page of its own without a row.
use Rattle.std.proofs.Common.{◌≡◌, ◌≢◌, ◌⊎◌, ⊎_elim, ℕ, List, [], ◌∷◌, ◌++◌, refl, sym, ap, subst, ◌∙◌, Bool, true, false, Option, Some, None, Result, Ok, Err}
use Rattle.nb_model.proofs.Common.{AllByRecursion, append-nil, Chain, Catalogue, History, Spot, is_used, table_of, key_of, text_in, pages_of, found_pages, spots, table_spot, is_free_page, Image, GivesRows, RowMap, with_row, rows_in, rows, used, table_chains, chains, pages_of_all, AreDistinct, names_of, keys_of, IsNeat, all_go, all_both}
use Rattle.nb_model.proofs.ChainWalks.{found_is}
use Rattle.nb_model.proofs.Inserted.{Inserted, inserted_each, inserted_apart, inserted_last, inserted_behind, inserted_before, inserted_names, inserted_pages, none_used}
use Rattle.nb_model.proofs.NeatDrops.{has_name}
use Rattle.nb_model.proofs.NeatLaws.{pages_first, chains_are, each_table, tables_each, table_found, used_each, rows_of_none, rows_of_some}
use Rattle.nb_model.proofs.RoomLaws.{first_passes}
use Rattle.nb_model.proofs.SpotKeys.{keys_in, Absent}
use Rattle.nb_model.proofs.TableCases.{chain_at}

-- The catalogue has no page more, or one.
pub data IsMore (m : Image) (n : ℕ) : List ℕ → Type 0 where
  no_page : IsMore m n []
  a_page : (e : ℕ) → Absent e (pages_of_all m (chains m)) → e ≢ n → IsMore m n (e ∷ [])

-- What stands where the slot v of a new table is in the catalogue, and page n is that table's.
pub record MakesTable (m y : Image) (v : Spot) (n : ℕ) (extra : List ℕ) : Type 0 where
  pub catalogue : pages_of Catalogue y ≡ Ok (found_pages Catalogue m ++ extra)
  pub tables : Inserted v (used (spots Catalogue m)) (used (spots Catalogue y))
  pub same : AllByRecursion (λ c. (c ≡ Catalogue) ⊎ ((pages_of c y ≡ pages_of c m) × (spots c y ≡ spots c m))) (chains m)
  pub taken : AllByRecursion (λ p. is_free_page y p ≡ false) (pages_of_all m (chains m))
  pub more : IsMore m n extra
  pub more_taken : AllByRecursion (λ p. is_free_page y p ≡ false) extra
  pub new_taken : is_free_page y n ≡ false
  pub made : pages_of (chain_at v) y ≡ Ok (n ∷ [])
  pub free : AllByRecursion (λ (u : Spot). is_used u.bytes ≡ false) (spots (chain_at v) y)
  pub apart : Absent n (pages_of_all m (chains m))
  pub named : AllByRecursion (λ (u : Spot). table_of v.bytes ≢ table_of u.bytes) (used (spots Catalogue m))

rows_unused : (ss : List Spot) → AllByRecursion (λ (u : Spot). is_used u.bytes ≡ false) ss → rows_in ss ≡ []
unfolding rows_in
rows_unused [] all = refl
rows_unused (s ∷ ss) all = ap (λ (t : Bool). elim t as (λ z. RowMap) [ true ↦ with_row (key_of s.bytes) (text_in s.bytes) (rows_in ss) | false ↦ rows_in ss ]) all.0 ∙ rows_unused ss all.1

no_key : AreDistinct (keys_of [])
unfolding keys_of
no_key = tt

module _ (m y : Image) (neat : IsNeat m) (v : Spot) (n : ℕ) (extra : List ℕ) (makes : MakesTable m y v n extra) where
  abbrev us : List Spot
  us = used (spots Catalogue m)

  abbrev ws : List Spot
  ws = used (spots Catalogue y)

  abbrev Same : Chain → Type 0
  Same c = (pages_of c y ≡ pages_of c m) × (spots c y ≡ spots c m)

  same_parts : AllByRecursion (λ c. (c ≡ Catalogue) ⊎ Same c) (Catalogue ∷ History ∷ table_chains us)
  same_parts = subst (AllByRecursion (λ c. (c ≡ Catalogue) ⊎ Same c)) (chains_are m) makes.same

  history_same : Same History
  history_same = ⊎_elim (λ e. absurd (other e)) (λ same. same) same_parts.1.0
    where
      other : History ≡ Catalogue → ⊥
      other e = cc

  tables_same : AllByRecursion (λ u. Same (chain_at u)) us
  tables_same = all_go (λ u. (chain_at u ≡ Catalogue) ⊎ Same (chain_at u)) (λ u. Same (chain_at u)) us (λ u either. ⊎_elim (λ e. absurd (other u e)) (λ same. same) either) (tables_each (λ c. (c ≡ Catalogue) ⊎ Same c) us same_parts.1.1)
    where
      other : (u : Spot) → chain_at u ≡ Catalogue → ⊥
      other u e = cc

  formed_parts : AllByRecursion (λ c. (ps : List ℕ) × (pages_of c m ≡ Ok ps)) (Catalogue ∷ History ∷ table_chains us)
  formed_parts = subst (AllByRecursion (λ c. (ps : List ℕ) × (pages_of c m ≡ Ok ps))) (chains_are m) neat.formed

  formed_then : AllByRecursion (λ c. (ps : List ℕ) × (pages_of c y ≡ Ok ps)) (Catalogue ∷ History ∷ table_chains ws)
  formed_then = (
    (found_pages Catalogue m ++ extra, makes.catalogue),
    (
      (formed_parts.1.0.0, history_same.0 ∙ formed_parts.1.0.1),
      each_table (λ c. (ps : List ℕ) × (pages_of c y ≡ Ok ps)) ws
          (inserted_each v (λ u. (ps : List ℕ) × (pages_of (chain_at u) y ≡ Ok ps)) us ws makes.tables (n ∷ [], makes.made)
          (all_go (λ u. ((ps : List ℕ) × (pages_of (chain_at u) m ≡ Ok ps)) × Same (chain_at u)) (λ u. (ps : List ℕ) × (pages_of (chain_at u) y ≡ Ok ps)) us (λ u facts. (facts.0.0, facts.1.0 ∙ facts.0.1))
          (all_both (λ u. (ps : List ℕ) × (pages_of (chain_at u) m ≡ Ok ps)) (λ u. Same (chain_at u)) us (tables_each (λ c. (ps : List ℕ) × (pages_of c m ≡ Ok ps)) us formed_parts.1.1) tables_same))),
    ),
  )

  -- the pages of all chains: those from before, the new one, and one of the catalogue's, if there is one
  abbrev behind : List ℕ
  behind = found_pages History m ++ pages_of_all y (table_chains ws)

  found_same : (c : Chain) → pages_of c y ≡ pages_of c m → found_pages c y ≡ found_pages c m
  unfolding found_pages
  found_same c e = ap (λ (r : Result (List ℕ) ℕ). elim r as (λ z. List ℕ) [ Ok ps ↦ ps | Err p ↦ [] ]) e

  same_tables : (vs : List Spot) → AllByRecursion (λ u. Same (chain_at u)) vs → pages_of_all y (table_chains vs) ≡ pages_of_all m (table_chains vs)
  unfolding table_chains pages_of_all
  same_tables [] all = refl
  same_tables (u ∷ vs) all = ap (λ (ps : List ℕ). ps ++ pages_of_all y (table_chains vs)) (found_same (chain_at u) all.0.0) ∙ ap (λ (ps : List ℕ). found_pages (chain_at u) m ++ ps) (same_tables vs all.1)

  pages_before : pages_of_all m (chains m) ≡ found_pages Catalogue m ++ (found_pages History m ++ pages_of_all m (table_chains us))
  pages_before = ap (pages_of_all m) (chains_are m) ∙ pages_first m Catalogue (History ∷ table_chains us) ∙ ap (λ (ps : List ℕ). found_pages Catalogue m ++ ps) (pages_first m History (table_chains us))

  one_more : Inserted n (pages_of_all m (chains m)) (found_pages Catalogue m ++ behind)
  one_more =
      subst (λ (ps : List ℕ). Inserted n ps (found_pages Catalogue m ++ behind)) (sym pages_before)
      (inserted_behind n (found_pages Catalogue m) (found_pages History m ++ pages_of_all m (table_chains us)) behind
      (inserted_behind n (found_pages History m) (pages_of_all m (table_chains us)) (pages_of_all y (table_chains ws))
      (subst (λ (ps : List ℕ). Inserted n ps (pages_of_all y (table_chains ws))) (same_tables us tables_same) (inserted_pages y v n us ws (found_is (chain_at v) y (n ∷ []) makes.made) makes.tables))))

  pages_then : pages_of_all y (chains y) ≡ (found_pages Catalogue m ++ extra) ++ behind
  pages_then =
      ap (pages_of_all y) (chains_are y) ∙ pages_first y Catalogue (History ∷ table_chains ws)
      ∙ ap (λ (ps : List ℕ). ps ++ pages_of_all y (History ∷ table_chains ws)) (found_is Catalogue y (found_pages Catalogue m ++ extra) makes.catalogue)
      ∙ ap (λ (ps : List ℕ). (found_pages Catalogue m ++ extra) ++ ps) (pages_first y History (table_chains ws) ∙ ap (λ (ps : List ℕ). ps ++ pages_of_all y (table_chains ws)) (found_same History history_same.0))

  apart_one : AreDistinct (found_pages Catalogue m ++ behind)
  apart_one = inserted_apart n (pages_of_all m (chains m)) (found_pages Catalogue m ++ behind) one_more makes.apart neat.apart

  apart_then : (ps : List ℕ) → IsMore m n ps → AreDistinct ((found_pages Catalogue m ++ ps) ++ behind)
  apart_then ps no_page = subst (λ (qs : List ℕ). AreDistinct (qs ++ behind)) (sym (append-nil (found_pages Catalogue m))) apart_one
  apart_then ps (a_page e absent ne) =
      inserted_apart e (found_pages Catalogue m ++ behind) ((found_pages Catalogue m ++ e ∷ []) ++ behind) (inserted_before e behind (found_pages Catalogue m) (found_pages Catalogue m ++ e ∷ []) (inserted_last e (found_pages Catalogue m)))
      (inserted_each n (λ q. e ≢ q) (pages_of_all m (chains m)) (found_pages Catalogue m ++ behind) one_more ne absent) apart_one

  taken_one : AllByRecursion (λ p. is_free_page y p ≡ false) (found_pages Catalogue m ++ behind)
  taken_one = inserted_each n (λ p. is_free_page y p ≡ false) (pages_of_all m (chains m)) (found_pages Catalogue m ++ behind) one_more makes.new_taken makes.taken

  taken_then : (ps : List ℕ) → IsMore m n ps → AllByRecursion (λ p. is_free_page y p ≡ false) ps → AllByRecursion (λ p. is_free_page y p ≡ false) ((found_pages Catalogue m ++ ps) ++ behind)
  taken_then ps no_page taken = subst (λ (qs : List ℕ). AllByRecursion (λ p. is_free_page y p ≡ false) (qs ++ behind)) (sym (append-nil (found_pages Catalogue m))) taken_one
  taken_then ps (a_page e absent ne) taken =
      inserted_each e (λ p. is_free_page y p ≡ false) (found_pages Catalogue m ++ behind) ((found_pages Catalogue m ++ e ∷ []) ++ behind)
      (inserted_before e behind (found_pages Catalogue m) (found_pages Catalogue m ++ e ∷ []) (inserted_last e (found_pages Catalogue m))) taken.0 taken_one

  other_names : (vs : List Spot) → AllByRecursion (λ (u : Spot). table_of v.bytes ≢ table_of u.bytes) vs → AllByRecursion (λ (name : List ℕ). table_of v.bytes ≢ name) (names_of vs)
  unfolding names_of
  other_names [] all = tt
  other_names (u ∷ vs) all = (all.0, other_names vs all.1)

  no_keys : AreDistinct (keys_in (spots (chain_at v) y))
  no_keys = subst (λ (vs : List Spot). AreDistinct (keys_of vs)) (sym (none_used (spots (chain_at v) y) makes.free)) no_key

  pub made_neat : IsNeat y
  made_neat = record {
    formed = subst (AllByRecursion (λ c. (ps : List ℕ) × (pages_of c y ≡ Ok ps))) (sym (chains_are y)) formed_then;
    apart = subst AreDistinct (sym pages_then) (apart_then extra makes.more);
    taken = subst (AllByRecursion (λ p. is_free_page y p ≡ false)) (sym pages_then) (taken_then extra makes.more makes.more_taken);
    names = inserted_apart (table_of v.bytes) (names_of us) (names_of ws) (inserted_names v us ws makes.tables) (other_names us makes.named) neat.names;
    keys = each_table (λ c. AreDistinct (keys_in (spots c y))) ws (inserted_each v (λ u. AreDistinct (keys_in (spots (chain_at u) y))) us ws makes.tables no_keys
        (all_go (λ u. AreDistinct (keys_in (spots (chain_at u) m)) × Same (chain_at u)) (λ u. AreDistinct (keys_in (spots (chain_at u) y))) us (λ u facts. subst (λ (vs : List Spot). AreDistinct (keys_in vs)) (sym facts.1.1) facts.0)
        (all_both (λ u. AreDistinct (keys_in (spots (chain_at u) m))) (λ u. Same (chain_at u)) us (tables_each (λ c. AreDistinct (keys_in (spots c m))) us neat.keys) tables_same)));
  }

  -- The table is there without a row, and the others have the rows that they had.
  module _ (table : List ℕ) (finds : table_spot table y ≡ Some v) (finds_other : (other : List ℕ) → other ≢ table → table_spot other y ≡ table_spot other m) where
    row_spots : (other : List ℕ) (u : Spot) → table_spot other m ≡ Some u → spots (chain_at u) y ≡ spots (chain_at u) m
    unfolding table_spot
    row_spots other u there =
        (first_passes (has_name other) (λ w. is_used w.bytes ≡ true → Same (chain_at w)) (spots Catalogue m) u there (used_each (λ w. Same (chain_at w)) (spots Catalogue m) tables_same) (table_found m other u there).its_use).1

    pub table_made : GivesRows m y table []
    table_made = record {
      neat = made_neat;
      its = rows_of_some y table v finds ∙ rows_unused (spots (chain_at v) y) makes.free;
      others = λ other ne. by other ne (table_spot other m) refl;
    }
      where
        by : (other : List ℕ) → other ≢ table → (o : Option Spot) → table_spot other m ≡ o → rows y other ≡ rows m other
        by other ne None is = rows_of_none y other (finds_other other ne ∙ is) ∙ sym (rows_of_none m other is)
        by other ne (Some u) is = rows_of_some y other u (finds_other other ne ∙ is) ∙ ap rows_in (row_spots other u is) ∙ sym (rows_of_some m other u is)
