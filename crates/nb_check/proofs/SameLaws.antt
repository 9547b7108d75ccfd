-- Two sound images that differ in system pages alone have the same chains, and the same rows.
use Rattle.std.proofs.Common.{◌≡◌, inl, inr, ℕ, zero, suc, ◌<◌, List, [], ◌∷◌, ◌++◌, length, refl, sym, ap, ◌∙◌, arith, Bool, true, false, ◌&&◌, ◌==◌, nat_lt, map, Option, Some, None, Result, Ok, Err}
use Rattle.nb_check.proofs.Common.{AllByRecursion, list_all, and_left, or_cases, cases_Bool, cases_lt, kind_of, is_system_place, data_kind, Page, Image, page_at, image_size, SoundInventory, Cause, first_cause, broken_at, Chain, Catalogue, History, RowsFrom, Spot, owner_of, owner_in, first_of, first_in, is_slot, is_used, table_of, slots_in, is_in_chain, next_in, linked, walk, pages_of, found_pages, spots_on, spots_of, spots, table_spot, first_such, RowMap, rows, rows_in, used, table_chains, chains, pages_of_all, eq_no, lt_no, pages_found, reached, chains_cause, not_both, and_right}
use Rattle.nb_host.specs.Names.{same_name}

-- every page but the system pages is the same
pub record AreAlike (x y : Image) : Type 0 where
  pub size : image_size y ≡ image_size x
  pub same : length y ≡ length x
  pub pages : (p : ℕ) → is_system_place (image_size x) p ≡ false → page_at y p ≡ page_at x p

module _ (x y : Image) (alike : AreAlike x y) (sx : SoundInventory x) (sy : SoundInventory y) where
  abbrev in_by : Chain → (n : ℕ) → Page → ℕ → Bool
  in_by chain n page p = nat_lt p n && (kind_of page == data_kind && (owner_in page == owner_of chain && list_all (is_slot chain) (slots_in page)))

  in_is : (chain : Chain) (z : Image) (p : ℕ) → is_in_chain chain z p ≡ in_by chain (length z) (page_at z p) p
  unfolding is_in_chain
  in_is chain z p = refl

  -- a system page is in no chain
  system_kind : (z : Image) → SoundInventory z → (p : ℕ) → p < length z → is_system_place (image_size z) p ≡ true → (kind_of (page_at z p) == data_kind) ≡ false
  unfolding is_system_place
  system_kind z s p low place = elim (or_cases _ _ place) [
    | inl at ↦ (let two = s.system.inventories p low at in eq_no _ 5 (λ e. omega (arith, e, two)))
    | inr at ↦ (let ten = s.system.scn_pages p low at in eq_no _ 5 (λ e. omega (arith, e, ten)))
  ]

  system_out : (chain : Chain) (z : Image) → SoundInventory z → (p : ℕ) → is_system_place (image_size z) p ≡ true → is_in_chain chain z p ≡ false
  system_out chain z s p place = in_is chain z p ∙ elim (cases_lt p (length z)) [
    | inl low ↦
        (let kind = system_kind z s p low place in
        ap (λ (t : Bool). nat_lt p (length z) && (t && (owner_in (page_at z p) == owner_of chain && list_all (is_slot chain) (slots_in (page_at z p))))) kind ∙ and_right (nat_lt p (length z)) false refl)
    | inr past ↦ and_left _ _ (lt_no p (length z) (omega (arith, past)))
  ]

  pub in_same : (chain : Chain) (p : ℕ) → is_in_chain chain y p ≡ is_in_chain chain x p
  in_same chain p = elim (cases_Bool (is_system_place (image_size x) p)) [
    | inl place ↦ system_out chain y sy p (ap (λ (n : ℕ). is_system_place n p) alike.size ∙ place) ∙ sym (system_out chain x sx p place)
    | inr plain ↦
        in_is chain y p ∙ ap (λ (n : ℕ). in_by chain n (page_at y p) p) alike.same ∙ ap (λ (page : Page). in_by chain (length x) page p) (alike.pages p plain) ∙ sym (in_is chain x p)
  ]

  -- a page of a chain is the same
  pub page_same : (chain : Chain) (p : ℕ) → is_in_chain chain x p ≡ true → page_at y p ≡ page_at x p
  page_same chain p is = elim (cases_Bool (is_system_place (image_size x) p)) [
    | inl place ↦ (let fails = system_out chain x sx p place in absurd (not_both (is_in_chain chain x p) is fails))
    | inr plain ↦ alike.pages p plain
  ]

  -- what a walk does at a page
  abbrev go_by : (p next : ℕ) → Result (List ℕ) ℕ → Bool → Result (List ℕ) ℕ
  go_by p next rest t = elim t as (λ z. Result (List ℕ) ℕ) [ false ↦ Err p | true ↦ elim (next == 0) as (λ z. Result (List ℕ) ℕ) [ true ↦ Ok (p ∷ []) | false ↦ linked p rest ] ]

  walk_by : (left : ℕ) (chain : Chain) (z : Image) (p : ℕ) → walk (suc left) chain z p ≡ go_by p (next_in (page_at z p)) (walk left chain z (next_in (page_at z p))) (is_in_chain chain z p)
  unfolding walk
  walk_by left chain z p = refl

  walk_same : (left : ℕ) (chain : Chain) (p : ℕ) → walk left chain y p ≡ walk left chain x p
  unfolding walk
  walk_same zero chain p = refl
  walk_same (suc left) chain p = walk_by left chain y p ∙ ap (go_by p (next_in (page_at y p)) (walk left chain y (next_in (page_at y p)))) (in_same chain p) ∙ by (is_in_chain chain x p) refl (walk_same left chain (next_in (page_at x p))) ∙ sym (walk_by left chain x p)
    where
      by : (t : Bool) → is_in_chain chain x p ≡ t → walk left chain y (next_in (page_at x p)) ≡ walk left chain x (next_in (page_at x p)) → go_by p (next_in (page_at y p)) (walk left chain y (next_in (page_at y p))) (is_in_chain chain x p) ≡ go_by p (next_in (page_at x p)) (walk left chain x (next_in (page_at x p))) (is_in_chain chain x p)
      by false e rest = ap (go_by p (next_in (page_at y p)) (walk left chain y (next_in (page_at y p)))) e ∙ sym (ap (go_by p (next_in (page_at x p)) (walk left chain x (next_in (page_at x p)))) e)
      by true e rest =
          let page : page_at y p ≡ page_at x p = page_same chain p e in
          ap (λ (b : Page). go_by p (next_in b) (walk left chain y (next_in b)) (is_in_chain chain x p)) page
          ∙ ap (λ (r : Result (List ℕ) ℕ). go_by p (next_in (page_at x p)) r (is_in_chain chain x p)) rest

  pub pages_same : (chain : Chain) → pages_of chain y ≡ pages_of chain x
  unfolding pages_of
  pages_same chain = ap (λ (n : ℕ). walk n chain y (first_of chain)) alike.same ∙ walk_same (length x) chain (first_of chain)

  pub found_same : (chain : Chain) → found_pages chain y ≡ found_pages chain x
  unfolding found_pages
  found_same chain = ap (λ (r : Result (List ℕ) ℕ). elim r as (λ z. List ℕ) [ Ok ps ↦ ps | Err p ↦ [] ]) (pages_same chain)

  spots_each : (chain : Chain) (ps : List ℕ) → AllByRecursion (λ (q : ℕ). is_in_chain chain x q ≡ true) ps → spots_of y ps ≡ spots_of x ps
  unfolding spots_of
  spots_each chain [] all = refl
  spots_each chain (p ∷ ps) all =
      ap (λ (page : Page). spots_on p 0 (slots_in page) ++ spots_of y ps) (page_same chain p all.0) ∙ ap (λ (ss : List Spot). spots_on p 0 (slots_in (page_at x p)) ++ ss) (spots_each chain ps all.1)

  -- the slots of a chain, of the form or not
  pub spots_same : (chain : Chain) → spots chain y ≡ spots chain x
  unfolding spots spots_of found_pages
  spots_same chain = ap (spots_of y) (found_same chain) ∙ by (pages_of chain x) refl
    where
      none_found : (p : ℕ) → pages_of chain x ≡ Err p → found_pages chain x ≡ []
      none_found p e = ap (λ (r : Result (List ℕ) ℕ). elim r as (λ z. List ℕ) [ Ok ps ↦ ps | Err q ↦ [] ]) e

      by : (r : Result (List ℕ) ℕ) → pages_of chain x ≡ r → spots_of y (found_pages chain x) ≡ spots_of x (found_pages chain x)
      by (Ok ps) e = spots_each chain (found_pages chain x) (pages_found chain x (ap broken_at e)).each
      by (Err p) e = ap (spots_of y) (none_found p e) ∙ sym (ap (spots_of x) (none_found p e))

  pub chains_same : chains y ≡ chains x
  unfolding chains
  chains_same = ap (λ (ss : List Spot). Catalogue ∷ History ∷ table_chains (used ss)) (spots_same Catalogue)

  all_same : (cs : List Chain) → pages_of_all y cs ≡ pages_of_all x cs
  unfolding pages_of_all
  all_same [] = refl
  all_same (c ∷ cs) = ap (λ (ps : List ℕ). ps ++ pages_of_all y cs) (found_same c) ∙ ap (λ (ps : List ℕ). found_pages c x ++ ps) (all_same cs)

  pub reached_same : reached y ≡ reached x
  reached_same = ap (pages_of_all y) chains_same ∙ all_same (chains x)

  cause_same : (cs : List Chain) → chains_cause y cs ≡ chains_cause x cs
  unfolding first_cause
  cause_same [] = refl
  cause_same (c ∷ cs) =
      ap (λ (r : Result (List ℕ) ℕ). first_cause (broken_at r ∷ map (λ c. broken_at (pages_of c y)) cs)) (pages_same c)
      ∙ ap (λ (d : Cause). elim (broken_at (pages_of c x)) as (λ z. Cause) [ None ↦ d | Some r ↦ Some r ]) (cause_same cs)

  pub chains_cause_same : chains_cause y (chains y) ≡ chains_cause x (chains x)
  chains_cause_same = ap (chains_cause y) chains_same ∙ cause_same (chains x)

  pub rows_same : (table : List ℕ) → rows y table ≡ rows x table
  unfolding rows table_spot
  rows_same table =
      ap (λ (o : Option Spot). elim o as (λ z. RowMap) [ None ↦ [] | Some spot ↦ rows_in (spots (RowsFrom (first_in spot.bytes)) y) ]) spot_same ∙ by (table_spot table x)
    where
      spot_same : table_spot table y ≡ table_spot table x
      spot_same = ap (first_such (λ (s : Spot). is_used s.bytes && same_name (table_of s.bytes) table)) (spots_same Catalogue)

      by : (o : Option Spot) → elim o as (λ z. RowMap) [ None ↦ [] | Some spot ↦ rows_in (spots (RowsFrom (first_in spot.bytes)) y) ] ≡ elim o as (λ z. RowMap) [ None ↦ [] | Some spot ↦ rows_in (spots (RowsFrom (first_in spot.bytes)) x) ]
      by None = refl
      by (Some spot) = ap rows_in (spots_same (RowsFrom (first_in spot.bytes)))
