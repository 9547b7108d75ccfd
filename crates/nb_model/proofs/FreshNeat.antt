-- A new database is neat: its catalogue and its history are a page each, without a used slot.
use Rattle.std.proofs.Common.{◌≡◌, ℕ, zero, suc, ◌+◌, ◌-◌, ◌/◌, ◌%◌, ◌<◌, ◌≤◌, List, [], ◌∷◌, ◌++◌, length, drop, replicate, refl, sym, ap, subst, ◌∙◌, arith, Bool, true, false, ◌==◌, nat_lt, IsTrue, if◌then◌else◌, Ok}
use Rattle.nb_model.proofs.Common.{AllByRecursion, mod-eq_of_lt, cond-true, cond-false, ne_eqb, eq-eqb, lt-ltb, and_right, append-nil, PageKind, Data, bytes_of, number_of, number_in, padded, is_zeros, fresh_kind, fresh_payload, fresh_page, fresh, code_of, data_kind, head_of, page_of, kind_of, data_payload, bit_of, is_page_size, entries_in, bits_in, inventory_place, is_inventory_place, is_scn_place, entries-least, bits-least, Chain, Catalogue, History, Spot, first_of, owner_of, owner_in, next_in, is_slot, slots_in, walk, pages_of, found_pages, spots_on, spots_of, spots, is_free_page, Page, Image, page_at, used, table_chains, chains, pages_of_all, AreDistinct, names_of, IsNeat, or_from}
use Rattle.nb_model.proofs.ChainWalks.{HasForm, there_by, walk_on_is, onward, found_is, spots_are}
use Rattle.nb_model.proofs.FreshImageLaws.{fresh_count-least, fresh_length}
use Rattle.nb_model.proofs.FreshSound.{fresh_rest, shows, fresh_at, size_is}
use Rattle.nb_model.proofs.ImageLaws.{zeros-are}
use Rattle.nb_model.proofs.NewSlots.{IsFree, free_is_unused, free_fits, zero_free}
use Rattle.nb_model.proofs.NewSound.{inventory_before}
use Rattle.nb_model.proofs.SlotPuts.{each_list}
use Rattle.nb_model.proofs.SpotKeys.{keys_in}

-- what such a page holds
its_next : (size p owner : ℕ) → next_in (page_of size 5 1 1 p (data_payload 0 owner [])) ≡ 0
unfolding number_in page_of head_of padded data_payload bytes_of number_of
its_next size p owner = refl

its_kind : (size p owner : ℕ) → kind_of (page_of size 5 1 1 p (data_payload 0 owner [])) ≡ data_kind
unfolding number_in page_of head_of padded data_payload bytes_of number_of
its_kind size p owner = refl

its_owner : (size p : ℕ) (t : Bool) → owner_in (page_of size 5 1 1 p (data_payload 0 (if t then 1 else 0) [])) ≡ (if t then 1 else 0)
unfolding number_in page_of head_of padded data_payload bytes_of number_of
its_owner size p true = refl
its_owner size p false = refl

-- the pages 3 and 4 are data pages
kind_of_data : (size p : ℕ) → IsTrue (is_page_size size) → (p == 0) ≡ false → is_inventory_place size p ≡ false → is_scn_place size p ≡ false → nat_lt p 5 ≡ true → fresh_kind size p ≡ Data
unfolding fresh_kind
kind_of_data size p is some inventory scn low = cond-false (p == 0) _ _ some ∙ cond-false (is_inventory_place size p) _ _ inventory ∙ cond-false (is_scn_place size p) _ _ scn ∙ cond-true (nat_lt p 5) _ _ low

no_inventory : (size p : ℕ) → IsTrue (is_page_size size) → 2 ≤ p → p ≤ 4 → is_inventory_place size p ≡ false
unfolding is_inventory_place
no_inventory size p is two most = let least = bits-least size is in or_from (p == 1) ((p + 1) % bits_in size == 0) (ne_eqb p 1 (λ e. absurd (omega (arith, e, two)))) (ne_eqb ((p + 1) % bits_in size) 0 (λ e. absurd (omega (arith, e, least, most))))

no_scn_page : (size p : ℕ) → IsTrue (is_page_size size) → 3 ≤ p → p ≤ 4 → is_scn_place size p ≡ false
unfolding is_scn_place
no_scn_page size p is three most =
    let least = entries-least size is in
    let small : p < entries_in size = omega (arith, least, most) in
    let same : p % entries_in size ≡ p = mod-eq_of_lt small in
    or_from (p == 2) _ (ne_eqb p 2 (λ e. absurd (omega (arith, e, three)))) (and_right (nat_lt 0 p) (p % entries_in size == 0) (ne_eqb (p % entries_in size) 0 (λ e. absurd (omega (arith, e, same, three)))))

module _ (size raw : ℕ) (is : IsTrue (is_page_size size)) (few : raw ≤ 65535) where
  abbrev x : Image
  x = fresh size raw

  long : 5 ≤ length x
  long = let least = fresh_count-least size raw in omega (arith, least, fresh_length size raw)

  module _ (p : ℕ) (three : 3 ≤ p) (most : p ≤ 4) where
    low : p < length x
    low = let least = long in omega (arith, least, most)

    kind : fresh_kind size p ≡ Data
    kind = kind_of_data size p is (ne_eqb p 0 (λ e. absurd (omega (arith, e, three)))) (no_inventory size p is (omega (arith, three)) most) (no_scn_page size p is three most) (lt-ltb p 5 (omega (arith, most)))

    abbrev owner : ℕ
    owner = if p == 4 then 1 else 0

    page_is : page_at x p ≡ page_of size 5 1 1 p (data_payload 0 owner [])
    unfolding fresh_page fresh_payload
    page_is = fresh_at size raw is few p low ∙ ap (λ (k : PageKind). page_of size (code_of k) 1 1 p (fresh_payload size raw p k)) kind

    next_none : next_in (page_at x p) ≡ 0
    next_none = ap next_in page_is ∙ its_next size p owner

    free : AllByRecursion IsFree (slots_in (page_at x p))
    unfolding slots_in
    free =
        let page : Page = page_at x p in
        let rest : drop 32 page ≡ replicate (size - 16 - 16) 0 = ap (drop 32) (fresh_at size raw is few p low) ∙ fresh_rest size raw p (ap code_of kind) in
        zero_free page 32 (ap is_zeros rest ∙ zeros-are (size - 16 - 16)) ((length page - 32) / 256) 32 (omega arith)

    taken : is_free_page x p ≡ false
    unfolding is_free_page
    taken =
        let before = inventory_before size p is (omega (arith, three)) in
        let place : inventory_place size (p / bits_in size) < length x = let here = low in omega (arith, before, here) in
        let bit : bit_of (page_at x (inventory_place size (p / bits_in size))) (p % bits_in size) ≡ 0 = (shows size raw is few (inventory_place size (p / bits_in size)) place).taken p refl (let here = low in omega (arith, here, fresh_length size raw)) in
        ap (λ (s : ℕ). bit_of (page_at x (inventory_place s (p / bits_in s))) (p % bits_in s) == 1) (size_is size raw is few) ∙ ap (λ (n : ℕ). n == 1) bit

    module _ (c : Chain) (begins : first_of c ≡ p) (owns : owner ≡ owner_of c) where
      form : HasForm c (page_at x p)
      form = record {
        of_kind = ap kind_of page_is ∙ its_kind size p owner;
        owner = ap owner_in page_is ∙ its_owner size p (p == 4) ∙ owns;
        slots = each_list (is_slot c) (slots_in (page_at x p)) (fit (slots_in (page_at x p)) free);
      }
        where
          fit : (ss : List (List ℕ)) → AllByRecursion IsFree ss → AllByRecursion (λ s. is_slot c s ≡ true) ss
          fit [] all = tt
          fit (s ∷ ss) all = (free_fits c s all.0, fit ss all.1)

      pages_are : pages_of c x ≡ Ok (p ∷ [])
      unfolding pages_of
      pages_are = by (length x) (omega (arith, long))
        where
          by : (n : ℕ) → 1 ≤ n → walk n c x (first_of c) ≡ Ok (p ∷ [])
          by zero less = absurd (omega (arith, less))
          by (suc n) less = ap (walk (suc n) c x) begins ∙ walk_on_is n c x p (there_by c x p low form) ∙ ap (onward c x n p) (eq-eqb (next_in (page_at x p)) 0 next_none)

  none_used : (p : ℕ) → 3 ≤ p → p ≤ 4 → (j : ℕ) (ss : List (List ℕ)) → AllByRecursion IsFree ss → used (spots_on p j ss) ≡ []
  unfolding used spots_on
  none_used p three most j [] all = refl
  none_used p three most j (s ∷ ss) all = ap (λ (t : Bool). elim t as (λ z. List Spot) [ true ↦ record { page = p; slot = j; bytes = s } ∷ used (spots_on p (j + 1) ss) | false ↦ used (spots_on p (j + 1) ss) ]) (free_is_unused s all.0) ∙ none_used p three most (j + 1) ss all.1

  abbrev three_catalogue : pages_of Catalogue x ≡ Ok (3 ∷ [])
  three_catalogue = pages_are 3 (omega arith) (omega arith) Catalogue refl refl

  abbrev four_history : pages_of History x ≡ Ok (4 ∷ [])
  four_history = pages_are 4 (omega arith) (omega arith) History refl refl

  no_tables : used (spots Catalogue x) ≡ []
  unfolding spots_of
  no_tables = ap used (spots_are Catalogue x (3 ∷ []) three_catalogue ∙ append-nil (spots_on 3 0 (slots_in (page_at x 3)))) ∙ none_used 3 (omega arith) (omega arith) 0 (slots_in (page_at x 3)) (free 3 (omega arith) (omega arith))

  chains_are : chains x ≡ Catalogue ∷ History ∷ []
  unfolding chains table_chains
  chains_are = ap (λ (us : List Spot). Catalogue ∷ History ∷ table_chains us) no_tables

  all_pages : pages_of_all x (chains x) ≡ 3 ∷ 4 ∷ []
  unfolding pages_of_all
  all_pages = ap (pages_of_all x) chains_are ∙ ap (λ (ps : List ℕ). ps ++ (found_pages History x ++ [])) (found_is Catalogue x (3 ∷ []) three_catalogue) ∙ ap (λ (ps : List ℕ). 3 ∷ (ps ++ [])) (found_is History x (4 ∷ []) four_history)

  pub fresh_neat : IsNeat x
  unfolding names_of table_chains
  fresh_neat = record {
    formed = subst (AllByRecursion (λ c. (ps : List ℕ) × (pages_of c x ≡ Ok ps))) (sym chains_are) ((3 ∷ [], three_catalogue), ((4 ∷ [], four_history), tt));
    apart = subst AreDistinct (sym all_pages) (((λ e. absurd (omega (arith, e))), tt), (tt, tt));
    taken = subst (AllByRecursion (λ p. is_free_page x p ≡ false)) (sym all_pages) (taken 3 (omega arith) (omega arith), (taken 4 (omega arith) (omega arith), tt));
    names = subst (λ (us : List Spot). AreDistinct (names_of us)) (sym no_tables) tt;
    keys = subst (λ (us : List Spot). AllByRecursion (λ c. AreDistinct (keys_in (spots c x))) (table_chains us)) (sym no_tables) tt;
  }
