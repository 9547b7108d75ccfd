-- A row is written or taken out: the rows of its table are then those of the map, and those of other tables stay, at each stroke.
use Rattle.std.proofs.Common.{◌≡◌, ◌≢◌, ◌⊎◌, inl, inr, ℕ, suc, ◌<◌, ◌≤◌, List, [], ◌∷◌, map, length, refl, sym, ap, subst, ◌∙◌, arith, Bool, true, false, Some, None, Contains}
use Rattle.nb_model.proofs.Common.{AllByRecursion, and_parts, eqb-true, Base, Chain, Catalogue, History, Slot, Spot, is_used, is_slot, key_of, text_in, table_of, first_in, first_such, found_pages, spots, table_spot, free_spot, row_spot, row_slot, free_slot, put_slot, Draft, drafted, raised, Image, GivesRows, ChangesRows, RowMap, with_row, without_row, rows_in, rows, used, table_chains, chains, pages_of_all, AreDistinct, IsNeat, HasHeader, IsSoundImage}
use Rattle.nb_model.proofs.Along.{Along, along_front, put_along}
use Rattle.nb_model.proofs.HeldChains.{nothing_changes}
use Rattle.nb_model.proofs.NeatLaws.{distinct_right, chain_apart, pages_first, once_table, chain_held, table_found, IsFoundTable, rows_of_some, ChangesChain, chains_are, same_table, stays_neat, other_rows, used_each, no_catalogue_history}
use Rattle.nb_model.proofs.RoomLaws.{first_passes, pages_found}
use Rattle.nb_model.proofs.RowSlots.{row_used, row_key, row_text, row_is_slot, row_has_key, free_not_used, free_is_slot}
use Rattle.nb_model.proofs.FoundSpots.{each_held, found_there}
use Rattle.nb_model.proofs.SlotPuts.{held_at, slot_between, IsSlotPut, slot_put}
use Rattle.nb_model.proofs.SpotKeys.{keys_in, once_key, same_keys, fewer_keys, more_keys, ChangesOnce}
use Rattle.nb_model.proofs.SpotLaws.{IsSpotOn}
use Rattle.nb_model.proofs.SpotMaps.{ChangesOne, has_key, is_free_slot, free_unused, none_such, such_passes, updated_rows, inserted_rows, deleted_rows}
use Rattle.nb_model.proofs.SpotWrites.{put_at, put_it, all_change, changes_once}
use Rattle.nb_model.proofs.DraftLaws.{IsOf}
use Rattle.nb_model.proofs.TableCases.{HasTable, chain_at}
use Rattle.nb_model.proofs.TableTurns.{row_length}

-- The strokes of a draft change the rows of a table to these.
pub record IsTurnOfRows (b : Base) (table : List ℕ) (rs : RowMap) (d : Draft) : Type 0 where
  pub along : Along (λ z. GivesRows b.image z table (rows b.image table) ⊎ GivesRows b.image z table rs) b d.strokes
  pub behind : GivesRows b.image d.image table rs

-- so do they of the database
pub rows_change : (b : Base) (table : List ℕ) (rs : RowMap) (d : Draft) → IsOf b d → IsTurnOfRows b table rs d → ChangesRows b d.strokes table rs
rows_change b table rs d of t = record {
  each = along_front (λ z. GivesRows b.image z table (rows b.image table) ⊎ GivesRows b.image z table rs) b d.strokes t.along;
  behind = subst (λ (z : Image). GivesRows b.image z table rs) (sym of.is) t.behind;
}

module _ (x : Image) (header : HasHeader x) (is : IsSoundImage x) (neat : IsNeat x) (table : List ℕ) (u : Spot) (has : HasTable x table u) where
  abbrev c : Chain
  c = chain_at u

  found_table : IsFoundTable x table u
  found_table = table_found x table u has.found

  abbrev tables : List Spot
  tables = used (spots Catalogue x)

  pub of_all : Contains (chains x) c
  of_all = let rest = chain_held x tables u found_table.held in subst (λ (cs : List Chain). Contains cs c) (sym (chains_are x)) (suc (suc rest.0), omega (arith, rest.1), rest.2)

  -- Another table has another chain.
  tables_apart : AreDistinct (pages_of_all x (table_chains tables))
  tables_apart =
      let all : AreDistinct (pages_of_all x (Catalogue ∷ History ∷ table_chains tables)) = subst (λ (cs : List Chain). AreDistinct (pages_of_all x cs)) (chains_are x) neat.apart in
      let one = distinct_right (found_pages Catalogue x) (pages_of_all x (History ∷ table_chains tables)) (subst AreDistinct (pages_first x Catalogue (History ∷ table_chains tables)) all) in
      distinct_right (found_pages History x) (pages_of_all x (table_chains tables)) (subst AreDistinct (pages_first x History (table_chains tables)) one)

  pub some_page : (q : ℕ) × Contains (found_pages c x) q
  some_page = first (found_pages c x) (pages_found c x has.formed).some
    where
      first : (ps : List ℕ) → 1 ≤ length ps → (q : ℕ) × Contains ps q
      first [] some = absurd (omega (arith, some))
      first (q ∷ ps) some = (q, (0, omega arith, refl))

  pub other_chain : (other : List ℕ) → other ≢ table → (w : Spot) → table_spot other x ≡ Some w → chain_at w ≢ c
  unfolding table_spot
  other_chain other ne w found same =
      let theirs : IsFoundTable x other w = table_found x other w found in
      let once = used_each (λ v. Contains (found_pages (chain_at v) x) some_page.0 → v ≡ u) (spots Catalogue x) (once_table x tables u some_page.0 tables_apart found_table.held some_page.1) in
      let one : w ≡ u = first_passes _ (λ v. is_used v.bytes ≡ true → Contains (found_pages (chain_at v) x) some_page.0 → v ≡ u) (spots Catalogue x) w found once theirs.its_use
      (subst (λ (d : Chain). Contains (found_pages d x) some_page.0) (sym same) some_page.1) in
      ne (sym theirs.named ∙ ap (λ (v : Spot). table_of v.bytes) one ∙ found_table.named)

  pub no_catalogue : Catalogue ≢ c
  no_catalogue e = cc

  -- Nothing changes: the rows are those from before.
  pub still_rows : (y : Image) → ChangesChain History x y → GivesRows x y table (rows x table)
  still_rows y changes = record {
    neat = stays_neat x y neat History no_catalogue_history changes (λ first e. cc);
    its = other_rows x y neat History no_catalogue_history changes table (λ w found e. cc);
    others = λ other ne. other_rows x y neat History no_catalogue_history changes other (λ w found e. cc);
  }

  -- A chain of rows changes.
  pub changed_rows : (y : Image) (rs : RowMap) → ChangesChain c x y → AreDistinct (keys_in (spots c y)) → rows_in (spots c y) ≡ rs → GivesRows x y table rs
  changed_rows y rs changes keys rows_are = record {
    neat = stays_neat x y neat c no_catalogue changes (λ first e. keys);
    its = rows_of_some y table u (same_table x y neat c no_catalogue changes table ∙ has.found) ∙ rows_are;
    others = λ other ne. other_rows x y neat c no_catalogue changes other (other_chain other ne);
  }

  pub its_rows : rows x table ≡ rows_in (spots c x)
  its_rows = rows_of_some x table u has.found

  pub its_keys : AreDistinct (keys_in (spots c x))
  its_keys = held_at (λ d. AreDistinct (keys_in (spots d x))) (table_chains tables) c (chain_held x tables u found_table.held) neat.keys

  pub its_pages : AreDistinct (found_pages c x)
  its_pages = chain_apart x (chains x) c of_all neat.apart

  -- A slot of its chain is written.
  module _ (test : Spot → Bool) (s : Spot) (found : first_such test (spots c x) ≡ Some s) where
    on : IsSpotOn (Contains (found_pages c x)) x s
    on = found_there c x test s found

    abbrev f : Slot → Spot → Spot
    f bytes = put_at s.page s.slot bytes

    changes_one : (bytes : Slot) → AllByRecursion (ChangesOne (f bytes) s) (spots c x)
    unfolding spots
    changes_one bytes = all_change s.page s.slot bytes (Contains (found_pages c x)) x s on refl refl (found_pages c x) (each_held (found_pages c x))

    once : (bytes : Slot) → ChangesOnce (f bytes) s (spots c x)
    unfolding spots
    once bytes = changes_once s.page s.slot bytes s x (found_pages c x) its_pages (changes_one bytes)

    put_there : (bytes : Slot) → f bytes s ≡ record { page = s.page; slot = s.slot; bytes = bytes }
    put_there bytes = put_it s.page s.slot bytes s refl refl

    module _ (b : Base) (same : b.image ≡ x) (bytes : Slot) (long : length bytes ≡ 256) (fits : is_slot c bytes ≡ true) where
      abbrev y : Image
      y = (put_slot s.page s.slot bytes (drafted x)).image

      its_put : IsSlotPut c s bytes x y
      its_put = slot_put x header is neat c of_all s on bytes long fits

      -- what is given along the strokes, and after them
      pub slot_turn : (rs : RowMap) → AreDistinct (keys_in (map (f bytes) (spots c x))) → rows_in (map (f bytes) (spots c x)) ≡ rs
          → Along (λ z. GivesRows x z table (rows x table) ⊎ GivesRows x z table rs) b (put_slot s.page s.slot bytes (drafted x)).strokes × GivesRows x y table rs
      unfolding put_slot
      slot_turn rs keys rows_are = (
        put_along (λ z. GivesRows x z table (rows x table) ⊎ GivesRows x z table rs) b x s.page 5 _ same (inl (still_rows x (nothing_changes x header is neat x (omega arith) (λ q bytes held. held)))) (inl (still_rows (raised s.page (drafted x)).image (slot_between x header is neat c of_all s on))) (inr last),
        last,
      )
        where
          last : GivesRows x y table rs
          last = changed_rows y rs its_put.changes (subst (λ (us : List Spot). AreDistinct (keys_in us)) (sym its_put.spots_then) keys) (ap rows_in its_put.spots_then ∙ rows_are)

      -- so for the strokes of the slot
      pub slot_rows : (rs : RowMap) → AreDistinct (keys_in (map (f bytes) (spots c x))) → rows_in (map (f bytes) (spots c x)) ≡ rs → IsTurnOfRows b table rs (put_slot s.page s.slot bytes (drafted x))
      slot_rows rs keys rows_are = let both = slot_turn rs keys rows_are in subst (λ (z : Image). IsTurnOfRows b table rs (put_slot s.page s.slot bytes (drafted z))) same
          (record { along = subst (λ (z : Image). Along (λ w. GivesRows z w table (rows z table) ⊎ GivesRows z w table rs) b (put_slot s.page s.slot bytes (drafted z)).strokes) (sym same) both.0; behind = subst (λ (z : Image). GivesRows z (put_slot s.page s.slot bytes (drafted z)).image table rs) (sym same) both.1 })

  -- `update`: the row's text is another.
  pub updated : (b : Base) (key : ℕ) (text : List ℕ) (s : Spot) → b.image ≡ x → key < 18446744073709551616 → length text ≤ 200 → row_spot key (spots c x) ≡ Some s
      → IsTurnOfRows b table (with_row key text (rows x table)) (put_slot s.page s.slot (row_slot key text) (drafted x))
  unfolding row_spot
  updated b key text s same low short found =
      slot_rows (has_key key) s found b same bytes (row_length key text (omega (arith, short))) (row_is_slot (first_in u.bytes) key text short) (with_row key text (rows x table)) keys
      (updated_rows (g bytes) s key (spots c x) changes is_row found ∙ ap (λ (t : List ℕ). with_row key t (rows_in (spots c x))) text_then ∙ ap (with_row key text) (sym its_rows))
    where
      bytes : Slot
      bytes = row_slot key text

      g : Slot → Spot → Spot
      g bytes = put_at s.page s.slot bytes

      changes : AllByRecursion (ChangesOne (g bytes) s) (spots c x)
      changes = changes_one (has_key key) s found bytes

      there : g bytes s ≡ record { page = s.page; slot = s.slot; bytes = bytes }
      there = put_there (has_key key) s found bytes

      is_row : has_key key (g bytes s) ≡ true
      is_row = ap (has_key key) there ∙ row_has_key key s.page s.slot text low

      old_row : has_key key s ≡ true
      old_row = such_passes (has_key key) (spots c x) s found

      text_then : text_in (g bytes s).bytes ≡ text
      text_then = ap (λ (v : Spot). text_in v.bytes) there ∙ row_text key text short

      keys : AreDistinct (keys_in (map (g bytes) (spots c x)))
      keys = subst AreDistinct
          (sym (same_keys (g bytes) s (spots c x) changes (and_parts (is_used s.bytes) _ old_row).0 (ap (λ (v : Spot). is_used v.bytes) there ∙ row_used key text)
          (ap (λ (v : Spot). key_of v.bytes) there ∙ row_key key text low ∙ sym (eqb-true (key_of s.bytes) key (and_parts (is_used s.bytes) _ old_row).1))))
          its_keys

  -- `delete`: the row is gone.
  pub deleted : (b : Base) (key : ℕ) (s : Spot) → b.image ≡ x → row_spot key (spots c x) ≡ Some s → IsTurnOfRows b table (without_row key (rows x table)) (put_slot s.page s.slot free_slot (drafted x))
  unfolding row_spot
  deleted b key s same found =
      slot_rows (has_key key) s found b same free_slot refl (free_is_slot c) (without_row key (rows x table)) (fewer_keys g s (spots c x) changes empty its_keys)
      (deleted_rows g s key (spots c x) changes empty (such_passes (has_key key) (spots c x) s found) (once_key key (spots c x) s its_keys found) ∙ ap (without_row key) (sym its_rows))
    where
      g : Spot → Spot
      g = put_at s.page s.slot free_slot

      changes : AllByRecursion (ChangesOne g s) (spots c x)
      changes = changes_one (has_key key) s found free_slot

      empty : is_used (g s).bytes ≡ false
      empty = ap (λ (v : Spot). is_used v.bytes) (put_there (has_key key) s found free_slot) ∙ free_not_used

  -- `insert` into a free slot: the row is there.
  pub inserted_free : (b : Base) (key : ℕ) (text : List ℕ) (s : Spot) → b.image ≡ x → key < 18446744073709551616 → length text ≤ 200 → row_spot key (spots c x) ≡ None → free_spot (spots c x) ≡ Some s
      → IsTurnOfRows b table (with_row key text (rows x table)) (put_slot s.page s.slot (row_slot key text) (drafted x))
  unfolding row_spot free_spot
  inserted_free b key text s same low short none found =
      slot_rows is_free_slot s found b same bytes (row_length key text (omega (arith, short))) (row_is_slot (first_in u.bytes) key text short) (with_row key text (rows x table))
      (more_keys (g bytes) s key is_row (spots c x) (once is_free_slot s found bytes) (free_unused s (such_passes is_free_slot (spots c x) s found)) (none_such (has_key key) (spots c x) none) its_keys)
      (inserted_rows (g bytes) s key (spots c x) changes is_row found none ∙ ap (λ (t : List ℕ). with_row key t (rows_in (spots c x))) text_then ∙ ap (with_row key text) (sym its_rows))
    where
      bytes : Slot
      bytes = row_slot key text

      g : Slot → Spot → Spot
      g bytes = put_at s.page s.slot bytes

      changes : AllByRecursion (ChangesOne (g bytes) s) (spots c x)
      changes = changes_one is_free_slot s found bytes

      there : g bytes s ≡ record { page = s.page; slot = s.slot; bytes = bytes }
      there = put_there is_free_slot s found bytes

      is_row : has_key key (g bytes s) ≡ true
      is_row = ap (has_key key) there ∙ row_has_key key s.page s.slot text low

      text_then : text_in (g bytes s).bytes ≡ text
      text_then = ap (λ (v : Spot). text_in v.bytes) there ∙ row_text key text short
