-- What the statements on rows do to the rows of tables, in a neat image.
use Rattle.std.proofs.Common.{◌≡◌, ℕ, ◌+◌, ◌<◌, List, [], length, refl, sym, ap, ◌∙◌, true, false, Option, Some, None, is_some, option_map}
use Rattle.nb_model.proofs.Common.{Refusal, Done, Value, Rows, Refused, CreateTable, DropTable, Insert, Update, Delete, Get, Scan, Chain, Catalogue, RowsFrom, Slot, Spot, table_spot, found_pages, free_spot, row_spot, row_slot, table_slot, free_slot, spots, spots_of, text_in, first_in, put_slot, place_slot, grown, Draft, drafted, wants, Image, Seen, Outcome, ChangesRows, RowMap, IsRising, with_row, without_row, row_at, rows_in, rows, IsNeat, HasHeader, IsSoundImage, data_payload, base_after, is_table_name, first_turn, not_there}
use Rattle.nb_model.proofs.DraftLaws.{IsOf, drafts_are, drafted_is, new_keeps, slot_keeps, at_keeps, place_keeps, given_keeps}
use Rattle.nb_model.proofs.DropTurns.{drop_turn_rows, drop_gone}
use Rattle.nb_model.proofs.CreateTurns.{create_turn_rows, create_there}
use Rattle.nb_model.proofs.GrowthTurns.{grown_turn}
use Rattle.nb_model.proofs.NeatLaws.{rows_of_some}
use Rattle.nb_model.proofs.RowMaps.{rows_rise, rows_at}
use Rattle.nb_model.proofs.RowTurns.{IsTurnOfRows, rows_change, updated, deleted, inserted_free}
use Rattle.nb_model.proofs.TableCases.{HasTable, HasRow, chain_at, new_first, created, dropped, inserted, MayInsert, row_written, create_either, drop_either, insert_either, update_either, delete_either, get_either, scan_either}
use Rattle.nb_model.proofs.TurnCases.{refused}

-- the rows of a table rise
pub table_rises : (image : Image) (table : List ℕ) → IsRising (rows image table)
unfolding rows
table_rises image table = by (table_spot table image)
  where
    by : (o : Option Spot) → IsRising (elim o as (λ z. RowMap) [ None ↦ [] | Some spot ↦ rows_in (spots (RowsFrom (first_in spot.bytes)) image) ])
    by None = tt
    by (Some spot) = rows_rise (spots (RowsFrom (first_in spot.bytes)) image)

-- the row that is found is that of the map
row_is : (image : Image) (table : List ℕ) (spot : Spot) (key : ℕ) → HasTable image table spot → row_at key (rows image table) ≡ option_map (λ (s : Spot). text_in s.bytes) (row_spot key (spots (chain_at spot) image))
row_is image table spot key has = ap (row_at key) (rows_of_some image table spot has.found) ∙ rows_at key (spots (chain_at spot) image)

not_done : (r : Refusal) → Some (Refused r) ≡ Some Done → ⊥
not_done r e = cc

-- the free slot of the chain
free_of : (chain : Chain) (image : Image) → free_spot (spots chain image) ≡ free_spot (spots_of image (found_pages chain image))
unfolding spots
free_of chain image = refl

module _ (s : Seen) (session : ℕ) (table : List ℕ) (key : ℕ) (header : HasHeader s.base.image) (is : IsSoundImage s.base.image) (neat : IsNeat s.base.image) where
  abbrev image : Image
  image = s.base.image

  abbrev its : RowMap
  its = rows image table

  -- where it is done, the strokes change the rows so
  abbrev Does : RowMap → Outcome → Type 0
  Does rs o = o.reply ≡ Some Done → ChangesRows s.base o.strokes table rs

  denied : (rs : RowMap) (r : Refusal) → Does rs (refused s r)
  denied rs r e = absurd (not_done r e)

  slot_is : (p slot : ℕ) (bytes : Slot) → IsOf s.base (put_slot p slot bytes (drafted image))
  slot_is p slot bytes = slot_keeps (IsOf s.base) (drafts_are s.base) p slot bytes (drafted image) (drafted_is s.base)

  pub update_rows : (text : List ℕ) → key < 18446744073709551616 → Does (with_row key text its) (first_turn s session (Update table key text))
  unfolding first_turn
  update_rows text low = update_either (Does (with_row key text its)) s (denied (with_row key text its)) table key text (λ spot row short may e.
      rows_change s.base table (with_row key text its) (row_written image row (row_slot key text)) (slot_is row.page row.slot (row_slot key text))
      (updated image header is neat table spot may.its_row.its_table s.base key text row refl low short may.its_row.found))

  pub delete_rows : Does (without_row key its) (first_turn s session (Delete table key))
  unfolding first_turn
  delete_rows = delete_either (Does (without_row key its)) s (denied (without_row key its)) table key (λ spot row may e.
      rows_change s.base table (without_row key its) (row_written image row free_slot) (slot_is row.page row.slot free_slot) (deleted image header is neat table spot may.its_row.its_table s.base key row refl may.its_row.found))

  -- a free slot, or a new page
  placed : (spot : Spot) (text : List ℕ) → key < 18446744073709551616 → MayInsert image table key text spot → IsTurnOfRows s.base table (with_row key text its) (inserted image spot key text)
  unfolding place_slot
  placed spot text low may = by (free_spot (spots_of image pages)) refl may.left
    where
      chain : Chain
      chain = chain_at spot

      pages : List ℕ
      pages = found_pages (chain_at spot) image

      new : row_spot key (spots (chain_at spot) image) ≡ None
      new = not_there (row_spot key (spots (chain_at spot) image)) may.new

      by : (o : Option Spot) → free_spot (spots_of image pages) ≡ o → (elim o as (λ z. Draft) [ Some f ↦ wants image 5 f.page (put_slot f.page f.slot (row_slot key text) (drafted image)) | None ↦ (grown (chain_at spot) pages (row_slot key text) (drafted image)).0 ]).full ≡ false
          → IsTurnOfRows s.base table (with_row key text its) (elim o as (λ z. Draft) [ Some f ↦ wants image 5 f.page (put_slot f.page f.slot (row_slot key text) (drafted image)) | None ↦ (grown (chain_at spot) pages (row_slot key text) (drafted image)).0 ])
      by (Some f) found left =
          let t = inserted_free image header is neat table spot may.its_table s.base key text f refl low may.short new (free_of (chain_at spot) image ∙ found) in
          record { along = t.along; behind = t.behind }
      by None none left = grown_turn s.base header is neat table spot may.its_table key text low may.short new left

  pub insert_rows : (text : List ℕ) → key < 18446744073709551616 → Does (with_row key text its) (first_turn s session (Insert table key text))
  unfolding first_turn
  insert_rows text low = insert_either (Does (with_row key text its)) s (denied (with_row key text its)) table key text (λ spot may e.
      rows_change s.base table (with_row key text its) (inserted image spot key text) (place_keeps (IsOf s.base) (drafts_are s.base) (chain_at spot) (found_pages (chain_at spot) image) (row_slot key text) (drafted image) (drafted_is s.base)) (placed spot text low may))

-- A table that is dropped has no rows.
pub drop_rows : (s : Seen) (session : ℕ) (table : List ℕ) → HasHeader s.base.image → IsSoundImage s.base.image → IsNeat s.base.image → (first_turn s session (DropTable table)).reply ≡ Some Done
    → ChangesRows s.base (first_turn s session (DropTable table)).strokes table []
unfolding first_turn
drop_rows s session table header is neat = drop_either (λ o. o.reply ≡ Some Done → ChangesRows s.base o.strokes table []) s (λ r e. absurd (not_done r e)) table (λ spot may e.
    rows_change s.base table [] (dropped s.base.image spot)
    (given_keeps (IsOf s.base) (drafts_are s.base) (found_pages (chain_at spot) s.base.image) (put_slot spot.page spot.slot free_slot (drafted s.base.image)) (slot_keeps (IsOf s.base) (drafts_are s.base) spot.page spot.slot free_slot (drafted s.base.image) (drafted_is s.base)))
    (drop_turn_rows s header is neat table spot may.its_table))

-- and the catalogue hasn't it then
pub drop_there : (s : Seen) (session : ℕ) (table : List ℕ) → HasHeader s.base.image → IsSoundImage s.base.image → IsNeat s.base.image → (first_turn s session (DropTable table)).reply ≡ Some Done
    → table_spot table (base_after s.base (first_turn s session (DropTable table)).strokes).image ≡ None
unfolding first_turn
drop_there s session table header is neat = drop_either (λ o. o.reply ≡ Some Done → table_spot table (base_after s.base o.strokes).image ≡ None) s (λ r e. absurd (not_done r e)) table (λ spot may e.
    ap (table_spot table)
    (given_keeps (IsOf s.base) (drafts_are s.base) (found_pages (chain_at spot) s.base.image) (put_slot spot.page spot.slot free_slot (drafted s.base.image)) (slot_keeps (IsOf s.base) (drafts_are s.base) spot.page spot.slot free_slot (drafted s.base.image) (drafted_is s.base))).is
    ∙ drop_gone s header is neat table spot may.its_table)

-- A table that is created has no rows, and the catalogue has it then.
created_is : (s : Seen) (table : List ℕ) → IsOf s.base (created s.base.image table)
created_is s table = at_keeps (IsOf s.base) (drafts_are s.base) Catalogue (free_spot (spots Catalogue s.base.image)) (found_pages Catalogue s.base.image) (table_slot table (new_first s.base.image).1) (new_first s.base.image).0
    (new_keeps (IsOf s.base) (drafts_are s.base) (length s.base.image + 4) 5 (λ p. data_payload 0 p []) (drafted s.base.image) (drafted_is s.base))

pub create_rows : (s : Seen) (session : ℕ) (table : List ℕ) → HasHeader s.base.image → IsSoundImage s.base.image → IsNeat s.base.image → is_table_name table ≡ true → (first_turn s session (CreateTable table)).reply ≡ Some Done
    → ChangesRows s.base (first_turn s session (CreateTable table)).strokes table []
unfolding first_turn
create_rows s session table header is neat named = create_either (λ o. o.reply ≡ Some Done → ChangesRows s.base o.strokes table []) s (λ r e. absurd (not_done r e)) table (λ may e.
    rows_change s.base table [] (created s.base.image table) (created_is s table) (create_turn_rows s.base header is neat table named may))

pub create_in : (s : Seen) (session : ℕ) (table : List ℕ) → HasHeader s.base.image → IsSoundImage s.base.image → IsNeat s.base.image → is_table_name table ≡ true → (first_turn s session (CreateTable table)).reply ≡ Some Done
    → is_some (table_spot table (base_after s.base (first_turn s session (CreateTable table)).strokes).image) ≡ true
unfolding first_turn
create_in s session table header is neat named = create_either (λ o. o.reply ≡ Some Done → is_some (table_spot table (base_after s.base o.strokes).image) ≡ true) s (λ r e. absurd (not_done r e)) table (λ may e.
    ap (λ (x : Image). is_some (table_spot table x)) (created_is s table).is ∙ create_there s.base header is neat table named may)

-- What is answered, whatever the image: `insert` is done where no row has the key, and `update` and `delete` where one has it.
module _ (s : Seen) (session : ℕ) (table : List ℕ) (key : ℕ) where
  abbrev here : Image
  here = s.base.image

  abbrev under : Option (List ℕ)
  under = row_at key (rows here table)

  not_refused : (r : Refusal) → Some (Refused r) ≡ Some Done → ⊥
  not_refused r e = cc

  pub insert_new : (text : List ℕ) → (first_turn s session (Insert table key text)).reply ≡ Some Done → under ≡ None
  unfolding first_turn
  insert_new text = insert_either (λ o. o.reply ≡ Some Done → under ≡ None) s (λ r e. absurd (not_refused r e)) table key text
      (λ spot may e. row_is here table spot key may.its_table ∙ ap (option_map (λ (v : Spot). text_in v.bytes)) (not_there (row_spot key (spots (chain_at spot) here)) may.new))

  found_under : (spot row : Spot) → HasRow here table key spot row → is_some under ≡ true
  found_under spot row has = ap is_some (row_is here table spot key has.its_table ∙ ap (option_map (λ (v : Spot). text_in v.bytes)) has.found)

  pub update_there : (text : List ℕ) → (first_turn s session (Update table key text)).reply ≡ Some Done → is_some under ≡ true
  unfolding first_turn
  update_there text = update_either (λ o. o.reply ≡ Some Done → is_some under ≡ true) s (λ r e. absurd (not_refused r e)) table key text (λ spot row short may e. found_under spot row may.its_row)

  pub delete_there : (first_turn s session (Delete table key)).reply ≡ Some Done → is_some under ≡ true
  unfolding first_turn
  delete_there = delete_either (λ o. o.reply ≡ Some Done → is_some under ≡ true) s (λ r e. absurd (not_refused r e)) table key (λ spot row may e. found_under spot row may.its_row)

  not_value : (r : Refusal) (text : List ℕ) → Some (Refused r) ≡ Some (Value text) → ⊥
  not_value r text e = cc

  same_value : (a b : List ℕ) → Some (Value a) ≡ Some (Value b) → a ≡ b
  same_value a b e = cc

  -- `get` answers the text under the key
  pub get_value : (text : List ℕ) → (first_turn s session (Get table key)).reply ≡ Some (Value text) → under ≡ Some text
  unfolding first_turn
  get_value text = get_either (λ o. o.reply ≡ Some (Value text) → under ≡ Some text) s (λ r e. absurd (not_value r text e)) table key
      (λ spot row has e. row_is here table spot key has.its_table ∙ ap (option_map (λ (v : Spot). text_in v.bytes)) has.found ∙ ap Some (same_value (text_in row.bytes) text e))

  not_rows : (r : Refusal) (rs : RowMap) → Some (Refused r) ≡ Some (Rows rs) → ⊥
  not_rows r rs e = cc

  same_rows : (a b : RowMap) → Some (Rows a) ≡ Some (Rows b) → a ≡ b
  same_rows a b e = cc

  -- and `scan` the rows
  pub scan_rows : (rs : RowMap) → (first_turn s session (Scan table)).reply ≡ Some (Rows rs) → rs ≡ rows here table
  unfolding first_turn
  scan_rows rs = scan_either (λ o. o.reply ≡ Some (Rows rs) → rs ≡ rows here table) s (λ r e. absurd (not_rows r rs e)) table
      (λ spot has e. sym (same_rows (rows_in (spots (chain_at spot) here)) rs e) ∙ sym (rows_of_some here table spot has.found))
