-- The strokes of a statement on tables fit, each at its point, and write no row of the history; and each page of the history that is taken
-- stays as it is. A table that is made needs a name of the form: a longer one wouldn't fit into its slot.
use Rattle.std.proofs.Common.{◌≡◌, ◌≢◌, ℕ, ◌+◌, ◌*◌, ◌<◌, ◌≤◌, List, [], ◌∷◌, length, refl, sym, ap, subst, ◌∙◌, arith, Bool, true, false, nat_lt, Some, None}
use Rattle.nb_model.proofs.Common.{AllByRecursion, true≢false, and_parts, leb-true, bytes_of, is_inventory_place, most_pages, stamped, data_payload, length-padded, data_kind, Refusal, Reply, Done, Base, broken_at, Chain, Catalogue, RowsFrom, Slot, Spot, owner_of, owner_in, first_in, is_in_chain, pages_of, found_pages, spots, spots_of, first_such, free_spot, table_spot, row_spot, row_slot, table_slot, free_slot, put_slot, Draft, drafted, Page, Image, image_size, Seen, Outcome, says, HasHeader, IsSoundImage, base_after, is_table_name, create_turn, drop_turn, insert_turn, update_turn, delete_turn, get_turn, scan_turn}
use Rattle.nb_model.proofs.FitLaws.{IsWhole, AreFitting, fitting_stays}
use Rattle.nb_model.proofs.HeldLaws.{IsHeld, IsOfHistory}
use Rattle.nb_model.proofs.NoRows.{HasNoRows}
use Rattle.nb_model.proofs.PutSound.{header_whole}
use Rattle.nb_model.proofs.RoomLaws.{in_chain, chain_owner, chain_plain, first_found, first_passes, pages_found}
use Rattle.nb_model.proofs.SlotLaws.{new_owner}
use Rattle.nb_model.proofs.SoundLaws.{all_at, inventory_there}
use Rattle.nb_model.proofs.SpotLaws.{IsSpotOn, all_on, spot_within}
use Rattle.nb_model.proofs.TableCases.{HasTable, chain_at, new_first, created, MayCreate, dropped, inserted, row_written, MayPut, create_either, drop_either, insert_either, update_either, delete_either, get_either, scan_either}
use Rattle.nb_model.proofs.TableDrafts.{IsTablePage, Keeps, Goes, GoesToNew, keeps_first, goes_new, goes_slot, goes_at, goes_place, goes_given, all_pages, place_left}
use Rattle.nb_model.proofs.TurnCases.{refused}

-- the lengths of slots
pub row_length : (key : ℕ) (text : List ℕ) → length text ≤ 240 → length (row_slot key text) ≡ 256
unfolding row_slot bytes_of
row_length key text short = length-padded 256 _ (omega (arith, short))

pub table_length : (name : List ℕ) (first : ℕ) → length name ≤ 240 → length (table_slot name first) ≡ 256
unfolding table_slot bytes_of
table_length name first short = length-padded 256 _ (omega (arith, short))

pub name_short : (name : List ℕ) → is_table_name name ≡ true → length name ≤ 30
name_short name is = leb-true (length name) 30 (and_parts (nat_lt 0 (length name)) _ (and_parts _ _ (and_parts _ _ is).0).0).1

-- A first turn that keeps as much.
pub record TurnKeeps (s : Seen) (o : Outcome) : Type 0 where
  pub fits : AreFitting HasNoRows s.base o.strokes
  pub held : (q : ℕ) (bytes : Page) → IsOfHistory bytes → IsHeld q bytes s.base.image → IsHeld q bytes (base_after s.base o.strokes).image

says_nothing : (s : Seen) (reply : Reply) → TurnKeeps s (says s reply [])
unfolding base_after
says_nothing s reply = record { fits = tt; held = λ q bytes history held. held }

says_draft : (s : Seen) (d : Draft) (reply : Reply) → Keeps s.base d → TurnKeeps s (says s reply d.strokes)
says_draft s d reply k = record { fits = k.fits.each; held = λ q bytes history held. subst (IsHeld q bytes) (sym k.fits.is.is) (k.held q bytes history held) }

pub none_room : (p : ℕ) → length (data_payload 0 p []) ≤ 1008
unfolding data_payload bytes_of
none_room p = omega arith

-- The pages of a chain in a sound image.
module _ (image : Image) (h : HasHeader image) (is : IsSoundImage image) where
  chain_page : (chain : Chain) (p : ℕ) → owner_of chain ≢ 1 → is_in_chain chain image p ≡ true → IsTablePage image p
  chain_page chain p other in_it = record { plain = chain_plain chain image p h is in_it; below = (in_chain chain image p in_it).0; owner = λ e. other (sym (chain_owner chain image p in_it) ∙ e) }

  chain_each : (chain : Chain) (ps : List ℕ) → owner_of chain ≢ 1 → AllByRecursion (λ (q : ℕ). is_in_chain chain image q ≡ true) ps → AllByRecursion (IsTablePage image) ps
  chain_each chain [] other all = tt
  chain_each chain (p ∷ ps) other all = (chain_page chain p other all.0, chain_each chain ps other all.1)

  pub chain_pages : (chain : Chain) → owner_of chain ≢ 1 → broken_at (pages_of chain image) ≡ None → AllByRecursion (IsTablePage image) (found_pages chain image)
  chain_pages chain other unbroken = chain_each chain (found_pages chain image) other (pages_found chain image unbroken).each

  catalogue_other : owner_of Catalogue ≢ 1
  catalogue_other e = absurd (omega (arith, e))

  -- The first page of a table's rows is no system page, so it isn't the number that stands for the history.
  pub rows_owner : (first : ℕ) → broken_at (pages_of (RowsFrom first) image) ≡ None → (owner_of (RowsFrom first) ≢ 1) × (first < most_pages)
  rows_owner first unbroken =
      let in_it : is_in_chain (RowsFrom first) image first ≡ true = first_found (RowsFrom first) image unbroken in
      let plain = chain_plain (RowsFrom first) image first h is in_it in
      (not_first plain.no_inventory, plain.place.most)
    where
      not_first : is_inventory_place (image_size image) first ≡ false → first ≢ 1
      not_first plain e = true≢false (sym (inventory_there (image_size image) 0 (header_whole image h is).fields.size) ∙ ap (is_inventory_place (image_size image)) (sym e) ∙ plain)

  -- A slot that is found is within its page.
  module _ (chain : Chain) (other : owner_of chain ≢ 1) (unbroken : broken_at (pages_of chain image) ≡ None) where
    pub found_on : (test : Spot → Bool) (s : Spot) → first_such test (spots chain image) ≡ Some s → IsSpotOn (IsTablePage image) image s
    unfolding spots
    found_on test s found = first_passes test (IsSpotOn (IsTablePage image) image) (spots_of image (found_pages chain image)) s found (all_on (IsTablePage image) image (found_pages chain image) (chain_pages chain other unbroken))

    on_within : (s : Spot) → IsSpotOn (IsTablePage image) image s → 256 * s.slot + 288 ≤ image_size image
    on_within s on = spot_within image s.page s.slot (all_at (λ page. length page ≡ image_size image) image is.sizes s.page on.page.below) on.within

    pub slot_written : (b : Base) (test : Spot → Bool) (s : Spot) (bytes : Slot) → b.image ≡ image → first_such test (spots chain image) ≡ Some s → length bytes ≡ 256
        → Goes b (drafted b.image) (put_slot s.page s.slot bytes (drafted b.image))
    slot_written b test s bytes same found long =
        let on : IsSpotOn (IsTablePage image) image s = found_on test s found in
        goes_slot b (drafted b.image) (keeps_first b (subst IsWhole (sym same) (header_whole image h is))) s.page s.slot bytes
        (subst (λ (x : Image). IsTablePage x s.page) (sym same) on.page) (subst (λ (x : Image). 256 * s.slot + 288 ≤ image_size x) (sym same) (on_within s on)) long

-- Each of the statements.
module _ (s : Seen) (h : HasHeader s.base.image) (is : IsSoundImage s.base.image) where
  abbrev image : Image
  image = s.base.image

  whole : IsWhole image
  whole = header_whole image h is

  first : Keeps s.base (drafted image)
  first = keeps_first s.base whole

  denied : (r : Refusal) → TurnKeeps s (refused s r)
  denied r = says_nothing s _

  free_length : length free_slot ≡ 256
  free_length = refl

  pub create_keeps : (table : List ℕ) → is_table_name table ≡ true → TurnKeeps s (create_turn s table)
  unfolding free_spot
  create_keeps table named = create_either (TurnKeeps s) s denied table (λ may. says_draft s (created image table) Done (goes may).keeps)
    where
      owner : (old : Page) (scn p : ℕ) → p ≢ 1 → p < most_pages → owner_in (stamped old data_kind (data_payload 0 p []) scn p) ≢ 1
      owner old scn p one most e = one (sym (new_owner old 0 p [] scn p (omega (arith, most))) ∙ e)

      goes : MayCreate image table → Goes s.base (new_first image).0 (created image table)
      goes may =
          let slot : Slot = table_slot table (new_first image).1 in
          let pages : List ℕ = found_pages Catalogue image in
          let new : GoesToNew s.base (drafted image) first (new_first image) = goes_new s.base (drafted image) first (λ p. data_payload 0 p []) none_room owner (new_left may.left) in
          goes_at s.base (new_first image).0 new.goes.keeps Catalogue pages slot (table_length table (new_first image).1 (omega (arith, name_short table named))) (catalogue_other image h is) (omega arith)
          (pages_found Catalogue image may.catalogue).some (all_pages s.base (drafted image) (new_first image).0 pages new.goes (chain_pages image h is Catalogue (catalogue_other image h is) may.catalogue))
          (free_spot (spots Catalogue image)) (within new.goes) may.left
        where
          new_left : (created image table).full ≡ false → (new_first image).0.full ≡ false
          new_left left = place_left Catalogue (free_spot (spots Catalogue image)) (found_pages Catalogue image) (table_slot table (new_first image).1) (new_first image).0 left

          -- the place that was free is there after the new page too
          within : Goes s.base (drafted image) (new_first image).0 → (f : Spot) → free_spot (spots Catalogue image) ≡ Some f → IsTablePage (new_first image).0.image f.page × (256 * f.slot + 288 ≤ image_size (new_first image).0.image)
          within new f found =
              let on : IsSpotOn (IsTablePage image) image f = found_on image h is Catalogue (catalogue_other image h is) may.catalogue _ f found in
              let size : image_size (new_first image).0.image ≡ image_size image = sym (ap image_size new.keeps.fits.is.is) ∙ (fitting_stays HasNoRows (new_first image).0.strokes s.base new.keeps.fits.each whole).size in
              (new.pages f.page on.page, subst (λ (x : ℕ). 256 * f.slot + 288 ≤ x) (sym size) (on_within image h is Catalogue (catalogue_other image h is) may.catalogue f on))

  -- a table's chain of rows
  module _ (table : List ℕ) (spot : Spot) (has : HasTable image table spot) where
    chain_other : owner_of (chain_at spot) ≢ 1
    chain_other = (rows_owner image h is (first_in spot.bytes) has.formed).0

    pub table_written : (bytes : Slot) → length bytes ≡ 256 → Goes s.base (drafted image) (put_slot spot.page spot.slot bytes (drafted image))
    unfolding table_spot
    table_written bytes long = slot_written image h is Catalogue (catalogue_other image h is) has.catalogue s.base _ spot bytes refl has.found long

    pub rows_pages : AllByRecursion (IsTablePage image) (found_pages (chain_at spot) image)
    rows_pages = chain_pages image h is (chain_at spot) chain_other has.formed

  pub drop_keeps : (table : List ℕ) → TurnKeeps s (drop_turn s table)
  drop_keeps table = drop_either (TurnKeeps s) s denied table (λ spot may.
      let freed : Goes s.base (drafted image) (put_slot spot.page spot.slot free_slot (drafted image)) = table_written table spot may.its_table free_slot free_length in
      let pages : List ℕ = found_pages (chain_at spot) image in
      says_draft s (dropped image spot) Done
      (goes_given s.base pages (put_slot spot.page spot.slot free_slot (drafted image)) freed.keeps (all_pages s.base (drafted image) _ pages freed (rows_pages table spot may.its_table))).keeps)

  pub insert_keeps : (table : List ℕ) (key : ℕ) (text : List ℕ) → TurnKeeps s (insert_turn s table key text)
  insert_keeps table key text = insert_either (TurnKeeps s) s denied table key text (λ spot may.
      let owner = rows_owner image h is (first_in spot.bytes) may.its_table.formed in
      says_draft s (inserted image spot key text) Done
      (goes_place s.base (drafted image) first (chain_at spot) (found_pages (chain_at spot) image) (row_slot key text) (row_length key text (omega (arith, may.short))) owner.0 (omega (arith, owner.1))
      (pages_found (chain_at spot) image may.its_table.formed).some (rows_pages table spot may.its_table) may.left).keeps)

  -- the slot of a row
  row_keeps : (table : List ℕ) (key : ℕ) (bytes : Slot) (spot row : Spot) → length bytes ≡ 256 → MayPut image table key bytes spot row → TurnKeeps s (says s Done (row_written image row bytes).strokes)
  unfolding row_spot
  row_keeps table key bytes spot row long may = says_draft s (row_written image row bytes) Done
      (slot_written image h is (chain_at spot) (chain_other table spot may.its_row.its_table) may.its_row.its_table.formed s.base _ row bytes refl may.its_row.found long).keeps

  pub update_keeps : (table : List ℕ) (key : ℕ) (text : List ℕ) → TurnKeeps s (update_turn s table key text)
  update_keeps table key text = update_either (TurnKeeps s) s denied table key text (λ spot row short may. row_keeps table key (row_slot key text) spot row (row_length key text (omega (arith, short))) may)

  pub delete_keeps : (table : List ℕ) (key : ℕ) → TurnKeeps s (delete_turn s table key)
  delete_keeps table key = delete_either (TurnKeeps s) s denied table key (λ spot row may. row_keeps table key free_slot spot row free_length may)

  pub get_keeps : (table : List ℕ) (key : ℕ) → TurnKeeps s (get_turn s table key)
  get_keeps table key = get_either (TurnKeeps s) s denied table key (λ spot row has. says_nothing s _)

  pub scan_keeps : (table : List ℕ) → TurnKeeps s (scan_turn s table)
  scan_keeps table = scan_either (TurnKeeps s) s denied table (λ spot has. says_nothing s _)
