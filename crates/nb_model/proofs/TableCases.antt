-- The turn of a statement on tables is refused, or nothing stood in the way of what it does.
use Rattle.std.proofs.Common.{◌≡◌, ℕ, List, [], ◌∷◌, ◌++◌, ◌≤◌, refl, ap, ◌∙◌, false, Option, Some, None, nat_le, length, is_some}
use Rattle.nb_model.proofs.Common.{Refusal, TableExists, KeyExists, TooManyTables, Reply, Done, Value, Rows, Cause, first_cause, when, read_only, too_long, broken_at, not_of_form, no_room, Chain, Catalogue, RowsFrom, Slot, Spot, spots, pages_of, found_pages, table_spot, row_spot, first_in, text_in, row_slot, table_slot, free_slot, free_spot, put_slot, place_at, place_slot, Draft, drafted, new_page, Image, is_read_only, Seen, Outcome, says, changes, used, rows_in, with_spot, create_turn, in_table, all_given, drop_turn, insert_turn, in_row, update_turn, delete_turn, get_turn, scan_turn, data_payload}
use Rattle.nb_model.proofs.PutSound.{no_first, not_when, short_text}
use Rattle.nb_model.proofs.TurnCases.{refused, no_cause, unless_either}

-- What a change made after its causes rests on: none of them applies, what it reads is of the form, and a page was left.
pub record MayChange (cs : List Cause) (d : Draft) : Type 0 where
  pub may : first_cause cs ≡ None
  pub formed : not_of_form d ≡ None
  pub left : d.full ≡ false

none_before : (c : Cause) (cs : List Cause) → c ≡ None → first_cause cs ≡ None → first_cause (c ∷ cs) ≡ None
unfolding first_cause
none_before c cs e none = ap (λ (x : Cause). elim x as (λ z. Cause) [ None ↦ first_cause cs | Some refusal ↦ Some refusal ]) e ∙ none

causes_none : (cs : List Cause) (d : Draft) → first_cause (cs ++ not_of_form d ∷ no_room d ∷ []) ≡ None → MayChange cs d
causes_none [] d none =
    let a = no_first (not_of_form d) _ none in
    record { may = no_cause; formed = a.0; left = not_when d.full _ (no_first (no_room d) _ a.1).0 }
causes_none (c ∷ cs) d none =
    let a = no_first c _ none in
    let rest : MayChange cs d = causes_none cs d a.1 in
    record { may = none_before c cs a.0 rest.may; formed = rest.formed; left = rest.left }

module _ (P : Outcome → Type 0) (s : Seen) (denied : (r : Refusal) → P (refused s r)) where
  pub changes_either : (cs : List Cause) (d : Draft) (reply : Reply) → (MayChange cs d → P (says s reply d.strokes)) → P (changes s cs d reply)
  unfolding changes
  changes_either cs d reply done = unless_either P s _ _ denied (λ none. done (causes_none cs d none))

  pub spot_either : (o : Option Spot) (r : Refusal) (go : Spot → Outcome) → ((spot : Spot) → o ≡ Some spot → P (go spot)) → P (with_spot s o r go)
  unfolding with_spot
  spot_either None r go done = denied r
  spot_either (Some spot) r go done = done spot refl

-- the chain of a table's rows
abbrev pub chain_at : Spot → Chain
chain_at spot = RowsFrom (first_in spot.bytes)

-- A table is there, with a chain of rows that is of the form.
pub record HasTable (image : Image) (table : List ℕ) (spot : Spot) : Type 0 where
  pub catalogue : broken_at (pages_of Catalogue image) ≡ None
  pub found : table_spot table image ≡ Some spot
  pub formed : broken_at (pages_of (chain_at spot) image) ≡ None

-- A row of it is there.
pub record HasRow (image : Image) (table : List ℕ) (key : ℕ) (spot row : Spot) : Type 0 where
  pub its_table : HasTable image table spot
  pub found : row_spot key (spots (chain_at spot) image) ≡ Some row

-- What the statements write: `create table`,
abbrev pub new_first : Image → Draft × ℕ
new_first image = new_page 5 (λ p. data_payload 0 p []) (drafted image)

abbrev pub created : Image → (table : List ℕ) → Draft
created image table = place_at Catalogue (free_spot (spots Catalogue image)) (found_pages Catalogue image) (table_slot table (new_first image).1) (new_first image).0

pub record MayCreate (image : Image) (table : List ℕ) : Type 0 where
  pub may : is_read_only image ≡ false
  pub catalogue : broken_at (pages_of Catalogue image) ≡ None
  pub new : is_some (table_spot table image) ≡ false
  pub few : nat_le 12 (length (used (spots Catalogue image))) ≡ false
  pub formed : not_of_form (created image table) ≡ None
  pub left : (created image table).full ≡ false

-- `drop table`,
abbrev pub dropped : Image → Spot → Draft
dropped image spot = all_given (found_pages (chain_at spot) image) (put_slot spot.page spot.slot free_slot (drafted image))

pub record MayDrop (image : Image) (table : List ℕ) (spot : Spot) : Type 0 where
  pub may : is_read_only image ≡ false
  pub its_table : HasTable image table spot
  pub formed : not_of_form (dropped image spot) ≡ None

-- `insert`,
abbrev pub inserted : Image → Spot → (key : ℕ) (text : List ℕ) → Draft
inserted image spot key text = place_slot (chain_at spot) (found_pages (chain_at spot) image) (row_slot key text) (drafted image)

pub record MayInsert (image : Image) (table : List ℕ) (key : ℕ) (text : List ℕ) (spot : Spot) : Type 0 where
  pub may : is_read_only image ≡ false
  pub its_table : HasTable image table spot
  pub short : length text ≤ 200
  pub new : is_some (row_spot key (spots (chain_at spot) image)) ≡ false
  pub formed : not_of_form (inserted image spot key text) ≡ None
  pub left : (inserted image spot key text).full ≡ false

-- `update` and `delete`
abbrev pub row_written : Image → (row : Spot) → Slot → Draft
row_written image row bytes = put_slot row.page row.slot bytes (drafted image)

pub record MayPut (image : Image) (table : List ℕ) (key : ℕ) (bytes : Slot) (spot row : Spot) : Type 0 where
  pub may : is_read_only image ≡ false
  pub its_row : HasRow image table key spot row
  pub formed : not_of_form (row_written image row bytes) ≡ None

-- Their turns.
module _ (P : Outcome → Type 0) (s : Seen) (denied : (r : Refusal) → P (refused s r)) where
  abbrev image : Image
  image = s.base.image

  pub table_either : (before : Cause) (table : List ℕ) (behind : Cause) (go : Spot → Chain → Outcome)
      → ((spot : Spot) → before ≡ None → behind ≡ None → HasTable image table spot → P (go spot (chain_at spot))) → P (in_table s before table behind go)
  unfolding in_table
  table_either before table behind go done = unless_either P s _ _ denied (λ none.
      let first = no_first before _ none in
      spot_either P s denied (table_spot table image) _ _ (λ spot found. unless_either P s _ _ denied (λ rest.
      let second = no_first behind _ rest in
      done spot first.0 second.0 (record { catalogue = (no_first (broken_at (pages_of Catalogue image)) _ first.1).0; found = found; formed = (no_first (broken_at (pages_of (chain_at spot) image)) _ second.1).0 }))))

  pub create_either : (table : List ℕ) → (MayCreate image table → P (says s Done (created image table).strokes)) → P (create_turn s table)
  unfolding create_turn
  create_either table done = changes_either P s denied _ (created image table) Done (λ c.
      let a = no_first (read_only image) _ c.may in
      let b = no_first (broken_at (pages_of Catalogue image)) _ a.1 in
      let d = no_first (when (is_some (table_spot table image)) TableExists) _ b.1 in
      let e = no_first (when (nat_le 12 (length (used (spots Catalogue image)))) TooManyTables) _ d.1 in
      done (record { may = not_when (is_read_only image) _ a.0; catalogue = b.0; new = not_when _ _ d.0; few = not_when _ _ e.0; formed = c.formed; left = c.left }))

  pub drop_either : (table : List ℕ) → ((spot : Spot) → MayDrop image table spot → P (says s Done (dropped image spot).strokes)) → P (drop_turn s table)
  unfolding drop_turn
  drop_either table done = table_either (read_only image) table None _ (λ spot may none has. changes_either P s denied [] (dropped image spot) Done (λ c.
      done spot (record { may = not_when (is_read_only image) _ may; its_table = has; formed = c.formed })))

  pub insert_either : (table : List ℕ) (key : ℕ) (text : List ℕ) → ((spot : Spot) → MayInsert image table key text spot → P (says s Done (inserted image spot key text).strokes)) → P (insert_turn s table key text)
  unfolding insert_turn
  insert_either table key text done = table_either (read_only image) table (too_long text) _ (λ spot may short has. changes_either P s denied _ (inserted image spot key text) Done (λ c.
      done spot (record {
        may = not_when (is_read_only image) _ may;
        its_table = has;
        short = short_text text short;
        new = not_when _ _ (no_first (when (is_some (row_spot key (spots (chain_at spot) image))) (KeyExists key)) _ c.may).0;
        formed = c.formed;
        left = c.left;
      })))

  row_either : (table : List ℕ) (key : ℕ) (bytes : Slot) (spot : Spot) → is_read_only image ≡ false → HasTable image table spot
      → ((row : Spot) → MayPut image table key bytes spot row → P (says s Done (row_written image row bytes).strokes)) → P (in_row s (chain_at spot) key bytes)
  unfolding in_row
  row_either table key bytes spot may has done = spot_either P s denied (row_spot key (spots (chain_at spot) image)) _ _ (λ row found. changes_either P s denied [] (row_written image row bytes) Done (λ c.
      done row (record { may = may; its_row = record { its_table = has; found = found }; formed = c.formed })))

  pub update_either : (table : List ℕ) (key : ℕ) (text : List ℕ)
      → ((spot row : Spot) → length text ≤ 200 → MayPut image table key (row_slot key text) spot row → P (says s Done (row_written image row (row_slot key text)).strokes)) → P (update_turn s table key text)
  unfolding update_turn
  update_either table key text done = table_either (read_only image) table (too_long text) _ (λ spot may short has.
      row_either table key (row_slot key text) spot (not_when (is_read_only image) _ may) has (λ row put. done spot row (short_text text short) put))

  pub delete_either : (table : List ℕ) (key : ℕ) → ((spot row : Spot) → MayPut image table key free_slot spot row → P (says s Done (row_written image row free_slot).strokes)) → P (delete_turn s table key)
  unfolding delete_turn
  delete_either table key done = table_either (read_only image) table None _ (λ spot may none has. row_either table key free_slot spot (not_when (is_read_only image) _ may) has (λ row put. done spot row put))

  pub get_either : (table : List ℕ) (key : ℕ) → ((spot row : Spot) → HasRow image table key spot row → P (says s (Value (text_in row.bytes)) [])) → P (get_turn s table key)
  unfolding get_turn
  get_either table key done = table_either None table None _ (λ spot a b has.
      spot_either P s denied (row_spot key (spots (chain_at spot) image)) _ _ (λ row found. done spot row (record { its_table = has; found = found })))

  pub scan_either : (table : List ℕ) → ((spot : Spot) → HasTable image table spot → P (says s (Rows (rows_in (spots (chain_at spot) image))) [])) → P (scan_turn s table)
  unfolding scan_turn
  scan_either table done = table_either None table None _ (λ spot a b has. done spot has)
