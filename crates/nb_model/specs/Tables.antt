-- Statements on tables.
use Rattle.std.specs.Prelude.{ℕ, List, [], ◌∷◌, length, Option, Some, None, is_some, nat_le}
use Rattle.nb_fields.specs.Payloads.{data_payload}
use Rattle.nb_host.specs.declared.refusals.Refusal.{Refusal}
use Rattle.nb_host.specs.declared.refusals.Refusal.TheVariants.{NoTable, TableExists, KeyExists, NoKey, TooManyTables}
use Rattle.nb_model.specs.declared.reply.Reply.TheVariants.{Done, Value, Rows, Refused}
use Rattle.nb_model.specs.Image.{Image}
use Rattle.nb_model.specs.Forms.{Draft, drafted, give_page, new_page}
use Rattle.nb_model.specs.Causes.{Cause, first_cause, when, read_only, too_long, broken_at, too_short, short_for}
use Rattle.nb_model.specs.Chains.{Chain, Catalogue, RowsFrom, Slot, Spot, spots, pages_of, found_pages, table_spot, row_spot, first_in, text_in, row_slot, table_slot, free_slot, free_spot, put_slot, place_at, place_slot}
use Rattle.nb_model.specs.Rows.{used, rows_in}
use Rattle.nb_model.specs.Outcomes.{Seen, Outcome, says, unless, changes}

-- the slot that was looked for, or the refusal where there is none
unfoldable pub with_spot : Seen → Option Spot → Refusal → (Spot → Outcome) → Outcome
with_spot s None refusal go = says s (Refused refusal) []
with_spot s (Some spot) refusal go = go spot

-- `create table T`: its first page, then its slot in the catalogue, at the place that was free before
unfoldable pub create_turn : Seen → (table : List ℕ) → Outcome
create_turn s table =
    let image : Image = s.base.image in
    let made : Draft × ℕ = new_page 5 (λ p. data_payload 0 p []) (drafted image) in
    changes s (
    read_only image
    ∷ broken_at (pages_of Catalogue image)
    ∷ when (is_some (table_spot table image)) TableExists
    ∷ when (nat_le 12 (length (used (spots Catalogue image)))) TooManyTables
    ∷ too_short image
    ∷ [])
    (place_at Catalogue (free_spot (spots Catalogue image)) (found_pages Catalogue image) (table_slot table made.1) made.0) Done

-- A table is looked for in the catalogue. Then come further causes, and whether its chain is of the form, and then what is done
-- with its slot in the catalogue and its chain.
unfoldable pub in_table : Seen → Cause → (table : List ℕ) → Cause → (Spot → Chain → Outcome) → Outcome
in_table s before table behind go =
    unless s (first_cause (before ∷ broken_at (pages_of Catalogue s.base.image) ∷ []))
    (with_spot s (table_spot table s.base.image) NoTable (λ spot.
    unless s (first_cause (behind ∷ broken_at (pages_of (RowsFrom (first_in spot.bytes)) s.base.image) ∷ []))
    (go spot (RowsFrom (first_in spot.bytes)))))

-- pages are given back, one after the other
unfoldable pub all_given : List ℕ → Draft → Draft
all_given [] d = d
all_given (p ∷ ps) d = all_given ps (give_page p d)

-- `drop table T`: its slot in the catalogue, then its pages
unfoldable pub drop_turn : Seen → (table : List ℕ) → Outcome
drop_turn s table =
    in_table s (read_only s.base.image) table None (λ spot chain.
    changes s [] (all_given (found_pages chain s.base.image) (put_slot spot.page spot.slot free_slot (drafted s.base.image))) Done)

-- `insert T K 'TEXT'`
unfoldable pub insert_turn : Seen → (table : List ℕ) (key : ℕ) (text : List ℕ) → Outcome
insert_turn s table key text =
    in_table s (read_only s.base.image) table (too_long text) (λ spot chain.
    changes s (when (is_some (row_spot key (spots chain s.base.image))) (KeyExists key) ∷ short_for (free_spot (spots chain s.base.image)) s.base.image ∷ [])
    (place_slot chain (found_pages chain s.base.image) (row_slot key text) (drafted s.base.image)) Done)

-- the slot of the row with that key is written
unfoldable pub in_row : Seen → Chain → (key : ℕ) → Slot → Outcome
in_row s chain key bytes =
    with_spot s (row_spot key (spots chain s.base.image)) (NoKey key) (λ row.
    changes s [] (put_slot row.page row.slot bytes (drafted s.base.image)) Done)

-- `update T K 'TEXT'`
unfoldable pub update_turn : Seen → (table : List ℕ) (key : ℕ) (text : List ℕ) → Outcome
update_turn s table key text = in_table s (read_only s.base.image) table (too_long text) (λ spot chain. in_row s chain key (row_slot key text))

-- `delete T K`
unfoldable pub delete_turn : Seen → (table : List ℕ) (key : ℕ) → Outcome
delete_turn s table key = in_table s (read_only s.base.image) table None (λ spot chain. in_row s chain key free_slot)

-- `get T K`
unfoldable pub get_turn : Seen → (table : List ℕ) (key : ℕ) → Outcome
get_turn s table key =
    in_table s None table None (λ spot chain.
    with_spot s (row_spot key (spots chain s.base.image)) (NoKey key) (λ row. says s (Value (text_in row.bytes)) []))

-- `scan T`: the rows, keys rising
unfoldable pub scan_turn : Seen → (table : List ℕ) → Outcome
scan_turn s table = in_table s None table None (λ spot chain. says s (Rows (rows_in (spots chain s.base.image))) [])
