-- A new database: the header, the first inventory pages, the catalogue and the history, and then as many raw pages
-- as are asked for, each put at the next place that is no system place. System places on the way get their pages.
use Rattle.std.specs.Prelude.{◌≡◌, ℕ, zero, suc, ◌+◌, ◌-◌, ◌*◌, ◌/◌, ◌%◌, ◌<◌, ◌≤◌, List, [], map, replicate, ◌==◌, nat_lt, if◌then◌else◌}
use Rattle.std.specs.List.{range_with_len}
use Rattle.nb_fields.specs.declared.kinds.PageKind.{PageKind}
use Rattle.nb_fields.specs.declared.kinds.PageKind.TheVariants.{Header, Inventory, Data, Raw, ScnInventory}
use Rattle.nb_fields.specs.Kinds.{code_of}
use Rattle.nb_fields.specs.Places.{entries_in, bits_in, inventory_place, scn_place, is_inventory_place, is_scn_place, is_system_place}
use Rattle.nb_fields.specs.Header.{history_page}
use Rattle.nb_fields.specs.Page.{page_of, kind_of, generation_of, stamp_of, number_of_page}
use Rattle.nb_fields.specs.Payloads.{header_payload, inventory_payload, scn_payload, data_payload, text_payload, bit_of, entry_of}

-- the next place from this one on that is no system place
unfoldable pub next_plain : (size p : ℕ) → ℕ
next_plain size p = if is_system_place size p then (if is_system_place size (p + 1) then p + 2 else p + 1) else p

-- the length after so many raw pages more
unfoldable pub length_after : (size raw p : ℕ) → ℕ
length_after size zero p = p
length_after size (suc raw) p = length_after size raw (next_plain size p + 1)

-- how many pages a new database has
unfoldable pub fresh_count : (size raw : ℕ) → ℕ
fresh_count size raw = length_after size raw 5

-- what page p of a new database holds
unfoldable pub fresh_kind : (size p : ℕ) → PageKind
fresh_kind size p =
    if p == 0 then Header
    else (if is_inventory_place size p then Inventory
    else (if is_scn_place size p then ScnInventory
    else (if nat_lt p 5 then Data else Raw)))

-- what stands there after the head
unfoldable pub fresh_payload : (size raw p : ℕ) → PageKind → List ℕ
fresh_payload size raw p Header = header_payload size 0 1 (replicate 16 0) (replicate 16 0)
fresh_payload size raw p Inventory =
    let k : ℕ = (p + 1) / bits_in size in inventory_payload size k (fresh_count size raw - k * bits_in size)
fresh_payload size raw p ScnInventory = scn_payload size (p / entries_in size) 1
fresh_payload size raw p Data = data_payload 0 (if p == history_page then 1 else 0) []
fresh_payload size raw p Raw = text_payload []

-- page p of a new database: its generation and its stamp are 1
unfoldable pub fresh_page : (size raw p : ℕ) → List ℕ
fresh_page size raw p = page_of size (code_of (fresh_kind size p)) 1 1 p (fresh_payload size raw p (fresh_kind size p))

-- the pages of a new database
unfoldable pub fresh : (size raw : ℕ) → List (List ℕ)
fresh size raw = map (fresh_page size raw) (range_with_len 0 (fresh_count size raw))

-- What page p of a new database shows: its kind and its number, written once, and the bit or the entry of each page q
-- that it speaks of. A page is taken exactly below the length.
pub record ShowsFresh (size raw p : ℕ) (page : List ℕ) : Type 0 where
  pub kind : kind_of page ≡ code_of (fresh_kind size p)
  pub generation : generation_of page ≡ 1
  pub stamp : stamp_of page ≡ 1
  pub number : number_of_page page ≡ p
  pub taken : (q : ℕ) → inventory_place size (q / bits_in size) ≡ p → q < fresh_count size raw → bit_of page (q % bits_in size) ≡ 0
  pub free : (q : ℕ) → inventory_place size (q / bits_in size) ≡ p → fresh_count size raw ≤ q → bit_of page (q % bits_in size) ≡ 1
  pub entries : (q : ℕ) → scn_place size (q / entries_in size) ≡ p → entry_of page (q % entries_in size) ≡ 1
