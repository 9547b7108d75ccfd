-- What a page holds.
use Rattle.std.specs.Prelude.{ℕ}
use Rattle.nb_fields.specs.declared.kinds.PageKind.{PageKind}
use Rattle.nb_fields.specs.declared.kinds.PageKind.TheVariants.{Header, Inventory, Data, Raw, ScnInventory}

-- the number in the head of such a page
abbrev pub code_of : PageKind → ℕ
code_of Header = 1
code_of Inventory = 2
code_of Data = 5
code_of Raw = 8
code_of ScnInventory = 10

-- the header page, page 0
abbrev pub header_kind : ℕ
header_kind = code_of Header

-- a page inventory page
abbrev pub inventory_kind : ℕ
inventory_kind = code_of Inventory

-- a data page
abbrev pub data_kind : ℕ
data_kind = code_of Data

-- a raw page
abbrev pub raw_kind : ℕ
raw_kind = code_of Raw

-- an SCN inventory page
abbrev pub scn_kind : ℕ
scn_kind = code_of ScnInventory
