-- An SCN inventory page as a list of entries.
use Rattle.std.specs.Prelude.{ℕ, ◌+◌, ◌*◌, List, length, map}
use Rattle.std.specs.List.{range_with_len}
use Rattle.nb_fields.specs.Places.{entries_in}
use Rattle.nb_fields.specs.Payloads.{entry_of}

-- the entries of an SCN inventory page
unfoldable pub entries : List ℕ → List ℕ
entries page = map (entry_of page) (range_with_len 0 (entries_in (length page)))

-- where the 4 bytes of an entry stand in the page
abbrev pub entry_place : ℕ → ℕ
entry_place index = 32 + 4 * index
